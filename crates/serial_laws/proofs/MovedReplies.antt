-- A reply that is that of a call by its own entries stays so where another call adds its entries, and was so before.
use Rattle.std.proofs.Common.{ℕ, suc, zero, ◌≡◌, ◌%◌, false, List, [], ◌∷◌, length, Some, sym, subst}
use Rattle.ssd_histories.specs.CallSteps.{CallStep}
use Rattle.ssd_histories.specs.CallsInOrder.{ChannelRun, IsReplyBy, IsReplyOf, OfRun, ladder_in, steps_on}
use Rattle.ssd_geo.specs.Coding.{coding_of}
use Rattle.ssd_histories.specs.History.{is_same_tag}
use Rattle.ssd_histories.specs.PastPages.{ladder_of}
use Rattle.ssd_histories.specs.Replies.{collect_reply, decided_pages, drained_on, pages_on, read_reply, refresh_reply, reply_of_refresh, single_reply, write_reply}
use Rattle.std.specs.Prelude.{option_map}
use Rattle.ssd_histories.specs.Start.{Start}
use Rattle.ssd_geo.specs.declared.reply.RefreshReply.{RefreshReply}
use Rattle.ssd_geo.specs.declared.reply.Reply.{Reply}
use Rattle.ssd_geo.specs.declared.tag.Tag.{Tag}
use Rattle.ssd_geo.specs.declared.trace.TraceCall.{TraceCall}
use Rattle.ssd_geo.specs.declared.trace.Verb.{Verb}
use Rattle.serial_laws.specs.SerialReplies.{HasOneReply}
use Rattle.serial_laws.proofs.GrownPasts.{steps_stay}
use Rattle.serial_laws.proofs.Lists.{IsPairedAt, Pairwise, all_numbered, paired_at, pairs_as_many, pairs_flip, pairs_weaker}
use Rattle.serial_laws.proofs.MadeCalls.{IsGrownRun}
use Rattle.shared_lemmas.proofs.Lists.{numbered_at}

-- the steps of a drain on a channel tell of these pages there
abbrev pub TellsPages : List (Tag × List ℕ) → Tag → ℕ → List (ℕ × RefreshReply) → ℕ × ChannelRun → Type 0
TellsPages contents tag channels pages item =
    drained_on (ladder_in contents item.1) channels item.0 (steps_on tag item.1)
    ≡ decided_pages (pages_on channels item.0 pages)

-- two channels have one start and the same steps of a call
pub record HasSameSteps (tag : Tag) (run next : ChannelRun) : Type 0 where
  pub same_start : next.start ≡ run.start
  pub same_steps : steps_on tag next ≡ steps_on tag run

fact_moves : (R : ChannelRun → ChannelRun → Type 0) (fact : ChannelRun → Type 0) →
    ((run next : ChannelRun) → R run next → fact run → fact next) → (xs ys : List ChannelRun) (i : ℕ) → Pairwise R xs ys →
    OfRun xs i fact → OfRun ys i fact
fact_moves R fact follows [] [] i pairs held = held
fact_moves R fact follows [] (next ∷ ys) i pairs held = absurd pairs
fact_moves R fact follows (run ∷ xs) [] i pairs held = absurd pairs
fact_moves R fact follows (run ∷ xs) (next ∷ ys) zero pairs held = follows run next pairs.0 held
fact_moves R fact follows (run ∷ xs) (next ∷ ys) (suc i) pairs held = fact_moves R fact follows xs ys i pairs.1 held

module _ (contents : List (Tag × List ℕ)) (tag : Tag) (xs ys : List ChannelRun)
    (pairs : Pairwise (HasSameSteps tag) xs ys) where
  many : length ys ≡ length xs
  many = pairs_as_many (HasSameSteps tag) xs ys pairs

  on_page : (fact : ChannelRun → Type 0) → ((run next : ChannelRun) → HasSameSteps tag run next → fact run → fact next) →
      (page : ℕ) → OfRun xs (page % length xs) fact → OfRun ys (page % length ys) fact
  on_page fact follows page held =
      subst (λ (n : ℕ). OfRun ys (page % n) fact) (sym many)
      (fact_moves (HasSameSteps tag) fact follows xs ys (page % length xs) pairs held)

  -- what a channel's start and steps say of both
  by_steps : (fact : Start → List CallStep → Type 0) (run next : ChannelRun) → HasSameSteps tag run next →
      fact run.start (steps_on tag run) → fact next.start (steps_on tag next)
  by_steps fact run next same held =
      subst (λ (start : Start). fact start (steps_on tag next)) (sym same.same_start)
      (subst (λ (steps : List CallStep). fact run.start steps) (sym same.same_steps) held)

  pub reply_moves : (reply : Reply) (verb : Verb) → IsReplyBy contents xs tag reply verb → IsReplyBy contents ys tag reply verb
  reply_moves reply (Verb.Write page content) held =
      on_page (λ run. write_reply (steps_on tag run) ≡ Some reply)
      (by_steps (λ start steps. write_reply steps ≡ Some reply)) page held
  reply_moves reply (Verb.Read page) held =
      on_page (λ run. read_reply run.start.base.shape.bytes (ladder_in contents run) (steps_on tag run) ≡ Some reply)
      (by_steps (λ start steps. read_reply start.base.shape.bytes
      (ladder_of (coding_of start.base) start contents) steps ≡ Some reply)) page held
  reply_moves reply (Verb.Trim page) held =
      on_page (λ run. single_reply (steps_on tag run) ≡ Some reply)
      (by_steps (λ start steps. single_reply steps ≡ Some reply)) page held
  reply_moves reply (Verb.Refresh page) held =
      on_page (λ run. option_map reply_of_refresh (refresh_reply (ladder_in contents run) (steps_on tag run)) ≡ Some reply)
      (by_steps (λ start steps. option_map reply_of_refresh
      (refresh_reply (ladder_of (coding_of start.base) start contents) steps) ≡ Some reply)) page held
  reply_moves reply (Verb.Collect channel) held =
      fact_moves (HasSameSteps tag) (λ run. collect_reply (steps_on tag run) ≡ reply)
      (by_steps (λ start steps. collect_reply steps ≡ reply)) xs ys channel pairs held
  reply_moves (Reply.Drained pages) (Verb.Drain count) held = (
    all_numbered (TellsPages contents tag (length ys) pages) ys
        (λ i next is.
        let found : IsPairedAt (HasSameSteps tag) xs i next = paired_at (HasSameSteps tag) xs ys i next pairs is in
        subst (λ (n : ℕ). TellsPages contents tag n pages (i, next)) (sym many)
        (by_steps
        (λ start steps.
        drained_on (ladder_of (coding_of start.base) start contents) (length xs) i steps
        ≡ decided_pages (pages_on (length xs) i pages))
        found.item next found.goes
        (numbered_at (TellsPages contents tag (length xs) pages) xs i found.item held.0 found.is_there))),
    held.1,
  )
  reply_moves reply (Verb.Drain count) held = absurd held
  reply_moves reply (Verb.Age channel die sb amount) held =
      fact_moves (HasSameSteps tag) (λ run. single_reply (steps_on tag run) ≡ Some reply)
      (by_steps (λ start steps. single_reply steps ≡ Some reply)) xs ys channel pairs held

-- a call has the same steps where another call has added its entries
same_steps_in : (tag : Tag) (before after : List ChannelRun) (other : Tag) → Pairwise (IsGrownRun tag) before after →
    is_same_tag other tag ≡ false → Pairwise (HasSameSteps other) before after
same_steps_in tag before after other grown differs =
    pairs_weaker (IsGrownRun tag) (HasSameSteps other)
    (λ run next more. record {
      same_start = more.same_start;
      same_steps = steps_stay other tag run.past next.past differs more.grown;
    }) before after grown

-- so its reply stays its reply
pub reply_stays : (contents : List (Tag × List ℕ)) (tag : Tag) (before after : List ChannelRun) (call : TraceCall)
    (held : Reply) → Pairwise (IsGrownRun tag) before after → is_same_tag call.tag tag ≡ false →
    IsReplyOf contents before call held → IsReplyOf contents after call held
reply_stays contents tag before after call held grown differs is =
    reply_moves contents call.tag before after (same_steps_in tag before after call.tag grown differs) held call.verb is

-- and its one reply the one
pub one_reply_stays : (contents : List (Tag × List ℕ)) (tag : Tag) (before after : List ChannelRun) (call : TraceCall)
    (named : Reply) → Pairwise (IsGrownRun tag) before after → is_same_tag call.tag tag ≡ false →
    HasOneReply contents before call named → HasOneReply contents after call named
one_reply_stays contents tag before after call named grown differs one =
    let forth : Pairwise (HasSameSteps call.tag) before after = same_steps_in tag before after call.tag grown differs in
    let back : Pairwise (HasSameSteps call.tag) after before =
    pairs_flip (HasSameSteps call.tag) (HasSameSteps call.tag)
    (λ run next same. record { same_start = sym same.same_start; same_steps = sym same.same_steps }) before after forth in
    record {
      reply = one.reply;
      is_reply = reply_moves contents call.tag before after forth one.reply call.verb one.is_reply;
      names = one.names;
      only = λ other is names. one.only other (reply_moves contents call.tag after before back other call.verb is) names;
    }
