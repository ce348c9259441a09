-- A serial call of any verb has just one reply by its own entries, and so has each of a chain of calls.
use Rattle.std.proofs.Common.{ℕ, ◌≡◌, ◌≤◌, ◌<◌, ◌%◌, ◌/◌, Bool, true, false, List, [], ◌∷◌, ◌++◌, length, map, Option, Some, None, refl, sym, ap, subst, ◌∙◌, append_assoc, append-nil, arith}
use Rattle.std.specs.Prelude.{◌==◌, All, IsSomeAnd, is_some, option_map, slice_get}
use Rattle.std.specs.Option.{ForSome}
use Rattle.std.proofs.lemmas.Bool.{false≢true}
use Rattle.std.proofs.lemmas.List.Elements.{All-append, All-cons, All-nil, All-weaker}
use Rattle.ssd_histories.specs.CallSteps.{CallStep}
use Rattle.ssd_histories.specs.CallsInOrder.{AreCallSteps, AreNumberedAfter, ChannelRun, IsReplyBy, IsReplyOf, IsWhole, OfRun, OnOwnChannel, is_age_of, is_trim_of, ladder_in, reply_to, steps_on}
use Rattle.ssd_geo.specs.Coding.{coding_of}
use Rattle.ssd_histories.specs.Copies.{IsRead, IsRefresh}
use Rattle.ssd_histories.specs.PastPages.{ladder_of}
use Rattle.ssd_histories.specs.Replies.{collect_reply, decided_pages, drained_on, pages_on, read_reply, refresh_reply, reply_of_refresh, single_reply, write_reply}
use Rattle.ssd_histories.specs.Rounds.{IsWrite, is_one}
use Rattle.ssd_histories.specs.SerialHistory.{AreServed, OnChannel, SerialCall, SerialState, none_left, pages_drained, serves}
use Rattle.ssd_histories.specs.Start.{Start}
use Rattle.ssd_geo.specs.declared.entry.Entry.{Entry}
use Rattle.ssd_geo.specs.declared.reply.RefreshReply.{RefreshReply}
use Rattle.ssd_geo.specs.declared.reply.Reply.{Reply}
use Rattle.ssd_geo.specs.declared.tag.Tag.{Tag}
use Rattle.ssd_geo.specs.declared.trace.Content.{Content}
use Rattle.ssd_geo.specs.declared.trace.TraceCall.{TraceCall}
use Rattle.ssd_geo.specs.declared.trace.Verb.{Verb}
use Rattle.serial_laws.specs.SerialReplies.{HasOneReply, SerialCallsHaveOneReply, SerialRepliesStay, SerialStopsHaveOneReply}
use Rattle.serial_laws.proofs.DecidedReplies.{age_is_decided, read_is_decided, refresh_is_decided, trim_is_decided, write_is_decided}
use Rattle.serial_laws.proofs.DrainedPages.{AreDrained, IsDrainedAs, are_drained, same_pages}
use Rattle.serial_laws.proofs.Lists.{IsItemAt, IsPairedAt, Pairwise, all_both, all_numbered, get_set_there, item_at, paired_at}
use Rattle.serial_laws.proofs.MadeCalls.{HasNoSteps, IsGrownRun, own_steps}
use Rattle.serial_laws.proofs.MovedReplies.{TellsPages, one_reply_stays, reply_stays}
use Rattle.serial_laws.proofs.NumberedTags.{IsBelow, counts_in, later_tag, numbered_back, numbered_front, numbers_are_below, other_way}
use Rattle.serial_laws.proofs.OrderedCalls.{below as below_served, cut, late as late_number, numbered_served}
use Rattle.serial_laws.proofs.ServedChains.{HoldsSoFar, all_served, none_so_far, nothing_served, serves_next}
use Rattle.serial_laws.proofs.ServedVerbs.{IsCallMade, call_is_made, read_keeps}
use Rattle.std.proofs.lemmas.Option.{same_Some}
use Rattle.shared_lemmas.proofs.Lists.{all_at, numbered_at}
use Rattle.shared_lemmas.proofs.Tests.{same_number}

-- an option has just one value
record HasOneValue (option : Option Reply) : Type 0 where
  value : Reply
  is_there : option ≡ Some value

one_value : (option : Option Reply) → is_some option ≡ true → HasOneValue option
one_value None e = absurd (false≢true e)
one_value (Some value) e = record { value = value; is_there = refl }

map_is_some : (option : Option RefreshReply) → is_some option ≡ true → is_some (option_map reply_of_refresh option) ≡ true
map_is_some None e = e
map_is_some (Some reply) e = refl

-- the one reply that a channel's steps decide
record IsOneBy (runs : List ChannelRun) (channel : ℕ) (decide : ChannelRun → Option Reply) : Type 0 where
  reply : Reply
  is_reply : OfRun runs channel (λ run. decide run ≡ Some reply)
  only : (other : Reply) → OfRun runs channel (λ run. decide run ≡ Some other) → other ≡ reply

one_by : (runs : List ChannelRun) (channel : ℕ) (decide : ChannelRun → Option Reply) (next : ChannelRun) →
    slice_get runs channel ≡ Some next → is_some (decide next) ≡ true → IsOneBy runs channel decide
one_by runs channel decide next is some =
    let one : HasOneValue (decide next) = one_value (decide next) some in
    record {
      reply = one.value;
      is_reply = subst (λ (option : Option ChannelRun). IsSomeAnd option (λ run. decide run ≡ Some one.value))
          (sym is) one.is_there;
      only = λ other held.
          same_Some other one.value
          (sym (subst (λ (option : Option ChannelRun). IsSomeAnd option (λ run. decide run ≡ Some other)) is held)
          ∙ one.is_there);
    }

-- a call on one channel leaves a run there
there_is : (channel : ℕ) (fact : ChannelRun → List Entry → List Entry → Type 0) (before after : SerialState) →
    (on : OnChannel channel fact before after) →
    slice_get after.channels channel ≡ Some (record { start = on.run.start; past = on.past })
there_is channel fact before after on =
    ap (λ (state : SerialState). slice_get state.channels channel) on.after_is
    ∙ get_set_there before.channels channel on.run (record { start = on.run.start; past = on.past }) on.is_there

from_own : (channel : ℕ) (fact : Type 0) (steps : List CallStep) → OnOwnChannel (channel == channel) fact steps → fact
from_own channel fact steps held = by_test (channel == channel) (same_number channel) held
  where
    by_test : (b : Bool) → b ≡ true → OnOwnChannel b fact steps → fact
    by_test true e held = held
    by_test false e held = absurd (false≢true e)

-- a call that was made whole, and has entries on its channel
module _ (contents : List (Tag × List ℕ)) (tag : Tag) (runs : List ChannelRun) (next : ChannelRun) (named : Reply) where
  own_steps_are : (verb : Verb) (channel : ℕ) → IsWhole contents runs (record { tag = tag; verb = verb }) →
      slice_get runs channel ≡ Some next → AreCallSteps contents (length runs) (record { tag = tag; verb = verb })
      (channel, next) (steps_on tag next)
  own_steps_are verb channel whole is =
      numbered_at (λ item. AreCallSteps contents (length runs) (record { tag = tag; verb = verb }) item (steps_on tag item.1))
      runs channel next whole.on_channels is

  write_has_one : (page : ℕ) (content : Content) →
      IsWhole contents runs (record { tag = tag; verb = Verb.Write page content }) →
      slice_get runs (page % length runs) ≡ Some next →
      HasOneReply contents runs (record { tag = tag; verb = Verb.Write page content }) named
  write_has_one page content whole is =
      let one : IsOneBy runs (page % length runs) (λ run. write_reply (steps_on tag run)) =
      one_by runs (page % length runs) (λ run. write_reply (steps_on tag run)) next is
      (write_is_decided (ladder_in contents next) next.start.base (page / length runs) (steps_on tag next)
      (from_own (page % length runs) (IsWrite (ladder_in contents next) next.start.base (page / length runs)
      (steps_on tag next)) (steps_on tag next)
      (own_steps_are (Verb.Write page content) (page % length runs) whole is))) in
      record { reply = one.reply; is_reply = one.is_reply; names = tt; only = λ other held names. one.only other held }

  read_has_one : (page : ℕ) → IsWhole contents runs (record { tag = tag; verb = Verb.Read page }) →
      slice_get runs (page % length runs) ≡ Some next →
      HasOneReply contents runs (record { tag = tag; verb = Verb.Read page }) named
  read_has_one page whole is =
      let one : IsOneBy runs (page % length runs)
      (λ run. read_reply run.start.base.shape.bytes (ladder_in contents run) (steps_on tag run)) =
      one_by runs (page % length runs) (λ run. read_reply run.start.base.shape.bytes (ladder_in contents run)
      (steps_on tag run)) next is
      (read_is_decided next.start.base.shape.bytes (ladder_in contents next) (page / length runs) (steps_on tag next)
      (from_own (page % length runs) (IsRead (ladder_in contents next) (page / length runs) (steps_on tag next))
      (steps_on tag next)
      (own_steps_are (Verb.Read page) (page % length runs) whole is))) in
      record { reply = one.reply; is_reply = one.is_reply; names = tt; only = λ other held names. one.only other held }

  trim_has_one : (page : ℕ) → IsWhole contents runs (record { tag = tag; verb = Verb.Trim page }) →
      slice_get runs (page % length runs) ≡ Some next →
      HasOneReply contents runs (record { tag = tag; verb = Verb.Trim page }) named
  trim_has_one page whole is =
      let one : IsOneBy runs (page % length runs) (λ run. single_reply (steps_on tag run)) =
      one_by runs (page % length runs) (λ run. single_reply (steps_on tag run)) next is
      (trim_is_decided (page / length runs) (steps_on tag next)
      (from_own (page % length runs) (is_one (is_trim_of (page / length runs)) (steps_on tag next) ≡ true) (steps_on tag next)
      (own_steps_are (Verb.Trim page) (page % length runs) whole is))) in
      record { reply = one.reply; is_reply = one.is_reply; names = tt; only = λ other held names. one.only other held }

  refresh_has_one : (page : ℕ) → IsWhole contents runs (record { tag = tag; verb = Verb.Refresh page }) →
      slice_get runs (page % length runs) ≡ Some next →
      HasOneReply contents runs (record { tag = tag; verb = Verb.Refresh page }) named
  refresh_has_one page whole is =
      let decided : is_some (refresh_reply (ladder_in contents next) (steps_on tag next)) ≡ true =
      refresh_is_decided (ladder_in contents next) (page / length runs) (steps_on tag next)
      (from_own (page % length runs) (IsRefresh (ladder_in contents next) (page / length runs) (steps_on tag next))
      (steps_on tag next)
      (own_steps_are (Verb.Refresh page) (page % length runs) whole is)) in
      let one : IsOneBy runs (page % length runs)
      (λ run. option_map reply_of_refresh (refresh_reply (ladder_in contents run) (steps_on tag run))) =
      one_by runs (page % length runs) (λ run. option_map reply_of_refresh
      (refresh_reply (ladder_in contents run) (steps_on tag run))) next is
      (map_is_some (refresh_reply (ladder_in contents next) (steps_on tag next)) decided) in
      record { reply = one.reply; is_reply = one.is_reply; names = tt; only = λ other held names. one.only other held }

  age_has_one : (channel die sb amount : ℕ) →
      IsWhole contents runs (record { tag = tag; verb = Verb.Age channel die sb amount }) → slice_get runs channel ≡ Some next →
      HasOneReply contents runs (record { tag = tag; verb = Verb.Age channel die sb amount }) named
  age_has_one channel die sb amount whole is =
      let one : IsOneBy runs channel (λ run. single_reply (steps_on tag run)) =
      one_by runs channel (λ run. single_reply (steps_on tag run)) next is
      (age_is_decided die sb amount (steps_on tag next)
      (from_own channel (is_one (is_age_of die sb amount) (steps_on tag next) ≡ true) (steps_on tag next)
      (own_steps_are (Verb.Age channel die sb amount) channel whole is))) in
      record { reply = one.reply; is_reply = one.is_reply; names = tt; only = λ other held names. one.only other held }

  collect_has_one : (channel : ℕ) → slice_get runs channel ≡ Some next →
      HasOneReply contents runs (record { tag = tag; verb = Verb.Collect channel }) named
  collect_has_one channel is = record {
    reply = collect_reply (steps_on tag next);
    is_reply = subst (λ (option : Option ChannelRun). IsSomeAnd option
        (λ run. collect_reply (steps_on tag run) ≡ collect_reply (steps_on tag next))) (sym is) refl;
    names = tt;
    only = λ other held names.
        sym (subst (λ (option : Option ChannelRun). IsSomeAnd option (λ run. collect_reply (steps_on tag run) ≡ other)) is
        held);
  }

-- a drain
module _ (contents : List (Tag × List ℕ)) (tag : Tag) (count : ℕ) (named : Reply) (before after : List ChannelRun)
    (none : HasNoSteps tag before) (grown : Pairwise (IsGrownRun tag) before after)
    (drained : AreDrained contents tag (length after) (pages_drained named) before after) where
  told_on : (i : ℕ) (next : ChannelRun) → slice_get after i ≡ Some next →
      TellsPages contents tag (length after) drained.pages (i, next)
  told_on i next is =
      let found : IsPairedAt (IsGrownRun tag) before i next = paired_at (IsGrownRun tag) before after i next grown is in
      let run : ChannelRun = found.item in
      let told : IsDrainedAs contents tag (length after) drained.pages i run next = drained.each i run next found.is_there is in
      let no_step : steps_on tag run ≡ [] =
      all_at (λ (older : ChannelRun). steps_on tag older ≡ []) before i run none found.is_there in
      subst
      (λ (start : Start).
      drained_on (ladder_of (coding_of start.base) start contents) (length after) i (steps_on tag next)
      ≡ decided_pages (pages_on (length after) i drained.pages))
      (sym told.same_start)
      (ap (λ (steps : List CallStep). drained_on (ladder_in contents run) (length after) i steps)
      (own_steps tag run.past next.past told.steps no_step told.are_steps)
      ∙ told.are_drained)

  only_drained : (other : Reply) → IsReplyBy contents after tag other (Verb.Drain count) →
      pages_drained other ≡ pages_drained named → other ≡ Reply.Drained drained.pages
  only_drained (Reply.Drained pages) held names =
      ap Reply.Drained
      (same_pages (length after) pages drained.pages (names ∙ sym drained.are_taken)
      (subst (All (λ page. page % length after < length after)) (sym names) drained.in_range)
      (λ channel within.
      let here : IsItemAt after channel = item_at after channel within in
      sym (numbered_at (TellsPages contents tag (length after) pages) after channel here.item held.0 here.is_there)
      ∙ told_on channel here.item here.is_there))
  only_drained other held names = absurd held

  drain_has_one : HasOneReply contents after (record { tag = tag; verb = Verb.Drain count }) named
  drain_has_one = record {
    reply = Reply.Drained drained.pages;
    is_reply = (
      all_numbered (TellsPages contents tag (length after) drained.pages) after told_on,
      drained.fault_last,
    );
    names = drained.are_taken;
    only = only_drained;
  }

-- a call of any verb
module _ (contents : List (Tag × List ℕ)) (channels : ℕ) (tag : Tag) (before after : SerialState)
    (many_before : length before.channels ≡ channels)
    (many : length after.channels ≡ channels) (none : HasNoSteps tag before.channels) (named : Reply) where
  on_page : (page : ℕ) (fact : ChannelRun → List Entry → List Entry → Type 0) (newer : SerialState) →
      newer.channels ≡ after.channels → (on : OnChannel (page % channels) fact before newer) →
      slice_get after.channels (page % length after.channels) ≡ Some (record { start = on.run.start; past = on.past })
  on_page page fact newer same on =
      ap (λ (n : ℕ). slice_get after.channels (page % n)) many
      ∙ ap (λ (runs : List ChannelRun). slice_get runs (page % channels)) (sym same)
      ∙ there_is (page % channels) fact before newer on

  pub call_has_one : (verb : Verb) → SerialCall contents channels tag named verb before after →
      IsCallMade contents (record { tag = tag; verb = verb }) before.channels after.channels →
      HasOneReply contents after.channels (record { tag = tag; verb = verb }) named
  call_has_one (Verb.Write page content) on made =
      write_has_one contents tag after.channels
      (record { start = on.run.start; past = on.past }) named page content made.is_whole
      (on_page page _ after refl on)
  call_has_one (Verb.Read page) read made =
      read_has_one contents tag after.channels
      (record { start = read.reads.run.start; past = read.reads.past }) named page made.is_whole
      (on_page page _ read.between
      (sym (ap (λ (state : SerialState). state.channels) read.after_is
      ∙ read_keeps contents channels tag page read.between)) read.reads)
  call_has_one (Verb.Trim page) on made =
      trim_has_one contents tag after.channels (record { start = on.run.start; past = on.past }) named page made.is_whole
      (on_page page _ after refl on)
  call_has_one (Verb.Refresh page) on made =
      refresh_has_one contents tag after.channels (record { start = on.run.start; past = on.past }) named page made.is_whole
      (on_page page _ after refl on)
  call_has_one (Verb.Collect channel) on made =
      collect_has_one contents tag after.channels (record { start = on.run.start; past = on.past }) named channel
      (there_is channel _ before after on)
  call_has_one (Verb.Drain count) drain made =
      drain_has_one contents tag count named before.channels after.channels none made.runs
      (subst (λ (n : ℕ). AreDrained contents tag n (pages_drained named) before.channels after.channels) (sym many)
      (are_drained contents channels tag many_before drain))
  call_has_one (Verb.Age channel die sb amount) on made =
      age_has_one contents tag after.channels
      (record { start = on.run.start; past = on.past }) named channel die sb amount made.is_whole
      (there_is channel _ before after on)

-- each of a chain of calls
abbrev IsReplied : List (Tag × List ℕ) → List (List Reply) → List ChannelRun → TraceCall → Type 0
IsReplied contents replies runs call = ForSome (reply_to replies call.tag) (HasOneReply contents runs call)

module _ (contents : List (Tag × List ℕ)) (replies : List (List Reply)) (channels actors : ℕ) where
  all_replied : (done : List TraceCall) {calls : List TraceCall} {before after : SerialState} →
      AreServed contents replies channels calls before after → AreNumberedAfter actors [] (done ++ calls) →
      HoldsSoFar contents channels done before.channels → All (IsReplied contents replies before.channels) done →
      All (IsReplied contents replies after.channels) (done ++ calls)
  all_replied done {before = before} none_left numbered so_far replied =
      subst (λ calls. All (IsReplied contents replies before.channels) calls) (sym (append-nil done)) replied
  all_replied done {before = before} {after = after}
      (serves {call = call} {calls = calls} {reply = reply} {between = between} is made rest) numbered so_far replied =
      let below : All (λ call. IsBelow (counts_in done) call.tag) done =
      numbers_are_below actors [] done (numbered_front actors [] done (call ∷ calls) numbered) in
      let number = (numbered_back actors [] done (call ∷ calls) numbered).0.is_number in
      let late : counts_in done call.tag.actor ≤ call.tag.call = omega (arith, number) in
      let none : HasNoSteps call.tag before.channels = none_so_far done before.channels call.tag below so_far.known late in
      let whole : IsCallMade contents call before.channels between.channels =
      call_is_made contents channels call.tag before so_far.as_many none reply call.verb between made in
      let next : HoldsSoFar contents channels (done ++ call ∷ []) between.channels =
      serves_next contents replies channels actors done calls before between call numbered so_far (λ none. whole) in
      subst (λ list. All (IsReplied contents replies after.channels) list) (append_assoc done (call ∷ []) calls)
      (all_replied (done ++ call ∷ []) rest
      (subst (λ list. AreNumberedAfter actors [] list) (sym (append_assoc done (call ∷ []) calls)) numbered) next
      (All-append (IsReplied contents replies between.channels) done (call ∷ [])
      (all_both (λ other. IsBelow (counts_in done) other.tag) (IsReplied contents replies before.channels)
      (IsReplied contents replies between.channels)
      (λ other low one named there.
      one_reply_stays contents call.tag before.channels between.channels other named whole.runs
      (other_way call.tag other.tag (later_tag (counts_in done) call.tag other.tag late low)) (one named there))
      done below replied)
      (All-cons (IsReplied contents replies between.channels) call []
      (λ named there.
      subst (HasOneReply contents between.channels call) (same_Some reply named (sym is ∙ there))
      (call_has_one contents channels call.tag before between so_far.as_many next.as_many none reply call.verb made whole))
      (All-nil (IsReplied contents replies between.channels)))))

pub serial_calls_have_one_reply : SerialCallsHaveOneReply
serial_calls_have_one_reply contents starts actors calls replies after numbered are_served =
    all_replied contents replies (length starts) actors [] are_served numbered (nothing_served contents starts)
    (All-nil (IsReplied contents replies (map (λ start. record { start = start; past = [] }) starts)))

pub serial_stops_have_one_reply : SerialStopsHaveOneReply
serial_stops_have_one_reply contents starts actors calls replies channel entries after stop numbered =
    let before : All (IsReplied contents replies stop.before.channels) stop.served =
    all_replied contents replies (length starts) actors [] stop.are_served
    (numbered_served contents starts actors calls replies after channel entries stop numbered)
    (nothing_served contents starts) (All-nil
    (IsReplied contents replies (map (λ start. record { start = start; past = [] }) starts))) in
    all_both (λ other. IsBelow (counts_in stop.served) other.tag) (IsReplied contents replies stop.before.channels)
    (IsReplied contents replies after.channels)
    (λ other low one named there.
    one_reply_stays contents stop.call.tag stop.before.channels after.channels other named
    (cut contents starts actors calls replies after channel entries stop numbered).runs
    (other_way stop.call.tag other.tag (later_tag (counts_in stop.served) stop.call.tag other.tag
    (late_number contents starts actors calls replies after channel entries stop numbered) low))
    (one named there))
    stop.served (below_served contents starts actors calls replies after channel entries stop numbered) before

pub serial_replies_stay : SerialRepliesStay
serial_replies_stay contents starts actors served call reply replies before after numbered are_served made =
    let front : AreNumberedAfter actors [] served = numbered_front actors [] served (call ∷ []) numbered in
    let so_far : HoldsSoFar contents (length starts) served before.channels =
    all_served contents replies (length starts) actors [] are_served front (nothing_served contents starts) in
    let below : All (λ other. IsBelow (counts_in served) other.tag) served = numbers_are_below actors [] served front in
    let number = (numbered_back actors [] served (call ∷ []) numbered).0.is_number in
    let late : counts_in served call.tag.actor ≤ call.tag.call = omega (arith, number) in
    let none : HasNoSteps call.tag before.channels = none_so_far served before.channels call.tag below so_far.known late in
    let whole : IsCallMade contents call before.channels after.channels =
    call_is_made contents (length starts) call.tag before so_far.as_many none reply call.verb after made in
    All-weaker (λ (other : TraceCall). IsBelow (counts_in served) other.tag)
    (λ (other : TraceCall).
    (held : Reply) → IsReplyOf contents before.channels other held → IsReplyOf contents after.channels other held)
    (λ other low held is.
    reply_stays contents call.tag before.channels after.channels other held whole.runs
    (other_way call.tag other.tag (later_tag (counts_in served) call.tag other.tag late low)) is)
    served below
