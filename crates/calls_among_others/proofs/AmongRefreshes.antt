-- A refresh among the entries of others: a look that found no page alone, or a look with its senses, what became of the page,
-- and its leave. A ladder that can't recover the page stays so while others come, since none of them senses for the look.
use Rattle.std.proofs.Common.{◌≡◌, ℕ, ◌+◌, ◌<◌, ◌/◌, ◌%◌, cond, Bool, true, false, List, [], ◌∷◌, ◌++◌, length, Option, Some, None, ◌⊎◌, refl, sym, subst, ◌∙◌, ap, inl, inr, length-append, arith}
use Rattle.std.specs.Prelude.{IsSome, option_map, ℤ}
use Rattle.std.proofs.lemmas.List.Sums.{sum_by-append, sum_by-cons}
use Rattle.ssd_geo.specs.Coding.{Coding, coding_of}
use Rattle.ssd_geo.specs.Ladder.{LadderState, is_uncorrectable}
use Rattle.ssd_geo.specs.declared.entry.Entry.{Entry}
use Rattle.ssd_geo.specs.declared.kind.Kind.{Kind}
use Rattle.ssd_geo.specs.declared.look.Look.{Look}
use Rattle.ssd_geo.specs.declared.place.Place.{Place}
use Rattle.ssd_geo.specs.declared.reply.RefreshReply.{RefreshReply}
use Rattle.ssd_geo.specs.declared.row.Row.{Row}
use Rattle.ssd_geo.specs.declared.shape.Shape.{Shape}
use Rattle.ssd_geo.specs.declared.tag.Tag.{Tag}
use Rattle.ssd_histories.specs.CallSteps.{CallStep, is_sense_of}
use Rattle.ssd_histories.specs.Copies.{IsRefresh}
use Rattle.ssd_histories.specs.PastPages.{ladder_of, sense_for}
use Rattle.ssd_histories.specs.Replies.{refresh_decided, refresh_reply, reply_of_refresh}
use Rattle.ssd_histories.specs.SerialCalls.{entry_of}
use Rattle.ssd_histories.specs.ServedCalls.{after_lone_look, after_look}
use Rattle.ssd_histories.specs.Start.{Start}
use Rattle.chan_tables.specs.TablesState.{senses_had}
use Rattle.chan_tables.specs.declared.answers.LookAnswer.{LookAnswer}
use Rattle.chan_tables.specs.declared.answers.LookAnswer.TheVariants.{Empty, Found, Lost}
use Rattle.chan_calls.specs.Caller.{AddsKinds, CallerView, own_look}
use Rattle.chan_calls.specs.Calls.{HasSenses, IsLeft, sense_kinds}
use Rattle.chan_calls.specs.Copied.{CopiesFor, HasJustLooked, IsGivenUp, IsMoved, refresh_of_copy}
use Rattle.chan_calls.specs.Stepping.{MakesLook}
use Rattle.chan_calls.specs.declared.copy_reply.CopyReply.{CopyReply}
use Rattle.chan_calls.proofs.NewLooks.{new_is_own}
use Rattle.chan_calls.proofs.RefreshReplies.{given_up}
use Rattle.chan_calls.proofs.SensedLooks.{ladder_after, own_began}
use Rattle.refresh.specs.Refreshes.{FollowsLook}
use Rattle.refresh.proofs.FaultReplies.{refresh_fault_is}
use Rattle.serial_laws.proofs.LookLists.{refresh_has_one_fault}
use Rattle.calls_among_others.specs.CallsAmong.{ladders}
use Rattle.calls_among_others.specs.Parts.{IsRefreshAmong, RefreshesAmongAreRefreshes}
use Rattle.calls_among_others.specs.StepsAmong.{HasCome}
use Rattle.calls_among_others.specs.WholeCalls.{RefreshCallsAmongAreRefreshes}
use Rattle.calls_among_others.proofs.AmongCopies.{MadeRefresh, came, failed_so, leave_made, look_list, look_made, moved_so, one_made, sensed_since}
use Rattle.calls_among_others.proofs.AmongHosts.{own_fact, own_steps}
use Rattle.calls_among_others.proofs.AmongSteps.{came_same}
use Rattle.calls_among_others.proofs.LookSteps.{DecidesEnd, decided_first, ended_reply, left_reply, look_steps, made_step}
use Rattle.shared_lemmas.proofs.Tests.{same_number}

-- an entry that is no sense of a look
no_sense_for : (at : ℕ) (kind : Kind) → is_sense_of at kind ≡ false → sense_for at kind ≡ None
no_sense_for at (Kind.Sense named place level) e =
    ap (λ (b : Bool). elim b as (λ (b : Bool). Option (Place × ℤ)) [ true ↦ Some (place, level) | false ↦ None ]) e
no_sense_for at kind e = refl

-- the ladder of a look stays while others add no sense of it
ladder_over : (coding : Coding) (start : Start) (contents : List (Tag × List ℕ)) (others before : List Entry) (at : ℕ) →
    at < length before → senses_had (others ++ before) at ≡ senses_had before at →
    ladder_of coding start contents (others ++ before) at ≡ ladder_of coding start contents before at
ladder_over coding start contents [] before at began same = refl
ladder_over coding start contents (entry ∷ others) before at began same =
    by_test (is_sense_of at entry.kind) refl (ladder_over coding start contents others before at began)
  where
    here : senses_had (entry ∷ others ++ before) at
        ≡ cond (is_sense_of at entry.kind) 1 0 + senses_had (others ++ before) at
    here = sum_by-cons (λ (e : Entry). cond (is_sense_of at e.kind) 1 0) entry (others ++ before)

    more : senses_had (others ++ before) at ≡ senses_had others at + senses_had before at
    more = sum_by-append (λ (e : Entry). cond (is_sense_of at e.kind) 1 0) others before

    long : at < length (others ++ before)
    long = let lengths = length-append others before in omega (arith, lengths, began)

    by_test : (b : Bool) → is_sense_of at entry.kind ≡ b →
        (senses_had (others ++ before) at ≡ senses_had before at →
        ladder_of coding start contents (others ++ before) at ≡ ladder_of coding start contents before at) →
        ladder_of coding start contents (entry ∷ others ++ before) at ≡ ladder_of coding start contents before at
    by_test true is rest =
        let one : ◌≡◌ {A = ℕ} (cond (is_sense_of at entry.kind) 1 0) 1 = ap {B = ℕ} (λ (b : Bool). cond b 1 0) is in
        absurd (omega (arith, here, more, one, same))
    by_test false is rest =
        let none : ◌≡◌ {A = ℕ} (cond (is_sense_of at entry.kind) 1 0) 0 = ap {B = ℕ} (λ (b : Bool). cond b 1 0) is in
        ladder_after coding start contents (others ++ before) entry.tag entry.kind at long (no_sense_for at entry.kind is)
        ∙ rest (omega (arith, here, none, same))

-- the open look of a call stays while it senses
own_stays : (caller : CallerView) (tag : Tag) (at look_at : ℕ) (senses : List (Place × ℤ)) (before after : List Entry) →
    AddsKinds caller tag (sense_kinds at senses) before after → own_look tag after look_at ≡ own_look tag before look_at
own_stays caller tag at look_at [] before after is = ap (λ (past : List Entry). own_look tag past look_at) is
own_stays caller tag at look_at (asked ∷ senses) before after adds =
    own_stays caller tag at look_at senses (entry_of tag (Kind.Sense at asked.0 asked.1) ∷ adds.0) after adds.2
    ∙ adds.1.looks_stay look_at

refresh_ends : (ladder : List Entry → ℕ → LadderState) → DecidesEnd (refresh_decided ladder)
refresh_ends ladder = record {
  of_look = λ past row slot serial closed. refl;
  of_sense = λ past at place level. refl;
}

module _ (start : Start) (contents : List (Tag × List ℕ)) (caller : CallerView) (tag : Tag) (look : Look) (now : List Entry)
    (just : HasJustLooked caller tag look now) (seen : List Entry) (found : HasCome tag.actor seen now) where
  abbrev at : ℕ
  at = length now

  abbrev ladder : List Entry → ℕ → LadderState
  ladder = ladders start contents

  -- one entry ended the copy
  ended_refresh : (after : List Entry) (reply : CopyReply) →
      MadeRefresh start contents caller tag look now just after reply →
      IsRefreshAmong start contents tag look.row seen after (refresh_of_copy reply)
  ended_refresh after reply made =
      let kind : Kind = made.ends_so.ends.kind in
      let ending : List CallStep = made_step tag kind made.at_end ∷ [] in
      let steps : List CallStep =
      look_steps tag look.row look.slot look.serial look.closed now made.at_leave at made.senses.steps
      made.senses.are_senses ending in
      let is_refresh : IsRefresh ladder look.row steps =
      inr (record {
        look = made_step tag (Kind.Look look.row (Row.Page look.slot look.serial) look.closed) now;
        ending = ending;
        leave = made_step tag (Kind.Leave at) made.at_leave;
        is_list =
            look_list tag look.row look.slot look.serial look.closed now made.sensed made.at_leave made.senses ending;
        of_row = same_number look.row;
        ends = made.ends_so.refresh;
      }) in
      let reply_is : refresh_reply ladder steps ≡ Some (refresh_of_copy reply) =
      ended_reply tag look.row look.slot look.serial look.closed now made.at_leave at made.senses.steps
      made.senses.are_senses (refresh_decided ladder) (refresh_ends ladder) kind made.at_end
      ∙ ap (λ (o : Option RefreshReply). decided_first o
      (decided_first (refresh_decided ladder made.at_leave (Kind.Leave at)) None)) made.ends_so.decided in
      record {
        steps = steps;
        are_steps =
            look_made tag look.row look.slot look.serial look.closed now made.sensed made.ended made.at_leave after
            made.senses ending
            (one_made tag kind made.sensed made.at_end made.ended made.found made.ends_so.ends.ended_is)
            (one_made tag (Kind.Leave at) made.ended made.at_leave after made.found_leave made.after_is) seen found;
        is_refresh = is_refresh;
        reply_is = reply_is;
        fault_is = refresh_fault_is ladder look.row steps (refresh_of_copy reply) is_refresh reply_is;
      }

  -- no entry did: the page can't be recovered
  module _ (senses : HasSenses caller tag at caller.seen) (ended after : List Entry) (reply : CopyReply)
      (given : IsGivenUp start contents at senses.after ended reply) (leaves : IsLeft caller tag at ended after) where
    is_own : IsSome (own_look tag ended at)
    is_own =
        let opened : own_look tag caller.seen look.at ≡ Some look =
        subst (λ (past : List Entry). own_look tag past look.at ≡ Some look) (sym just.seen_is)
        (new_is_own now tag look.row look just.at_is refl) in
        let here : own_look tag caller.seen at ≡ Some look =
        subst (λ (n : ℕ). own_look tag caller.seen n ≡ Some look) just.at_is opened in
        let last : own_look tag ended at ≡ Some look =
        ap (λ (past : List Entry). own_look tag past at) given.ended_is
        ∙ own_stays caller tag at at senses.senses caller.seen senses.after senses.are_senses ∙ here in
        subst (λ (o : Option Look). IsSome o) (sym last) refl

    stays_uncorrectable : is_uncorrectable (ladder leaves.at_leave at) ≡ true
    stays_uncorrectable =
        let others : List Entry = leaves.comes.others in
        let stay : senses_had leaves.at_leave at ≡ senses_had ended at = leaves.comes.senses_stay at is_own in
        let same : senses_had (others ++ ended) at ≡ senses_had ended at =
        subst (λ (past : List Entry). senses_had past at ≡ senses_had ended at) leaves.comes.now_is stay in
        let ladders_same : ladder leaves.at_leave at ≡ ladder senses.after at =
        ap (λ (past : List Entry). ladder past at) leaves.comes.now_is
        ∙ ladder_over (coding_of start.base) start contents others ended at (own_began ended tag at is_own) same
        ∙ ap (λ (past : List Entry). ladder past at) given.ended_is in
        ap is_uncorrectable ladders_same ∙ given.is_uncorrectable

    left_refresh : IsRefreshAmong start contents tag look.row seen after (refresh_of_copy reply)
    left_refresh =
        let sensed = sensed_since start contents caller tag look now just senses in
        let steps : List CallStep =
        look_steps tag look.row look.slot look.serial look.closed now leaves.at_leave at sensed.steps sensed.are_senses [] in
        let is_refresh : IsRefresh ladder look.row steps =
        inr (record {
          look = made_step tag (Kind.Look look.row (Row.Page look.slot look.serial) look.closed) now;
          ending = [];
          leave = made_step tag (Kind.Leave at) leaves.at_leave;
          is_list =
              look_list tag look.row look.slot look.serial look.closed now senses.after leaves.at_leave sensed [];
          of_row = same_number look.row;
          ends = stays_uncorrectable;
        }) in
        let reply_is : refresh_reply ladder steps ≡ Some (refresh_of_copy reply) =
        left_reply tag look.row look.slot look.serial look.closed now leaves.at_leave at sensed.steps sensed.are_senses
        (refresh_decided ladder) (refresh_ends ladder)
        ∙ ap (λ (o : Option RefreshReply). decided_first o None) (given_up (ladder leaves.at_leave at) stays_uncorrectable)
        ∙ ap (λ (r : CopyReply). Some (refresh_of_copy r)) (sym given.reply_is) in
        record {
          steps = steps;
          are_steps =
              look_made tag look.row look.slot look.serial look.closed now senses.after ended leaves.at_leave after
              sensed [] (came_same tag.actor senses.after ended given.ended_is) (leave_made caller tag at ended after leaves)
              seen found;
          is_refresh = is_refresh;
          reply_is = reply_is;
          fault_is = refresh_fault_is ladder look.row steps (refresh_of_copy reply) is_refresh reply_is;
        }

  copied_refresh : (after : List Entry) (reply : CopyReply) → CopiesFor start contents caller tag at false after reply →
      IsRefreshAmong start contents tag look.row seen after (refresh_of_copy reply)
  copied_refresh after reply (inl copied) = by_end copied.ends
    where
      by_end : IsMoved start contents caller tag at copied.senses.after copied.ended reply
          ⊎ IsGivenUp start contents at copied.senses.after copied.ended reply →
          IsRefreshAmong start contents tag look.row seen after (refresh_of_copy reply)
      by_end (inl moved) =
          ended_refresh after reply
          (moved_so start contents caller tag look now just copied.senses copied.ended after reply moved copied.leaves)
      by_end (inr given) = left_refresh copied.senses copied.ended after reply given copied.leaves
  copied_refresh after reply (inr failed) =
      ended_refresh after reply (failed_so start contents caller tag look now just after reply failed)

module _ (start : Start) (contents : List (Tag × List ℕ)) (tag : Tag) (row : ℕ) where
  lone_refresh : (found : Row) (reply : RefreshReply) (seen now after : List Entry) → HasCome tag.actor seen now →
      after ≡ after_lone_look tag row found now →
      IsRefresh (ladders start contents) row (made_step tag (Kind.Look row found false) now ∷ []) →
      refresh_reply (ladders start contents) (made_step tag (Kind.Look row found false) now ∷ []) ≡ Some reply →
      IsRefreshAmong start contents tag row seen after reply
  lone_refresh found reply seen now after came is is_refresh reply_is = record {
    steps = made_step tag (Kind.Look row found false) now ∷ [];
    are_steps = one_made tag (Kind.Look row found false) seen now after came is;
    is_refresh = is_refresh;
    reply_is = reply_is;
    fault_is =
        refresh_fault_is (ladders start contents) row (made_step tag (Kind.Look row found false) now ∷ []) reply is_refresh
        reply_is;
  }

  followed : (answer : LookAnswer) (looked : CallerView) (seen now after : List Entry) (reply : RefreshReply) →
      HasCome tag.actor seen now → MakesLook looked.shape tag row now answer looked.seen →
      FollowsLook start contents looked tag answer after reply → IsRefreshAmong start contents tag row seen after reply
  followed Empty looked seen now after reply found made follows =
      subst (IsRefreshAmong start contents tag row seen after) (sym follows.1)
      (lone_refresh Row.Empty RefreshReply.Empty seen now after found (follows.0 ∙ made) (inl (same_number row)) refl)
  followed Lost looked seen now after reply found made follows =
      subst (IsRefreshAmong start contents tag row seen after) (sym follows.1)
      (lone_refresh Row.Lost RefreshReply.Uncorrectable seen now after found (follows.0 ∙ made) (inl (same_number row)) refl)
  followed (Found look) looked seen now after reply found made follows =
      let just : HasJustLooked looked tag look now = record {
        at_is = made.0;
        seen_is =
            made.3 ∙ ap (λ (named : ℕ). after_look tag named look.slot look.serial look.closed now) (sym made.1);
      } in
      let by : IsRefreshAmong start contents tag look.row seen after (refresh_of_copy follows.copied) =
      copied_refresh start contents looked tag look now just seen found after follows.copied
      (subst (λ (n : ℕ). CopiesFor start contents looked tag n false after follows.copied) made.0 follows.copies) in
      subst (λ (named : ℕ). IsRefreshAmong start contents tag named seen after reply) made.1
      (subst (IsRefreshAmong start contents tag look.row seen after) (sym follows.reply_is) by)

pub refreshes_among : RefreshesAmongAreRefreshes
refreshes_among start contents caller tag row after reply made =
    followed start contents tag row made.answer made.looked caller.seen made.looks.0 after reply
    (came caller tag made.looks.0 made.looks.1)
    (subst (λ (shape : Shape). MakesLook shape tag row made.looks.0 made.answer made.looked.seen) (sym made.same.shape_stays)
    made.looks.3) made.follows

pub refresh_calls_among : RefreshCallsAmongAreRefreshes
refresh_calls_among start contents channels page caller tag after reply makes =
    let made = refreshes_among start contents caller tag (page / channels) after reply makes in
    record {
      steps = made.steps;
      are_steps = made.are_steps;
      of_verb = own_steps (page % channels) _ _ made.is_refresh;
      decide = own_fact (page % channels) _ (ap (option_map reply_of_refresh) made.reply_is);
      one_fault = refresh_has_one_fault (ladders start contents) (page / channels) made.steps made.is_refresh;
    }
