-- Rounds that stopped among the entries of others: a round that stopped is a round without its erase, in which no die's call
-- failed and that may go on, so an erase would end it.
use Rattle.std.proofs.Common.{◌≡◌, ℕ, ◌||◌, not, Bool, true, false, List, [], ◌∷◌, ◌++◌, refl, sym, subst, ◌∙◌, ap, inl, inr, append-nil}
use Rattle.std.specs.Prelude.{All, Result, Ok, Err, flat_map}
use Rattle.std.specs.List.{list_all, list_any}
use Rattle.std.proofs.lemmas.Bool.{and_parts, false≢true}
use Rattle.std.proofs.lemmas.List.Elements.{All-cons, All-nil}
use Rattle.chan_calls.specs.Caller.{CallerView, HasLookRoom, HasStepRoom}
use Rattle.chan_calls.specs.Collecting.{MakesErase, MakesLive, MakesPick}
use Rattle.chan_calls.specs.Copied.{is_round_end}
use Rattle.chan_calls.specs.declared.copy_reply.CopyReply.{CopyReply}
use Rattle.chan_calls.specs.declared.copy_reply.CopyReply.TheVariants as copy
use Rattle.chan_state.specs.declared.answers.EraseAnswer.{EraseAnswer}
use Rattle.chan_state.specs.declared.answers.PickAnswer.{PickAnswer}
use Rattle.chan_state.specs.declared.answers.PickAnswer.TheVariants as pick
use Rattle.ssd_geo.specs.declared.entry.Entry.{Entry}
use Rattle.ssd_geo.specs.declared.kind.Kind.{Kind}
use Rattle.ssd_geo.specs.declared.stop.StepStop.{StepStop}
use Rattle.ssd_geo.specs.declared.tag.Tag.{Tag}
use Rattle.ssd_histories.specs.CallSteps.{CallStep, is_erase_or_bad_erase, is_fault, is_pick, late_pasts, late_pasts_of}
use Rattle.ssd_histories.specs.Rounds.{IsRound, IsVictimCopy, ends_round, has_fault, is_at_most_one, is_ended_by_last}
use Rattle.ssd_histories.specs.SerialCalls.{entry_of}
use Rattle.ssd_histories.specs.Start.{Start}
use Rattle.collector.specs.Emptying.{CopiesPages, EmptiesFor, EndsRound, IsToErase, OfBase, by_copy, by_erase, having_seen, no_victim, none_yet, one_more, reply_of_copy, reply_of_erase, result_of_erase, stops}
use Rattle.collector.specs.Rounds.{FollowsPick, MakesRoundFor}
use Rattle.collector.specs.declared.replies.RoundReply.{RoundReply}
use Rattle.collector.specs.declared.replies.RoundReply.TheVariants as round
use Rattle.collector.proofs.AloneRounds.{no_stop}
use Rattle.serial_laws.proofs.LookLists.{IsCopyMade, by_kind, copy_is_made}
use Rattle.serial_laws.proofs.MadeRounds.{none_in_both}
use Rattle.calls_among_others.specs.CallsAmong.{ladders}
use Rattle.calls_among_others.specs.Parts.{is_round_fault}
use Rattle.calls_among_others.specs.StepsAmong.{AreStepsAmong, HasCome}
use Rattle.calls_among_others.proofs.AmongCopies.{came}
use Rattle.calls_among_others.proofs.AmongRounds.{PageMade, page_made}
use Rattle.calls_among_others.proofs.AmongSteps.{among_join, came_same, came_then, late_has, steps_later}
use Rattle.calls_among_others.proofs.LookSteps.{made_step, no_pick_all}
use Rattle.race_laws.proofs.AmongStops.{refused_came}

-- copies none of which ends a round, with any steps after them
ended_any : (copies : List (List CallStep)) (after : List CallStep) → list_all (λ copy. not (ends_round copy)) copies ≡ true →
    is_ended_by_last copies after ≡ true
ended_any [] after go_on = refl
ended_any (copy ∷ copies) after go_on =
    let parts = and_parts (not (ends_round copy)) (list_all (λ copy. not (ends_round copy)) copies) go_on in
    rw parts.0 (ended_any copies after parts.1)

-- a copy that doesn't end its round has no failed call
goes_faultless : (reply : CopyReply) → is_round_end reply ≡ false → is_round_fault (reply_of_copy reply) ≡ false
goes_faultless copy.Moved e = refl
goes_faultless copy.Changed e = refl
goes_faultless copy.Condemned e = refl
goes_faultless copy.Uncorrectable e = refl
goes_faultless copy.Failed e = refl
goes_faultless copy.NoRoom e = refl
goes_faultless copy.ReadOnly e = refl
goes_faultless (copy.DieFault die) e = absurd (false≢true (sym e))

module _ (start : Start) (contents : List (Tag × List ℕ)) (caller : CallerView) (tag : Tag) where
  -- the copies of a round that stopped
  record PagesMade (before after : List Entry) : Type 0 where
    copies : List (List CallStep)
    are_steps : AreStepsAmong tag before (flat_map (λ copy. copy) copies) after
    are_copies : All (IsVictimCopy (ladders start contents) start.base) copies
    go_on : list_all (λ copy. not (ends_round copy)) copies ≡ true
    no_pick : list_any (by_kind is_pick) (flat_map (λ copy. copy) copies) ≡ false
    no_fault : has_fault (flat_map (λ copy. copy) copies) ≡ false

  no_page : (before after : List Entry) → HasCome tag.actor before after → PagesMade before after
  no_page before after found = record {
    copies = [];
    are_steps = found;
    are_copies = All-nil (IsVictimCopy (ladders start contents) start.base);
    go_on = refl;
    no_pick = refl;
    no_fault = refl;
  }

  page_before : (sb : ℕ) (before between after : List Entry) (given : CopyReply) →
      PageMade start contents caller tag sb before between given → is_round_end given ≡ false → PagesMade between after →
      PagesMade before after
  page_before sb before between after given page goes rest =
      let later : List CallStep = flat_map (λ copy. copy) rest.copies in
      let made : IsCopyMade page.steps =
      copy_is_made (ladders start contents) page.steps page.is_copy.look page.is_copy.is_copy in
      record {
        copies = page.steps ∷ rest.copies;
        are_steps = among_join tag before between after page.steps later page.are_steps rest.are_steps;
        are_copies =
            All-cons (IsVictimCopy (ladders start contents) start.base) page.steps rest.copies page.is_copy rest.are_copies;
        go_on = rw (page.ends_is ∙ goes) rest.go_on;
        no_pick = none_in_both (by_kind is_pick) page.steps later made.no_pick rest.no_pick;
        no_fault =
            none_in_both (by_kind is_fault) page.steps later (page.decides.fault_is ∙ goes_faultless given goes) rest.no_fault;
      }

  pages_made : (sb : ℕ) {before between : List Entry} (after : List Entry) →
      CopiesPages start contents caller tag sb before between → PagesMade between after → PagesMade before after
  pages_made sb after none_yet rest = rest
  pages_made sb {before} {between} after (one_more {between = older} {reply = given} copies page goes) rest =
      pages_made sb after copies
      (page_before sb older between after given (page_made start contents caller tag sb older between given page) goes rest)

  -- the step at which it stopped
  tried_came : (sb : ℕ) (before after : List Entry) (stop : StepStop) (erasing : Result EraseAnswer StepStop) →
      IsToErase start.base caller tag sb before after erasing →
      ◌≡◌ {A = Result RoundReply StepStop} (Err stop) (result_of_erase sb erasing) → HasCome tag.actor before after
  tried_came sb before after stop (Ok answer) tried is = absurd (no_stop (reply_of_erase sb answer) stop (sym is))
  tried_came sb before after stop (Err other) tried is =
      refused_came HasStepRoom (MakesErase (OfBase start.base) tag sb) tag (having_seen caller before)
      (having_seen caller after) other tried

  ended_came : (sb : ℕ) (before after : List Entry) (stop : StepStop) →
      EndsRound start contents caller tag sb before after (Err stop) → HasCome tag.actor before after
  ended_came sb before after stop (by_copy {reply = given} page ends is) =
      absurd (no_stop (reply_of_copy given) stop (sym is))
  ended_came sb before after stop (no_victim looks is) = absurd (no_stop round.Left stop (sym is))
  ended_came sb before after stop (by_erase emptied erasing looks tried is) =
      came_then tag.actor before emptied after
      (came_then tag.actor before looks.0 emptied (came (having_seen caller before) tag looks.0 looks.1)
      (came_same tag.actor looks.0 emptied looks.3.0))
      (tried_came sb emptied after stop erasing tried is)
  ended_came sb before after stop (stops other looks is) =
      refused_came HasLookRoom (MakesLive (OfBase start.base) caller.shape tag sb) tag (having_seen caller before)
      (having_seen caller after) other looks

  emptied_pages : (sb : ℕ) (before after : List Entry) (stop : StepStop) →
      EmptiesFor start contents caller tag sb before after (Err stop) → PagesMade before after
  emptied_pages sb before after stop empties =
      pages_made sb after empties.copies
      (no_page empties.copied after (ended_came sb empties.copied after stop empties.ends))

  -- a round that stopped: it lacks its erase
  pub record RoundBegun (before after : List Entry) : Type 0 where
    pub steps : List CallStep
    pub are_steps : AreStepsAmong tag before steps after
    pub is_round : IsRound (ladders start contents) start.base steps
    pub then_erase : (erase : CallStep) → is_erase_or_bad_erase erase.entry.kind ≡ true →
        IsRound (ladders start contents) start.base (steps ++ erase ∷ [])
    pub no_fault : has_fault steps ≡ false
    pub have_cause : (cause : List Entry → Bool) → cause before ≡ true →
        list_all (λ step. not (is_pick step.entry.kind) || list_any cause (late_pasts_of step)) steps ≡ true

  -- picks and copies with an erase or none
  round_of : (picks : List CallStep) (copies : List (List CallStep)) (erases steps : List CallStep) →
      is_at_most_one is_pick picks ≡ true → All (IsVictimCopy (ladders start contents) start.base) copies →
      list_all (λ copy. not (ends_round copy)) copies ≡ true → is_at_most_one is_erase_or_bad_erase erases ≡ true →
      steps ≡ picks ++ flat_map (λ copy. copy) copies ++ erases → IsRound (ladders start contents) start.base steps
  round_of picks copies erases steps one are go_on one_erase is = record {
    picks = picks;
    copies = copies;
    erases = erases;
    are_steps = is;
    one_pick = one;
    are_copies = are;
    one_erase = one_erase;
    ends = ended_any copies erases go_on;
  }

  taken : (before now after : List Entry) → HasCome tag.actor before now → PagesMade now after → RoundBegun before after
  taken before now after found made =
      let steps : List CallStep = flat_map (λ copy. copy) made.copies in
      record {
        steps = steps;
        are_steps = steps_later tag before now after steps found made.are_steps;
        is_round = round_of [] made.copies [] steps refl made.are_copies made.go_on refl (sym (append-nil steps));
        then_erase = λ erase is.
            round_of [] made.copies (erase ∷ []) (steps ++ erase ∷ []) refl made.are_copies made.go_on is refl;
        no_fault = made.no_fault;
        have_cause = λ cause needs. no_pick_all (λ step. list_any cause (late_pasts_of step)) steps made.no_pick;
      }

  picked : (sb : ℕ) (before now after : List Entry) → HasCome tag.actor before now →
      PagesMade (entry_of tag (Kind.Pick sb) ∷ now) after → RoundBegun before after
  picked sb before now after found made =
      let first : CallStep = made_step tag (Kind.Pick sb) now in
      let later : List CallStep = flat_map (λ copy. copy) made.copies in
      record {
        steps = first ∷ later;
        are_steps = (found, refl, made.are_steps);
        is_round =
            round_of (first ∷ []) made.copies [] (first ∷ later) refl made.are_copies made.go_on refl
            (ap (λ (steps : List CallStep). first ∷ steps) (sym (append-nil later)));
        then_erase = λ erase is.
            round_of (first ∷ []) made.copies (erase ∷ []) (first ∷ later ++ erase ∷ []) refl
            made.are_copies made.go_on is refl;
        no_fault = made.no_fault;
        have_cause = λ cause needs.
            let late : list_any cause (late_pasts tag.actor now) ≡ true = late_has tag.actor cause before now found needs in
            rw late (no_pick_all (λ step. list_any cause (late_pasts_of step)) later made.no_pick);
      }

  by_pick : (before now picks after : List Entry) (answer : PickAnswer) (stop : StepStop) → HasCome tag.actor before now →
      MakesPick (OfBase start.base) tag now answer picks →
      FollowsPick start contents caller tag answer picks after (Err stop) → RoundBegun before after
  by_pick before now picks after (pick.Busy sb) stop found made follow =
      taken before now after found
      (subst (λ (past : List Entry). PagesMade past after) made.0 (emptied_pages sb picks after stop follow))
  by_pick before now picks after pick.ReadOnly stop found made follow = absurd (no_stop round.Left stop (sym follow.1))
  by_pick before now picks after pick.NoGarbage stop found made follow = absurd (no_stop round.Left stop (sym follow.1))
  by_pick before now picks after (pick.Picked sb) stop found made follow =
      picked sb before now after found
      (subst (λ (past : List Entry). PagesMade past after) made.0 (emptied_pages sb picks after stop follow))

  pub round_begun : (before after : List Entry) (stop : StepStop) →
      MakesRoundFor start contents caller tag before after (Err stop) → RoundBegun before after
  round_begun before after stop (inl refused) =
      let found : HasCome tag.actor before after =
      refused_came HasStepRoom (MakesPick (OfBase start.base) tag) tag (having_seen caller before) (having_seen caller after)
      stop refused in
      taken before after after found (no_page after after (came_same tag.actor after after refl))
  round_begun before after stop (inr has) =
      by_pick before has.picks.0 has.picked after has.answer stop
      (came (having_seen caller before) tag has.picks.0 has.picks.1) has.picks.3 has.follows
