-- A round among the entries of others: a pick, copies of the victim's first live pages, and its erase. Each copy decides what a
-- die's call that failed does, and the erase decides a collect.
use Rattle.std.proofs.Common.{◌≡◌, ℕ, ◌≤◌, ◌==◌, ◌||◌, not, Bool, true, false, List, [], ◌∷◌, ◌++◌, Option, Some, None, ◌⊎◌, refl, sym, subst, ◌∙◌, ap, inl, inr, append_assoc, append-nil, arith}
use Rattle.std.specs.Prelude.{All, Result, Ok, Err, flat_map, unwrap_or}
use Rattle.std.specs.List.{list_all, list_any}
use Rattle.std.proofs.lemmas.Bool.{false≢true, or_parts}
use Rattle.std.proofs.lemmas.List.Elements.{All-cons, All-nil}
use Rattle.std.proofs.lemmas.List.Folds.{list_any-append}
use Rattle.chan_calls.specs.Caller.{CallerView}
use Rattle.chan_calls.specs.Collecting.{MakesErase, MakesPick}
use Rattle.chan_calls.specs.Copied.{HasJustLooked, is_die_fault, is_round_end, step_of_look}
use Rattle.chan_calls.specs.declared.copy_reply.CopyReply.{CopyReply}
use Rattle.chan_calls.specs.declared.copy_reply.CopyReply.TheVariants as copy
use Rattle.chan_state.specs.declared.answers.EraseAnswer.{EraseAnswer}
use Rattle.chan_state.specs.declared.answers.EraseAnswer.TheVariants as erase
use Rattle.chan_state.specs.declared.answers.PickAnswer.{PickAnswer}
use Rattle.chan_state.specs.declared.answers.PickAnswer.TheVariants as pick
use Rattle.ssd_geo.specs.Ladder.{LadderState}
use Rattle.ssd_geo.specs.declared.entry.Entry.{Entry}
use Rattle.ssd_geo.specs.declared.kind.Kind.{Kind}
use Rattle.ssd_geo.specs.declared.look.Look.{Look}
use Rattle.ssd_geo.specs.declared.reply.Reply.{Reply}
use Rattle.ssd_geo.specs.declared.slot.Slot.{Slot}
use Rattle.ssd_geo.specs.declared.stop.StepStop.{StepStop}
use Rattle.ssd_geo.specs.declared.tag.Tag.{Tag}
use Rattle.ssd_histories.specs.CallSteps.{CallStep, is_erase_or_bad_erase, is_fault, is_pick, late_pasts, late_pasts_of}
use Rattle.ssd_histories.specs.Lawful.{IsLawful}
use Rattle.ssd_histories.specs.PageMap.{is_slot}
use Rattle.ssd_histories.specs.Replies.{collect_decided, first_reply, write_decided, write_reply}
use Rattle.ssd_histories.specs.Room.{live_of, live_of_victim, victim_of}
use Rattle.ssd_histories.specs.Rounds.{IsRound, IsVictimCopy, ends_in_stay, ends_round, first_live_of_victim, has_erase, has_fault, is_at_most_one, is_ended_by_last, is_that_slot}
use Rattle.ssd_histories.specs.SerialCalls.{entry_of}
use Rattle.ssd_histories.specs.Start.{Start}
use Rattle.collector.specs.AloneReplies.{reply_to_round}
use Rattle.collector.specs.Emptying.{CopiesLive, CopiesPages, EmptiesFor, EndsRound, IsToErase, OfBase, by_copy, by_erase, having_seen, no_victim, none_yet, one_more, reply_of_copy, reply_of_erase, result_of_erase, stops}
use Rattle.collector.specs.Rounds.{FollowsPick, HasPicked}
use Rattle.collector.specs.declared.replies.RoundReply.{RoundReply}
use Rattle.collector.specs.declared.replies.RoundReply.TheVariants as round
use Rattle.collector.proofs.AloneRounds.{no_stop, ok_is}
use Rattle.collector.proofs.KeptVictims.{picked_is_victim}
use Rattle.serial_laws.proofs.LookLists.{IsCopyMade, by_kind, copy_is_made, ends_with_stay}
use Rattle.serial_laws.proofs.MadeRounds.{copies_and_erases, faults_join, none_in_both}
use Rattle.serial_laws.proofs.MadeSteps.{faults_in}
use Rattle.serial_laws.proofs.MadeWrites.{one_fault_in_one}
use Rattle.calls_among_others.specs.CallsAmong.{ladders}
use Rattle.calls_among_others.specs.Parts.{RoundsAmongAreRounds, is_left, is_round_fault}
use Rattle.calls_among_others.specs.StepsAmong.{AreStepsAmong, HasCome}
use Rattle.calls_among_others.proofs.AmongCopies.{came, copied_made, copy_among, copy_ends, copy_faults, copy_is, copy_steps, fault_of, one_made}
use Rattle.calls_among_others.proofs.AmongSteps.{among_join, came_same, came_then, late_has, late_here, lawful_among, steps_later}
use Rattle.calls_among_others.proofs.HeldVictims.{copy_holds_victim, victim_gone}
use Rattle.calls_among_others.proofs.LookSteps.{DecidesEnd, decided_last, ended_reply, made_step, no_pick_all, none_first}
use Rattle.collector.proofs.AloneReplies.{in_collect, in_write, round_so}
use Rattle.ssd_histories.proofs.SameSlots.{is_slot-same}
use Rattle.shared_lemmas.proofs.Tests.{or_false}

-- some steps decide what a round's reply says
pub record Decides (steps : List CallStep) (reply : RoundReply) : Type 0 where
  pub fault_is : has_fault steps ≡ is_round_fault reply
  pub done_is : (has_erase steps || has_fault steps) ≡ not (is_left reply)
  pub writes_is : write_reply steps ≡ in_write reply
  pub collects_is : first_reply (λ step. collect_decided step.entry.kind) steps ≡ in_collect reply

pub decides_none : Decides [] round.Left
unfolding in_write in_collect
decides_none = record { fault_is = refl; done_is = refl; writes_is = refl; collects_is = refl }

pub decides_then : (xs ys : List CallStep) (reply : RoundReply) → Decides xs round.Left → Decides ys reply →
    Decides (xs ++ ys) reply
unfolding in_write in_collect
decides_then xs ys reply first rest =
    let none = or_parts (has_erase xs) (has_fault xs) first.done_is in
    let faults : has_fault (xs ++ ys) ≡ has_fault ys =
    list_any-append (by_kind is_fault) xs ys ∙ ap (λ (b : Bool). b || has_fault ys) none.1 in
    let erases : has_erase (xs ++ ys) ≡ has_erase ys =
    list_any-append (by_kind is_erase_or_bad_erase) xs ys ∙ ap (λ (b : Bool). b || has_erase ys) none.0 in
    record {
      fault_is = faults ∙ rest.fault_is;
      done_is =
          ap (λ (b : Bool). b || has_fault (xs ++ ys)) erases ∙ ap (λ (b : Bool). has_erase ys || b) faults ∙ rest.done_is;
      writes_is = none_first (λ step. write_decided step.entry.kind) xs ys first.writes_is ∙ rest.writes_is;
      collects_is = none_first (λ step. collect_decided step.entry.kind) xs ys first.collects_is ∙ rest.collects_is;
    }

-- one entry
pub decides_one : (tag : Tag) (kind : Kind) (past : List Entry) (reply : RoundReply) → is_fault kind ≡ is_round_fault reply →
    (is_erase_or_bad_erase kind || is_fault kind) ≡ not (is_left reply) → write_decided kind ≡ in_write reply →
    collect_decided kind ≡ in_collect reply → Decides (made_step tag kind past ∷ []) reply
decides_one tag kind past reply fault done writes collects = record {
  fault_is = or_false (is_fault kind) ∙ fault;
  done_is =
      ap (λ (b : Bool). b || (is_fault kind || false)) (or_false (is_erase_or_bad_erase kind))
      ∙ ap (λ (b : Bool). is_erase_or_bad_erase kind || b) (or_false (is_fault kind)) ∙ done;
  writes_is = decided_last (write_decided kind) ∙ writes;
  collects_is = decided_last (collect_decided kind) ∙ collects;
}

-- the reply of a round that a copy ends
fault_of_round : (reply : CopyReply) → is_die_fault reply ≡ is_round_fault (reply_of_copy reply)
fault_of_round (copy.DieFault die) = refl
fault_of_round copy.Moved = refl
fault_of_round copy.Changed = refl
fault_of_round copy.Condemned = refl
fault_of_round copy.Uncorrectable = refl
fault_of_round copy.NoRoom = refl
fault_of_round copy.ReadOnly = refl
fault_of_round copy.Failed = refl

done_by_fault : (reply : CopyReply) → is_die_fault reply ≡ not (is_left (reply_of_copy reply))
done_by_fault (copy.DieFault die) = refl
done_by_fault copy.Moved = refl
done_by_fault copy.Changed = refl
done_by_fault copy.Condemned = refl
done_by_fault copy.Uncorrectable = refl
done_by_fault copy.NoRoom = refl
done_by_fault copy.ReadOnly = refl
done_by_fault copy.Failed = refl

fault_in_write : (reply : CopyReply) → fault_of reply ≡ in_write (reply_of_copy reply)
unfolding in_write fault_of
fault_in_write (copy.DieFault die) = refl
fault_in_write copy.Moved = refl
fault_in_write copy.Changed = refl
fault_in_write copy.Condemned = refl
fault_in_write copy.Uncorrectable = refl
fault_in_write copy.NoRoom = refl
fault_in_write copy.ReadOnly = refl
fault_in_write copy.Failed = refl

fault_in_collect : (reply : CopyReply) → fault_of reply ≡ in_collect (reply_of_copy reply)
unfolding in_collect fault_of
fault_in_collect (copy.DieFault die) = refl
fault_in_collect copy.Moved = refl
fault_in_collect copy.Changed = refl
fault_in_collect copy.Condemned = refl
fault_in_collect copy.Uncorrectable = refl
fault_in_collect copy.NoRoom = refl
fault_in_collect copy.ReadOnly = refl
fault_in_collect copy.Failed = refl

left_by : (reply : CopyReply) → is_round_end reply ≡ false → reply_of_copy reply ≡ round.Left
left_by (copy.DieFault die) e = absurd (false≢true (sym e))
left_by copy.Moved e = refl
left_by copy.Changed e = refl
left_by copy.Condemned e = refl
left_by copy.Uncorrectable e = refl
left_by copy.NoRoom e = refl
left_by copy.ReadOnly e = refl
left_by copy.Failed e = refl

no_fault_left : (reply : CopyReply) → is_left (reply_of_copy reply) ≡ true → is_die_fault reply ≡ false
no_fault_left (copy.DieFault die) e = absurd (false≢true e)
no_fault_left copy.Moved e = refl
no_fault_left copy.Changed e = refl
no_fault_left copy.Condemned e = refl
no_fault_left copy.Uncorrectable e = refl
no_fault_left copy.NoRoom e = refl
no_fault_left copy.ReadOnly e = refl
no_fault_left copy.Failed e = refl

write_ends : DecidesEnd (λ past kind. write_decided kind)
write_ends = record { of_look = λ past row slot serial closed. refl; of_sense = λ past at place level. refl }

collect_ends : DecidesEnd (λ past kind. collect_decided kind)
collect_ends = record { of_look = λ past row slot serial closed. refl; of_sense = λ past at place level. refl }

module _ (start : Start) (contents : List (Tag × List ℕ)) (caller : CallerView) (tag : Tag) where
  abbrev ladder : List Entry → ℕ → LadderState
  ladder = ladders start contents

  -- whether there was lately nothing to copy at a past
  abbrev pub nothing_live : List Entry → Bool
  nothing_live past = live_of_victim start.base past == 0

  abbrev pub HadNothing : List Entry → Type 0
  HadNothing past = list_any nothing_live (late_pasts tag.actor past) ≡ true

  -- where a round that left its victim decided nothing, it stayed, or there was lately nothing to copy
  abbrev pub IsIdle : List CallStep → List Entry → Type 0
  IsIdle steps after = (ends_in_stay steps ≡ true) ⊎ HadNothing after

  module _ (sb : ℕ) where
    abbrev IsVictim : List Entry → Type 0
    IsVictim past = victim_of start.base past ≡ Some sb

    none_live : (past : List Entry) → IsVictim past → live_of start.base past sb ≡ 0 → nothing_live past ≡ true
    none_live past victim none =
        let count : live_of_victim start.base past ≡ 0 = rw (victim, live_of_victim) none in
        ap (λ (n : ℕ). n == 0) count

    -- a copy of the victim's first live page
    pub record PageMade (before after : List Entry) (reply : CopyReply) : Type 0 where
      pub steps : List CallStep
      pub are_steps : AreStepsAmong tag before steps after
      pub is_copy : IsVictimCopy ladder start.base steps
      pub ends_is : ends_round steps ≡ is_round_end reply
      pub decides : Decides steps (reply_of_copy reply)
      pub holds : IsLawful start contents after → IsVictim after

    pub page_made : (before after : List Entry) (reply : CopyReply) →
        CopiesLive start contents caller tag sb before after reply → PageMade before after reply
    page_made before after reply page =
        let now : List Entry = page.finds.0 in
        let look : Look = page.look in
        let makes = page.finds.3 in
        let just : HasJustLooked (having_seen caller page.looked) tag look now =
        record { at_is = makes.0.0; seen_is = makes.0.3 } in
        let made = copied_made start contents (having_seen caller page.looked) tag look now just after reply page.copies in
        let steps : List CallStep = copy_steps start contents tag look now after reply made in
        let is_copy = copy_is start contents tag look now after reply made in
        let parts : IsCopyMade steps = copy_is_made ladder steps (step_of_look tag look now) is_copy in
        let faults : has_fault steps ≡ is_die_fault reply = copy_faults start contents tag look now after reply made in
        let named : first_live_of_victim start.base now ≡ Some look.slot =
        rw (makes.1.0, first_live_of_victim) makes.1.1 in
        let found : HasCome tag.actor before now = came (having_seen caller before) tag now page.finds.1 in
        record {
          steps = steps;
          are_steps = copy_among start contents tag look now after reply made before found;
          is_copy = record {
            look = step_of_look tag look now;
            is_copy = is_copy;
            is_first =
                subst (λ (slot : Option Slot). is_that_slot slot look.slot ≡ true) (sym named) (is_slot-same look.slot);
          };
          ends_is = copy_ends start contents tag look now after reply made;
          decides = record {
            fault_is = faults ∙ fault_of_round reply;
            done_is = ap (λ (b : Bool). b || has_fault steps) parts.no_erase ∙ faults ∙ done_by_fault reply;
            writes_is =
                ended_reply tag look.row look.slot look.serial look.closed now made.at_leave _ made.senses.steps
                made.senses.are_senses (λ past kind. write_decided kind) write_ends made.ends_so.kind made.at_end
                ∙ decided_last (write_decided made.ends_so.kind) ∙ made.ends_so.writes ∙ fault_in_write reply;
            collects_is =
                ended_reply tag look.row look.slot look.serial look.closed now made.at_leave _ made.senses.steps
                made.senses.are_senses (λ past kind. collect_decided kind) collect_ends made.ends_so.kind made.at_end
                ∙ decided_last (collect_decided made.ends_so.kind) ∙ made.ends_so.collects ∙ fault_in_collect reply;
          };
          holds = copy_holds_victim start contents tag sb look now after reply made makes.1.0 makes.1.1;
        }

    -- the copies of a round, and what its end makes
    pub record CopiesMade (before after : List Entry) (reply : RoundReply) : Type 0 where
      pub copies : List (List CallStep)
      pub erasing : List CallStep
      pub are_steps : AreStepsAmong tag before (copies_and_erases copies erasing) after
      pub are_copies : All (IsVictimCopy ladder start.base) copies
      pub one_erase : is_at_most_one is_erase_or_bad_erase erasing ≡ true
      pub ends : is_ended_by_last copies erasing ≡ true
      pub no_pick : list_any (by_kind is_pick) (copies_and_erases copies erasing) ≡ false
      pub one_fault : faults_in (copies_and_erases copies erasing) ≤ 1
      pub decides : Decides (copies_and_erases copies erasing) reply
      pub idle : IsVictim before → IsLawful start contents after → is_left reply ≡ true →
          IsIdle (copies_and_erases copies erasing) after

    -- one copy more before them
    copy_before : (before between after : List Entry) (given : CopyReply) (reply : RoundReply) →
        PageMade before between given → is_round_end given ≡ false → CopiesMade between after reply →
        CopiesMade before after reply
    copy_before before between after given reply page goes rest =
        let later : List CallStep = copies_and_erases rest.copies rest.erasing in
        let made : IsCopyMade page.steps = copy_is_made ladder page.steps page.is_copy.look page.is_copy.is_copy in
        let quiet : Decides page.steps round.Left = subst (Decides page.steps) (left_by given goes) page.decides in
        let no_fault : has_fault page.steps ≡ false = quiet.fault_is in
        let joined : page.steps ++ later ≡ copies_and_erases (page.steps ∷ rest.copies) rest.erasing =
        sym (append_assoc page.steps (flat_map (λ copy. copy) rest.copies) rest.erasing) in
        record {
          copies = page.steps ∷ rest.copies;
          erasing = rest.erasing;
          are_steps =
              subst (λ (steps : List CallStep). AreStepsAmong tag before steps after) joined
              (among_join tag before between after page.steps later page.are_steps rest.are_steps);
          are_copies = All-cons (IsVictimCopy ladder start.base) page.steps rest.copies page.is_copy rest.are_copies;
          one_erase = rest.one_erase;
          ends = rw (page.ends_is ∙ goes) rest.ends;
          no_pick =
              subst (λ (steps : List CallStep). list_any (by_kind is_pick) steps ≡ false) joined
              (none_in_both (by_kind is_pick) page.steps later made.no_pick rest.no_pick);
          one_fault =
              subst (λ (steps : List CallStep). faults_in steps ≤ 1) joined
              (let sums = faults_join page.steps later no_fault in let few = rest.one_fault in omega (arith, sums, few));
          decides =
              subst (λ (steps : List CallStep). Decides steps reply) joined
              (decides_then page.steps later reply quiet rest.decides);
          idle = λ victim lawful left.
              subst (λ (steps : List CallStep). IsIdle steps after) joined
              (elim
              (rest.idle (page.holds (lawful_among ladder start.base tag between after later rest.are_steps lawful)) lawful
              left) [
                | inl stay ↦ inl (ends_with_stay page.steps later stay)
                | inr none ↦ inr none
              ]);
        }

    -- the last copy
    last_copy : (before after : List Entry) (given : CopyReply) → PageMade before after given → is_round_end given ≡ true →
        CopiesMade before after (reply_of_copy given)
    last_copy before after given page ended =
        let made : IsCopyMade page.steps = copy_is_made ladder page.steps page.is_copy.look page.is_copy.is_copy in
        let alone : page.steps ≡ copies_and_erases (page.steps ∷ []) [] =
        sym (append-nil page.steps) ∙ sym (append-nil (page.steps ++ [])) in
        record {
          copies = page.steps ∷ [];
          erasing = [];
          are_steps = subst (λ (steps : List CallStep). AreStepsAmong tag before steps after) alone page.are_steps;
          are_copies =
              All-cons (IsVictimCopy ladder start.base) page.steps [] page.is_copy (All-nil (IsVictimCopy ladder start.base));
          one_erase = refl;
          ends = rw (page.ends_is ∙ ended) refl;
          no_pick = subst (λ (steps : List CallStep). list_any (by_kind is_pick) steps ≡ false) alone made.no_pick;
          one_fault = subst (λ (steps : List CallStep). faults_in steps ≤ 1) alone made.one_fault;
          decides = subst (λ (steps : List CallStep). Decides steps (reply_of_copy given)) alone page.decides;
          idle = λ victim lawful left.
              subst (λ (steps : List CallStep). IsIdle steps after) alone
              (inl (made.stays (page.ends_is ∙ ended)
              (page.decides.fault_is ∙ sym (fault_of_round given) ∙ no_fault_left given left)));
        }

    -- no copy and no entry
    none_made : (before after : List Entry) → HasCome tag.actor before after →
        (IsVictim before → IsLawful start contents after → HadNothing after) → CopiesMade before after round.Left
    none_made before after found nothing = record {
      copies = [];
      erasing = [];
      are_steps = found;
      are_copies = All-nil (IsVictimCopy ladder start.base);
      one_erase = refl;
      ends = refl;
      no_pick = refl;
      one_fault = omega arith;
      decides = decides_none;
      idle = λ victim lawful left. inr (nothing victim lawful);
    }

    -- no copy, and an erase or a failed one
    only_erase : (kind : Kind) (reply : RoundReply) (before now after : List Entry) → HasCome tag.actor before now →
        after ≡ entry_of tag kind ∷ now → is_erase_or_bad_erase kind ≡ true → is_pick kind ≡ false →
        Decides (made_step tag kind now ∷ []) reply → is_left reply ≡ false → CopiesMade before after reply
    only_erase kind reply before now after found is is_one no_pick decides not_left = record {
      copies = [];
      erasing = made_step tag kind now ∷ [];
      are_steps = one_made tag kind before now after found is;
      are_copies = All-nil (IsVictimCopy ladder start.base);
      one_erase = is_one;
      ends = refl;
      no_pick = rw no_pick refl;
      one_fault = one_fault_in_one tag kind now;
      decides = decides;
      idle = λ victim lawful left. absurd (false≢true (sym not_left ∙ left));
    }

    module _ (before emptied now after : List Entry) (first : HasCome tag.actor before emptied)
        (found : HasCome tag.actor emptied now) (none : nothing_live emptied ≡ true) where
      left_there : after ≡ now → CopiesMade before after round.Left
      left_there same =
          let since : HasCome tag.actor emptied after =
          came_then tag.actor emptied now after found (came_same tag.actor now after same) in
          none_made before after (came_then tag.actor before emptied after first since)
          (λ victim lawful. late_has tag.actor nothing_live emptied after since none)

      erased_there : (kind : Kind) (reply : RoundReply) → after ≡ entry_of tag kind ∷ now →
          is_erase_or_bad_erase kind ≡ true → is_pick kind ≡ false → Decides (made_step tag kind now ∷ []) reply →
          is_left reply ≡ false → CopiesMade before after reply
      erased_there kind reply is is_one no_pick decides not_left =
          only_erase kind reply before now after (came_then tag.actor before emptied now first found) is is_one no_pick decides
          not_left

      erased_by : (answer : EraseAnswer) → MakesErase (OfBase start.base) tag sb now answer after →
          CopiesMade before after (reply_of_erase sb answer)
      unfolding in_write in_collect
      erased_by erase.NotVictim made = left_there made.0
      erased_by (erase.Live count) made = left_there made.0
      erased_by (erase.Pinned count) made = left_there made.0
      erased_by erase.Erased made =
          erased_there (Kind.Erase sb) (round.Erased sb) made.0 refl refl
          (decides_one tag (Kind.Erase sb) now (round.Erased sb) refl refl refl refl) refl
      erased_by (erase.FailedErase die) made =
          erased_there (Kind.BadErase sb die false) (round.Retired sb) made.0 refl refl
          (decides_one tag (Kind.BadErase sb die false) now (round.Retired sb) refl refl refl refl) refl
      erased_by (erase.DieFault die) made =
          erased_there (Kind.BadErase sb die true) (round.DieFault die) made.0 refl refl
          (decides_one tag (Kind.BadErase sb die true) now (round.DieFault die) refl refl refl refl) refl

    -- the end of a round
    tried_by : (before emptied after : List Entry) (reply : RoundReply) (erasing : Result EraseAnswer StepStop) →
        HasCome tag.actor before emptied → nothing_live emptied ≡ true →
        IsToErase start.base caller tag sb emptied after erasing →
        ◌≡◌ {A = Result RoundReply StepStop} (Ok reply) (result_of_erase sb erasing) → CopiesMade before after reply
    tried_by before emptied after reply (Ok answer) first none tried is =
        subst (CopiesMade before after) (sym (ok_is reply (reply_of_erase sb answer) is))
        (erased_by before emptied tried.0 after first (came (having_seen caller emptied) tag tried.0 tried.1) none answer
        tried.3)
    tried_by before emptied after reply (Err stop) first none tried is = absurd (no_stop reply stop is)

    ended_by : (before after : List Entry) (reply : RoundReply) →
        EndsRound start contents caller tag sb before after (Ok reply) → CopiesMade before after reply
    ended_by before after reply (by_copy {reply = given} page ends is) =
        subst (CopiesMade before after) (sym (ok_is reply (reply_of_copy given) is))
        (last_copy before after given (page_made before after given page) ends)
    ended_by before after reply (no_victim looks is) =
        let found : HasCome tag.actor before after =
        came_then tag.actor before looks.0 after (came (having_seen caller before) tag looks.0 looks.1)
        (came_same tag.actor looks.0 after looks.3.0) in
        subst (CopiesMade before after) (sym (ok_is reply round.Left is))
        (none_made before after found (λ victim lawful.
        victim_gone ladder start.base sb tag.actor before after found victim lawful
        (λ still. looks.3.1 (ap (victim_of start.base) (sym looks.3.0) ∙ still))))
    ended_by before after reply (by_erase emptied erasing looks tried is) =
        tried_by before emptied after reply erasing
        (came_then tag.actor before looks.0 emptied (came (having_seen caller before) tag looks.0 looks.1)
        (came_same tag.actor looks.0 emptied looks.3.0))
        (subst (λ (past : List Entry). nothing_live past ≡ true) (sym looks.3.0) (none_live looks.0 looks.3.1.0 looks.3.1.1))
        tried is
    ended_by before after reply (stops stop looks is) = absurd (no_stop reply stop is)

    -- all copies before the end
    then_made : {before between : List Entry} (after : List Entry) (reply : RoundReply) →
        CopiesPages start contents caller tag sb before between → CopiesMade between after reply →
        CopiesMade before after reply
    then_made after reply none_yet rest = rest
    then_made {before} {between} after reply (one_more {between = older} {reply = given} copies page goes) rest =
        then_made after reply copies
        (copy_before older between after given reply (page_made older between given page) goes rest)

    pub emptied_made : (before after : List Entry) (reply : RoundReply) →
        EmptiesFor start contents caller tag sb before after (Ok reply) → CopiesMade before after reply
    emptied_made before after reply empties =
        then_made after reply empties.copies (ended_by empties.copied after reply empties.ends)

  -- a round
  pub record RoundMade (before after : List Entry) (reply : RoundReply) : Type 0 where
    pub steps : List CallStep
    pub are_steps : AreStepsAmong tag before steps after
    pub is_round : IsRound ladder start.base steps
    pub one_fault : faults_in steps ≤ 1
    pub decides : Decides steps reply
    pub have_cause : (cause : List Entry → Bool) → cause before ≡ true →
        list_all (λ step. not (is_pick step.entry.kind) || list_any cause (late_pasts_of step)) steps ≡ true
    pub idle : IsLawful start contents after → is_left reply ≡ true → IsIdle steps after

  -- no pick, since there is a victim
  takes_victim : (sb : ℕ) (before now after : List Entry) (reply : RoundReply) → HasCome tag.actor before now →
      victim_of start.base now ≡ Some sb → CopiesMade sb now after reply → RoundMade before after reply
  takes_victim sb before now after reply found victim made =
      let steps : List CallStep = copies_and_erases made.copies made.erasing in
      record {
        steps = steps;
        are_steps = steps_later tag before now after steps found made.are_steps;
        is_round = record {
          picks = [];
          copies = made.copies;
          erases = made.erasing;
          are_steps = refl;
          one_pick = refl;
          are_copies = made.are_copies;
          one_erase = made.one_erase;
          ends = made.ends;
        };
        one_fault = made.one_fault;
        decides = made.decides;
        have_cause = λ cause needs. no_pick_all (λ step. list_any cause (late_pasts_of step)) steps made.no_pick;
        idle = λ lawful left. made.idle victim lawful left;
      }

  -- a pick
  picks_victim : (sb : ℕ) (before now after : List Entry) (reply : RoundReply) → HasCome tag.actor before now →
      CopiesMade sb (entry_of tag (Kind.Pick sb) ∷ now) after reply → RoundMade before after reply
  unfolding in_write in_collect
  picks_victim sb before now after reply found made =
      let picked : CallStep = made_step tag (Kind.Pick sb) now in
      let later : List CallStep = copies_and_erases made.copies made.erasing in
      record {
        steps = picked ∷ later;
        are_steps = (found, refl, made.are_steps);
        is_round = record {
          picks = picked ∷ [];
          copies = made.copies;
          erases = made.erasing;
          are_steps = refl;
          one_pick = refl;
          are_copies = made.are_copies;
          one_erase = made.one_erase;
          ends = made.ends;
        };
        one_fault =
            let sums = faults_join (picked ∷ []) later refl in let few = made.one_fault in omega (arith, sums, few);
        decides =
            decides_then (picked ∷ []) later reply
            (decides_one tag (Kind.Pick sb) now round.Left refl refl refl refl) made.decides;
        have_cause = λ cause needs.
            let late : list_any cause (late_pasts tag.actor now) ≡ true = late_has tag.actor cause before now found needs in
            rw late (no_pick_all (λ step. list_any cause (late_pasts_of step)) later made.no_pick);
        idle = λ lawful left.
            let there : IsLawful start contents (entry_of tag (Kind.Pick sb) ∷ now) =
            lawful_among ladder start.base tag (entry_of tag (Kind.Pick sb) ∷ now) after later made.are_steps lawful in
            elim (made.idle (picked_is_victim ladder start.base tag sb now there) lawful left) [
              | inl stay ↦ inl (ends_with_stay (picked ∷ []) later stay)
              | inr none ↦ inr none
            ];
      }

  -- nothing may be picked
  picks_none : (before after : List Entry) → HasCome tag.actor before after → victim_of start.base after ≡ None →
      RoundMade before after round.Left
  picks_none before after found none = record {
    steps = [];
    are_steps = found;
    is_round = record {
      picks = [];
      copies = [];
      erases = [];
      are_steps = refl;
      one_pick = refl;
      are_copies = All-nil (IsVictimCopy ladder start.base);
      one_erase = refl;
      ends = refl;
    };
    one_fault = omega arith;
    decides = decides_none;
    have_cause = λ cause needs. refl;
    idle = λ lawful left.
        let count : live_of_victim start.base after ≡ 0 = rw (none, live_of_victim) refl in
        inr (late_here tag.actor nothing_live after (ap (λ (n : ℕ). n == 0) count));
  }

  by_pick : (before now picked after : List Entry) (answer : PickAnswer) (reply : RoundReply) → HasCome tag.actor before now →
      MakesPick (OfBase start.base) tag now answer picked →
      FollowsPick start contents caller tag answer picked after (Ok reply) → RoundMade before after reply
  by_pick before now picked after (pick.Busy sb) reply found made follow =
      takes_victim sb before now after reply found made.1
      (subst (λ (past : List Entry). CopiesMade sb past after reply) made.0 (emptied_made sb picked after reply follow))
  by_pick before now picked after pick.ReadOnly reply found made follow =
      let same : after ≡ now = follow.0 ∙ made.0 in
      subst (RoundMade before after) (sym (ok_is reply round.Left follow.1))
      (picks_none before after (came_then tag.actor before now after found (came_same tag.actor now after same))
      (ap (victim_of start.base) same ∙ made.1.0))
  by_pick before now picked after pick.NoGarbage reply found made follow =
      let same : after ≡ now = follow.0 ∙ made.0 in
      subst (RoundMade before after) (sym (ok_is reply round.Left follow.1))
      (picks_none before after (came_then tag.actor before now after found (came_same tag.actor now after same))
      (ap (victim_of start.base) same ∙ made.1.0))
  by_pick before now picked after (pick.Picked sb) reply found made follow =
      picks_victim sb before now after reply found
      (subst (λ (past : List Entry). CopiesMade sb past after reply) made.0 (emptied_made sb picked after reply follow))

  pub round_made : (before after : List Entry) (reply : RoundReply) →
      HasPicked start contents caller tag before after (Ok reply) → RoundMade before after reply
  round_made before after reply has =
      by_pick before has.picks.0 has.picked after has.answer reply
      (came (having_seen caller before) tag has.picks.0 has.picks.1) has.picks.3 has.follows

left_none : (erase fault : Bool) (reply : RoundReply) → (erase || fault) ≡ not (is_left reply) → is_left reply ≡ true →
    erase ≡ false
left_none erase fault reply done left =
    (or_parts erase fault (done ∙ ap (λ (b : Bool). not b) left)).0

pub rounds_among : RoundsAmongAreRounds
rounds_among start contents caller tag before after reply round =
    let made = round_made start contents caller tag before after reply round in
    record {
      steps = made.steps;
      are_steps = made.are_steps;
      is_round = made.is_round;
      fault_is = made.decides.fault_is;
      left_none = left_none (has_erase made.steps) (has_fault made.steps) reply made.decides.done_is;
      reply_is = ap (λ (decided : Option Reply). unwrap_or decided Reply.Idle) made.decides.collects_is ∙ round_so reply;
    }
