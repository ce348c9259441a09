-- A write that stopped among the entries of others: what it made are programs that answered FAIL and rounds, the last of
-- which may lack its erase; refused for want of room it would be whole.
use Rattle.std.proofs.Common.{◌≡◌, ℕ, ◌/◌, ◌%◌, true, false, List, [], ◌∷◌, ◌++◌, None, refl, sym, subst, ◌∙◌, ap, inl, inr, append_assoc}
use Rattle.std.specs.Prelude.{Ok, Err, flat_map}
use Rattle.std.specs.List.{list_all}
use Rattle.std.proofs.lemmas.List.Elements.{All-cons, All-nil}
use Rattle.std.proofs.lemmas.List.Folds.{list_all-append}
use Rattle.std.proofs.lemmas.Option.{none-some}
use Rattle.chan_calls.specs.Caller.{CallerView, HasStepRoom}
use Rattle.chan_calls.specs.Stepping.{MakesWrite}
use Rattle.chan_state.specs.declared.answers.WriteAnswer.TheVariants as write
use Rattle.ssd_geo.specs.declared.entry.Entry.{Entry}
use Rattle.ssd_geo.specs.declared.kind.Kind.{Kind}
use Rattle.ssd_geo.specs.declared.stop.StepStop.{StepStop}
use Rattle.ssd_geo.specs.declared.tag.Tag.{Tag}
use Rattle.ssd_histories.specs.CallSteps.{CallStep, is_fault}
use Rattle.ssd_histories.specs.Rounds.{IsWrite, IsWritePart, has_cause_to_pick, has_fault, needs_room}
use Rattle.ssd_histories.specs.Start.{Start}
use Rattle.collector.specs.Emptying.{OfBase, having_seen}
use Rattle.collector.specs.Writes.{HasMadeRoom, IsToWrite, MakesWriteFor, TurnsWriteFor, WritesOften, WritesOn, by_fail, by_room, reply_of_round}
use Rattle.collector.specs.Writes as turns
use Rattle.collector.specs.declared.replies.RoundReply.{RoundReply}
use Rattle.collector.specs.declared.replies.RoundReply.TheVariants as round
use Rattle.collector.specs.declared.replies.WriteReply.TheVariants as written
use Rattle.serial_laws.proofs.LookLists.{by_kind}
use Rattle.serial_laws.proofs.MadeRounds.{none_in_both}
use Rattle.calls_among_others.specs.CallsAmong.{ladders}
use Rattle.calls_among_others.specs.Parts.{is_round_fault}
use Rattle.calls_among_others.specs.StepsAmong.{AreStepsAmong, HasCome}
use Rattle.calls_among_others.proofs.AmongCopies.{came, one_made}
use Rattle.calls_among_others.proofs.AmongHosts.{own_steps}
use Rattle.calls_among_others.proofs.AmongRounds.{RoundMade, round_made}
use Rattle.calls_among_others.proofs.AmongSteps.{among_join, came_same, came_then, steps_later}
use Rattle.calls_among_others.proofs.LookSteps.{made_step}
use Rattle.race_laws.specs.BegunCalls.{WritesStopBegun}
use Rattle.race_laws.proofs.AmongStops.{all_left, refused_came}
use Rattle.race_laws.proofs.BalancedLooks.{AreBalanced, balanced_join, write_part_balanced}
use Rattle.race_laws.proofs.BegunRounds.{RoundBegun, round_begun}
use Rattle.shared_lemmas.proofs.Tests.{same_number}
use Rattle.calls_among_others.proofs.AmongWrites.{goes_on_faultless}

module _ (start : Start) (contents : List (Tag × List ℕ)) (caller : CallerView) (tag : Tag) (row : ℕ) where
  -- what a write that stopped made, or what of it is left
  record WriteBegun (before after : List Entry) : Type 0 where
    steps : List CallStep
    are_steps : AreStepsAmong tag before steps after
    is_write : IsWrite (ladders start contents) start.base row (steps ++ made_step tag (Kind.Refused row false) [] ∷ [])
    no_fault : has_fault steps ≡ false
    balanced : AreBalanced steps

  none_written : (before after : List Entry) → HasCome tag.actor before after → WriteBegun before after
  none_written before after found = record {
    steps = [];
    are_steps = found;
    is_write = record {
      parts = [];
      last = made_step tag (Kind.Refused row false) [] ∷ [];
      are_steps = refl;
      are_parts = All-nil (IsWritePart (ladders start contents) start.base row);
      ends = inl (same_number row);
      have_cause = refl;
    };
    no_fault = refl;
    balanced = refl;
  }

  -- a part that a turn made, after which the write goes on
  record TurnMade (before between : List Entry) : Type 0 where
    part : List CallStep
    are_steps : AreStepsAmong tag before part between
    is_part : IsWritePart (ladders start contents) start.base row part
    have_cause : list_all (has_cause_to_pick start.base) part ≡ true
    no_fault : has_fault part ≡ false

  then_begun : (before between after : List Entry) → TurnMade before between → WriteBegun between after →
      WriteBegun before after
  then_begun before between after turn rest =
      let refused : List CallStep = made_step tag (Kind.Refused row false) [] ∷ [] in
      let write : IsWrite (ladders start contents) start.base row (rest.steps ++ refused) = rest.is_write in
      record {
        steps = turn.part ++ rest.steps;
        are_steps = among_join tag before between after turn.part rest.steps turn.are_steps rest.are_steps;
        is_write = record {
          parts = turn.part ∷ write.parts;
          last = write.last;
          are_steps =
              append_assoc turn.part rest.steps refused
              ∙ ap (λ (steps : List CallStep). turn.part ++ steps) write.are_steps
              ∙ sym (append_assoc turn.part (flat_map (λ part. part) write.parts) write.last);
          are_parts =
              All-cons (IsWritePart (ladders start contents) start.base row) turn.part write.parts turn.is_part write.are_parts;
          ends = write.ends;
          have_cause =
              ap (list_all (has_cause_to_pick start.base)) (append_assoc turn.part rest.steps refused)
              ∙ list_all-append (has_cause_to_pick start.base) turn.part (rest.steps ++ refused)
              ∙ rw turn.have_cause write.have_cause;
        };
        no_fault = none_in_both (by_kind is_fault) turn.part rest.steps turn.no_fault rest.no_fault;
        balanced =
            balanced_join turn.part rest.steps
            (write_part_balanced (ladders start contents) start.base row turn.part turn.is_part) rest.balanced;
      }

  -- the past at which the write's own step needed room
  record RoomNeeded (before needed : List Entry) : Type 0 where
    found : HasCome tag.actor before needed
    needs : needs_room start.base needed ≡ true

  room_needed : (before needed : List Entry) →
      IsToWrite start.base caller tag row before needed (Ok write.NeedRoom) → RoomNeeded before needed
  room_needed before needed tried = record {
    found =
        came_then tag.actor before tried.0 needed (came (having_seen caller before) tag tried.0 tried.1)
        (came_same tag.actor tried.0 needed tried.3.0);
    needs = subst (λ (past : List Entry). needs_room start.base past ≡ true) (sym tried.3.0) tried.3.1;
  }

  turn_made : (before between : List Entry) → WritesOn start contents caller tag row before between → TurnMade before between
  turn_made before between (by_fail sb tried) =
      let made = tried.3 in
      let kind : Kind = Kind.BadWrite row made.0 made.1 false in
      record {
        part = made_step tag kind tried.0 ∷ [];
        are_steps = one_made tag kind before tried.0 between (came (having_seen caller before) tag tried.0 tried.1) made.3;
        is_part = inl (same_number row);
        have_cause = refl;
        no_fault = refl;
      }
  turn_made before between (by_room ended made is) =
      let room : RoomNeeded before made.needed = room_needed before made.needed made.tried in
      let whole : RoundMade start contents caller tag made.needed between ended =
      round_made start contents caller tag made.needed between ended made.round in
      let no_fault : has_fault whole.steps ≡ false = whole.decides.fault_is ∙ goes_on_faultless ended is in
      record {
        part = whole.steps;
        are_steps = steps_later tag before made.needed between whole.steps room.found whole.are_steps;
        is_part = inr (record { is_round = whole.is_round; no_fault = rw no_fault refl });
        have_cause = whole.have_cause (needs_room start.base) room.needs;
        no_fault = no_fault;
      }

  then_turns : {before between : List Entry} (after : List Entry) → WritesOften start contents caller tag row before between →
      WriteBegun between after → WriteBegun before after
  then_turns after turns.none_yet rest = rest
  then_turns {before} {between} after (turns.one_more {between = older} often on) rest =
      then_turns after often (then_begun older between after (turn_made older between on) rest)

  last_begun : (before after : List Entry) (stop : StepStop) →
      TurnsWriteFor start contents caller tag row before after (Err stop) → WriteBegun before after
  last_begun before after stop (inl refused) =
      none_written before after
      (refused_came HasStepRoom (MakesWrite (OfBase start.base) tag row) tag (having_seen caller before)
      (having_seen caller after) stop refused)
  last_begun before after stop (inr made) =
      let room : RoomNeeded before made.needed = room_needed before made.needed made.tried in
      let begun : RoundBegun start contents caller tag made.needed after =
      round_begun start contents caller tag made.needed after stop made.round in
      let no_fault : has_fault begun.steps ≡ false = begun.no_fault in
      then_begun before after after
      (record {
        part = begun.steps;
        are_steps = steps_later tag before made.needed after begun.steps room.found begun.are_steps;
        is_part = inr (record { is_round = begun.is_round; no_fault = rw no_fault refl });
        have_cause = begun.have_cause (needs_room start.base) room.needs;
        no_fault = no_fault;
      })
      (none_written after after (came_same tag.actor after after refl))

  write_begun : (before after : List Entry) (stop : StepStop) →
      MakesWriteFor start contents caller tag row before after (Err stop) → WriteBegun before after
  write_begun before after stop made = then_turns after made.turns (last_begun made.between after stop made.last)

pub writes_stop : WritesStopBegun
writes_stop start contents channels page content caller tag before after stop made =
    let begun : WriteBegun start contents caller tag (page / channels) before after =
    write_begun start contents caller tag (page / channels) before after stop made in
    record {
      steps = begun.steps;
      rest = made_step tag (Kind.Refused (page / channels) false) [] ∷ [];
      are_steps = begun.are_steps;
      of_verb = own_steps (page % channels) _ _ begun.is_write;
      no_fault = begun.no_fault;
      leaves_all = all_left start contents tag before after begun.steps begun.are_steps begun.balanced;
    }
