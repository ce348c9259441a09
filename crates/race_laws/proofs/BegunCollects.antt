-- A collect that stopped among the entries of others: what it made are rounds with a note after each, and a round that lacks
-- its erase or its note; with these it would be whole.
use Rattle.std.proofs.Common.{◌≡◌, ℕ, true, false, List, [], ◌∷◌, ◌++◌, None, refl, sym, subst, ◌∙◌, ap, inl, inr, append-nil, append_assoc}
use Rattle.std.specs.Prelude.{Err, flat_map}
use Rattle.std.proofs.lemmas.List.Elements.{All-cons, All-nil}
use Rattle.std.proofs.lemmas.List.Folds.{list_any-append}
use Rattle.chan_calls.specs.Caller.{CallerView, HasStepRoom}
use Rattle.chan_calls.specs.Collecting.{MakesNote}
use Rattle.ssd_geo.specs.declared.entry.Entry.{Entry}
use Rattle.ssd_geo.specs.declared.kind.Kind.{Kind}
use Rattle.chan_tables.specs.declared.answers.Note.{Note}
use Rattle.ssd_geo.specs.declared.stop.StepStop.{StepStop}
use Rattle.ssd_geo.specs.declared.tag.Tag.{Tag}
use Rattle.ssd_histories.specs.CallSteps.{CallStep, is_erase_or_bad_erase, is_fault}
use Rattle.ssd_histories.specs.Rounds.{IsCollect, IsLeftRound, IsVictimCopy, has_erase, has_fault, is_note}
use Rattle.ssd_histories.specs.Start.{Start}
use Rattle.collector.specs.Collects.{HasNoted, LeavesOff, LeavesRounds, MakesCollectFor, MakesTurnFor}
use Rattle.collector.specs.Collects as collects
use Rattle.collector.specs.Emptying.{having_seen}
use Rattle.collector.specs.declared.replies.RoundReply.TheVariants as round
use Rattle.serial_laws.proofs.LookLists.{by_kind}
use Rattle.serial_laws.proofs.MadeRounds.{none_in_both}
use Rattle.calls_among_others.specs.CallsAmong.{ladders}
use Rattle.calls_among_others.specs.StepsAmong.{AreStepsAmong, HasCome}
use Rattle.calls_among_others.proofs.AmongCopies.{came, one_made}
use Rattle.calls_among_others.proofs.AmongHosts.{own_steps}
use Rattle.calls_among_others.proofs.AmongRounds.{RoundMade, round_made}
use Rattle.calls_among_others.proofs.AmongSteps.{among_join}
use Rattle.calls_among_others.proofs.LookSteps.{made_step}
use Rattle.race_laws.specs.BegunCalls.{CollectsStopBegun}
use Rattle.race_laws.proofs.AmongStops.{all_left, refused_came}
use Rattle.race_laws.proofs.BalancedLooks.{AreBalanced, balanced_join, left_round_balanced, round_balanced}
use Rattle.race_laws.proofs.BegunRounds.{RoundBegun, round_begun}
use Rattle.std.proofs.lemmas.Bool.{or_parts, or_left, or_right}

module _ (start : Start) (contents : List (Tag × List ℕ)) (caller : CallerView) (tag : Tag) where
  -- what a collect that stopped made, or what of it is left
  record CollectBegun (before after : List Entry) : Type 0 where
    steps : List CallStep
    rest : List CallStep
    are_steps : AreStepsAmong tag before steps after
    is_collect : IsCollect (ladders start contents) start.base (steps ++ rest)
    no_fault : has_fault steps ≡ false
    balanced : AreBalanced steps

  -- a round that leaves the collect to go on, before the steps of one
  more_collect : (part steps : List CallStep) → IsLeftRound (ladders start contents) start.base part →
      IsCollect (ladders start contents) start.base steps → IsCollect (ladders start contents) start.base (part ++ steps)
  more_collect part steps is_left collect = record {
    parts = part ∷ collect.parts;
    last = collect.last;
    are_steps =
        ap (λ (all : List CallStep). part ++ all) collect.are_steps
        ∙ sym (append_assoc part (flat_map (λ part. part) collect.parts) collect.last);
    are_parts = All-cons (IsLeftRound (ladders start contents) start.base) part collect.parts is_left collect.are_parts;
    ends = collect.ends;
  }

  -- an erase alone, and one that ends a round which stopped
  erases_once : IsCollect (ladders start contents) start.base (made_step tag (Kind.Erase 0) [] ∷ [])
  erases_once = record {
    parts = [];
    last = made_step tag (Kind.Erase 0) [] ∷ [];
    are_steps = refl;
    are_parts = All-nil (IsLeftRound (ladders start contents) start.base);
    ends = inl (record {
      is_round = record {
        picks = [];
        copies = [];
        erases = made_step tag (Kind.Erase 0) [] ∷ [];
        are_steps = refl;
        one_pick = refl;
        are_copies = All-nil (IsVictimCopy (ladders start contents) start.base);
        one_erase = refl;
        ends = refl;
      };
      is_done = refl;
    });
  }

  by_round : (before after : List Entry) → RoundBegun start contents caller tag before after → CollectBegun before after
  by_round before after begun =
      let last : List CallStep = begun.steps ++ made_step tag (Kind.Erase 0) [] ∷ [] in
      let erases : has_erase last ≡ true =
      list_any-append (λ (step : CallStep). is_erase_or_bad_erase step.entry.kind) begun.steps
      (made_step tag (Kind.Erase 0) [] ∷ [])
      ∙ or_right (has_erase begun.steps) true refl in
      record {
        steps = begun.steps;
        rest = made_step tag (Kind.Erase 0) [] ∷ [];
        are_steps = begun.are_steps;
        is_collect = record {
          parts = [];
          last = last;
          are_steps = refl;
          are_parts = All-nil (IsLeftRound (ladders start contents) start.base);
          ends = inl (record {
            is_round = begun.then_erase (made_step tag (Kind.Erase 0) []) refl;
            is_done = or_left (has_erase last) (has_fault last) erases;
          });
        };
        no_fault = begun.no_fault;
        balanced = round_balanced (ladders start contents) start.base begun.steps begun.is_round;
      }

  -- a round that left its victim, with a note after it
  left_round : (before left : List Entry) (made : RoundMade start contents caller tag before left round.Left)
      (note : CallStep) →
      is_note note.entry.kind ≡ true → IsLeftRound (ladders start contents) start.base (made.steps ++ note ∷ [])
  left_round before left made note is =
      let no_fault : has_fault made.steps ≡ false = made.decides.fault_is in
      let no_erase : has_erase made.steps ≡ false =
      (or_parts (has_erase made.steps) (has_fault made.steps) made.decides.done_is).0 in
      record {
        round = made.steps;
        note = note;
        are_steps = refl;
        is_round = record { is_round = made.is_round; no_fault = rw no_fault refl };
        no_erase = rw no_erase refl;
        is_note = is;
      }

  -- a note that was refused
  by_note : (before after : List Entry) (stop : StepStop) → HasNoted start contents caller tag before after (Err stop) →
      CollectBegun before after
  by_note before after stop has =
      let made : RoundMade start contents caller tag before has.left round.Left =
      round_made start contents caller tag before has.left round.Left has.round in
      let found : HasCome tag.actor has.left after =
      refused_came HasStepRoom (MakesNote tag) tag (having_seen caller has.left) (having_seen caller after) stop has.notes in
      let note : CallStep = made_step tag (Kind.Note 0 None 0 0 0) [] in
      let erase : CallStep = made_step tag (Kind.Erase 0) [] in
      record {
        steps = made.steps;
        rest = note ∷ erase ∷ [];
        are_steps = steps_then_came before has.left after made.steps made.are_steps found;
        is_collect =
            subst (λ (steps : List CallStep). IsCollect (ladders start contents) start.base steps)
            (append_assoc made.steps (note ∷ []) (erase ∷ []))
            (more_collect (made.steps ++ note ∷ []) (erase ∷ []) (left_round before has.left made note refl) erases_once);
        no_fault = made.decides.fault_is;
        balanced = round_balanced (ladders start contents) start.base made.steps made.is_round;
      }
    where
      steps_then_came : (before left after : List Entry) (steps : List CallStep) → AreStepsAmong tag before steps left →
          HasCome tag.actor left after → AreStepsAmong tag before steps after
      steps_then_came before left after steps are found =
          subst (λ (all : List CallStep). AreStepsAmong tag before all after) (append-nil steps)
          (among_join tag before left after steps [] are found)

  -- a round with its note that left the collect to go on
  round_before : (before between after : List Entry) → LeavesOff start contents caller tag before between →
      CollectBegun between after → CollectBegun before after
  round_before before between after off rest =
      let has = off.noted in
      let made : RoundMade start contents caller tag before has.left round.Left =
      round_made start contents caller tag before has.left round.Left has.round in
      let told : Note = off.note in
      let kind : Kind = Kind.Note told.free told.victim told.live told.pins told.garbage in
      let note : CallStep = made_step tag kind has.notes.0 in
      let part : List CallStep = made.steps ++ note ∷ [] in
      let is_left : IsLeftRound (ladders start contents) start.base part = left_round before has.left made note refl in
      let noted : AreStepsAmong tag has.left (note ∷ []) between =
      one_made tag kind has.left has.notes.0 between (came (having_seen caller has.left) tag has.notes.0 has.notes.1)
      has.notes.3 in
      let made_part : AreStepsAmong tag before part between =
      among_join tag before has.left between made.steps (note ∷ []) made.are_steps noted in
      let no_fault : has_fault part ≡ false =
      none_in_both (by_kind is_fault) made.steps (note ∷ []) made.decides.fault_is refl in
      record {
        steps = part ++ rest.steps;
        rest = rest.rest;
        are_steps = among_join tag before between after part rest.steps made_part rest.are_steps;
        is_collect =
            subst (λ (steps : List CallStep). IsCollect (ladders start contents) start.base steps)
            (sym (append_assoc part rest.steps rest.rest))
            (more_collect part (rest.steps ++ rest.rest) is_left rest.is_collect);
        no_fault = none_in_both (by_kind is_fault) part rest.steps no_fault rest.no_fault;
        balanced =
            balanced_join part rest.steps (left_round_balanced (ladders start contents) start.base part is_left) rest.balanced;
      }

  then_rounds : {before between : List Entry} (after : List Entry) → LeavesRounds start contents caller tag before between →
      CollectBegun between after → CollectBegun before after
  then_rounds after collects.none_yet rest = rest
  then_rounds {before} {between} after (collects.one_more {between = older} often off) rest =
      then_rounds after often (round_before older between after off rest)

  last_begun : (before after : List Entry) (stop : StepStop) →
      MakesTurnFor start contents caller tag before after (Err stop) → CollectBegun before after
  last_begun before after stop (inl stopped) =
      by_round before after (round_begun start contents caller tag before after stop stopped)
  last_begun before after stop (inr has) = by_note before after stop has

  collect_begun : (before after : List Entry) (stop : StepStop) →
      MakesCollectFor start contents caller tag before after (Err stop) → CollectBegun before after
  collect_begun before after stop made = then_rounds after made.rounds (last_begun made.between after stop made.last)

pub collects_stop : CollectsStopBegun
collects_stop start contents channels channel caller tag before after stop made =
    let begun : CollectBegun start contents caller tag before after =
    collect_begun start contents caller tag before after stop made in
    record {
      steps = begun.steps;
      rest = begun.rest;
      are_steps = begun.are_steps;
      of_verb = own_steps channel _ _ begun.is_collect;
      no_fault = begun.no_fault;
      leaves_all = all_left start contents tag before after begun.steps begun.are_steps begun.balanced;
    }
