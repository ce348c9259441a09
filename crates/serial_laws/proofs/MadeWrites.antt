-- A write that is served alone has the form of a write: rounds, each pick with its cause, and writes that answered FAIL, and
-- then its end.
use Rattle.std.proofs.Common.{ℕ, ◌≡◌, ◌+◌, ◌≤◌, Bool, true, false, cond, List, [], ◌∷◌, ◌++◌, refl, sym, ap, ◌∙◌, inl, inr, append_assoc, arith}
use Rattle.std.specs.Prelude.{flat_map}
use Rattle.std.specs.List.{list_all}
use Rattle.std.proofs.lemmas.Bool.{false≢true}
use Rattle.std.proofs.lemmas.List.Elements.{All-nil, All-cons}
use Rattle.std.proofs.lemmas.List.Folds.{list_all-append}
use Rattle.ssd_histories.specs.CallSteps.{CallStep, is_fault}
use Rattle.ssd_geo.specs.Ladder.{LadderState}
use Rattle.ssd_histories.specs.Rounds.{IsWrite, IsWriteEnd, IsWritePart, has_cause_to_pick, has_fault}
use Rattle.ssd_histories.specs.SerialCalls.{AreStepsFrom, RoundEnd, SerialWrite, entry_of, erased, faulted, is_faultless, is_refused, left, makes_room, retired, round_faults, write_faults, writes, writes_again}
use Rattle.ssd_geo.specs.declared.base.ChannelBase.{ChannelBase}
use Rattle.ssd_geo.specs.declared.entry.Entry.{Entry}
use Rattle.ssd_geo.specs.declared.kind.Kind.{Kind}
use Rattle.ssd_geo.specs.declared.tag.Tag.{Tag}
use Rattle.serial_laws.proofs.MadeRounds.{EndsAs, IsRoundMade, faults_join, round_is_made}
use Rattle.serial_laws.proofs.MadeSteps.{faults_in, one_step_is, steps_join}
use Rattle.shared_lemmas.proofs.Tests.{same_number}

-- the one step of an entry
abbrev pub one_step : Tag → Kind → List Entry → List CallStep
one_step tag kind past = record { past = past; entry = entry_of tag kind } ∷ []

pub one_fault_in_one : (tag : Tag) (kind : Kind) (past : List Entry) → faults_in (one_step tag kind past) ≤ 1
one_fault_in_one tag kind past = at_most_one (is_fault kind)
  where
    at_most_one : (b : Bool) → 0 + cond b 1 0 ≤ 1
    at_most_one true = omega arith
    at_most_one false = omega arith

-- no die's call failed in a round after which a call goes on
pub faultless_round : (base : ChannelBase) (after : List Entry) (steps : List CallStep) (end : RoundEnd) →
    is_faultless end ≡ true → EndsAs base after steps end → has_fault steps ≡ false
faultless_round base after steps left goes ended = ended.0
faultless_round base after steps erased goes ended = ended.0
faultless_round base after steps retired goes ended = ended.0
faultless_round base after steps faulted goes ended = absurd (false≢true goes)

module _ (ladder : List Entry → ℕ → LadderState) (base : ChannelBase) (tag : Tag) (row : ℕ) where
  -- a write
  pub record IsWriteMade (before after : List Entry) : Type 0 where
    pub steps : List CallStep
    pub are_steps : AreStepsFrom tag before steps after
    pub is_write : IsWrite ladder base row steps
    pub one_fault : faults_in steps ≤ 1

  -- its last part alone, and one more part before it
  ends_alone : (before after : List Entry) (steps : List CallStep) → AreStepsFrom tag before steps after →
      IsWriteEnd ladder base row steps → list_all (has_cause_to_pick base) steps ≡ true → faults_in steps ≤ 1 →
      IsWriteMade before after
  ends_alone before after steps are end causes few = record {
    steps = steps;
    are_steps = are;
    is_write = record {
      parts = [];
      last = steps;
      are_steps = refl;
      are_parts = All-nil (IsWritePart ladder base row);
      ends = end;
      have_cause = causes;
    };
    one_fault = few;
  }

  part_before : (before between after : List Entry) (part : List CallStep) → AreStepsFrom tag before part between →
      IsWritePart ladder base row part → list_all (has_cause_to_pick base) part ≡ true → has_fault part ≡ false →
      IsWriteMade between after → IsWriteMade before after
  part_before before between after part are is_part causes no_fault rest =
      let write : IsWrite ladder base row rest.steps = rest.is_write in
      record {
        steps = part ++ rest.steps;
        are_steps = steps_join tag before between after part rest.steps are rest.are_steps;
        is_write = record {
          parts = part ∷ write.parts;
          last = write.last;
          are_steps =
              ap (λ (steps : List CallStep). part ++ steps) write.are_steps
              ∙ sym (append_assoc part (flat_map (λ part. part) write.parts) write.last);
          are_parts = All-cons (IsWritePart ladder base row) part write.parts is_part write.are_parts;
          ends = write.ends;
          have_cause = list_all-append (has_cause_to_pick base) part rest.steps ∙ rw causes write.have_cause;
        };
        one_fault = let sums = faults_join part rest.steps no_fault in let few = rest.one_fault in omega (arith, sums, few);
      }

  end_entry : (before : List Entry) (kind : Kind) → IsWriteEnd ladder base row (one_step tag kind before) →
      list_all (has_cause_to_pick base) (one_step tag kind before) ≡ true → IsWriteMade before (entry_of tag kind ∷ before)
  end_entry before kind end causes =
      ends_alone before (entry_of tag kind ∷ before) (one_step tag kind before)
      (one_step_is tag (entry_of tag kind) before refl) end causes
      (one_fault_in_one tag kind before)

  pub write_is_made : {before after : List Entry} → SerialWrite ladder base tag row before after → IsWriteMade before after
  write_is_made {before} (writes {slot = slot} room) = end_entry before (Kind.Write row slot) (inl (same_number row)) refl
  write_is_made {before} (write_faults {slot = slot} {die = die} room) =
      end_entry before (Kind.BadWrite row slot die true) (inl (same_number row)) refl
  write_is_made {before} {after} (writes_again {slot = slot} {die = die} room rest) =
      part_before before (entry_of tag (Kind.BadWrite row slot die false) ∷ before) after
      (one_step tag (Kind.BadWrite row slot die false) before)
      (one_step_is tag (entry_of tag (Kind.BadWrite row slot die false)) before refl) (inl (same_number row)) refl refl
      (write_is_made rest)
  write_is_made {before} (is_refused {worn = worn} room cause) =
      end_entry before (Kind.Refused row worn) (inl (same_number row)) refl
  write_is_made {before} {after} (makes_room {between = between} {end = end} needs round goes rest) =
      let made : IsRoundMade ladder base tag before between end = round_is_made ladder base tag round in
      let no_fault : has_fault made.steps ≡ false = faultless_round base between made.steps end goes made.ends_as in
      part_before before between after made.steps made.are_steps
      (inr (record { is_round = made.is_round; no_fault = rw no_fault refl })) (made.have_cause needs) no_fault
      (write_is_made rest)
  write_is_made {before} {after} (round_faults needs round) =
      let made : IsRoundMade ladder base tag before after faulted = round_is_made ladder base tag round in
      ends_alone before after made.steps made.are_steps (inr (record { is_round = made.is_round; fault = made.ends_as }))
      (made.have_cause needs) made.one_fault
