-- The rounds that a call makes which is served alone have the form of a round, and by their end it is known whether they have
-- a failed die call, an erase or a stay.
use Rattle.std.proofs.Common.{ℕ, ◌≡◌, ◌+◌, ◌≤◌, Bool, true, false, cond, List, [], ◌∷◌, ◌++◌, None, refl, sym, subst, ◌∙◌, inl, inr, append_assoc, append-nil, arith}
use Rattle.std.specs.Prelude.{◌⊎◌, All, IsTrue, flat_map}
use Rattle.std.specs.List.{list_all, list_any}
use Rattle.std.proofs.lemmas.List.Elements.{All-nil, All-cons}
use Rattle.std.proofs.lemmas.List.Folds.{list_any-append}
use Rattle.std.proofs.lemmas.List.Sums.{sum_by-append}
use Rattle.ssd_histories.specs.CallSteps.{CallStep, is_erase_or_bad_erase, is_fault, is_pick, late_pasts}
use Rattle.ssd_geo.specs.Ladder.{LadderState}
use Rattle.ssd_histories.specs.Room.{live_of_victim, victim_of}
use Rattle.ssd_histories.specs.Rounds.{IsRound, IsVictimCopy, ends_in_stay, has_cause_to_pick, has_erase, has_fault, is_at_most_one, is_ended_by_last, needs_room}
use Rattle.ssd_histories.specs.SerialCalls.{AreStepsFrom, IsSerialCopy, RoundEnd, SerialCopies, SerialRound, copy_faults, entry_of, erase_faults, erased, erases, faulted, finds_none, goes_on, left, picks, retired, retires, stays, takes}
use Rattle.ssd_geo.specs.declared.base.ChannelBase.{ChannelBase}
use Rattle.ssd_geo.specs.declared.entry.Entry.{Entry}
use Rattle.ssd_geo.specs.declared.kind.Kind.{Kind}
use Rattle.ssd_geo.specs.declared.tag.Tag.{Tag}
use Rattle.serial_laws.proofs.LookLists.{IsCopyMade, by_kind, copy_is_made, ends_with_stay, no_more_than_any}
use Rattle.serial_laws.proofs.MadeSteps.{faults_in, one_step_is, steps_join}
use Rattle.std.proofs.lemmas.Bool.{or_parts}

-- tests over steps that are joined
pub none_in_both : (p : CallStep → Bool) (xs ys : List CallStep) → list_any p xs ≡ false → list_any p ys ≡ false →
    list_any p (xs ++ ys) ≡ false
none_in_both p xs ys first second = list_any-append p xs ys ∙ rw first second

pub some_in_last : (p : CallStep → Bool) (xs ys : List CallStep) → list_any p xs ≡ false → list_any p ys ≡ true →
    list_any p (xs ++ ys) ≡ true
some_in_last p xs ys first second = list_any-append p xs ys ∙ rw first second

pub faults_join : (xs ys : List CallStep) → has_fault xs ≡ false → faults_in (xs ++ ys) ≡ faults_in ys
faults_join xs ys none =
    let sums = sum_by-append (λ (step : CallStep). cond (is_fault step.entry.kind) 1 0) xs ys in
    let first = no_more_than_any (by_kind is_fault) xs none in
    omega (arith, sums, first)

-- how a round ended, by its steps
abbrev pub EndsAs : ChannelBase → List Entry → List CallStep → RoundEnd → Type 0
EndsAs base after steps left =
    (has_fault steps ≡ false) × (has_erase steps ≡ false) × ((ends_in_stay steps ≡ true) ⊎ (live_of_victim base after ≡ 0))
EndsAs base after steps erased = (has_fault steps ≡ false) × (has_erase steps ≡ true)
EndsAs base after steps retired = (has_fault steps ≡ false) × (has_erase steps ≡ true)
EndsAs base after steps faulted = has_fault steps ≡ true

-- it ends so too with steps before it that have neither a fault nor an erase
ends_after : (base : ChannelBase) (after : List Entry) (xs ys : List CallStep) (end : RoundEnd) → has_fault xs ≡ false →
    has_erase xs ≡ false → EndsAs base after ys end → EndsAs base after (xs ++ ys) end
ends_after base after xs ys left no_fault no_erase ended = (
  none_in_both (by_kind is_fault) xs ys no_fault ended.0,
  none_in_both (by_kind is_erase_or_bad_erase) xs ys no_erase ended.1,
  elim ended.2 [
    | inl stay ↦ inl (ends_with_stay xs ys stay)
    | inr none ↦ inr none
  ],
)
ends_after base after xs ys erased no_fault no_erase ended =
    (none_in_both (by_kind is_fault) xs ys no_fault ended.0, some_in_last (by_kind is_erase_or_bad_erase) xs ys no_erase ended.1)
ends_after base after xs ys retired no_fault no_erase ended =
    (none_in_both (by_kind is_fault) xs ys no_fault ended.0, some_in_last (by_kind is_erase_or_bad_erase) xs ys no_erase ended.1)
ends_after base after xs ys faulted no_fault no_erase ended = some_in_last (by_kind is_fault) xs ys no_fault ended

-- the copies of a round and the erases after them, one after the other
abbrev pub copies_and_erases : List (List CallStep) → List CallStep → List CallStep
copies_and_erases copies erasing = flat_map (λ copy. copy) copies ++ erasing

-- the part of a round after its pick
pub record AreCopiesMade (ladder : List Entry → ℕ → LadderState) (base : ChannelBase) (tag : Tag) (before after : List Entry)
    (end : RoundEnd) : Type 0 where
  pub copies : List (List CallStep)
  pub erasing : List CallStep
  pub are_steps : AreStepsFrom tag before (copies_and_erases copies erasing) after
  pub are_copies : All (IsVictimCopy ladder base) copies
  pub one_erase : IsTrue (is_at_most_one is_erase_or_bad_erase erasing)
  pub ends : IsTrue (is_ended_by_last copies erasing)
  pub no_pick : list_any (by_kind is_pick) (copies_and_erases copies erasing) ≡ false
  pub one_fault : faults_in (copies_and_erases copies erasing) ≤ 1
  pub ends_as : EndsAs base after (copies_and_erases copies erasing) end

module _ (ladder : List Entry → ℕ → LadderState) (base : ChannelBase) (tag : Tag) where
  copy_goes_on : (before between after : List Entry) (end : RoundEnd) →
      IsSerialCopy ladder base tag before between false false → AreCopiesMade ladder base tag between after end →
      AreCopiesMade ladder base tag before after end
  copy_goes_on before between after end copy rest =
      let later : List CallStep = copies_and_erases rest.copies rest.erasing in
      let made : IsCopyMade copy.steps = copy_is_made ladder copy.steps copy.is_copy.look copy.is_copy.is_copy in
      let joined : copy.steps ++ later ≡ copies_and_erases (copy.steps ∷ rest.copies) rest.erasing =
      sym (append_assoc copy.steps (flat_map (λ copy. copy) rest.copies) rest.erasing) in
      record {
        copies = copy.steps ∷ rest.copies;
        erasing = rest.erasing;
        are_steps = subst (λ steps. AreStepsFrom tag before steps after) joined
            (steps_join tag before between after copy.steps later copy.are_steps rest.are_steps);
        are_copies = All-cons (IsVictimCopy ladder base) copy.steps rest.copies copy.is_copy rest.are_copies;
        one_erase = rest.one_erase;
        ends = rw copy.ends_is rest.ends;
        no_pick =
            subst (λ (steps : List CallStep). list_any (by_kind is_pick) steps ≡ false) joined
            (none_in_both (by_kind is_pick) copy.steps later made.no_pick rest.no_pick);
        one_fault =
            subst (λ (steps : List CallStep). faults_in steps ≤ 1) joined
            (let sums = faults_join copy.steps later copy.fault_is in let few = rest.one_fault in omega (arith, sums, few));
        ends_as =
            subst (λ (steps : List CallStep). EndsAs base after steps end) joined
            (ends_after base after copy.steps later end copy.fault_is made.no_erase rest.ends_as);
      }

  -- a copy that ends its round
  last_copy : (before after : List Entry) (fault : Bool) (end : RoundEnd) →
      (copy : IsSerialCopy ladder base tag before after true fault) → EndsAs base after copy.steps end →
      AreCopiesMade ladder base tag before after end
  last_copy before after fault end copy ended =
      let made : IsCopyMade copy.steps = copy_is_made ladder copy.steps copy.is_copy.look copy.is_copy.is_copy in
      let alone : copy.steps ≡ copies_and_erases (copy.steps ∷ []) [] =
      sym (append-nil copy.steps) ∙ sym (append-nil (copy.steps ++ [])) in
      record {
        copies = copy.steps ∷ [];
        erasing = [];
        are_steps = subst (λ steps. AreStepsFrom tag before steps after) alone copy.are_steps;
        are_copies = All-cons (IsVictimCopy ladder base) copy.steps [] copy.is_copy (All-nil (IsVictimCopy ladder base));
        one_erase = refl;
        ends = rw copy.ends_is refl;
        no_pick = subst (λ (steps : List CallStep). list_any (by_kind is_pick) steps ≡ false) alone made.no_pick;
        one_fault = subst (λ (steps : List CallStep). faults_in steps ≤ 1) alone made.one_fault;
        ends_as = subst (λ (steps : List CallStep). EndsAs base after steps end) alone ended;
      }

  -- no copy, and an erase or a failed one
  only_erase : (before : List Entry) (kind : Kind) (end : RoundEnd) → is_erase_or_bad_erase kind ≡ true → is_pick kind ≡ false →
      EndsAs base (entry_of tag kind ∷ before) (record { past = before; entry = entry_of tag kind } ∷ []) end →
      AreCopiesMade ladder base tag before (entry_of tag kind ∷ before) end
  only_erase before kind end is_one no_pick ended = record {
    copies = [];
    erasing = record { past = before; entry = entry_of tag kind } ∷ [];
    are_steps = one_step_is tag (entry_of tag kind) before refl;
    are_copies = All-nil (IsVictimCopy ladder base);
    one_erase = is_one;
    ends = refl;
    no_pick = rw no_pick refl;
    one_fault = at_most_one (is_fault kind);
    ends_as = ended;
  }
    where
      at_most_one : (b : Bool) → 0 + cond b 1 0 ≤ 1
      at_most_one true = omega arith
      at_most_one false = omega arith

  nothing_made : (before : List Entry) → victim_of base before ≡ None → AreCopiesMade ladder base tag before before left
  nothing_made before none = record {
    copies = [];
    erasing = [];
    are_steps = refl;
    are_copies = All-nil (IsVictimCopy ladder base);
    one_erase = refl;
    ends = refl;
    no_pick = refl;
    one_fault = omega arith;
    ends_as = (refl, refl, inr (rw (none, live_of_victim) refl));
  }

  pub copies_are_made : {before after : List Entry} {end : RoundEnd} → SerialCopies ladder base tag before after end →
      AreCopiesMade ladder base tag before after end
  copies_are_made {before} {after} {end} (goes_on {between = between} copy rest) =
      copy_goes_on before between after end copy (copies_are_made rest)
  copies_are_made {before} {after} (stays copy) =
      let made : IsCopyMade copy.steps = copy_is_made ladder copy.steps copy.is_copy.look copy.is_copy.is_copy in
      last_copy before after false left copy (copy.fault_is, made.no_erase, inl (made.stays copy.ends_is copy.fault_is))
  copies_are_made {before} {after} (copy_faults copy) = last_copy before after true faulted copy copy.fault_is
  copies_are_made {before} (erases {sb = sb} victim none) = only_erase before (Kind.Erase sb) erased refl refl (refl, refl)
  copies_are_made {before} (retires {sb = sb} {die = die} victim none) =
      only_erase before (Kind.BadErase sb die false) retired refl refl (refl, refl)
  copies_are_made {before} (erase_faults {sb = sb} {die = die} victim none) =
      only_erase before (Kind.BadErase sb die true) faulted refl refl refl
  copies_are_made {before} (finds_none none) = nothing_made before none

-- a step that is no pick has a cause, and a pick has one where room was needed
no_pick_has_cause : (base : ChannelBase) (steps : List CallStep) → list_any (by_kind is_pick) steps ≡ false →
    list_all (has_cause_to_pick base) steps ≡ true
no_pick_has_cause base [] none = refl
no_pick_has_cause base (step ∷ steps) none =
    let parts = or_parts (is_pick step.entry.kind) (list_any (by_kind is_pick) steps) none in
    rw parts.0 (no_pick_has_cause base steps parts.1)

pub held_late : (test : List Entry → Bool) (actor : ℕ) (past : List Entry) → test past ≡ true →
    list_any test (late_pasts actor past) ≡ true
held_late test actor [] holds = rw holds refl
held_late test actor (entry ∷ past) holds = rw holds refl

-- a round
pub record IsRoundMade (ladder : List Entry → ℕ → LadderState) (base : ChannelBase) (tag : Tag) (before after : List Entry)
    (end : RoundEnd) : Type 0 where
  pub steps : List CallStep
  pub are_steps : AreStepsFrom tag before steps after
  pub is_round : IsRound ladder base steps
  pub one_fault : faults_in steps ≤ 1
  pub ends_as : EndsAs base after steps end
  pub have_cause : needs_room base before ≡ true → list_all (has_cause_to_pick base) steps ≡ true

pub round_is_made : (ladder : List Entry → ℕ → LadderState) (base : ChannelBase)
    (tag : Tag) {before after : List Entry} {end : RoundEnd} → SerialRound ladder base tag before after end →
    IsRoundMade ladder base tag before after end
round_is_made ladder base tag {before} {after} {end} (picks {sb = sb} may copying) =
    let made : AreCopiesMade ladder base tag (entry_of tag (Kind.Pick sb) ∷ before) after end =
    copies_are_made ladder base tag copying in
    let pick : CallStep = record { past = before; entry = entry_of tag (Kind.Pick sb) } in
    let later : List CallStep = copies_and_erases made.copies made.erasing in
    record {
      steps = pick ∷ later;
      are_steps = (refl, refl, made.are_steps);
      is_round = record {
        picks = pick ∷ [];
        copies = made.copies;
        erases = made.erasing;
        are_steps = refl;
        one_pick = refl;
        are_copies = made.are_copies;
        one_erase = made.one_erase;
        ends = made.ends;
      };
      one_fault =
          let sums = faults_join (pick ∷ []) later refl in let few = made.one_fault in omega (arith, sums, few);
      ends_as = ends_after base after (pick ∷ []) later end refl refl made.ends_as;
      have_cause = λ needs.
          let late : list_any (needs_room base) (late_pasts tag.actor before) ≡ true =
          held_late (needs_room base) tag.actor before needs in
          rw late (no_pick_has_cause base later made.no_pick);
    }
round_is_made ladder base tag {before} {after} {end} (takes may_not copying) =
    let made : AreCopiesMade ladder base tag before after end = copies_are_made ladder base tag copying in
    record {
      steps = copies_and_erases made.copies made.erasing;
      are_steps = made.are_steps;
      is_round = record {
        picks = [];
        copies = made.copies;
        erases = made.erasing;
        are_steps = refl;
        one_pick = refl;
        are_copies = made.are_copies;
        one_erase = made.one_erase;
        ends = made.ends;
      };
      one_fault = made.one_fault;
      ends_as = made.ends_as;
      have_cause = λ needs. no_pick_has_cause base (copies_and_erases made.copies made.erasing) made.no_pick;
    }
