-- What becomes of one die becomes of the list of dies, and the dies stay mounted.
use Rattle.std.proofs.Common.{◌≡◌, ℕ, ◌<◌, true, Result, Ok, Err, List, length, map, set, get_or, sym, subst, ap, ◌∙◌, refl, inl, inr, arith, length-set, get_or-set_same}
use Rattle.std.specs.Prelude.{Option, IsSomeAnd, is_some, OnErr, OnOk}
use Rattle.std.proofs.lemmas.Bool.{cases_eq}
use Rattle.std.proofs.lemmas.List.{get_or-map, get_or-set_other, length-map, map-set}
use Rattle.ssd_geo.specs.BlockCells.{BlockCells}
use Rattle.ssd_geo.specs.declared.shape.Shape.{Shape}
use Rattle.onfi_cmd.specs.DieState.{DieState}
use Rattle.onfi_cmd.specs.declared.plan.DiePlan.{DiePlan}
use Rattle.chan_dies.specs.DiesState.{AreMounted, IsMountedDie, IsPlanOf, DiesState, die_at, no_die}
use Rattle.chan_dies.specs.OneDie.{AgesBlock, ChangesDie, ChangesOneDie, ErasesBlock, FaultsDie, HoldsNow, KeepsDie, PutsPage}
use Rattle.chan_dies.specs.Operations.{EndsAs}
use Rattle.chan_dies.specs.declared.one_die.DieEnd.{DieEnd}

-- a die of the list is seen as itself
pub seen_at : {D : Type 0} (state : D → DieState) (dies : List D) (i : ℕ) (one : D) → i < length dies → one ≡ get_or dies i one →
    die_at (map state dies) i ≡ state one
seen_at state dies i one within is = get_or-map state dies i one no_die within ∙ ap state (sym is)

-- one die is another now
pub one_changed : {D : Type 0} (state : D → DieState) (dies : List D) (i : ℕ) (one other : D) (P : DieState → DieState → Type 0) →
    i < length dies → one ≡ get_or dies i one → P (state one) (state other) → ChangesDie i P (map state dies) (map state (set dies i other))
one_changed state dies i one other P within is h =
    let replaced : map state (set dies i other) ≡ set (map state dies) i (state other) = map-set state dies i other in
    let count : length (map state dies) ≡ length dies = length-map dies state in
    let new_at : die_at (map state (set dies i other)) i ≡ state other =
    ap (λ (states : List DieState). die_at states i) replaced
    ∙ get_or-set_same (map state dies) i (state other) no_die (omega arith) in
    record {
      count_stays = ap (λ (states : List DieState). length states) replaced ∙ length-set (map state dies) i (state other);
      others = λ j apart. ap (λ (states : List DieState). die_at states j) replaced ∙ get_or-set_other (map state dies) i j (state other) no_die apart;
      changed = subst (λ (new : DieState). P (die_at (map state dies) i) new) (sym new_at)
          (subst (λ (old : DieState). P old (state other)) (sym (seen_at state dies i one within is)) h);
    }

-- a die whose plan stays, and that still tells, stays mounted
pub stays_mounted : (shape : Shape) (number : ℕ) (old new : DieState) → IsMountedDie shape number old → new.plan ≡ old.plan →
    is_some new.told ≡ true → IsMountedDie shape number new
stays_mounted shape number old new mounted plan_stays tells = record {
  mounted = subst (λ (plan : Option DiePlan). IsSomeAnd plan (IsPlanOf shape number)) (sym plan_stays) mounted.mounted;
  tells = tells;
}

pub kept_mounted : (shape : Shape) (number : ℕ) (old new : DieState) → IsMountedDie shape number old → KeepsDie old new → IsMountedDie shape number new
kept_mounted shape number old new mounted keeps =
    stays_mounted shape number old new mounted keeps.plan_stays (ap (λ (told : Option (List BlockCells)). is_some told) keeps.told_stay ∙ mounted.tells)

pub faulted_mounted : (shape : Shape) (number : ℕ) (old new : DieState) → IsMountedDie shape number old → FaultsDie old new → IsMountedDie shape number new
faulted_mounted shape number old new mounted faults =
    stays_mounted shape number old new mounted faults.plan_stays (ap (λ (told : Option (List BlockCells)). is_some told) faults.told_stay ∙ mounted.tells)

pub held_mounted : (shape : Shape) (number : ℕ) (old new : DieState) (blocks : List BlockCells) → IsMountedDie shape number old →
    HoldsNow old new blocks → IsMountedDie shape number new
held_mounted shape number old new blocks mounted holds =
    stays_mounted shape number old new mounted holds.plan_stays (ap (λ (told : Option (List BlockCells)). is_some told) holds.told_are)

-- a die stays mounted whatever becomes of it by a relation
abbrev pub KeepsMounted : Shape → ℕ → (DieState → DieState → Type 0) → Type 0
KeepsMounted shape number P = (old new : DieState) → IsMountedDie shape number old → P old new → IsMountedDie shape number new

pub ended_mounted : (shape : Shape) (number : ℕ) (P : DieState → DieState → Type 0) (sb : ℕ) (end : DieEnd) → KeepsMounted shape number P →
    KeepsMounted shape number (EndsAs P sb end)
ended_mounted shape number P sb DieEnd.Passed keep old new mounted h = keep old new mounted h
ended_mounted shape number P sb DieEnd.Failed keep old new mounted h = kept_mounted shape number old new mounted h.keeps
ended_mounted shape number P sb DieEnd.Fault keep old new mounted h = faulted_mounted shape number old new mounted h

-- all dies stay mounted
pub changed_mounted : (shape : Shape) (die : ℕ) (P : DieState → DieState → Type 0) (old new : List DieState) → KeepsMounted shape die P →
    die < shape.dies → AreMounted shape old → ChangesDie die P old new → AreMounted shape new
changed_mounted shape die P old new keep within mounted changes = record {
  count_is = changes.count_stays ∙ mounted.count_is;
  each = λ other below. elim (cases_eq other die) [
    | inl same ↦ subst (λ (n : ℕ). IsMountedDie shape n (die_at new n)) (sym same)
        (keep (die_at old die) (die_at new die) (mounted.each die within) changes.changed)
    | inr apart ↦ subst (λ (state : DieState). IsMountedDie shape other state) (sym (changes.others other apart)) (mounted.each other below)
  ];
}

-- each of these keeps a die mounted
pub put_mounted : (shape : Shape) (number sb page : ℕ) (word : List ℕ) → KeepsMounted shape number (PutsPage sb page word)
put_mounted shape number sb page word old new mounted puts = held_mounted shape number old new _ mounted puts.holds

pub erased_mounted : (shape : Shape) (number sb : ℕ) → KeepsMounted shape number (ErasesBlock sb)
erased_mounted shape number sb old new mounted erases = held_mounted shape number old new _ mounted erases.holds

pub aged_mounted : (shape : Shape) (number sb amount : ℕ) → KeepsMounted shape number (AgesBlock sb amount)
aged_mounted shape number sb amount old new mounted ages = held_mounted shape number old new _ mounted ages

-- a die of the list is mounted
pub one_is_mounted : {D : Type 0} (state : D → DieState) (shape : Shape) (dies : List D) (i : ℕ) (one : D) → AreMounted shape (map state dies) →
    i < shape.dies → one ≡ get_or dies i one → IsMountedDie shape i (state one)
one_is_mounted state shape dies i one mounted within is =
    subst (λ (held : DieState). IsMountedDie shape i held)
    (seen_at state dies i one (omega (arith, length-map dies state, mounted.count_is)) is) (mounted.each i within)

-- all dies stay mounted where the one that is another now is
pub one_stays_mounted : {D : Type 0} (state : D → DieState) (shape : Shape) (dies : List D) (i : ℕ) (one other : D) →
    AreMounted shape (map state dies) → i < shape.dies → one ≡ get_or dies i one → IsMountedDie shape i (state other) →
    AreMounted shape (map state (set dies i other))
one_stays_mounted state shape dies i one other mounted within is h =
    let Stays : DieState → DieState → Type 0 = λ old new. IsMountedDie shape i new in
    changed_mounted shape i Stays (map state dies) (map state (set dies i other)) (λ old new before after. after) within mounted
    (one_changed state dies i one other Stays (omega (arith, length-map dies state, mounted.count_is)) is h)

-- a die stays mounted, whether its call passed or failed
pub result_mounted : {T E : Type 0} (result : Result T E) (shape : Shape) (number : ℕ) (P : DieState → DieState → Type 0) (old new : DieState) →
    KeepsMounted shape number P → IsMountedDie shape number old → OnOk result (P old new) → OnErr result (FaultsDie old new) →
    IsMountedDie shape number new
result_mounted (Ok x) shape number P old new keep mounted ok err = keep old new mounted ok
result_mounted (Err e) shape number P old new keep mounted ok err = faulted_mounted shape number old new mounted err

-- what became of one die, seen beside the sizes and the sum
pub seen_change : (shape : Shape) (sum : List ℕ) (before after : List DieState) (held : DiesState) (die : ℕ) (P : DieState → DieState → Type 0) →
    record { shape = shape; dies = before; sum = sum } ≡ held → ChangesDie die P before after →
    ChangesOneDie die P held (record { shape = shape; dies = after; sum = sum })
seen_change shape sum before after held die P seen changes =
    subst (λ (old : DiesState). ChangesOneDie die P old (record { shape = shape; dies = after; sum = sum })) seen
    (record { shape_stays = refl; sum_stays = refl; dies = changes })
