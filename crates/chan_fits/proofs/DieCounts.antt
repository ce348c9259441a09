-- The counts of a die's faults after one more entry: they stay, or the work count rose where the entry tells of a failed
-- call of the die.
use Rattle.std.proofs.Common.{◌≡◌, ℕ, ◌+◌, ◌≤◌, cond, min, Bool, true, false, List, ◌∷◌, ap, sym, ◌∙◌, subst, arith}
use Rattle.std.proofs.lemmas.List.Sums.{sum_by-cons}
use Rattle.ssd_geo.specs.Faults.{Rose, RoseBy, greatest_count}
use Rattle.ssd_histories.specs.Standing.{CountsFaults, count_at, faults_of, is_fault_of}
use Rattle.ssd_histories.specs.Start.{Start}
use Rattle.ssd_geo.specs.declared.entry.Entry.{Entry}
use Rattle.onfi_cmd.specs.DieState.{DieState}

-- the faults with one more entry
more_faults : (die : ℕ) (entry : Entry) (past : List Entry)
    → faults_of die (entry ∷ past) ≡ cond (is_fault_of die entry) 1 0 + faults_of die past
more_faults die entry past = sum_by-cons (λ (other : Entry). cond (is_fault_of die other) 1 0) entry past

-- a die counts as it did, and the entry tells of no fault of it
pub counts_kept : (start : Start) (past : List Entry) (entry : Entry) (die : ℕ) (old new : DieState)
    → is_fault_of die entry ≡ false
    → new.work_count ≡ old.work_count → new.load_count ≡ old.load_count
    → CountsFaults start past die old.work_count old.load_count
    → CountsFaults start (entry ∷ past) die new.work_count new.load_count
counts_kept start past entry die old new none works loads counts =
    let zero_more : ◌≡◌ {A = ℕ} (cond (is_fault_of die entry) 1 0) 0 = ap {B = ℕ} (λ (b : Bool). cond b 1 0) none in
    let as_many : faults_of die (entry ∷ past) ≡ faults_of die past = omega (arith, zero_more, more_faults die entry past) in
    record {
      work_rose =
          subst (λ (n : ℕ). RoseBy n (count_at start.work_faults die) new.work_count) (sym as_many)
          (subst (λ (n : ℕ). RoseBy (faults_of die past) (count_at start.work_faults die) n) (sym works) counts.work_rose);
      work_stays = λ no_faults. works ∙ counts.work_stays (sym as_many ∙ no_faults);
      load_stays = loads ∙ counts.load_stays;
    }

some_fault : (faults : ℕ) → 1 + faults ≡ 0 → ⊥
some_fault faults none = omega (arith, none)

rose_again : (before faults mid now top : ℕ) → min (before + faults) top ≤ mid → min (mid + 1) top ≤ now
    → min (before + (1 + faults)) top ≤ now
rose_again before faults mid now top h g = omega arith

-- a die counted one more fault
pub counts_more : (start : Start) (past : List Entry) (entry : Entry) (die : ℕ) (old new : DieState)
    → is_fault_of die entry ≡ true
    → Rose old.work_count new.work_count → new.load_count ≡ old.load_count
    → CountsFaults start past die old.work_count old.load_count
    → CountsFaults start (entry ∷ past) die new.work_count new.load_count
counts_more start past entry die old new told rose loads counts =
    let one_more : faults_of die (entry ∷ past) ≡ 1 + faults_of die past = more_faults die entry past
    ∙ ap {B = ℕ} (λ (b : Bool). cond b 1 0 + faults_of die past) told in
    record {
      work_rose =
          subst (λ (n : ℕ). RoseBy n (count_at start.work_faults die) new.work_count) (sym one_more)
          (rose_again (count_at start.work_faults die) (faults_of die past) old.work_count new.work_count greatest_count
          counts.work_rose rose);
      work_stays = λ no_faults. absurd (some_fault (faults_of die past) (sym one_more ∙ no_faults));
      load_stays = loads ∙ counts.load_stays;
    }
