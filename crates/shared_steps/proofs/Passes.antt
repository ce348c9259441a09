-- A number tells the two from which it was made, and so a list of numbers, and a pass.
use Rattle.std.proofs.Common.{◌≡◌, ℕ, zero, suc, ◌+◌, ◌*◌, ◌≤◌, List, [], ◌∷◌, refl, ap, arith}
use Rattle.std.specs.Prelude.{drop, slice_index_or}
use Rattle.atomic_table.specs.Seated.{TableId}
use Rattle.turn_table.specs.Passes.{PassState}
use Rattle.shared_steps.specs.Passing.{IsSamePass, ReferencesTellPasses, number_of_list, number_of_two, numbers_of_lock}

some_number : (a b : ℕ) → 1 ≤ number_of_two a b
some_number zero b = omega arith
some_number (suc a) b = let half = some_number a b in omega (arith, half)

two_apart : (a b c d : ℕ) → number_of_two a b ≡ number_of_two c d → (a ≡ c) × (b ≡ d)
two_apart zero b zero d e = (refl, omega (arith, e))
two_apart zero b (suc c) d e = absurd (omega (arith, e))
two_apart (suc a) b zero d e = absurd (omega (arith, e))
two_apart (suc a) b (suc c) d e =
    let parts = two_apart a b c d (omega (arith, e)) in (ap {B = ℕ} (λ (n : ℕ). suc n) parts.0, parts.1)

list_told : (xs ys : List ℕ) → number_of_list xs ≡ number_of_list ys → xs ≡ ys
list_told [] [] e = refl
list_told [] (y ∷ ys) e = let more = some_number y (number_of_list ys) in absurd (omega (arith, e, more))
list_told (x ∷ xs) [] e = let more = some_number x (number_of_list xs) in absurd (omega (arith, e, more))
list_told (x ∷ xs) (y ∷ ys) e =
    let parts = two_apart x (number_of_list xs) y (number_of_list ys) e in
    let rest : xs ≡ ys = list_told xs ys parts.1 in
    λ i. (parts.0 i) ∷ (rest i)

-- an item of a list, by its place
item : (place : ℕ) (xs ys : List ℕ) → xs ≡ ys → slice_index_or xs place 0 ≡ slice_index_or ys place 0
item place xs ys e = ap {B = ℕ} (λ (l : List ℕ). slice_index_or l place 0) e

lock_told : (after before : TableId) → numbers_of_lock after ≡ numbers_of_lock before → after ≡ before
lock_told after before e = λ i. record {
  words = item 0 (numbers_of_lock after) (numbers_of_lock before) e i;
  slots = item 1 (numbers_of_lock after) (numbers_of_lock before) e i;
  views_name = item 2 (numbers_of_lock after) (numbers_of_lock before) e i;
  atom = item 3 (numbers_of_lock after) (numbers_of_lock before) e i;
  block = item 4 (numbers_of_lock after) (numbers_of_lock before) e i;
  offset = item 5 (numbers_of_lock after) (numbers_of_lock before) e i;
  slot_names = ap {B = List ℕ} (drop 6) e i;
}

pub references_tell_passes : ReferencesTellPasses
references_tell_passes before after e =
    let parts =
    two_apart (number_of_list (numbers_of_lock after.lock)) (number_of_list (after.number ∷ after.ended))
    (number_of_list (numbers_of_lock before.lock)) (number_of_list (before.number ∷ before.ended)) e in
    let numbers = list_told (after.number ∷ after.ended) (before.number ∷ before.ended) parts.1 in
    record {
      lock_stays =
          lock_told after.lock before.lock (list_told (numbers_of_lock after.lock) (numbers_of_lock before.lock) parts.0);
      number_stays = item 0 (after.number ∷ after.ended) (before.number ∷ before.ended) numbers;
      ended_stay = ap {B = List ℕ} (drop 1) numbers;
    }
