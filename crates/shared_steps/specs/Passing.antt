-- How is a pass known again that was lent for some steps? A number stands for all of it that no turn changes: its lock,
-- its number, and the numbers that ended in it.
use Rattle.std.specs.Prelude.{ℕ, zero, suc, ◌≡◌, ◌+◌, ◌*◌, List, [], ◌∷◌}
use Rattle.atomic_table.specs.Seated.{TableId}
use Rattle.turn_table.specs.Passes.{PassState}

-- one number for two: 2^a * (2 * b + 1)
abbrev pub number_of_two : ℕ → ℕ → ℕ
number_of_two zero b = 2 * b + 1
number_of_two (suc a) b = 2 * number_of_two a b

-- one number for a list of them
abbrev pub number_of_list : List ℕ → ℕ
number_of_list [] = 0
number_of_list (number ∷ numbers) = number_of_two number (number_of_list numbers)

-- what tells a lock from the others
abbrev pub numbers_of_lock : TableId → List ℕ
numbers_of_lock lock =
    lock.words ∷ lock.slots ∷ lock.views_name ∷ lock.atom ∷ lock.block ∷ lock.offset ∷ lock.slot_names

-- the number that stands for a pass
abbrev pub reference_of : PassState → ℕ
reference_of pass = number_of_two (number_of_list (numbers_of_lock pass.lock)) (number_of_list (pass.number ∷ pass.ended))

-- two passes are one, but for what they have seen
pub record IsSamePass (before after : PassState) : Type 0 where
  pub lock_stays : after.lock ≡ before.lock
  pub number_stays : after.number ≡ before.number
  pub ended_stay : after.ended ≡ before.ended

-- a number tells its pass
abbrev pub ReferencesTellPasses : Type 0
ReferencesTellPasses =
    (before after : PassState) → reference_of after ≡ reference_of before → IsSamePass before after
