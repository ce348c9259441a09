-- A page map that is filled row by row has, in the end, the rows.
use Rattle.std.proofs.Common.{◌≡◌, ℕ, ◌<◌, ◌≤◌, Bool, true, false, List, length, refl, ◌∙◌, ap, subst, inl, inr, arith}
use Rattle.std.specs.Prelude.{IsTrue}
use Rattle.std.proofs.lemmas.Bool.{cases_lt}
use Rattle.std.proofs.lemmas.Bool.Decides.{nat_tests}
use Rattle.std.proofs.lemmas.List.{ext_get_or}
use Rattle.map_rows.specs.PageMap.{PageMap}
use Rattle.ssd_histories.specs.PageMap.{NameApart, NoOtherNames, is_slot, names_slot, row_at}
use Rattle.ssd_geo.specs.declared.row.Row.{Row}
use Rattle.ssd_geo.specs.declared.slot.Slot.{Slot}
use Rattle.ssd_histories.proofs.SameSlots.{is_slot-same}

-- the first rows of a page map are these, and the others are empty
pub record IsFilled (rows : List Row) (filled : ℕ) (old new : PageMap) : Type 0 where
  pub superblocks : new.superblocks ≡ old.superblocks
  pub slots : new.slots ≡ old.slots
  pub count : length new.rows ≡ length rows
  pub done : (row : ℕ) → row < filled → row_at new.rows row ≡ row_at rows row
  pub empty : (row : ℕ) → filled ≤ row → row_at new.rows row ≡ Row.Empty

pub all_filled : (rows : List Row) (filled : ℕ) (old new : PageMap) → length rows ≤ filled → IsFilled rows filled old new → new ≡ record old { rows = rows }
all_filled rows filled old new all is =
    let same : new.rows ≡ rows = ext_get_or Row.Empty new.rows rows is.count (λ row lt. is.done row (omega (arith, is.count))) in
    λ i. record { rows = same i; superblocks = is.superblocks i; slots = is.slots i }

-- no row that was filled names the slot of the next one
pub unnamed : (rows : List Row) (filled : ℕ) (old now : PageMap) → NameApart rows → IsFilled rows filled old now → NoOtherNames now.rows filled (row_at rows filled)
unnamed rows filled old now apart is = by_row (row_at rows filled) refl
  where
    of_empty : (slot : Slot) (row : Row) → row ≡ Row.Empty → IsTrue (names_slot slot row) → ⊥
    of_empty slot row e names =
        let none : names_slot slot row ≡ false = ap {B = Bool} (names_slot slot) e in
        cc

    by_row : (to : Row) → row_at rows filled ≡ to → NoOtherNames now.rows filled to
    by_row Row.Empty e = tt
    by_row Row.Lost e = tt
    by_row (Row.Page slot serial) e = λ other names.
        elim (cases_lt other filled) [
          | inl less ↦
              apart slot other filled (subst (λ (row : Row). IsTrue (names_slot slot row)) (is.done other less) names)
              (ap {B = Bool} (names_slot slot) e ∙ is_slot-same slot)
          | inr more ↦ absurd (of_empty slot (row_at now.rows other) (is.empty other more) names)
        ]
