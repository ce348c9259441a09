-- The owner of a slot is the only row that names it.
use Rattle.std.proofs.Common.{◌≡◌, ℕ, zero, suc, [], ◌∷◌, ◌<◌, List, length, Some, Bool, true, false, refl, arith, IsTrue}
use Rattle.std.specs.List.{position, position_or_len}
use Rattle.std.proofs.lemmas.List.Sums.{position_or_len_is}
use Rattle.ssd_histories.specs.PageMap.{NameApart, names_slot, owner_of, row_at}
use Rattle.ssd_geo.specs.declared.row.Row.{Row}
use Rattle.ssd_geo.specs.declared.row.Row.TheVariants.{Empty}
use Rattle.ssd_geo.specs.declared.slot.Slot.{Slot}
use Rattle.shared_lemmas.proofs.Positions.{placed}

-- a row that names a slot is in the page map
named_in_range : (rows : List Row) (slot : Slot) (row : ℕ) → IsTrue (names_slot slot (row_at rows row)) → row < length rows
named_in_range [] slot row named = cc
named_in_range (r ∷ rows) slot zero named = omega arith
named_in_range (r ∷ rows) slot (suc row) named = omega (arith, named_in_range rows slot row named)

-- a test that can't be true is false
fails : (b : Bool) → (IsTrue b → ⊥) → b ≡ false
fails true h = absurd (h refl)
fails false h = refl

pub owner_only : (rows : List Row) (slot : Slot) (row : ℕ) → NameApart rows → IsTrue (names_slot slot (row_at rows row))
    → owner_of rows slot ≡ Some row
owner_only rows slot row apart named =
    let lt = named_in_range rows slot row named in
    placed (names_slot slot) rows row
    (position_or_len_is (names_slot slot) rows row Empty (omega arith)
    (λ k below. fails (names_slot slot (row_at rows k)) (λ h. let e = apart slot k row h named in omega arith))
    (λ _. named))
    lt
