-- A page map keeps its slots apart and within their sizes where one row is set.
use Rattle.std.proofs.Common.{◌≡◌, ℕ, ◌<◌, ◌⊎◌, inl, inr, List, length, set, true, IsTrue, sym, ◌∙◌, subst, ap, ◌==◌}
use Rattle.std.proofs.lemmas.Bool.{and_parts, cases_eq, eqb-true}
use Rattle.std.proofs.lemmas.List.{get_or-set_same, get_or-set_other}
use Rattle.ssd_histories.specs.PageMap.{is_slot, names_slot, names_within, NameApart, NameWithin, NoOtherNames, row_at, slot_at}
use Rattle.ssd_geo.specs.declared.row.Row.{Row}
use Rattle.ssd_geo.specs.declared.row.Row.TheVariants.{Empty, Lost, Page}
use Rattle.ssd_geo.specs.declared.slot.Slot.{Slot}
use Rattle.ssd_histories.proofs.SameSlots.{slots_agree}

-- what a row holds after one row was set
row_at-set : (rows : List Row) (row k : ℕ) (to : Row) → row < length rows
    → ((k ≡ row) × (row_at (set rows row to) k ≡ to)) ⊎ ((k ≡ row → ⊥) × (row_at (set rows row to) k ≡ row_at rows k))
row_at-set rows row k to lt =
    elim (cases_eq k row) [
      | inl e ↦ inl (e, rw e (get_or-set_same rows row to Empty lt))
      | inr n ↦ inr (n, get_or-set_other rows row k to Empty n)
    ]

pub within-set : (superblocks slots : ℕ) (rows : List Row) (row : ℕ) (to : Row) → row < length rows
    → NameWithin superblocks slots rows → IsTrue (names_within superblocks slots to)
    → NameWithin superblocks slots (set rows row to)
within-set superblocks slots rows row to lt old new k =
    elim (row_at-set rows row k to lt) [ inl h ↦ rw h.1 new | inr h ↦ rw h.1 (old k) ]

-- where a row's new value names a slot, no other row names it
named_once : (rows : List Row) (row k : ℕ) (slot : Slot) (to : Row) → NoOtherNames rows row to
    → names_slot slot to ≡ true → names_slot slot (row_at rows k) ≡ true → k ≡ row
named_once rows row k slot Empty unnamed named other = cc
named_once rows row k slot Lost unnamed named other = cc
named_once rows row k slot (Page at serial) unnamed named other =
    unnamed k (let P : Slot → Type 0 = λ s. names_slot s (row_at rows k) ≡ true in
    subst P (slots_agree slot at named) other)

pub apart-set : (rows : List Row) (row : ℕ) (to : Row) → row < length rows → NoOtherNames rows row to
    → NameApart rows → NameApart (set rows row to)
apart-set rows row to lt unnamed old slot j k names_j names_k =
    elim (row_at-set rows row j to lt) [
      | inl a ↦ elim (row_at-set rows row k to lt) [
        | inl b ↦ cc
        | inr b ↦ sym (named_once rows row k slot to unnamed (rw a.1 at names_j) (rw b.1 at names_k) ∙ sym a.0)
      ]
      | inr a ↦ elim (row_at-set rows row k to lt) [
        | inl b ↦ named_once rows row j slot to unnamed (rw b.1 at names_k) (rw a.1 at names_j) ∙ sym b.0
        | inr b ↦ old slot j k (rw a.1 at names_j) (rw b.1 at names_k)
      ]
    ]
