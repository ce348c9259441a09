-- The marks of slots that rows name.
use Rattle.std.proofs.Common.{◌≡◌, ◌≢◌, ℕ, zero, suc, ◌+◌, ◌*◌, ◌/◌, ◌<◌, Bool, true, false, List, [], ◌∷◌, ◌++◌, length, get_or, set, refl, sym, ap, subst, ◌∙◌, inl, inr, arith, length-set}
use Rattle.std.specs.Prelude.{replicate}
use Rattle.std.proofs.Math.Nat.{mul_comm}
use Rattle.std.specs.List.{list_any}
use Rattle.std.proofs.lemmas.Bool.{cases_eq}
use Rattle.std.proofs.lemmas.Grind.{common_steps}
use Rattle.std.proofs.lemmas.List.{get_or-set_same, get_or-set_other}
use Rattle.std.proofs.lemmas.List.Folds.{list_any-append}
use Rattle.std.proofs.lemmas.Nat.{div-mul-add, mul-add-lt}
use Rattle.ssd_histories.specs.PageMap.{is_slot, names_slot}
use Rattle.ssd_geo.specs.declared.row.Row.{Row}
use Rattle.ssd_geo.specs.declared.row.Row.TheVariants.{Page}
use Rattle.ssd_geo.specs.declared.slot.Slot.{Slot}
use Rattle.image_contents.specs.RowMarks.{AreMarks}
use Rattle.shared_lemmas.proofs.Lists.{no_mark}

-- without rows no slot is marked
pub none_marked : (superblocks slots n : ℕ) (marks : List Bool) → n ≡ superblocks * slots → marks ≡ replicate n false → length marks ≡ n → AreMarks superblocks slots [] marks
none_marked superblocks slots n marks all are long = record {
  count_is = long ∙ all;
  marked = λ slot in_sb in_index. ap (λ l. get_or l (slot.sb * slots + slot.index) false) are ∙ no_mark n (slot.sb * slots + slot.index);
}

-- two slots with one place are one
same_slot : (slot other : Slot) (slots : ℕ) → slot.index < slots → other.index < slots → other.sb * slots + other.index ≡ slot.sb * slots + slot.index → is_slot other slot ≡ true
same_slot slot other slots in_slot in_other same =
    let sb : other.sb ≡ slot.sb =
    sym (div-mul-add other.sb slots other.index in_other) ∙ ap (λ n. n / slots) same ∙ div-mul-add slot.sb slots slot.index in_slot in
    let product : other.sb * slots ≡ slot.sb * slots = ap (λ n. n * slots) sb in
    let index : other.index ≡ slot.index = omega (arith, same, product) in
    rw (sb, index) (grind (arith, common_steps))

other_slot : (slot other : Slot) (slots : ℕ) → other.sb * slots + other.index ≢ slot.sb * slots + slot.index → is_slot other slot ≡ false
other_slot slot other slots apart = elim (cases_eq other.sb slot.sb) [
  | inl sb ↦ elim (cases_eq other.index slot.index) [
    | inl index ↦ absurd (apart (ap (λ n. n * slots + other.index) sb ∙ ap (λ n. slot.sb * slots + n) index))
    | inr no_index ↦ grind (arith, common_steps, no_index)
  ]
  | inr no_sb ↦ grind (arith, common_steps, no_sb)
]

-- one more row that names a slot
pub slot_marked : (superblocks slots serial : ℕ) (rows : List Row) (marks : List Bool) (slot : Slot) → slot.sb < superblocks → slot.index < slots
    → AreMarks superblocks slots rows marks
    → AreMarks superblocks slots (rows ++ Page slot serial ∷ []) (set marks (slot.sb * slots + slot.index) true)
slot_marked superblocks slots serial rows marks slot in_sb in_index are =
    let at : ℕ = slot.sb * slots + slot.index in
    record {
      count_is = length-set marks at true ∙ are.count_is;
      marked = λ other other_sb other_index.
          let place : ℕ = other.sb * slots + other.index in
          let both = list_any-append (names_slot other) rows (Page slot serial ∷ []) in
          elim (cases_eq place at) [
            | inl same ↦
                let within : at < length marks =
                subst (λ (n : ℕ). at < n) (mul_comm slots superblocks ∙ sym are.count_is) (mul-add-lt slot.sb slots slot.index superblocks in_sb in_index) in
                let marked : get_or (set marks at true) place false ≡ true =
                ap (λ n. get_or (set marks at true) n false) same ∙ get_or-set_same marks at true false within in
                let named : is_slot other slot ≡ true = same_slot slot other slots in_index other_index same in
                marked ∙ sym (both ∙ grind (arith, common_steps, named))
            | inr apart ↦
                let marked : get_or (set marks at true) place false ≡ list_any (names_slot other) rows =
                get_or-set_other marks at place true false apart ∙ are.marked other other_sb other_index in
                let named : is_slot other slot ≡ false = other_slot slot other slots apart in
                marked ∙ sym (both ∙ grind (arith, common_steps, named))
          ];
    }

-- one more that names none
pub none_more : (superblocks slots : ℕ) (rows : List Row) (row : Row) (marks : List Bool) → ((slot : Slot) → names_slot slot row ≡ false)
    → AreMarks superblocks slots rows marks → AreMarks superblocks slots (rows ++ row ∷ []) marks
none_more superblocks slots rows row marks none are = record {
  count_is = are.count_is;
  marked = λ slot in_sb in_index.
      are.marked slot in_sb in_index
      ∙ sym (list_any-append (names_slot slot) rows (row ∷ []) ∙ grind (arith, common_steps, none slot));
}
