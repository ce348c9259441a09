-- The live slot of least index: whether there is one, where it stands, and that a row names it.
use Rattle.std.proofs.Common.{◌≡◌, ℕ, zero, suc, ◌+◌, ◌<◌, ◌⊎◌, ◌↔◌, inl, inr, List, [], ◌∷◌, length, get_or, Option, Some, Bool, true, false, ◌==◌, cond, refl, arith, ap, ◌∙◌, sym, min, IsTrue}
use Rattle.std.specs.Prelude.{IsNone, IsSome, filter_map, fold, nat_lt, option_map}
use Rattle.std.specs.List.{cons_option}
use Rattle.std.proofs.lemmas.Bool.{and_parts, and_from, cases_eq, eq-eqb, eqb-true, ltb-true}
use Rattle.std.proofs.lemmas.List.Sums.{sum_by-cons}
use Rattle.ssd_histories.specs.PageMap.{first_live_in, index_in, index_when, least_of, live_in, NameApart, names_slot, names_superblock, names_within, NameWithin, owner_of, row_at, slot_at}
use Rattle.ssd_geo.specs.declared.row.Row.{Row}
use Rattle.ssd_geo.specs.declared.row.Row.TheVariants.{Empty, Lost, Page}
use Rattle.ssd_geo.specs.declared.slot.Slot.{Slot}
use Rattle.map_rows.proofs.Owners.{owner_only}

-- a list has as many indexes of a superblock as live pages
counted_by : (row : Row) (sb : ℕ) (xs : List ℕ)
    → length (cons_option (index_in sb row) xs) ≡ cond (names_superblock sb row) 1 0 + length xs
counted_by Empty sb xs = omega arith
counted_by Lost sb xs = omega arith
counted_by (Page named serial) sb xs =
    elim (named.sb == sb) as (λ b. length (cons_option (index_when b named.index) xs) ≡ cond b 1 0 + length xs) [
      | true ↦ omega arith
      | false ↦ omega arith
    ]

length-indexes : (rows : List Row) (sb : ℕ) → length (filter_map (index_in sb) rows) ≡ live_in rows sb
length-indexes [] sb = refl
length-indexes (row ∷ rows) sb =
    counted_by row sb (filter_map (index_in sb) rows)
    ∙ ap (λ n. cond (names_superblock sb row) 1 0 + n) (length-indexes rows sb)
    ∙ sym (sum_by-cons (λ r. cond (names_superblock sb r) 1 0) row rows)

-- there is a least number exactly where there are some
least_none : (sb : ℕ) (xs : List ℕ) (n : ℕ) → length xs ≡ n → IsNone (option_map (slot_at sb) (least_of xs)) ↔ n ≡ 0
least_none sb [] n len = ((λ h. sym len), (λ h. refl))
least_none sb (x ∷ xs) n len = ((λ h. cc), (λ h. absurd (omega (arith, len, h))))

-- the least number is one of them
fold_among : (x : ℕ) (xs : List ℕ)
    → (fold min x xs ≡ x) ⊎ ((j : ℕ) × (j < length xs) × (get_or xs j 0 ≡ fold min x xs))
fold_among x [] = inl refl
fold_among x (y ∷ ys) =
    elim (fold_among (min x y) ys) [
      | inl e ↦ elim (cases_eq (min x y) x) [
        | inl is_x ↦ inl (e ∙ is_x)
        | inr no_x ↦ inr (0, omega arith, omega (arith, e))
      ]
      | inr h ↦ inr (suc h.0, omega (arith, h.1), h.2)
    ]

least_among : (xs : List ℕ) (m : ℕ) → least_of xs ≡ Some m → (j : ℕ) × (j < length xs) × (get_or xs j 0 ≡ m)
least_among [] m e = cc
least_among (x ∷ xs) m e =
    let is : fold min x xs ≡ m = cc in
    elim (fold_among x xs) [
      | inl a ↦ (0, omega arith, sym a ∙ is)
      | inr h ↦ (suc h.0, omega (arith, h.1), h.2 ∙ is)
    ]

-- some row names this slot of a superblock
abbrev HasRow : ℕ → ℕ → List Row → Type 0
HasRow sb m rows = (row : ℕ) × IsTrue (names_slot (slot_at sb m) (row_at rows row))

-- each index is that of a slot that some row names
row_by : (sb : ℕ) (named : Slot) (serial : ℕ) (rows : List Row) (b : Bool) (j m : ℕ) → (named.sb == sb) ≡ b
    → ((i : ℕ) → i < length (filter_map (index_in sb) rows) → get_or (filter_map (index_in sb) rows) i 0 ≡ m → HasRow sb m rows)
    → j < length (cons_option (index_when b named.index) (filter_map (index_in sb) rows))
    → get_or (cons_option (index_when b named.index) (filter_map (index_in sb) rows)) j 0 ≡ m
    → HasRow sb m (Page named serial ∷ rows)
row_by sb named serial rows false j m here ih lt is = let r = ih j lt is in (suc r.0, r.1)
row_by sb named serial rows true zero m here ih lt is =
    let same_sb : sb ≡ named.sb = sym (eqb-true named.sb sb here) in
    (0, and_from (sb == named.sb) (m == named.index) (eq-eqb _ _ same_sb) (eq-eqb _ _ (sym is)))
row_by sb named serial rows true (suc j) m here ih lt is = let r = ih j (omega (arith, lt)) is in (suc r.0, r.1)

row_of : (sb : ℕ) (rows : List Row) (m j : ℕ) → j < length (filter_map (index_in sb) rows)
    → get_or (filter_map (index_in sb) rows) j 0 ≡ m → HasRow sb m rows
row_of sb [] m j lt is = absurd (omega arith)
row_of sb (Empty ∷ rows) m j lt is = let r = row_of sb rows m j lt is in (suc r.0, r.1)
row_of sb (Lost ∷ rows) m j lt is = let r = row_of sb rows m j lt is in (suc r.0, r.1)
row_of sb (Page named serial ∷ rows) m j lt is =
    row_by sb named serial rows (named.sb == sb) j m refl (λ i. row_of sb rows m i) lt is

-- a slot that a row names is in range
slot_within : (superblocks slots : ℕ) (slot : Slot) (row : Row) → names_slot slot row ≡ true
    → names_within superblocks slots row ≡ true → slot.index < slots
slot_within superblocks slots slot Empty named within = cc
slot_within superblocks slots slot Lost named within = cc
slot_within superblocks slots slot (Page at serial) named within =
    let same = eqb-true slot.index at.index (and_parts (slot.sb == at.sb) (slot.index == at.index) named).1 in
    omega (arith, same, ltb-true at.index slots (and_parts (nat_lt at.sb superblocks) (nat_lt at.index slots) within).1)

-- the slot of least index that is live: its index is in range, and a row names it
pub record IsLive (slots : ℕ) (rows : List Row) (slot : Slot) : Type 0 where
  pub within : slot.index < slots
  pub owned : IsSome (owner_of rows slot)

pub least_is_live : (superblocks slots : ℕ) (rows : List Row) (sb index : ℕ) → NameWithin superblocks slots rows
    → NameApart rows → least_of (filter_map (index_in sb) rows) ≡ Some index → IsLive slots rows (slot_at sb index)
least_is_live superblocks slots rows sb index within apart is =
    let among = least_among (filter_map (index_in sb) rows) index is in
    let owner = row_of sb rows index among.0 among.1 among.2 in
    record {
      within = slot_within superblocks slots (slot_at sb index) (row_at rows owner.0) owner.1 (within owner.0);
      owned = rw (owner_only rows (slot_at sb index) owner.0 apart owner.1) refl;
    }

pub first_live_none : (rows : List Row) (sb : ℕ) (first : Option Slot) → first ≡ first_live_in rows sb
    → IsNone first ↔ live_in rows sb ≡ 0
first_live_none rows sb first is =
    rw is (least_none sb (filter_map (index_in sb) rows) (live_in rows sb) (length-indexes rows sb))
