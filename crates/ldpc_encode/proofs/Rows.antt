-- The sum of a base row of an accepted matrix: over its message columns, its entry in the first parity column, and the
-- two columns of the dual diagonal that it has.
use Rattle.std.proofs.Common.{◌≡◌, ℕ, zero, suc, ◌+◌, ◌-◌, ◌*◌, ◌/◌, ◌%◌, ◌<◌, ◌≤◌, Bool, true, false, not, cond, eqb, None, ℤ, pos, negsuc, refl, ap, sym, ◌∙◌, subst, inl, inr, arith}
use Rattle.std.specs.Prelude.{◌&&◌, ◌||◌, find}
use Rattle.std.specs.List.{range_with_len}
use Rattle.std.specs.Ordering.{int_eq}
use Rattle.std.specs.Cmp.{signed_Decides}
use Rattle.std.proofs.Math.Nat.{mul_comm}
use Rattle.std.proofs.lemmas.Bool.{ltb-true, eqb-true, not-false, or_parts, cond-true, cond-false, eq-eqb, ne_eqb, cases_eq, cases_Bool}
use Rattle.std.proofs.lemmas.Nat.{div-mul-add, mod-mul-add, mul-add-lt}
use Rattle.ssd_geo.specs.Bits.{bit_sum}
use Rattle.ssd_geo.specs.BaseMatrix.{BaseMatrix, IsAccepted, breaks_parity_column, diagonal, diagonal_entry, entry_at, has_middle_before, is_entry_in_range, layer_of, message_columns, parity_column, parity_entry, zero_block}
use Rattle.ssd_geo.specs.Codewords.{shift_of}
use Rattle.qc_matrix.proofs.Accepted.{entry-in_range}
use Rattle.qc_matrix.proofs.Find.{none-find}
use Rattle.ssd_bits.proofs.Words.{bit_sum-false}
use Rattle.ldpc_encode.proofs.Sums.{at_entry, only_at, sum_blocks, sum_blocks-columns, sum_over, sum_over-add, sum_over-moved, sum_over-only, sum_over-only_outside, sum_over-same, sum_over-split}
use Rattle.ssd_geo.proofs.AcceptedLayers.{column_ok, diagonal_ok, none_under}

int-true : (x y : ℤ) → int_eq x y ≡ true → x ≡ y
int-true x y h = (signed_Decides x y).0 h

int-apart : (x y : ℤ) → (x ≡ y → ⊥) → int_eq x y ≡ false
int-apart x y apart = elim (cases_Bool (int_eq x y)) [ inl same ↦ absurd (apart (int-true x y same)) | inr other ↦ other ]

not-zero : (n : ℕ) → int_eq (pos (suc n)) (pos 0) ≡ false
not-zero n = int-apart (pos (suc n)) (pos 0) (λ same. let e : suc n ≡ 0 = ap shift_of same in omega arith)

shifted : (z : ℕ) (e : ℤ) → is_entry_in_range z e ≡ true → int_eq e zero_block ≡ false → e ≡ pos (shift_of e)
shifted z (pos s) inside other = refl
shifted z (negsuc zero) inside other = absurd (let e : true ≡ false = other in cc)
shifted z (negsuc (suc n)) inside other = absurd (let e : suc n ≡ 0 = eqb-true (suc n) 0 inside in omega arith)

shift-below : (z : ℕ) (e : ℤ) → is_entry_in_range z e ≡ true → 0 < z → shift_of e < z
shift-below z (pos s) inside positive = ltb-true s z inside
shift-below z (negsuc n) inside positive = positive

once_only : (e : ℤ) (before : Bool) → (not (int_eq e zero_block) && (not (int_eq e (pos 0)) || before)) ≡ false → before ≡ true → int_eq e (pos 0) ≡ false
once_only (pos zero) true kept h = absurd (let e : true ≡ false = kept in cc)
once_only (pos zero) false kept h = absurd (let e : false ≡ true = h in cc)
once_only (pos (suc n)) before kept h = not-zero n
once_only (negsuc n) before kept h = refl

entry_counts : (f : ℕ × ℕ → Bool) (column : ℕ) (e : ℤ) (before : Bool) → (not (int_eq e zero_block) && (not (int_eq e (pos 0)) || before)) ≡ false
    → at_entry f column e ≡ cond (int_eq e (pos 0)) (f (column, 0)) false
entry_counts f column (pos zero) before kept = refl
entry_counts f column (pos (suc n)) before kept = absurd (let e : true ≡ false = ap (λ (b : Bool). not b || before) (sym (not-zero n)) ∙ kept in cc)
entry_counts f column (negsuc n) before kept = refl

module _ (m : BaseMatrix) (ok : IsAccepted m) where
  -- the number of message columns and parity columns
  pub columns : message_columns m + m.mb ≡ m.nb
  columns = omega (arith, ok.within.nb_low)

  -- no row breaks the form of the first parity column
  row-kept : (i : ℕ) → i < m.mb → breaks_parity_column m i ≡ false
  row-kept i h =
      none-find (breaks_parity_column m) 0 m.mb i (none_under parity_column (find (breaks_parity_column m) (range_with_len 0 m.mb)) (column_ok m ok))
      (omega arith) (omega arith)

  -- the first row has a shift there
  pub first-entry : parity_entry m 0 ≡ pos (shift_of (parity_entry m 0))
  first-entry =
      shifted m.z (parity_entry m 0) (entry-in_range m 0 (message_columns m) ok (omega (arith, ok.within.mb_low)) (omega (arith, ok.within.nb_low, ok.within.mb_low)))
      (row-kept 0 (omega (arith, ok.within.mb_low)))

  pub first-shift : shift_of (parity_entry m 0) < m.z
  first-shift =
      shift-below m.z (parity_entry m 0) (entry-in_range m 0 (message_columns m) ok (omega (arith, ok.within.mb_low)) (omega (arith, ok.within.nb_low, ok.within.mb_low)))
      (omega (arith, ok.within.z_low))

  -- the last row has the same, and a middle row before it a shift 0
  last-kept : (not (int_eq (parity_entry m (m.mb - 1)) (parity_entry m 0)) || not (has_middle_before m (m.mb - 1))) ≡ false
  last-kept =
      let low : 3 ≤ m.mb = ok.within.mb_low in
      let apart : m.mb - 1 ≡ 0 → ⊥ = omega arith in
      let end : m.mb - 1 + 1 ≡ m.mb = omega arith in
      sym (cond-true (eqb (m.mb - 1 + 1) m.mb) (not (int_eq (parity_entry m (m.mb - 1)) (parity_entry m 0)) || not (has_middle_before m (m.mb - 1)))
      (not (int_eq (parity_entry m (m.mb - 1)) zero_block) && (not (int_eq (parity_entry m (m.mb - 1)) (pos 0)) || has_middle_before m (m.mb - 1)))
      (eq-eqb (m.mb - 1 + 1) m.mb end))
      ∙ sym (cond-false (eqb (m.mb - 1) 0) (int_eq (parity_entry m 0) zero_block)
      (cond (eqb (m.mb - 1 + 1) m.mb) (not (int_eq (parity_entry m (m.mb - 1)) (parity_entry m 0)) || not (has_middle_before m (m.mb - 1)))
      (not (int_eq (parity_entry m (m.mb - 1)) zero_block) && (not (int_eq (parity_entry m (m.mb - 1)) (pos 0)) || has_middle_before m (m.mb - 1))))
      (ne_eqb (m.mb - 1) 0 apart))
      ∙ row-kept (m.mb - 1) (omega arith)

  pub last-entry : parity_entry m (m.mb - 1) ≡ parity_entry m 0
  last-entry =
      int-true (parity_entry m (m.mb - 1)) (parity_entry m 0)
      (not-false (int_eq (parity_entry m (m.mb - 1)) (parity_entry m 0))
      (or_parts (not (int_eq (parity_entry m (m.mb - 1)) (parity_entry m 0))) (not (has_middle_before m (m.mb - 1))) last-kept).0)

  pub some-middle : has_middle_before m (m.mb - 1) ≡ true
  some-middle =
      not-false (has_middle_before m (m.mb - 1))
      (or_parts (not (int_eq (parity_entry m (m.mb - 1)) (parity_entry m 0))) (not (has_middle_before m (m.mb - 1))) last-kept).1

  -- a middle row has -1, or a 0 that no middle row before it has
  middle-kept : (i : ℕ) → 1 ≤ i → i < m.mb - 1
      → (not (int_eq (parity_entry m i) zero_block) && (not (int_eq (parity_entry m i) (pos 0)) || has_middle_before m i)) ≡ false
  middle-kept i low high =
      let first : i ≡ 0 → ⊥ = omega arith in
      let last : i + 1 ≡ m.mb → ⊥ = omega arith in
      sym (cond-false (eqb (i + 1) m.mb) (not (int_eq (parity_entry m i) (parity_entry m 0)) || not (has_middle_before m i))
      (not (int_eq (parity_entry m i) zero_block) && (not (int_eq (parity_entry m i) (pos 0)) || has_middle_before m i))
      (ne_eqb (i + 1) m.mb last))
      ∙ sym (cond-false (eqb i 0) (int_eq (parity_entry m 0) zero_block)
      (cond (eqb (i + 1) m.mb) (not (int_eq (parity_entry m i) (parity_entry m 0)) || not (has_middle_before m i))
      (not (int_eq (parity_entry m i) zero_block) && (not (int_eq (parity_entry m i) (pos 0)) || has_middle_before m i)))
      (ne_eqb i 0 first))
      ∙ row-kept i (omega arith)

  pub middle-once : (i : ℕ) → 1 ≤ i → i < m.mb - 1 → has_middle_before m i ≡ true → int_eq (parity_entry m i) (pos 0) ≡ false
  middle-once i low high before = once_only (parity_entry m i) (has_middle_before m i) (middle-kept i low high) before

  -- the entry of a middle row counts where it is 0
  pub middle-entry : (f : ℕ × ℕ → Bool) (i : ℕ) → 1 ≤ i → i < m.mb - 1
      → at_entry f (message_columns m) (parity_entry m i) ≡ cond (int_eq (parity_entry m i) (pos 0)) (f (message_columns m, 0)) false
  middle-entry f i low high = entry_counts f (message_columns m) (parity_entry m i) (has_middle_before m i) (middle-kept i low high)

  -- the entries after the first parity column are those of the dual diagonal
  diagonal-kept : (i k : ℕ) → i < m.mb → k < m.mb - 1 → entry_at m i (message_columns m + 1 + k) ≡ diagonal_entry i (1 + k)
  diagonal-kept i k row column =
      let w : ℕ = m.mb - 1 in
      let test : ℕ → Bool = λ j. not (int_eq (entry_at m (j / w) (message_columns m + 1 + j % w)) (diagonal_entry (j / w) (1 + j % w))) in
      let none : find test (range_with_len 0 (m.mb * w)) ≡ None =
      none_under (λ j. diagonal (j / w) (message_columns m + 1 + j % w)) (find test (range_with_len 0 (m.mb * w))) (diagonal_ok m ok) in
      let place : i * w + k < m.mb * w = subst (λ (n : ℕ). i * w + k < n) (mul_comm w m.mb) (mul-add-lt i w k m.mb row column) in
      let fails : test (i * w + k) ≡ false = none-find test 0 (m.mb * w) (i * w + k) none (omega arith) (omega arith) in
      let q : (i * w + k) / w ≡ i = div-mul-add i w k column in
      let r : (i * w + k) % w ≡ k = mod-mul-add i w k column in
      int-true (entry_at m i (message_columns m + 1 + k)) (diagonal_entry i (1 + k))
      (not-false (int_eq (entry_at m i (message_columns m + 1 + k)) (diagonal_entry i (1 + k))) (rw (q, r) at fails))

diagonal-term : (f : ℕ × ℕ → Bool) (column i t : ℕ) → at_entry f column (diagonal_entry i t) ≡ bit_sum (cond (eqb i t) (f (column, 0)) false) (cond (eqb (i + 1) t) (f (column, 0)) false)
diagonal-term f column i t = elim (cases_eq i t) [
  | inl here ↦
      let apart : i + 1 ≡ t → ⊥ = omega arith in
      let one : eqb i t ≡ true = eq-eqb i t here in
      let two : eqb (i + 1) t ≡ false = ne_eqb (i + 1) t apart in
      rw (one, two) (sym (bit_sum-false (f (column, 0))))
  | inr apart ↦
      let one : eqb i t ≡ false = ne_eqb i t apart in
      rw one (elim (cases_Bool (eqb (i + 1) t)) [ inl next ↦ rw next refl | inr other ↦ rw other refl ])
]

module _ (m : BaseMatrix) (ok : IsAccepted m) (f : ℕ × ℕ → Bool) where
  -- the sum over the message columns of a row
  abbrev pub message_part : ℕ → Bool
  message_part i = sum_over (λ j. at_entry f j (entry_at m i j)) 0 (message_columns m)

  -- what f is at shift 0 in a parity column
  abbrev pub parity_at : ℕ → Bool
  parity_at t = f (message_columns m + t, 0)

  diagonal-part : (i : ℕ) → i < m.mb → sum_over (λ j. at_entry f j (entry_at m i j)) (message_columns m + 1) (m.mb - 1)
      ≡ bit_sum (sum_over (only_at i parity_at) 1 (m.mb - 1)) (sum_over (only_at (i + 1) parity_at) 1 (m.mb - 1))
  diagonal-part i row =
      sum_over-moved (λ j. at_entry f j (entry_at m i j)) (message_columns m) 1 (m.mb - 1) (message_columns m + 1) refl
      ∙ sum_over-same (λ t. at_entry f (message_columns m + t) (entry_at m i (message_columns m + t))) (λ t. bit_sum (only_at i parity_at t) (only_at (i + 1) parity_at t)) 1 (m.mb - 1)
      (λ t low high.
      let place : message_columns m + t ≡ message_columns m + 1 + (t - 1) = omega arith in
      let column : 1 + (t - 1) ≡ t = omega arith in
      let entry : entry_at m i (message_columns m + t) ≡ diagonal_entry i t =
      ap (entry_at m i) place ∙ diagonal-kept m ok i (t - 1) row (omega arith) ∙ ap (diagonal_entry i) column in
      ap (at_entry f (message_columns m + t)) entry ∙ diagonal-term f (message_columns m + t) i t)
      ∙ sum_over-add (only_at i parity_at) (only_at (i + 1) parity_at) 1 (m.mb - 1)

  row-parts : (i : ℕ) → i < m.mb → sum_blocks f (layer_of m i)
      ≡ bit_sum (message_part i)
      (bit_sum (at_entry f (message_columns m) (parity_entry m i))
      (bit_sum (sum_over (only_at i parity_at) 1 (m.mb - 1)) (sum_over (only_at (i + 1) parity_at) 1 (m.mb - 1))))
  row-parts i row =
      let term : ℕ → Bool = λ j. at_entry f j (entry_at m i j) in
      let kb : ℕ = message_columns m in
      let low : 3 ≤ m.mb = ok.within.mb_low in
      let all : m.nb ≡ kb + suc (m.mb - 1) = omega (arith, columns m ok) in
      let start : 0 + kb ≡ kb = omega arith in
      sum_blocks-columns f (entry_at m i) 0 m.nb
      ∙ ap (sum_over term 0) all
      ∙ sum_over-split term 0 kb (suc (m.mb - 1))
      ∙ ap (λ (a : ℕ). bit_sum (sum_over term 0 kb) (sum_over term a (suc (m.mb - 1)))) start
      ∙ ap (λ (b : Bool). bit_sum (sum_over term 0 kb) (bit_sum (term kb) b)) (diagonal-part i row)

  -- the first row, a middle row and the last row
  pub first-row : sum_blocks f (layer_of m 0) ≡ bit_sum (message_part 0) (bit_sum (f (message_columns m, shift_of (parity_entry m 0))) (parity_at 1))
  first-row =
      let low : 3 ≤ m.mb = ok.within.mb_low in
      row-parts 0 (omega arith)
      ∙ ap (λ (b : Bool). bit_sum (message_part 0) b)
      (ap (λ (b : Bool). bit_sum (at_entry f (message_columns m) (parity_entry m 0)) b)
      (ap (λ (b : Bool). bit_sum b (sum_over (only_at 1 parity_at) 1 (m.mb - 1)))
      (sum_over-only_outside 0 parity_at 1 (m.mb - 1) (1 + (m.mb - 1)) refl (inl (omega arith)))
      ∙ sum_over-only 1 parity_at 1 (m.mb - 1) (omega arith) (omega arith))
      ∙ ap (λ (e : ℤ). bit_sum (at_entry f (message_columns m) e) (parity_at 1)) (first-entry m ok))

  pub middle-row : (i : ℕ) → 1 ≤ i → i < m.mb - 1 → sum_blocks f (layer_of m i)
      ≡ bit_sum (message_part i) (bit_sum (cond (int_eq (parity_entry m i) (pos 0)) (f (message_columns m, 0)) false) (bit_sum (parity_at i) (parity_at (i + 1))))
  middle-row i low high =
      row-parts i (omega arith)
      ∙ ap (λ (b : Bool). bit_sum (message_part i) b)
      (ap (λ (b : Bool). bit_sum b (bit_sum (sum_over (only_at i parity_at) 1 (m.mb - 1)) (sum_over (only_at (i + 1) parity_at) 1 (m.mb - 1)))) (middle-entry m ok f i low high)
      ∙ ap (λ (b : Bool). bit_sum (cond (int_eq (parity_entry m i) (pos 0)) (f (message_columns m, 0)) false) b)
      (ap (λ (b : Bool). bit_sum b (sum_over (only_at (i + 1) parity_at) 1 (m.mb - 1))) (sum_over-only i parity_at 1 (m.mb - 1) low (omega arith))
      ∙ ap (bit_sum (parity_at i)) (sum_over-only (i + 1) parity_at 1 (m.mb - 1) (omega arith) (omega arith))))

  pub last-row : sum_blocks f (layer_of m (m.mb - 1)) ≡ bit_sum (message_part (m.mb - 1)) (bit_sum (f (message_columns m, shift_of (parity_entry m 0))) (parity_at (m.mb - 1)))
  last-row =
      let low : 3 ≤ m.mb = ok.within.mb_low in
      row-parts (m.mb - 1) (omega arith)
      ∙ ap (λ (b : Bool). bit_sum (message_part (m.mb - 1)) b)
      (ap (λ (b : Bool). bit_sum (at_entry f (message_columns m) (parity_entry m (m.mb - 1))) b)
      (ap (λ (b : Bool). bit_sum b (sum_over (only_at (m.mb - 1 + 1) parity_at) 1 (m.mb - 1))) (sum_over-only (m.mb - 1) parity_at 1 (m.mb - 1) (omega arith) (omega arith))
      ∙ ap (bit_sum (parity_at (m.mb - 1)))
      (sum_over-only_outside (m.mb - 1 + 1) parity_at 1 (m.mb - 1) (1 + (m.mb - 1)) refl (inr (omega arith)))
      ∙ bit_sum-false (parity_at (m.mb - 1)))
      ∙ ap (λ (e : ℤ). bit_sum (at_entry f (message_columns m) e) (parity_at (m.mb - 1))) (last-entry m ok ∙ first-entry m ok))
