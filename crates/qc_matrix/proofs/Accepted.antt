-- What is known of an accepted matrix: its entries are in range, and so are the blocks of its layers.
use Rattle.std.proofs.Common.{◌≡◌, ℕ, zero, suc, ◌+◌, ◌*◌, ◌/◌, ◌%◌, ◌<◌, ◌≤◌, Bool, true, false, not, List, length, get_or, Option, Some, None, ℤ, pos, negsuc, refl, sym, subst, arith}
use Rattle.std.specs.Prelude.{find, filter_map, option_map, is_none}
use Rattle.std.specs.Option.{option_or}
use Rattle.std.specs.List.{range_with_len, cons_option}
use Rattle.std.proofs.lemmas.Bool.{ltb-true, not-false}
use Rattle.std.proofs.Math.Nat.{mul_comm}
use Rattle.std.proofs.lemmas.Nat.{div-mul-add, mod-mul-add, mul-add-lt}
use Rattle.ssd_geo.specs.BaseMatrix.{BaseMatrix, IsAccepted, block_of_entry, column_fault, diagonal_fault, entry_at, entry_range, is_entry_in_range, layer_of, range_fault}
use Rattle.qc_matrix.proofs.Find.{none-find}
use Rattle.ssd_geo.proofs.AcceptedLayers.{range_ok, none_under}

-- the first of two is none only where both are
or-none : {X : Type 0} (o p : Option X) → is_none (option_or o p) ≡ true → (o ≡ None) × (is_none p ≡ true)
or-none None p h = (refl, h)
or-none (Some x) p h = absurd (let e : false ≡ true = h in cc)

none-is : {X : Type 0} (o : Option X) → is_none o ≡ true → o ≡ None
none-is None h = refl
none-is (Some x) h = absurd (let e : false ≡ true = h in cc)

placed : (m : BaseMatrix) (i j : ℕ) → i < m.mb → j < m.nb → i * m.nb + j < m.mb * m.nb
placed m i j row column = subst (λ (n : ℕ). i * m.nb + j < n) (mul_comm m.nb m.mb) (mul-add-lt i m.nb j m.mb row column)

-- each entry is in range
pub entry-in_range : (m : BaseMatrix) (i j : ℕ) → IsAccepted m → i < m.mb → j < m.nb → is_entry_in_range m.z (entry_at m i j) ≡ true
entry-in_range m i j ok row column =
    let test : ℕ → Bool = λ k. not (is_entry_in_range m.z (entry_at m (k / m.nb) (k % m.nb))) in
    let none : find test (range_with_len 0 (m.mb * m.nb)) ≡ None =
    none_under (λ k. entry_range (k / m.nb) (k % m.nb)) (find test (range_with_len 0 (m.mb * m.nb))) (range_ok m ok) in
    let fails : test (i * m.nb + j) ≡ false =
    none-find test 0 (m.mb * m.nb) (i * m.nb + j) none (omega arith)
    (let e : i * m.nb + j < m.mb * m.nb = placed m i j row column in let g : i * m.nb + j < 0 + m.mb * m.nb = omega arith in g) in
    let q : (i * m.nb + j) / m.nb ≡ i = div-mul-add i m.nb j column in
    let r : (i * m.nb + j) % m.nb ≡ j = mod-mul-add i m.nb j column in
    not-false (is_entry_in_range m.z (entry_at m i j)) (rw (q, r) at fails)

-- a block names a column of the matrix and a shift below the lifting size
abbrev pub IsBlock : BaseMatrix → ℕ × ℕ → Type 0
IsBlock m block = (block.0 < m.nb) × (block.1 < m.z)

made : (m : BaseMatrix) (j : ℕ) (e : ℤ) (blocks : List (ℕ × ℕ)) (k : ℕ) (d : ℕ × ℕ) → j < m.nb → is_entry_in_range m.z e ≡ true
    → ((n : ℕ) → n < length blocks → IsBlock m (get_or blocks n d)) → k < length (cons_option (block_of_entry j e) blocks) → IsBlock m (get_or (cons_option (block_of_entry j e) blocks) k d)
made m j (pos s) blocks zero d column inside rest h = (column, ltb-true s m.z inside)
made m j (pos s) blocks (suc k) d column inside rest h = rest k (omega arith)
made m j (negsuc n) blocks k d column inside rest h = rest k h

-- each block of the columns from a on is one
from_column : (m : BaseMatrix) (i a n k : ℕ) (d : ℕ × ℕ) → ((j : ℕ) → j < m.nb → is_entry_in_range m.z (entry_at m i j) ≡ true) → a + n ≤ m.nb
    → k < length (filter_map (λ column. block_of_entry column (entry_at m i column)) (range_with_len a n))
    → IsBlock m (get_or (filter_map (λ column. block_of_entry column (entry_at m i column)) (range_with_len a n)) k d)
from_column m i a zero k d inside within h = absurd (omega arith)
from_column m i a (suc n) k d inside within h =
    made m a (entry_at m i a) (filter_map (λ column. block_of_entry column (entry_at m i column)) (range_with_len (a + 1) n)) k d (omega arith)
    (inside a (omega arith)) (λ j g. from_column m i (a + 1) n j d inside (omega arith) g) h

-- each block of a layer is one
pub layer-block : (m : BaseMatrix) (i k : ℕ) (d : ℕ × ℕ) → IsAccepted m → i < m.mb → k < length (layer_of m i) → IsBlock m (get_or (layer_of m i) k d)
layer-block m i k d ok row h = from_column m i 0 m.nb k d (λ j column. entry-in_range m i j ok row column) (omega arith) h

-- the same of a list that is a layer
pub layer-block_of : (m : BaseMatrix) (i k : ℕ) (d : ℕ × ℕ) (layer : List (ℕ × ℕ)) → IsAccepted m → i < m.mb → layer ≡ layer_of m i → k < length layer → IsBlock m (get_or layer k d)
layer-block_of m i k d layer ok row same h =
    subst (λ (xs : List (ℕ × ℕ)). IsBlock m (get_or xs k d)) (sym same)
    (layer-block m i k d ok row (subst (λ (xs : List (ℕ × ℕ)). k < length xs) same h))
