-- Each base row of an accepted matrix is a layer: at least two blocks in rising columns below nb, with shifts below z.
use Rattle.std.proofs.Common.{◌≡◌, ℕ, zero, suc, ◌+◌, ◌-◌, ◌*◌, ◌/◌, ◌%◌, ◌<◌, ◌≤◌, ◌||◌, Bool, true, false, not, cond, eqb, List, [], ◌∷◌, map, length, get_or, ℤ, pos, negsuc, Option, Some, None, is_none, IsTrue, find, option_map, filter_map, inl, inr, All, refl, sym, ap, subst, ◌∙◌, arith}
use Rattle.std.specs.List.{range_with_len, cons_option}
use Rattle.std.specs.List.Sorted.{IsStrictlyIncreasing}
use Rattle.std.specs.Option.{option_or}
use Rattle.std.specs.Ordering.{int_eq}
use Rattle.std.proofs.lemmas.List.Elements.{All-nil, All-cons, All-weaker}
use Rattle.std.proofs.lemmas.Bool.{false≢true, cases_eq}
use Rattle.std.proofs.lemmas.List.{length-map}
use Rattle.std.proofs.lemmas.List.FromFn.{get_or-range_with_len, length-range_with_len}
use Rattle.std.proofs.lemmas.Bool.Decides.{Decides-int_eq, nat_tests}
use Rattle.std.proofs.lemmas.Nat.{div-mul-add, mod-mul-add, mul-add-lt}
use Rattle.ssd_geo.specs.BaseMatrix.{BaseMatrix, IsAccepted, block_of_entry, is_entry_in_range, layer_of, entry_at, message_columns, parity_entry, range_fault, column_fault, diagonal_fault, diagonal_entry, breaks_parity_column, zero_block, first_fault}
use Rattle.ssd_geo.specs.LayerNumbers.{IsLayer}

-- the blocks that entries make in the n columns from `first` on
abbrev blocks_from : (ℕ → ℤ) → ℕ → ℕ → List (ℕ × ℕ)
blocks_from entry first n = filter_map (λ column. block_of_entry column (entry column)) (range_with_len first n)

-- a block's column is in a range, and its shift is below the lifting size
record IsBlock (z first end : ℕ) (block : ℕ × ℕ) : Type 0 where
  low : first ≤ block.0
  high : block.0 < end
  shift : block.1 < z

-- the columns rise, from `first` on
data Rising : ℕ → List (ℕ × ℕ) → Type 0 where
  rising_none : (first : ℕ) → Rising first []
  rising_more : (first : ℕ) (block : ℕ × ℕ) (blocks : List (ℕ × ℕ)) → first ≤ block.0 → Rising (block.0 + 1) blocks → Rising first (block ∷ blocks)

-- one entry in front
All-block : (P : ℕ × ℕ → Type 0) (column : ℕ) (entry : ℤ) (rest : List (ℕ × ℕ)) → All P rest → ((shift : ℕ) → entry ≡ pos shift → P (column, shift)) → All P (cons_option (block_of_entry column entry) rest)
All-block P column (pos shift) rest h k = All-cons P (column, shift) rest (k shift refl) h
All-block P column (negsuc n) rest h k = h

shift_in_range : (z : ℕ) (entry : ℤ) (shift : ℕ) → is_entry_in_range z entry ≡ true → entry ≡ pos shift → shift < z
shift_in_range z (pos s) shift h e =
    let same : s ≡ shift = cc in
    grind (arith, nat_tests)
shift_in_range z (negsuc n) shift h e = absurd (cc)

blocks_are : (z end : ℕ) (entry : ℕ → ℤ) (first n : ℕ) → first + n ≡ end → ((column : ℕ) → column < end → is_entry_in_range z (entry column) ≡ true) → All (IsBlock z first end) (blocks_from entry first n)
blocks_are z end entry first zero e h = All-nil (IsBlock z first end)
blocks_are z end entry first (suc n) e h =
    let rest = blocks_from entry (first + 1) n in
    All-block (IsBlock z first end) first (entry first) rest
    (All-weaker (IsBlock z (first + 1) end) (IsBlock z first end) (λ b k. record { low = omega (arith, k.low); high = k.high; shift = k.shift }) rest
    (blocks_are z end entry (first + 1) n (omega arith) h))
    (λ shift q. record { low = omega arith; high = omega arith; shift = shift_in_range z (entry first) shift (h first (omega arith)) q })

rising_down : (first : ℕ) (blocks : List (ℕ × ℕ)) → Rising (first + 1) blocks → Rising first blocks
rising_down first [] h = rising_none first
rising_down first (b ∷ blocks) (rising_more f b' bs low more) = rising_more first b blocks (omega arith) more

rising_block : (column : ℕ) (entry : ℤ) (rest : List (ℕ × ℕ)) → Rising (column + 1) rest → Rising column (cons_option (block_of_entry column entry) rest)
rising_block column (pos shift) rest h = rising_more column (column, shift) rest (omega arith) h
rising_block column (negsuc n) rest h = rising_down column rest h

blocks_rise : (entry : ℕ → ℤ) (first n : ℕ) → Rising first (blocks_from entry first n)
blocks_rise entry first zero = rising_none first
blocks_rise entry first (suc n) = rising_block first (entry first) (blocks_from entry (first + 1) n) (blocks_rise entry (first + 1) n)

first_column : (first : ℕ) (blocks : List (ℕ × ℕ)) → Rising first blocks → 0 < length blocks → first ≤ get_or (map (λ block. block.0) blocks) 0 0
first_column first [] h k = absurd (omega arith)
first_column first (b ∷ blocks) (rising_more f b' bs low more) k = low

strictly : (first : ℕ) (blocks : List (ℕ × ℕ)) → Rising first blocks → IsStrictlyIncreasing (map (λ block. block.0) blocks)
strictly first [] h k l = absurd (omega arith)
strictly first (b ∷ blocks) (rising_more f b' bs low more) zero l =
    let long : 0 < length blocks = omega (arith, length-map blocks (λ (block : ℕ × ℕ). block.0)) in
    let h : b.0 + 1 ≤ get_or (map (λ (block : ℕ × ℕ). block.0) blocks) 0 0 = first_column (b.0 + 1) blocks more long in
    omega arith
strictly first (b ∷ blocks) (rising_more f b' bs low more) (suc k) l =
    let columns = map (λ (block : ℕ × ℕ). block.0) (b ∷ blocks) in
    let next : suc (k + 1) ≡ suc k + 1 = omega arith in
    subst (λ (n : ℕ). get_or columns (suc k) 0 < get_or columns n 0) next (strictly (b.0 + 1) blocks more k (omega arith))

-- a block in front makes the list one longer, where there is one
longer : (column : ℕ) (entry : ℤ) (rest : List (ℕ × ℕ)) → length rest ≤ length (cons_option (block_of_entry column entry) rest)
longer column (pos shift) rest = omega arith
longer column (negsuc n) rest = omega arith

no_longer : (column : ℕ) (entry : ℤ) (rest : List (ℕ × ℕ)) → length (cons_option (block_of_entry column entry) rest) ≤ suc (length rest)
no_longer column (pos shift) rest = omega arith
no_longer column (negsuc n) rest = omega arith

longer_by_one : (column : ℕ) (entry : ℤ) (shift : ℕ) (rest : List (ℕ × ℕ)) → entry ≡ pos shift → length rest + 1 ≤ length (cons_option (block_of_entry column entry) rest)
longer_by_one column (pos s) shift rest e = omega arith
longer_by_one column (negsuc n) shift rest e = absurd (cc)

at_least_one : (entry : ℕ → ℤ) (first n j shift : ℕ) → first ≤ j → j < first + n → entry j ≡ pos shift → 1 ≤ length (blocks_from entry first n)
at_least_one entry first zero j shift low high e = absurd (omega arith)
at_least_one entry first (suc n) j shift low high e =
    let rest = blocks_from entry (first + 1) n in
    elim (cases_eq j first) [
      | inl same ↦ omega (arith, longer_by_one first (entry first) shift rest (ap entry (sym same) ∙ e))
      | inr other ↦ omega (arith, longer first (entry first) rest, at_least_one entry (first + 1) n j shift (omega arith) (omega arith) e)
    ]

at_least_two : (entry : ℕ → ℤ) (first n i j s t : ℕ) → first ≤ i → i < j → j < first + n → entry i ≡ pos s → entry j ≡ pos t → 2 ≤ length (blocks_from entry first n)
at_least_two entry first zero i j s t low less high e f = absurd (omega arith)
at_least_two entry first (suc n) i j s t low less high e f =
    let rest = blocks_from entry (first + 1) n in
    elim (cases_eq i first) [
      | inl same ↦ omega (arith, longer_by_one first (entry first) s rest (ap entry (sym same) ∙ e), at_least_one entry (first + 1) n j t (omega arith) (omega arith) f)
      | inr other ↦ omega (arith, longer first (entry first) rest, at_least_two entry (first + 1) n i j s t (omega arith) less (omega arith) e f)
    ]

-- ---- what an accepted matrix has

pub none_from : {X : Type 0} (o : Option X) → IsTrue (is_none o) → o ≡ None
none_from None h = refl
none_from (Some x) h = absurd (cc)

none_first : {X : Type 0} (a b : Option X) → option_or a b ≡ None → a ≡ None
none_first None b h = refl
none_first (Some x) b h = absurd (cc)

none_second : {X : Type 0} (a b : Option X) → option_or a b ≡ None → b ≡ None
none_second None b h = h
none_second (Some x) b h = absurd (cc)

pub none_under : {X Y : Type 0} (f : X → Y) (o : Option X) → option_map f o ≡ None → o ≡ None
none_under f None h = refl
none_under f (Some x) h = absurd (cc)

find_step : (test : ℕ → Bool) (x : ℕ) (xs : List ℕ) (b : Bool) → test x ≡ b → cond b (Some x) (find test xs) ≡ None → (b ≡ false) × (find test xs ≡ None)
find_step test x xs true e h = absurd (cc)
find_step test x xs false e h = (refl, h)

find_none : (test : ℕ → Bool) (xs : List ℕ) (k : ℕ) → find test xs ≡ None → k < length xs → test (get_or xs k 0) ≡ false
find_none test [] k h l = absurd (omega arith)
find_none test (x ∷ xs) zero h l = (find_step test x xs (test x) refl h).0
find_none test (x ∷ xs) (suc k) h l = find_none test xs k (find_step test x xs (test x) refl h).1 (omega arith)

none_in_range : (test : ℕ → Bool) (n k : ℕ) → find test (range_with_len 0 n) ≡ None → k < n → test k ≡ false
none_in_range test n k h l =
    let e : get_or (range_with_len 0 n) k 0 ≡ 0 + k = get_or-range_with_len 0 n k 0 l in
    let f : k ≡ get_or (range_with_len 0 n) k 0 = omega arith in
    ap test f ∙ find_none test (range_with_len 0 n) k h (omega (arith, length-range_with_len 0 n))

pub range_ok : (m : BaseMatrix) → IsAccepted m → range_fault m ≡ None
range_ok m h = none_first (range_fault m) _ (none_from (first_fault m) h.faultless)

pub column_ok : (m : BaseMatrix) → IsAccepted m → column_fault m ≡ None
column_ok m h = none_first (column_fault m) _ (none_second (range_fault m) _ (none_from (first_fault m) h.faultless))

pub diagonal_ok : (m : BaseMatrix) → IsAccepted m → diagonal_fault m ≡ None
diagonal_ok m h = none_second (column_fault m) _ (none_second (range_fault m) _ (none_from (first_fault m) h.faultless))

not_false : (b : Bool) → not b ≡ false → b ≡ true
not_false true h = refl
not_false false h = absurd (false≢true (sym h))

pub entries_in_range : (m : BaseMatrix) → IsAccepted m → (i column : ℕ) → i < m.mb → column < m.nb → is_entry_in_range m.z (entry_at m i column) ≡ true
entries_in_range m h i column in_rows in_columns =
    let at = λ (k : ℕ). not (is_entry_in_range m.z (entry_at m (k / m.nb) (k % m.nb))) in
    let place = i * m.nb + column in
    let in_matrix : place < m.mb * m.nb = omega (arith, mul-add-lt i m.nb column m.mb in_rows in_columns) in
    let fact = none_in_range at (m.mb * m.nb) place (none_under _ _ (range_ok m h)) in_matrix in
    let row : place / m.nb ≡ i = div-mul-add i m.nb column in_columns in
    let col : place % m.nb ≡ column = mod-mul-add i m.nb column in_columns in
    not_false _ (simp (row, col) at fact)

pub diagonal_at : (m : BaseMatrix) → IsAccepted m → (i t : ℕ) → i < m.mb → 0 < t → t < m.mb → entry_at m i (message_columns m + t) ≡ diagonal_entry i t
diagonal_at m h i t in_rows low high =
    let width = m.mb - 1 in
    let place = i * width + (t - 1) in
    let test = λ (k : ℕ). not (int_eq (entry_at m (k / width) (message_columns m + 1 + k % width)) (diagonal_entry (k / width) (1 + k % width))) in
    let in_part : place < m.mb * width = omega (arith, mul-add-lt i width (t - 1) m.mb in_rows (omega arith)) in
    let fact = none_in_range test (m.mb * width) place (none_under _ _ (diagonal_ok m h)) in_part in
    let row : place / width ≡ i = div-mul-add i width (t - 1) (omega arith) in
    let col : place % width ≡ t - 1 = mod-mul-add i width (t - 1) (omega arith) in
    let same : int_eq (entry_at m i (message_columns m + 1 + (t - 1))) (diagonal_entry i (1 + (t - 1))) ≡ true = not_false _ (simp (row, col) at fact) in
    let one_on : message_columns m + t ≡ message_columns m + 1 + (t - 1) = omega arith in
    let back : 1 + (t - 1) ≡ t = omega arith in
    ap (entry_at m i) one_on ∙ (Decides-int_eq _ _).0 same ∙ ap (diagonal_entry i) back

diagonal_same : (i : ℕ) → diagonal_entry i i ≡ pos 0
diagonal_same i = grind (arith, nat_tests)

diagonal_next : (i : ℕ) → diagonal_entry i (i + 1) ≡ pos 0
diagonal_next i = grind (arith, nat_tests)

is_shift : (z : ℕ) (entry : ℤ) → is_entry_in_range z entry ≡ true → int_eq entry zero_block ≡ false → (x : ℕ) × (entry ≡ pos x)
is_shift z (pos x) h k = (x, refl)
is_shift z (negsuc n) h k =
    let least : n ≡ 0 = grind (arith, nat_tests) in
    absurd (false≢true (sym k ∙ (Decides-int_eq (negsuc n) (negsuc 0)).1 (ap negsuc least)))

last_row : (first last A B C D : Bool) → first ≡ false → last ≡ true → cond first A (cond last (not B || not C) D) ≡ false → B ≡ true
last_row true last A B C D e f h = absurd (cc)
last_row false false A B C D e f h = absurd (cc)
last_row false true A true C D e f h = refl
last_row false true A false C D e f h = absurd (cc)

-- the first parity column has a shift in the first and in the last row
first_shift : (m : BaseMatrix) → IsAccepted m → (x : ℕ) × (parity_entry m 0 ≡ pos x)
first_shift m h =
    let w = h.within in
    let breaks : breaks_parity_column m 0 ≡ false = none_in_range (breaks_parity_column m) m.mb 0 (none_under _ _ (column_ok m h)) (omega (arith, w.mb_low)) in
    is_shift m.z (parity_entry m 0) (entries_in_range m h 0 (message_columns m) (omega (arith, w.mb_low)) (omega (arith, w.mb_low, w.nb_low))) breaks

last_shift : (m : BaseMatrix) → IsAccepted m → (i : ℕ) → i + 1 ≡ m.mb → (x : ℕ) × (parity_entry m i ≡ pos x)
last_shift m h i e =
    let w = h.within in
    let breaks : breaks_parity_column m i ≡ false = none_in_range (breaks_parity_column m) m.mb i (none_under _ _ (column_ok m h)) (omega arith) in
    let not_first : eqb i 0 ≡ false = grind (arith, nat_tests, w.mb_low) in
    let is_last : eqb (i + 1) m.mb ≡ true = grind (arith, nat_tests) in
    let same : int_eq (parity_entry m i) (parity_entry m 0) ≡ true = last_row (eqb i 0) (eqb (i + 1) m.mb) _ _ _ _ not_first is_last breaks in
    let x = first_shift m h in
    (x.0, (Decides-int_eq _ _).0 same ∙ x.1)

at_most : (entry : ℕ → ℤ) (first n : ℕ) → length (blocks_from entry first n) ≤ n
at_most entry first zero = omega arith
at_most entry first (suc n) = omega (arith, no_longer first (entry first) (blocks_from entry (first + 1) n), at_most entry (first + 1) n)

two_blocks : (m : BaseMatrix) → IsAccepted m → (i : ℕ) → i < m.mb → 2 ≤ length (layer_of m i)
two_blocks m h i in_rows =
    let w = h.within in
    let parity = message_columns m in
    let entry = entry_at m i in
    let columns : parity + m.mb ≡ m.nb = omega (arith, w.nb_low) in
    elim (cases_eq i 0) [
      | inl same ↦
          let x = first_shift m h in
          let here : entry parity ≡ pos (x.0) = ap (λ (n : ℕ). entry_at m n parity) same ∙ x.1 in
          let next : entry (parity + (i + 1)) ≡ pos 0 = diagonal_at m h i (i + 1) in_rows (omega arith) (omega (arith, w.mb_low)) ∙ diagonal_next i in
          at_least_two entry 0 m.nb parity (parity + (i + 1)) (x.0) 0 (omega arith) (omega arith) (omega (arith, w.mb_low)) here next
      | inr later ↦
          let here : entry (parity + i) ≡ pos 0 = diagonal_at m h i i in_rows (omega arith) in_rows ∙ diagonal_same i in
          elim (cases_eq (i + 1) m.mb) [
            | inl is_last ↦
                let x = last_shift m h i is_last in
                at_least_two entry 0 m.nb parity (parity + i) (x.0) 0 (omega arith) (omega arith) (omega arith) x.1 here
            | inr middle ↦
                let next : entry (parity + (i + 1)) ≡ pos 0 = diagonal_at m h i (i + 1) in_rows (omega arith) (omega arith) ∙ diagonal_next i in
                at_least_two entry 0 m.nb (parity + i) (parity + (i + 1)) 0 0 (omega arith) (omega arith) (omega arith) here next
          ]
    ]

layer_blocks : (m : BaseMatrix) → IsAccepted m → (i : ℕ) → i < m.mb → All (IsBlock m.z 0 m.nb) (layer_of m i)
layer_blocks m h i in_rows = blocks_are m.z m.nb (entry_at m i) 0 m.nb (omega arith) (λ column l. entries_in_range m h i column in_rows l)

pub accepted_layer : (m : BaseMatrix) → IsAccepted m → (i : ℕ) → i < m.mb → IsLayer m.z (layer_of m i)
accepted_layer m h i in_rows = record {
  at_least = two_blocks m h i in_rows;
  at_most = omega (arith, at_most (entry_at m i) 0 m.nb, h.within.nb_high);
  rising = strictly 0 (layer_of m i) (blocks_rise (entry_at m i) 0 m.nb);
  shifts = All-weaker (IsBlock m.z 0 m.nb) (λ block. block.1 < m.z) (λ b k. k.shift) (layer_of m i) (layer_blocks m h i in_rows);
}

pub accepted_columns : (m : BaseMatrix) → IsAccepted m → (i : ℕ) → i < m.mb → All (λ block. block.0 < m.nb) (layer_of m i)
accepted_columns m h i in_rows =
    All-weaker (IsBlock m.z 0 m.nb) (λ block. block.0 < m.nb) (λ b k. k.high) (layer_of m i) (layer_blocks m h i in_rows)
