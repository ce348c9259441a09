-- What the decoder finds is a codeword, within the iteration limit.
use Rattle.std.proofs.Common.{◌≡◌, ℕ, zero, suc, ◌+◌, ◌*◌, ◌<◌, ◌≤◌, Bool, true, false, cond, eqb, List, [], ◌∷◌, length, get_or, take, drop, set, ℤ, Option, Some, None, find, option_map, count_by, inl, inr, ◌⊎◌, refl, sym, ap, ◌∙◌, arith}
use Rattle.std.specs.List.{range_with_len, list_all}
use Rattle.std.proofs.lemmas.Bool.{and_parts, false≢true}
use Rattle.std.proofs.lemmas.List.{length-set, length-map}
use Rattle.std.proofs.lemmas.List.Folds.{sum_by-zero}
use Rattle.std.proofs.lemmas.List.FromFn.{get_or-range_with_len, length-range_with_len}
use Rattle.ssd_geo.specs.BaseMatrix.{BaseMatrix}
use Rattle.ssd_geo.specs.Bits.{IsOfBits, bits_of, bytes_of}
use Rattle.ssd_geo.specs.Codewords.{IsCodeword, is_codeword, is_odd_row, word_bits}
use Rattle.ssd_geo.specs.Decoding.{after_iterations, decided_after, decode, edges_of, given_of, iterated, layer_worked, layers_of, picked, placed, row_worked, rows_worked, sums_of}
use Rattle.ssd_geo.specs.Layer.{variables_of}
use Rattle.ssd_geo.specs.RowRule.{is_negative, row_rule}
use Rattle.ssd_geo.proofs.BitsOfBytes.{bits_of-bytes_of}

pub length-placed : (xs : List ℤ) (places : List ℕ) (ys : List ℤ) → length (placed xs places ys) ≡ length xs
length-placed xs [] ys = refl
length-placed xs (i ∷ places) [] = refl
length-placed xs (i ∷ places) (y ∷ ys) = length-placed (set xs i y) places ys ∙ length-set xs i y

length-row : (layer : List (ℕ × ℕ)) (z t : ℕ) (s : List ℤ × List ℤ) → length (row_worked layer z t s).0 ≡ length s.0
unfolding row_worked
length-row layer z t s =
    let given = given_of (picked s.0 (variables_of layer z t)) (picked s.1 (edges_of (length layer) z t)) in
    length-placed s.0 (variables_of layer z t) (sums_of given (row_rule given))

pub length-rows : (layer : List (ℕ × ℕ)) (z n : ℕ) (s : List ℤ × List ℤ) → length (rows_worked layer z n s).0 ≡ length s.0
length-rows layer z zero s = refl
length-rows layer z (suc n) s = length-row layer z n (rows_worked layer z n s) ∙ length-rows layer z n s

length-iterated : (layers : List (List (ℕ × ℕ))) (z : ℕ) (s : List ℤ × List ℤ) → length (iterated layers z s).0 ≡ length s.0
length-iterated [] z s = refl
length-iterated (layer ∷ layers) z s =
    let own = length layer * z in
    let first = layer_worked layer z (s.0, take own s.1) in
    length-iterated layers z (first.0, drop own s.1) ∙ length-rows layer z z (s.0, take own s.1)

pub length-after_iterations : (m : BaseMatrix) (values : List ℤ) (n : ℕ) → length (after_iterations m values n).0 ≡ length values
length-after_iterations m values zero = refl
length-after_iterations m values (suc n) = length-iterated (layers_of m) m.z (after_iterations m values n) ∙ length-after_iterations m values n

length-decided : (m : BaseMatrix) (values : List ℤ) (n : ℕ) → length (decided_after m values n) ≡ length values
length-decided m values n = length-map (after_iterations m values n).0 is_negative ∙ length-after_iterations m values n

found_step : (test : ℕ → Bool) (first n : ℕ) (rest : List ℕ) (b : Bool) → test first ≡ b → cond b (Some first) (find test rest) ≡ Some n → ((b ≡ true) × (first ≡ n)) ⊎ (find test rest ≡ Some n)
found_step test first n rest true e h = inl (refl, (cc))
found_step test first n rest false e h = inr h

-- what a search finds passes the test and is in the list
found_is : (test : ℕ → Bool) (first count n : ℕ) → find test (range_with_len first count) ≡ Some n → (test n ≡ true) × (n < first + count)
found_is test first zero n h = absurd (cc)
found_is test first (suc count) n h =
    elim (found_step test first n (range_with_len (first + 1) count) (test first) refl h) [
      | inl now ↦ (ap test (sym now.1) ∙ now.0, omega (arith, now.1))
      | inr later ↦ let rest = found_is test (first + 1) count n later in (rest.0, omega (arith, rest.1))
    ]

all_at : (test : ℕ → Bool) (xs : List ℕ) (k : ℕ) → list_all test xs ≡ true → k < length xs → test (get_or xs k 0) ≡ true
all_at test [] k h l = absurd (omega arith)
all_at test (x ∷ xs) zero h l = (and_parts (test x) (list_all test xs) h).0
all_at test (x ∷ xs) (suc k) h l = all_at test xs k (and_parts (test x) (list_all test xs) h).1 (omega arith)

all_in_range : (test : ℕ → Bool) (n k : ℕ) → list_all test (range_with_len 0 n) ≡ true → k < n → test k ≡ true
all_in_range test n k h l =
    let e : get_or (range_with_len 0 n) k 0 ≡ 0 + k = get_or-range_with_len 0 n k 0 l in
    let f : k ≡ get_or (range_with_len 0 n) k 0 = omega arith in
    ap test f ∙ all_at test (range_with_len 0 n) k h (omega (arith, length-range_with_len 0 n))

not_one : (b : Bool) → eqb (cond b 1 0) 0 ≡ true → b ≡ false
not_one true h = absurd (false≢true h)
not_one false h = refl

pub even_rows : (m : BaseMatrix) (bits : List Bool) → is_codeword m bits ≡ true → (i r : ℕ) → i < m.mb → r < m.z → is_odd_row m bits i r ≡ false
even_rows m bits h i r in_rows in_layer =
    let count = λ (k : ℕ). count_by (is_odd_row m bits k) (range_with_len 0 m.z) in
    let one = λ (k : ℕ). cond (is_odd_row m bits i k) 1 0 in
    let layers : list_all (λ (k : ℕ). eqb (count k) 0) (range_with_len 0 m.mb) ≡ true = sym (sum_by-zero count (range_with_len 0 m.mb)) ∙ h in
    let layer : eqb (count i) 0 ≡ true = all_in_range (λ (k : ℕ). eqb (count k) 0) m.mb i layers in_rows in
    let rows : list_all (λ (k : ℕ). eqb (one k) 0) (range_with_len 0 m.z) ≡ true = sym (sum_by-zero one (range_with_len 0 m.z)) ∙ layer in
    not_one (is_odd_row m bits i r) (all_in_range (λ (k : ℕ). eqb (one k) 0) m.z r rows in_layer)

mapped : (w : ℕ → List ℕ) (o : Option ℕ) (n : ℕ) (word : List ℕ) → option_map {U = ℕ × List ℕ} (λ k. (k, w k)) o ≡ Some (n, word) → (o ≡ Some n) × (word ≡ w n)
mapped w None n word h = absurd (cc)
mapped w (Some k) n word h =
    let e : (k, w k) ≡ (n, word) = cc in
    let p : k ≡ n = ap (λ (s : ℕ × List ℕ). s.0) e in
    let q : w k ≡ word = ap (λ (s : ℕ × List ℕ). s.1) e in
    (ap Some p, sym q ∙ ap w p)

pub decoded_is : (m : BaseMatrix) (limit : ℕ) (values : List ℤ) (n : ℕ) (word : List ℕ) → decode m limit values ≡ Some (n, word) → (n ≤ limit) × (is_codeword m (decided_after m values n) ≡ true) × (word ≡ bytes_of (decided_after m values n))
decoded_is m limit values n word h =
    let test = λ (k : ℕ). is_codeword m (decided_after m values k) in
    let made = mapped (λ k. bytes_of (decided_after m values k)) (find test (range_with_len 0 (limit + 1))) n word h in
    let found = found_is test 0 (limit + 1) n made.0 in
    (omega (arith, found.1), found.0, made.1)

pub decoded_codeword : (m : BaseMatrix) (limit : ℕ) (values : List ℤ) (n : ℕ) (word : List ℕ) → length values ≡ word_bits m → decode m limit values ≡ Some (n, word) → IsCodeword m word
decoded_codeword m limit values n word long h = λ i r in_rows in_layer.
    let is = decoded_is m limit values n word h in
    let bits = decided_after m values n in
    let back : bits_of (word_bits m) word ≡ bits = ap (bits_of (word_bits m)) is.2 ∙ bits_of-bytes_of (word_bits m) bits (length-decided m values n ∙ long) in
    ap (λ (b : List Bool). is_odd_row m b i r) back ∙ even_rows m bits is.1 i r in_rows in_layer

pub decoded_of_bits : (m : BaseMatrix) (limit : ℕ) (values : List ℤ) (n : ℕ) (word : List ℕ) → length values ≡ word_bits m → decode m limit values ≡ Some (n, word) → IsOfBits (word_bits m) word
decoded_of_bits m limit values n word long h =
    let is = decoded_is m limit values n word h in
    let bits = decided_after m values n in
    let back : bits_of (word_bits m) word ≡ bits = ap (bits_of (word_bits m)) is.2 ∙ bits_of-bytes_of (word_bits m) bits (length-decided m values n ∙ long) in
    ap bytes_of back ∙ sym is.2
