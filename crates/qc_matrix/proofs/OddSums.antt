-- The sum of a word's bits at some variables, added one by one, and how many numbers of a range pass a test.
use Rattle.std.proofs.Common.{◌≡◌, ℕ, zero, suc, ◌+◌, ◌-◌, ◌*◌, ◌/◌, ◌%◌, ◌<◌, ◌≤◌, Bool, true, false, List, [], ◌∷◌, ◌++◌, length, get_or, take, replicate, eqb, refl, ap, sym, ◌∙◌, arith}
use Rattle.std.specs.Prelude.{count_by, sum_by, slice_index_or}
use Rattle.std.specs.List.{range_with_len}
use Rattle.std.proofs.lemmas.List.FromFn.{get_or-map-range_with_len, map-range_with_len_more}
use Rattle.std.proofs.lemmas.List.{map_more, map-id}
use Rattle.std.proofs.lemmas.List.Sums.{sum_by_push}
use Rattle.ssd_geo.specs.Bits.{bit_of, bits_of, bit_sum, weight_of}
use Rattle.ssd_geo.specs.Codewords.{is_odd_sum}
use Rattle.ssd_geo.specs.Layer.{variable_of, variables_of}
use Rattle.ssd_bits.proofs.Counting.{count_to, count_to-add, count_to-same, one_if, weight_of-bits_of}
use Rattle.ssd_bits.specs.Runs.{AddsRotated}
use Rattle.std.specs.Int.{bit_at}
use Rattle.std.proofs.lemmas.Nat.Bits.{bit_at-zero}
use Rattle.std.proofs.lemmas.Nat.{mod_below}
use Rattle.shared_lemmas.proofs.Lists.{sum_by-range_more}

pub bit_sum-assoc : (a b c : Bool) → bit_sum (bit_sum a b) c ≡ bit_sum a (bit_sum b c)
bit_sum-assoc true true true = refl
bit_sum-assoc true true false = refl
bit_sum-assoc true false true = refl
bit_sum-assoc true false false = refl
bit_sum-assoc false b c = refl

pub bit_sum_comm : (a b : Bool) → bit_sum a b ≡ bit_sum b a
bit_sum_comm true true = refl
bit_sum_comm true false = refl
bit_sum_comm false true = refl
bit_sum_comm false false = refl

-- one more variable at the end
pub is_odd_sum-push : (bits : List Bool) (vs : List ℕ) (v : ℕ) → is_odd_sum bits (vs ++ v ∷ []) ≡ bit_sum (is_odd_sum bits vs) (slice_index_or bits v false)
is_odd_sum-push bits [] v = bit_sum_comm (slice_index_or bits v false) false
is_odd_sum-push bits (w ∷ vs) v =
    ap (bit_sum (slice_index_or bits w false)) (is_odd_sum-push bits vs v)
    ∙ sym (bit_sum-assoc (slice_index_or bits w false) (is_odd_sum bits vs) (slice_index_or bits v false))

-- one more block of a layer
pub is_odd_sum-more : (bits : List Bool) (layer : List (ℕ × ℕ)) (z r k : ℕ) (d : ℕ × ℕ) → k < length layer
    → is_odd_sum bits (variables_of (take (k + 1) layer) z r)
    ≡ bit_sum (is_odd_sum bits (variables_of (take k layer) z r)) (slice_index_or bits (variable_of z r (get_or layer k d)) false)
is_odd_sum-more bits layer z r k d h =
    ap (is_odd_sum bits) (map_more (variable_of z r) layer k d h)
    ∙ is_odd_sum-push bits (variables_of (take k layer) z r) (variable_of z r (get_or layer k d))

-- a bit of the first n bits
pub bits_of-at : (n : ℕ) (bytes : List ℕ) (v : ℕ) → v < n → slice_index_or (bits_of n bytes) v false ≡ bit_of bytes v
bits_of-at n bytes v h = get_or-map-range_with_len (bit_of bytes) 0 n v v false h (omega arith)

-- the numbers of a range that pass are counted one by one
pub count_by-range : (test : ℕ → Bool) (n : ℕ) → count_by test (range_with_len 0 n) ≡ count_to test n
count_by-range test zero = refl
count_by-range test (suc n) =
    let more : suc n ≡ n + 1 = omega arith in
    let before : count_by test (range_with_len 0 n) ≡ count_to test n = count_by-range test n in
    ap (λ (k : ℕ). count_by test (range_with_len 0 k)) more
    ∙ sum_by-range_more (λ (k : ℕ). one_if (test k)) n
    ∙ ap (λ (k : ℕ). k + one_if (test n)) before

-- where no number passes there are none to count
count_to-none : (test : ℕ → Bool) (n : ℕ) → ((k : ℕ) → k < n → test k ≡ false) → count_to test n ≡ 0
count_to-none test zero none = refl
count_to-none test (suc n) none =
    let before : count_to test n ≡ 0 = count_to-none test n (λ k h. none k (omega arith)) in
    let last : one_if (test n) ≡ 0 = ap one_if (none n (omega arith)) in
    omega arith

-- the ones of bytes in which the first bits answer a test, and the others are 0
pub weight_of-block : (bytes : List ℕ) (test : ℕ → Bool) (z n : ℕ) → z ≤ n → ((r : ℕ) → r < z → bit_of bytes r ≡ test r) → ((r : ℕ) → z ≤ r → bit_of bytes r ≡ false)
    → weight_of (bits_of n bytes) ≡ count_by test (range_with_len 0 z)
weight_of-block bytes test z n within inside outside =
    let whole : n ≡ z + (n - z) = omega arith in
    let first : count_to (bit_of bytes) z ≡ count_to test z = count_to-same (bit_of bytes) test z inside in
    let rest : count_to (λ k. bit_of bytes (z + k)) (n - z) ≡ 0 = count_to-none (λ k. bit_of bytes (z + k)) (n - z) (λ k _. outside (z + k) (omega arith)) in
    let sum : count_to (bit_of bytes) n ≡ count_to (bit_of bytes) z + count_to (λ k. bit_of bytes (z + k)) (n - z) =
    ap (count_to (bit_of bytes)) whole ∙ count_to-add (bit_of bytes) z (n - z) in
    weight_of-bits_of bytes n ∙ (let e : count_to (bit_of bytes) n ≡ count_to test z = omega arith in e) ∙ sym (count_by-range test z)

zero-byte : (n j : ℕ) → let zeros : List ℕ = replicate n 0 in get_or zeros j 0 ≡ 0
zero-byte zero j = refl
zero-byte (suc n) zero = refl
zero-byte (suc n) (suc j) = zero-byte n j

-- no bit of bytes that are 0 is 1
pub bit_of-zeros : (n r : ℕ) → bit_of (replicate n 0) r ≡ false
bit_of-zeros n r = ap (λ (x : ℕ). eqb (bit_at x (r % 8)) 1) (zero-byte n (r / 8)) ∙ ap (λ (x : ℕ). eqb x 1) (bit_at-zero (r % 8))

-- a turned block is added to the sums of a layer's rows
module _ (old new word : List ℕ) (layer : List (ℕ × ℕ)) (z n k column shift : ℕ) (here : get_or layer k (0, 0) ≡ (column, shift)) (more : k < length layer)
    (positive : 0 < z) (within : column * z + z ≤ n) (adds : AddsRotated old new 0 word (column * z) z shift) where
  pub sums-more : ((r : ℕ) → r < z → bit_of old r ≡ is_odd_sum (bits_of n word) (variables_of (take k layer) z r)) → (r : ℕ) → r < z
      → bit_of new r ≡ is_odd_sum (bits_of n word) (variables_of (take (k + 1) layer) z r)
  sums-more before r low =
      let none : 0 + r ≡ r = omega arith in
      let small : (r + shift) % z < z = mod_below (r + shift) z positive in
      let bit : slice_index_or (bits_of n word) (variable_of z r (column, shift)) false ≡ bit_of word (column * z + (r + shift) % z) =
      bits_of-at n word (column * z + (r + shift) % z) (omega arith) in
      let added : bit_of new (0 + r) ≡ bit_sum (bit_of old (0 + r)) (bit_of word (column * z + (r + shift) % z)) = adds.inside r low in
      (rw none at added)
      ∙ ap (λ (b : Bool). bit_sum b (bit_of word (column * z + (r + shift) % z))) (before r low)
      ∙ ap (λ (b : Bool). bit_sum (is_odd_sum (bits_of n word) (variables_of (take k layer) z r)) b)
      (sym bit ∙ ap (λ (block : ℕ × ℕ). slice_index_or (bits_of n word) (variable_of z r block) false) (sym here))
      ∙ sym (is_odd_sum-more (bits_of n word) layer z r k (0, 0) more)
