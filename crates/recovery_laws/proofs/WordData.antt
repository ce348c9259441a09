-- The word of a write has its data: the proof of the law of specs/PageData.antt. It begins with the bytes of its payload,
-- whatever the matrix.
use Rattle.std.proofs.Common.{◌≡◌, ℕ, zero, suc, ◌+◌, ◌-◌, ◌*◌, ◌/◌, ◌%◌, ◌<◌, ◌≤◌, ◌==◌, Bool, false, cond, List, [], ◌∷◌, ◌++◌, length, get_or, take, drop, replicate, Some, refl, sym, ap, subst, ◌∙◌, arith, length-append}
use Rattle.std.specs.Int.{bit_at}
use Rattle.std.specs.List.{AllByRecursion, range_with_len}
use Rattle.std.specs.Prelude.{flat_map, map}
use Rattle.std.proofs.lemmas.List.{get_or_append_left, get_or-drop, get_or-take, length-drop, length-take-le, same_lists}
use Rattle.std.proofs.lemmas.List.FromFn.{get_or-map-range_with_len, length-map-range_with_len}
use Rattle.std.proofs.lemmas.Nat.{mul-le}
use Rattle.std.proofs.lemmas.Nat.Bits.{bit_at-suc, bit_at_lowest}
use Rattle.ssd_geo.specs.Bits.{bit_of, bits_of, byte_of, bytes_of, number_of}
use Rattle.ssd_geo.specs.BaseMatrix.{BaseMatrix}
use Rattle.ssd_geo.specs.Codewords.{code_of, parity_block, payload_bits}
use Rattle.ssd_geo.specs.Coding.{coding_of, matrix_of}
use Rattle.ssd_geo.specs.Limits.{Sizes, part_bytes_of, payload_bytes_of}
use Rattle.ssd_geo.specs.PageHead.{data_of_word, head_of_page, payload_of_page}
use Rattle.ssd_geo.specs.PageWord.{part_in, word_of}
use Rattle.ssd_geo.specs.Shape.{sizes_of}
use Rattle.ssd_geo.proofs.PageWords.{parts_are_the_payload}
use Rattle.ssd_geo.proofs.Payloads.{payloads_give_their_bytes, payloads_have_their_length}
use Rattle.recovery_laws.specs.PageData.{WordsHaveData}

-- the numbers below this one have so many bits
abbrev limit_of : ℕ → ℕ
limit_of zero = 1
limit_of (suc k) = 2 * limit_of k

-- a number is that of its bits
number_is : (k : ℕ) (bits : List Bool) (n : ℕ) → length bits ≡ k → n < limit_of k → ((i : ℕ) → i < k → get_or bits i false ≡ (bit_at n i == 1)) →
    number_of bits ≡ n
number_is zero [] n long low same = omega arith
number_is zero (bit ∷ bits) n long low same = absurd (omega arith)
number_is (suc k) [] n long low same = absurd (omega arith)
number_is (suc k) (bit ∷ bits) n long low same =
    let first : bit ≡ (n % 2 == 1) = same 0 (omega arith) ∙ ap (λ (b : ℕ). b == 1) (bit_at_lowest n) in
    let rest : number_of bits ≡ n / 2 =
    number_is k bits (n / 2) (omega arith) (half n (limit_of k) low)
    (λ i lt. same (suc i) (omega arith) ∙ ap (λ (b : ℕ). b == 1) (bit_at-suc n i)) in
    omega (arith, rest, ap {B = ℕ} (λ (b : Bool). cond b 1 0) first, digit (n % 2) (two n))
  where
    half : (n k : ℕ) → n < 2 * k → n / 2 < k
    half n k lt = omega arith

    two : (n : ℕ) → n % 2 < 2
    two n = omega arith

    digit : (d : ℕ) → d < 2 → ◌≡◌ {A = ℕ} (cond (d == 1) 1 0) d
    digit zero lt = refl_zero
      where
        refl_zero : ◌≡◌ {A = ℕ} (cond (0 == 1) 1 0) 0
        refl_zero = omega arith
    digit (suc zero) lt = omega arith
    digit (suc (suc d)) lt = absurd (omega arith)

-- a byte of the bits of whole bytes, with more bits behind them, is the byte
byte_is : (n : ℕ) (payload : List ℕ) (more : List Bool) (j : ℕ) → length payload ≡ n → j < n → get_or payload j 0 < 256 →
    byte_of (bits_of (8 * n) payload ++ more) j ≡ get_or payload j 0
byte_is n payload more j long lt small =
    let bits : List Bool = bits_of (8 * n) payload in
    let all : List Bool = bits ++ more in
    let many : length bits ≡ 8 * n = length-map-range_with_len (bit_of payload) 0 (8 * n) in
    number_is 8 (take 8 (drop (8 * j) all)) (get_or payload j 0)
    (length-take-le 8 (drop (8 * j) all) (omega (arith, length-drop (8 * j) all, length-append bits more, many))) small
    (λ i low.
    let place : 8 * j + i < 8 * n = omega arith in
    get_or-take 8 (drop (8 * j) all) i false low
    ∙ get_or-drop (8 * j) all i false
    ∙ get_or_append_left bits more false (8 * j + i) (omega (arith, many, place))
    ∙ get_or-map-range_with_len (bit_of payload) 0 (8 * n) (8 * j + i) (8 * j + i) false place (omega arith)
    ∙ (λ k. bit_at (get_or payload (byte_number j i low k) 0) (bit_number j i low k) == 1))
  where
    byte_number : (j i : ℕ) → i < 8 → (8 * j + i) / 8 ≡ j
    byte_number j i low = omega arith

    bit_number : (j i : ℕ) → i < 8 → (8 * j + i) % 8 ≡ i
    bit_number j i low = omega arith

-- so the bytes of these bits begin with the bytes
pub begins : (n : ℕ) (payload : List ℕ) (more : List Bool) → length payload ≡ n → ((i : ℕ) → get_or payload i 0 < 256) →
    take n (bytes_of (bits_of (8 * n) payload ++ more)) ≡ payload
begins n payload more long small =
    same_lists (take n bytes) payload (taken ∙ sym long)
    (λ j d lt.
    get_or-take n bytes j d (omega (arith, taken))
    ∙ get_or-map-range_with_len (byte_of all) 0 ((length all + 7) / 8) j j d (omega (arith, taken, enough)) (omega arith)
    ∙ byte_is n payload more j long (omega (arith, taken)) (small j)
    ∙ any_default payload j d (omega (arith, taken, long)))
  where
    all : List Bool
    all = bits_of (8 * n) payload ++ more

    bytes : List ℕ
    bytes = bytes_of all

    enough : n ≤ (length all + 7) / 8
    enough = omega (arith, length-append (bits_of (8 * n) payload) more, length-map-range_with_len (bit_of payload) 0 (8 * n))

    taken : length (take n bytes) ≡ n
    taken = length-take-le n bytes (omega (arith, enough, length-map-range_with_len (byte_of all) 0 ((length all + 7) / 8)))

    any_default : (xs : List ℕ) (j d : ℕ) → j < length xs → get_or xs j 0 ≡ get_or xs j d
    any_default [] j d lt = absurd (omega arith)
    any_default (x ∷ xs) zero d lt = refl
    any_default (x ∷ xs) (suc j) d lt = any_default xs j d (omega arith)

abbrev pub AreSmall : List ℕ → Type 0
AreSmall bytes = AllByRecursion (λ byte. byte < 256) bytes

pub both_small : (xs ys : List ℕ) → AreSmall xs → AreSmall ys → AreSmall (xs ++ ys)
both_small [] ys of_xs of_ys = of_ys
both_small (x ∷ xs) ys of_xs of_ys = (of_xs.0, both_small xs ys of_xs.1 of_ys)

zeros_small : (n : ℕ) → AreSmall (replicate n 0)
zeros_small zero = tt
zeros_small (suc n) = (omega arith, zeros_small n)

pub each_small : (bytes : List ℕ) → AreSmall bytes → (i : ℕ) → get_or bytes i 0 < 256
each_small [] small i = omega arith
each_small (byte ∷ bytes) small zero = small.0
each_small (byte ∷ bytes) small (suc i) = each_small bytes small.1 i

head_small : (serial row : ℕ) → AreSmall (head_of_page serial row)
head_small serial row =
    (omega arith, (omega arith, (omega arith, (omega arith, (omega arith, (omega arith, (omega arith, (omega arith, (omega arith, (omega arith, (omega arith, (omega arith, (omega arith, (omega arith, (omega arith, (omega arith, tt))))))))))))))))

pub payload_small : (payload_length serial row : ℕ) (data_bytes : List ℕ) → AreSmall data_bytes → AreSmall (payload_of_page payload_length serial row data_bytes)
payload_small payload_length serial row data_bytes small =
    both_small (head_of_page serial row) (data_bytes ++ replicate (payload_length - (16 + length data_bytes)) 0) (head_small serial row)
    (both_small data_bytes (replicate (payload_length - (16 + length data_bytes)) 0) small (zeros_small (payload_length - (16 + length data_bytes))))

-- a part of small bytes
pub small_rest : (n : ℕ) (bytes : List ℕ) → AreSmall bytes → AreSmall (drop n bytes)
small_rest zero bytes small = small
small_rest (suc n) [] small = tt
small_rest (suc n) (byte ∷ bytes) small = small_rest n bytes small.1

pub small_front : (n : ℕ) (bytes : List ℕ) → AreSmall bytes → AreSmall (take n bytes)
small_front zero bytes small = tt
small_front (suc n) [] small = tt
small_front (suc n) (byte ∷ bytes) small = (small.0, small_front n bytes small.1)

-- whole bytes, by their bits
pub whole_bytes : (bits : ℕ) → bits % 8 ≡ 0 → bits ≡ 8 * (bits / 8)
whole_bytes bits e = omega arith

-- the codeword of a part begins with its bytes, whatever the matrix
code_begins : (m : BaseMatrix) (n : ℕ) (part : List ℕ) → payload_bits m ≡ 8 * n → length part ≡ n → AreSmall part → take n (code_of m part) ≡ part
code_begins m n part whole long small =
    let more : List Bool = flat_map (parity_block m (bits_of (payload_bits m) part)) (range_with_len 0 m.mb) in
    ap (λ (count : ℕ). take n (bytes_of (bits_of count part ++ more))) whole ∙ begins n part more long (each_small part small)

-- a page's word begins with the parts of its codewords, and so with its payload
module _ (sizes : Sizes) (m : BaseMatrix) (whole : payload_bits m ≡ 8 * part_bytes_of sizes) (payload : List ℕ) (long : length payload ≡ payload_bytes_of sizes) (small : AreSmall payload) where
  part_long : (f : ℕ) → f < sizes.words → length (part_in sizes payload f) ≡ part_bytes_of sizes
  part_long f low =
      let n : ℕ = part_bytes_of sizes in
      let fits : (f + 1) * n ≤ sizes.words * n = mul-le (f + 1) n sizes.words n (omega arith) (omega arith) in
      let one : (f + 1) * n ≡ f * n + n = next_part f n in
      let taken : (f + 1) * n - f * n ≡ n = omega arith in
      ap (λ (k : ℕ). length (take k (drop (f * n) payload))) taken
      ∙ length-take-le n (drop (f * n) payload) (omega (arith, length-drop (f * n) payload, long))
    where
      next_part : (f n : ℕ) → (f + 1) * n ≡ f * n + n
      next_part f n = omega arith

  part_small : (f : ℕ) → AreSmall (part_in sizes payload f)
  part_small f =
      small_front ((f + 1) * part_bytes_of sizes - f * part_bytes_of sizes) (drop (f * part_bytes_of sizes) payload)
      (small_rest (f * part_bytes_of sizes) payload small)

  parts_in_front : (a k : ℕ) → a + k ≤ sizes.words →
      flat_map (take (part_bytes_of sizes)) (map (λ f. code_of m (part_in sizes payload f)) (range_with_len a k))
      ≡ flat_map (part_in sizes payload) (range_with_len a k)
  parts_in_front a zero within = refl
  parts_in_front a (suc k) within =
      let others : List (List ℕ) = map (λ f. code_of m (part_in sizes payload f)) (range_with_len (a + 1) k) in
      ap (λ (front : List ℕ). front ++ flat_map (take (part_bytes_of sizes)) others)
      (code_begins m (part_bytes_of sizes) (part_in sizes payload a) whole (part_long a (omega arith)) (part_small a))
      ∙ ap (λ (rest : List ℕ). part_in sizes payload a ++ rest) (parts_in_front (a + 1) k (omega arith))

  pub payload_first : payload ++ flat_map (drop (part_bytes_of sizes)) (map (λ f. code_of m (part_in sizes payload f)) (range_with_len 0 sizes.words)) ≡ word_of sizes m payload
  payload_first =
      let behind : List ℕ =
      flat_map (drop (part_bytes_of sizes)) (map (λ f. code_of m (part_in sizes payload f)) (range_with_len 0 sizes.words)) in
      ap (λ (front : List ℕ). front ++ behind)
      (sym (parts_in_front 0 sizes.words (omega arith) ∙ parts_are_the_payload sizes payload long))

-- the data of a page, off its word
data_found : (sizes : Sizes) (m : BaseMatrix) (serial row : ℕ) (data_bytes : List ℕ) → payload_bits m ≡ 8 * part_bytes_of sizes →
    16 + length data_bytes ≤ payload_bytes_of sizes → AreSmall data_bytes →
    data_of_word (payload_bytes_of sizes) (length data_bytes) serial row
    (word_of sizes m (payload_of_page (payload_bytes_of sizes) serial row data_bytes)) ≡ Some data_bytes
data_found sizes m serial row data_bytes whole room small =
    let n : ℕ = payload_bytes_of sizes in
    let payload : List ℕ = payload_of_page n serial row data_bytes in
    let behind : List ℕ =
    flat_map (drop (part_bytes_of sizes)) (map (λ f. code_of m (part_in sizes payload f)) (range_with_len 0 sizes.words)) in
    ap (data_of_word n (length data_bytes) serial row)
    (sym (payload_first sizes m whole payload (payloads_have_their_length n serial row data_bytes room) (payload_small n serial row data_bytes small)))
    ∙ payloads_give_their_bytes n serial row data_bytes behind room

pub words_have_data : WordsHaveData
words_have_data base serial row data_bytes is_data =
    let sizes : Sizes = sizes_of base.shape in
    subst (λ (count : ℕ). data_of_word (payload_bytes_of sizes) count serial row ((coding_of base).encoded serial row data_bytes) ≡ Some data_bytes) is_data.long
    (data_found sizes (matrix_of base) serial row data_bytes
    (whole_bytes (payload_bits (matrix_of base)) base.shape.within.whole_payload_bytes) (omega (arith, is_data.long, base.shape.within.bytes_high)) is_data.small)
