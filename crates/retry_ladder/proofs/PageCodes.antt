-- The codewords of a page, one by one: how long they are, what one of five senses has of them, and how many checks they fail.
use Rattle.std.proofs.Common.{◌≡◌, ◌∙◌, ℕ, zero, suc, ◌+◌, ◌-◌, ◌*◌, ◌<◌, ◌≤◌, List, [], ◌∷◌, ◌++◌, length, map, refl, sym, ap, subst, arith, zero-add}
use Rattle.std.specs.Prelude.{All, MatchBool, None, Option, Some, count_by, is_some, option_map, sum_by}
use Rattle.std.proofs.lemmas.List.{map-id}
use Rattle.std.proofs.lemmas.List.Elements.{All-cons, All-nil}
use Rattle.std.specs.List.{range_with_len}
use Rattle.std.proofs.lemmas.List.Edits.{length-between}
use Rattle.std.proofs.lemmas.List.FromFn.{length-range_with_len, map-range_with_len_more}
use Rattle.std.proofs.lemmas.List.Sums.{count_by-le-length, sum_by-le, sum_by_push}
use Rattle.std.proofs.lemmas.Nat.{mul-le}
use Rattle.ssd_geo.proofs.PageWords.{one_code_is_the_word}
use Rattle.ssd_geo.specs.BaseMatrix.{BaseMatrix}
use Rattle.ssd_geo.specs.Bits.{bits_of}
use Rattle.ssd_geo.specs.Codewords.{failed_checks, is_odd_row, word_bits}
use Rattle.ssd_geo.specs.Limits.{Sizes, code_bytes_of, word_bytes_of}
use Rattle.ssd_geo.specs.PageWord.{code_in}
use Rattle.ssd_geo.specs.Senses.{five_senses, sense_in}
use Rattle.page_head.proofs.PutParts.{part_fits}
use Rattle.retry_ladder.specs.Decoder.{IsDecoded}
use Rattle.shared_lemmas.proofs.Lists.{sum_by-range_more}

-- with one codeword the page's word has its length
pub one_length : (sizes : Sizes) → sizes.words ≡ 1 → word_bytes_of sizes ≡ code_bytes_of sizes
one_length sizes one = ap (λ (n : ℕ). n * code_bytes_of sizes) one ∙ omega arith

-- with one codeword the page's word is it
pub only_code : (sizes : Sizes) (word : List ℕ) (f : ℕ) → sizes.words ≡ 1 → f < sizes.words → length word ≡ word_bytes_of sizes → code_in sizes word f ≡ word
only_code sizes word f one below as_long =
    let first : f ≡ 0 = omega (arith, one, below) in
    ap (code_in sizes word) first
    ∙ (one_code_is_the_word sizes word one (part_fits sizes) (as_long ∙ one_length sizes one)).1

-- a function of each item of a list that is made over a range
map_both : (g : List ℕ → List ℕ) (h : ℕ → List ℕ) (range : List ℕ) → map g (map h range) ≡ map (λ j. g (h j)) range
map_both g h [] = refl
map_both g h (j ∷ range) = ap (λ (xs : List (List ℕ)). g (h j) ∷ xs) (map_both g h range)

pub map_same : {X : Type 0} (g h : ℕ → X) (a k : ℕ) → ((j : ℕ) → j < a + k → g j ≡ h j) → map g (range_with_len a k) ≡ map h (range_with_len a k)
map_same g h a zero same = refl
map_same {X = X} g h a (suc k) same =
    ap (λ (x : X). x ∷ map g (range_with_len (a + 1) k)) (same a (omega arith))
    ∙ ap (λ (xs : List X). h a ∷ xs) (map_same g h (a + 1) k (λ j below. same j (omega arith)))

-- the places of five senses one after the other
sense_within : (k n : ℕ) → k < 5 → k * n + n ≤ 5 * n
sense_within k n below =
    let whole : suc k * n ≤ 5 * n = mul-le (suc k) n 5 n (omega arith) (omega arith) in
    let more : suc k * n ≡ k * n + n = omega arith in
    omega (arith, whole, more)

pub sense_fits : (k n : ℕ) (five : List ℕ) → k < 5 → length five ≡ 5 * n → k * n + n ≤ length five
sense_fits k n five below as_long = omega (arith, sense_within k n below, as_long)

sense_length : (n : ℕ) (five : List ℕ) (k : ℕ) → k < 5 → length five ≡ 5 * n → length (sense_in n five k) ≡ n
sense_length n five k below as_long =
    let width : k * n + n - k * n ≡ n = omega arith in
    length-between five (k * n) (k * n + n) (sense_fits k n five below as_long) ∙ width

-- with one codeword the five senses of the page are its five parts
pub only_parts :
    (sizes : Sizes) (five : List ℕ) (f : ℕ) → sizes.words ≡ 1 → f < sizes.words → length five ≡ 5 * word_bytes_of sizes →
    five_senses (code_bytes_of sizes) five ≡ map (λ sense. code_in sizes sense f) (five_senses (word_bytes_of sizes) five)
only_parts sizes five f one below as_long =
    let n : ℕ = word_bytes_of sizes in
    ap (λ (bytes : ℕ). five_senses bytes five) (sym (one_length sizes one))
    ∙ sym (map_both (λ sense. code_in sizes sense f) (sense_in n five) (range_with_len 0 5)
    ∙ map_same (λ j. code_in sizes (sense_in n five j) f) (sense_in n five) 0 5
    (λ j within. only_code sizes (sense_in n five j) f one below (sense_length n five j (omega arith) as_long)))

-- the parts that were taken out of so many senses
abbrev pub parts_so_far : Sizes → ℕ → List ℕ → ℕ → ℕ → List (List ℕ)
parts_so_far sizes page five f k = map (λ j. code_in sizes (sense_in page five j) f) (range_with_len 0 k)

pub one_more_part :
    (sizes : Sizes) (page : ℕ) (five : List ℕ) (f k : ℕ) (so_far : List (List ℕ)) → so_far ≡ parts_so_far sizes page five f k →
    so_far ++ code_in sizes (sense_in page five k) f ∷ [] ≡ parts_so_far sizes page five f (k + 1)
one_more_part sizes page five f k so_far e =
    let part : ℕ → List ℕ = λ j. code_in sizes (sense_in page five j) f in
    ap (λ (xs : List (List ℕ)). xs ++ part k ∷ []) e ∙ sym (map-range_with_len_more part 0 k k (omega arith))

pub all_parts :
    (sizes : Sizes) (page code : ℕ) (five bits : List ℕ) (f : ℕ) → page ≡ word_bytes_of sizes → code ≡ code_bytes_of sizes →
    map (sense_in code bits) (range_with_len 0 5) ≡ parts_so_far sizes page five f 5 →
    five_senses (code_bytes_of sizes) bits ≡ map (λ sense. code_in sizes sense f) (five_senses (word_bytes_of sizes) five)
all_parts sizes page code five bits f page_is code_is so_far =
    ap (λ (n : ℕ). five_senses n bits) (sym code_is)
    ∙ so_far
    ∙ sym (map_both (λ sense. code_in sizes sense f) (sense_in page five) (range_with_len 0 5))
    ∙ ap (λ (n : ℕ). map (λ sense. code_in sizes sense f) (five_senses n five)) page_is

-- no word fails more checks than there are
abbrev IsAtMost : (ℕ → ℕ) → ℕ → ℕ → Type 0
IsAtMost f n i = f i ≤ n

all_at_most : (f : ℕ → ℕ) (n : ℕ) → ((i : ℕ) → f i ≤ n) → (range : List ℕ) → All (λ i. f i ≤ n) range
all_at_most f n below [] = All-nil (IsAtMost f n)
all_at_most f n below (i ∷ range) = All-cons (IsAtMost f n) i range (below i) (all_at_most f n below range)

odd_below : (m : BaseMatrix) (bits : List ℕ) (i : ℕ) →
    count_by (is_odd_row m (bits_of (word_bits m) bits) i) (range_with_len 0 m.z) ≤ m.z
odd_below m bits i =
    omega (
      arith,
      count_by-le-length (is_odd_row m (bits_of (word_bits m) bits) i) (range_with_len 0 m.z),
      length-range_with_len 0 m.z,
    )

checks_below : (m : BaseMatrix) (bits : List ℕ) → failed_checks m bits ≤ m.mb * m.z
checks_below m bits =
    let odd : ℕ → ℕ = λ i. count_by (is_odd_row m (bits_of (word_bits m) bits) i) (range_with_len 0 m.z) in
    let most : sum_by odd (range_with_len 0 m.mb) ≤ length (range_with_len 0 m.mb) * m.z =
    sum_by-le odd m.z (range_with_len 0 m.mb) (all_at_most odd m.z (odd_below m bits) (range_with_len 0 m.mb)) in
    subst (λ (n : ℕ). failed_checks m bits ≤ n * m.z) (length-range_with_len 0 m.mb) most

pub few_checks : (m : BaseMatrix) (bits : List ℕ) → m.mb ≤ 16 → m.z ≤ 1024 → failed_checks m bits ≤ 16384
few_checks m bits rows lifting = omega (arith, checks_below m bits, mul-le m.mb m.z 16 1024 rows lifting)

-- the checks that the first codewords of a sense fail
abbrev pub failed_so_far : Sizes → BaseMatrix → List ℕ → ℕ → ℕ
failed_so_far sizes m sense n = sum_by (λ f. failed_checks m (code_in sizes sense f)) (range_with_len 0 n)

pub failed_more :
    (sizes : Sizes) (m : BaseMatrix) (sense : List ℕ) (n : ℕ) →
    failed_so_far sizes m sense (n + 1) ≡ failed_so_far sizes m sense n + failed_checks m (code_in sizes sense n)
failed_more sizes m sense n = sum_by-range_more (λ f. failed_checks m (code_in sizes sense f)) n

-- with one codeword they are those of the page's word
pub failed_alone :
    (sizes : Sizes) (m : BaseMatrix) (sense : List ℕ) → sizes.words ≡ 1 → length sense ≡ word_bytes_of sizes →
    failed_checks m sense ≡ failed_so_far sizes m sense sizes.words
failed_alone sizes m sense one as_long =
    sym (ap (failed_so_far sizes m sense) one
    ∙ sum_by-range_more (λ f. failed_checks m (code_in sizes sense f)) 0
    ∙ zero-add (failed_checks m (code_in sizes sense 0))
    ∙ ap (failed_checks m) (only_code sizes sense 0 one (omega (arith, one)) as_long))

-- what a decoder answers, in the page's word
pub found_there :
    (decoded : Option (ℕ × List ℕ)) (before after code : List ℕ) (result : Option ℕ) → IsDecoded decoded before result after →
    after ≡ code → MatchBool (is_some result) (option_map (λ outcome. outcome.1) decoded ≡ Some code)
    (option_map (λ outcome. outcome.1) decoded ≡ None)
found_there decoded before after code (Some iterations) is same =
    ap (option_map (λ (outcome : ℕ × List ℕ). outcome.1)) is ∙ ap Some same
found_there decoded before after code None is same = ap (option_map (λ (outcome : ℕ × List ℕ). outcome.1)) is.0
