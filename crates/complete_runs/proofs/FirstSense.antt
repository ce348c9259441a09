-- A sense that is a codeword is decoded to itself before the first iteration.
use Rattle.std.proofs.Common.{ℕ, suc, ◌≡◌, ◌+◌, ◌*◌, Bool, true, false, List, ◌∷◌, length, Some, find, option_map, refl, ap, ◌∙◌, arith}
use Rattle.std.specs.Prelude.{◌==◌}
use Rattle.std.specs.List.{range_with_len}
use Rattle.ssd_geo.specs.BaseMatrix.{BaseMatrix}
use Rattle.ssd_geo.specs.Bits.{IsOfBits, bit_of, bits_of, bytes_of}
use Rattle.ssd_geo.specs.Codewords.{IsCodeword, failed_checks, is_codeword, word_bits}
use Rattle.ssd_geo.specs.Decoding.{decided, decided_after, decode}
use Rattle.ssd_geo.specs.RowRule.{is_negative}
use Rattle.ssd_geo.specs.Senses.{hard_value, hard_values}
use Rattle.complete_runs.proofs.ToldCells.{map_through}
use Rattle.ssd_geo.proofs.CheckedCodewords.{no_check_fails}

hard_is : (bit : Bool) → is_negative (hard_value bit) ≡ bit
hard_is true = refl
hard_is false = refl

-- the hard decision of the values of a sense are the sense's bits
decided_hard : (sense : List ℕ) → decided (hard_values sense) ≡ bits_of (8 * length sense) sense
decided_hard sense =
    map_through is_negative (λ i. hard_value (bit_of sense i)) (bit_of sense) (λ i. hard_is (bit_of sense i))
    (range_with_len 0 (8 * length sense))

-- what passes the test first is found first
find_first : (test : ℕ → Bool) (first : ℕ) (rest : List ℕ) → test first ≡ true → find test (first ∷ rest) ≡ Some first
find_first test first rest passes = rw passes refl

pub decode_codeword : (m : BaseMatrix) (limit : ℕ) (sense : List ℕ) → 8 * length sense ≡ word_bits m → IsOfBits (word_bits m) sense → IsCodeword m sense → decode m limit (hard_values sense) ≡ Some (0, sense)
decode_codeword m limit sense whole of_bits codeword =
    let bits : decided_after m (hard_values sense) 0 ≡ bits_of (word_bits m) sense =
    decided_hard sense ∙ ap (λ (n : ℕ). bits_of n sense) whole in
    let none : (failed_checks m sense == 0) ≡ true = ap (λ (n : ℕ). n == 0) (no_check_fails m sense codeword) in
    let test : ℕ → Bool = λ n. is_codeword m (decided_after m (hard_values sense) n) in
    let answer : ℕ → ℕ × List ℕ = λ n. (n, bytes_of (decided_after m (hard_values sense) n)) in
    let passes : is_codeword m (decided_after m (hard_values sense) 0) ≡ true = ap (is_codeword m) bits ∙ none in
    let count : limit + 1 ≡ suc limit = omega arith in
    let word : bytes_of (decided_after m (hard_values sense) 0) ≡ sense = ap bytes_of bits ∙ of_bits in
    ap (λ (n : ℕ). option_map answer (find test (range_with_len 0 n))) count
    ∙ ap (option_map answer) (find_first test 0 (range_with_len 1 limit) passes)
    ∙ ap (λ (w : List ℕ). Some (0, w)) word
