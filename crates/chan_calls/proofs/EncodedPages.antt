-- A page that is encoded codeword by codeword comes to the word of its payload.
use Rattle.std.proofs.Common.{◌≡◌, ◌≢◌, ℕ, ◌+◌, ◌*◌, ◌<◌, ◌≤◌, List, [], ◌∷◌, length, map, sym, ap, subst, ◌∙◌, inl, inr, arith}
use Rattle.std.specs.Prelude.{flat_map, slice_range}
use Rattle.std.specs.List.{range_with_len}
use Rattle.std.proofs.lemmas.Bool.{cases_lt}
use Rattle.std.proofs.lemmas.List.{append-nil}
use Rattle.std.proofs.lemmas.List.FromFn.{fill_by_all, get_or-map-range_with_len, length-map-range_with_len}
use Rattle.ssd_geo.specs.BaseMatrix.{BaseMatrix}
use Rattle.ssd_geo.specs.Codewords.{code_of}
use Rattle.ssd_geo.specs.Limits.{Sizes, code_bytes_of, part_bytes_of, payload_bytes_of, word_bytes_of}
use Rattle.ssd_geo.specs.PageWord.{code_in, codes_in, joined, part_in, word_of}
use Rattle.ssd_geo.proofs.PageWords.{one_code_is_the_word, parts_are_the_payload, words_are_joined}

-- one more codeword stands in a page's word
pub next_encoded : (sizes : Sizes) (m : BaseMatrix) (payload before word one : List ℕ) (p : ℕ) →
    p < sizes.words →
    ((f : ℕ) → f < p → code_in sizes before f ≡ code_of m (part_in sizes payload f)) →
    code_in sizes word p ≡ one →
    ((f : ℕ) → f < sizes.words → f ≢ p → code_in sizes word f ≡ code_in sizes before f) →
    one ≡ code_of m (slice_range payload (p * part_bytes_of sizes)
    (p * part_bytes_of sizes + part_bytes_of sizes)) →
    (f : ℕ) → f < p + 1 → code_in sizes word f ≡ code_of m (part_in sizes payload f)
next_encoded sizes m payload before word one p within so_far put others encoded f below =
    elim (cases_lt f p) [
      | inl lower ↦ others f (omega arith) (omega arith) ∙ so_far f lower
      | inr last ↦
          let same : p ≡ f = omega arith in
          subst (λ (n : ℕ). code_in sizes word n ≡ code_of m (part_in sizes payload n)) same
          (put ∙ encoded ∙ ap (λ (end : ℕ). code_of m (slice_range payload
          (p * part_bytes_of sizes) end)) (part_end p (part_bytes_of sizes)))
    ]
  where
    part_end : (p n : ℕ) → p * n + n ≡ (p + 1) * n
    part_end p n = omega arith

-- a word whose codewords are those of a payload's parts is the payload's
pub all_encoded : (sizes : Sizes) (m : BaseMatrix) (payload word : List ℕ) →
    part_bytes_of sizes ≤ code_bytes_of sizes → length word ≡ word_bytes_of sizes →
    ((f : ℕ) → f < sizes.words → code_in sizes word f ≡ code_of m (part_in sizes payload f)) →
    word ≡ word_of sizes m payload
all_encoded sizes m payload word fits as_long encoded =
    sym ((words_are_joined sizes word fits as_long).1)
    ∙ ap (joined sizes)
    (fill_by_all (λ f. code_of m (part_in sizes payload f)) (codes_in sizes word) sizes.words []
    (length-map-range_with_len (code_in sizes word) 0 sizes.words)
    (λ f below. get_or-map-range_with_len (code_in sizes word) 0 sizes.words f f [] below
    (omega arith) ∙ encoded f below))

-- where a page has one codeword, its payload is the part, and its word the codeword
first_part : (sizes : Sizes) (payload : List ℕ) → sizes.words ≡ 1 →
    length payload ≡ payload_bytes_of sizes → part_in sizes payload 0 ≡ payload
first_part sizes payload one as_long =
    sym (append-nil (part_in sizes payload 0))
    ∙ ap (λ (n : ℕ). flat_map (part_in sizes payload) (range_with_len 0 n)) (sym one)
    ∙ parts_are_the_payload sizes payload as_long

pub one_encoded : (sizes : Sizes) (m : BaseMatrix) (payload word : List ℕ) → sizes.words ≡ 1 →
    part_bytes_of sizes ≤ code_bytes_of sizes → length payload ≡ payload_bytes_of sizes →
    length word ≡ word_bytes_of sizes → word ≡ code_of m payload → word ≡ word_of sizes m payload
one_encoded sizes m payload word one fits payload_long word_long encoded =
    sym ((one_code_is_the_word sizes word one fits (word_long ∙ once)).0)
    ∙ ap (λ (code : List ℕ). joined sizes (code ∷ []))
    (encoded ∙ ap (code_of m) (sym (first_part sizes payload one payload_long)))
    ∙ ap (λ (n : ℕ). joined sizes (map (λ f. code_of m (part_in sizes payload f))
    (range_with_len 0 n))) (sym one)
  where
    once : word_bytes_of sizes ≡ code_bytes_of sizes
    once = ap (λ (n : ℕ). n * code_bytes_of sizes) one ∙ single (code_bytes_of sizes)
      where
        single : (n : ℕ) → 1 * n ≡ n
        single n = omega arith
