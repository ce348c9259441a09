-- How do a page's codewords stand in its word? First stand the parts of all codewords, in order, which are together the
-- page's payload; then their parities, in order. So a payload stands in front whatever the number of codewords, and with
-- one of them the page's word is the codeword. The layout is this project's own.
use Rattle.std.specs.Prelude.{ℕ, ◌≡◌, ◌+◌, ◌*◌, ◌≤◌, List, [], ◌∷◌, ◌++◌, All, map, length, take, drop, flat_map, slice_range}
use Rattle.std.specs.List.{range_with_len}
use Rattle.ssd_geo.specs.BaseMatrix.{BaseMatrix}
use Rattle.ssd_geo.specs.Codewords.{code_of}
use Rattle.ssd_geo.specs.Limits.{Sizes, code_bytes_of, parity_bytes_of, part_bytes_of, payload_bytes_of, word_bytes_of}

-- part f of a payload, or of the page's word that it stands in front of
abbrev pub part_in : Sizes → List ℕ → ℕ → List ℕ
part_in sizes word f = slice_range word (f * part_bytes_of sizes) ((f + 1) * part_bytes_of sizes)

-- parity f of a page's word
abbrev pub parity_in : Sizes → List ℕ → ℕ → List ℕ
parity_in sizes word f =
    slice_range word (payload_bytes_of sizes + f * parity_bytes_of sizes) (payload_bytes_of sizes + (f + 1) * parity_bytes_of sizes)

-- codeword f of a page's word
abbrev pub code_in : Sizes → List ℕ → ℕ → List ℕ
code_in sizes word f = part_in sizes word f ++ parity_in sizes word f

-- all codewords of a page's word, in order
abbrev pub codes_in : Sizes → List ℕ → List (List ℕ)
codes_in sizes word = map (code_in sizes word) (range_with_len 0 sizes.words)

-- the page's word of codewords, in order
abbrev pub joined : Sizes → List (List ℕ) → List ℕ
joined sizes codes = flat_map (take (part_bytes_of sizes)) codes ++ flat_map (drop (part_bytes_of sizes)) codes

-- the page's word of a payload
abbrev pub word_of : Sizes → BaseMatrix → List ℕ → List ℕ
word_of sizes m payload = joined sizes (map (λ f. code_of m (part_in sizes payload f)) (range_with_len 0 sizes.words))

-- Laws, each the contract of a function without a body.

-- codewords of a page: as many as it has, each of its bytes
pub record ArePageCodes (sizes : Sizes) (codes : List (List ℕ)) : Type 0 where
  pub part_fits : part_bytes_of sizes ≤ code_bytes_of sizes
  pub as_many : length codes ≡ sizes.words
  pub as_long : All (λ code. length code ≡ code_bytes_of sizes) codes

-- codewords that were joined are found again in the page's word, which has its length and their parts in front
pub record IsJoinedOf (sizes : Sizes) (codes : List (List ℕ)) (word : List ℕ) : Type 0 where
  pub as_long : length word ≡ word_bytes_of sizes
  pub back : codes_in sizes word ≡ codes
  pub parts_first : take (payload_bytes_of sizes) word ≡ flat_map (take (part_bytes_of sizes)) codes

abbrev pub CodesAreBack : Type 0
CodesAreBack = (sizes : Sizes) (codes : List (List ℕ)) → ArePageCodes sizes codes → IsJoinedOf sizes codes (joined sizes codes)

-- a word of a page is that of its codewords
abbrev pub WordsAreJoined : Type 0
WordsAreJoined =
    (sizes : Sizes) (word : List ℕ) → part_bytes_of sizes ≤ code_bytes_of sizes → length word ≡ word_bytes_of sizes →
    ArePageCodes sizes (codes_in sizes word) × (joined sizes (codes_in sizes word) ≡ word)

-- the parts of a payload are the payload
abbrev pub PartsAreThePayload : Type 0
PartsAreThePayload =
    (sizes : Sizes) (payload : List ℕ) → length payload ≡ payload_bytes_of sizes →
    flat_map (part_in sizes payload) (range_with_len 0 sizes.words) ≡ payload

-- where a page has one codeword, that is its word
abbrev pub OneCodeIsTheWord : Type 0
OneCodeIsTheWord =
    (sizes : Sizes) (code : List ℕ) → sizes.words ≡ 1 → part_bytes_of sizes ≤ code_bytes_of sizes →
    length code ≡ code_bytes_of sizes → (joined sizes (code ∷ []) ≡ code) × (code_in sizes code 0 ≡ code)
