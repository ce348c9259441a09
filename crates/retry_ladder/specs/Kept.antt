-- Which codewords of a page are kept, and what does one more decoding find? A flag for each codeword tells whether it is
-- kept; those that are stand in their places of one page's word. A decoding takes the values of a codeword from one sense of
-- the page in the hard part of read retry, and from five in the soft part.
use Rattle.std.specs.Prelude.{ℕ, ◌≡◌, ◌*◌, Bool, false, cond, List, [], map, length, slice_index_or, Option, Some, None, ℤ}
use Rattle.std.specs.List.{range_with_len}
use Rattle.ssd_geo.specs.BaseMatrix.{BaseMatrix}
use Rattle.ssd_geo.specs.Coding.{code_found, coding_in}
use Rattle.ssd_geo.specs.Ladder.{PageState, page_decoded}
use Rattle.ssd_geo.specs.Limits.{Sizes, code_bytes_of, word_bytes_of}
use Rattle.ssd_geo.specs.PageWord.{code_in}
use Rattle.ssd_geo.specs.Senses.{five_senses, hard_values, soft_values}
use Rattle.ssd_geo.specs.Shape.{sizes_of}
use Rattle.ssd_geo.specs.declared.shape.Shape.{Shape}
use Rattle.retry_ladder.specs.Decoder.{is_expected}
use Rattle.retry_ladder.specs.declared.part.Part.{Part}
use Rattle.retry_ladder.specs.declared.part.Part.TheVariants.{Hard, Soft}

-- codeword f of a page's word, where it is kept
abbrev pub kept_at : Sizes → List Bool → List ℕ → ℕ → Option (List ℕ)
kept_at sizes flags word f = cond (slice_index_or flags f false) (Some (code_in sizes word f)) None

-- all that is kept of a page's word, in order
abbrev pub kept_in : Sizes → List Bool → List ℕ → List (Option (List ℕ))
kept_in sizes flags word = map (kept_at sizes flags word) (range_with_len 0 sizes.words)

-- the senses of a part: one of a page, or five one after the other
abbrev pub AreSenses : Part → ℕ → List ℕ → Type 0
AreSenses Hard n senses = length senses ≡ n
AreSenses Soft n senses = length senses ≡ 5 * n

-- the values of codeword f in the senses of a part
abbrev pub values_in : Sizes → Part → List ℕ → ℕ → List ℤ
values_in sizes Hard sense f = hard_values (code_in sizes sense f)
values_in sizes Soft senses f =
    soft_values (code_bytes_of sizes) (map (λ sense. code_in sizes sense f) (five_senses (word_bytes_of sizes) senses))

-- what a decoder finds as codeword f in the senses of a part
abbrev pub finds_in : Sizes → BaseMatrix → ℕ → Part → List ℕ → ℕ → Option (List ℕ)
finds_in sizes m limit part senses f = code_found m limit (values_in sizes part senses f)

-- a codeword after one more decoding: one that is kept stays, and another is what is found
abbrev pub found_or_kept : (ℕ → Option (List ℕ)) → ℕ → Option (List ℕ) → Option (List ℕ)
found_or_kept finds f (Some code) = Some code
found_or_kept finds f None = finds f

-- what one more decoding of a page comes to, with what was kept; it goes by no read level
abbrev pub page_found : Shape → BaseMatrix → ℕ → Option (ℕ × ℕ) → Part → List ℕ → List (Option (List ℕ)) → PageState
page_found shape m limit head part senses kept =
    page_decoded (coding_in shape [] 0 m limit) (is_expected shape head) (finds_in (sizes_of shape) m limit part senses) kept
