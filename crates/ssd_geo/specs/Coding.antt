-- How does a channel write pages, and what does it find in their senses? Whatever looks back over a history goes by a
-- coding: the words that it writes, the heads that it knows and the codewords that its decoder finds, each by itself. The
-- coding of a channel is that of its base matrix, with the decoder's outcome.
use Rattle.std.specs.Prelude.{ℕ, Bool, is_some, List, map, ℤ, Option, option_map, sum_by}
use Rattle.std.specs.List.{range_with_len}
use Rattle.ssd_geo.specs.BaseMatrix.{BaseMatrix}
use Rattle.ssd_geo.specs.Codewords.{failed_checks}
use Rattle.ssd_geo.specs.Decoding.{decode}
use Rattle.ssd_geo.specs.Limits.{Sizes, code_bytes_of, payload_bytes_of, word_bytes_of}
use Rattle.ssd_geo.specs.PageHead.{data_of_word, payload_of_page}
use Rattle.ssd_geo.specs.PageWord.{code_in, joined, word_of}
use Rattle.ssd_geo.specs.Senses.{hard_values, soft_values}
use Rattle.ssd_geo.specs.Shape.{sizes_of}
use Rattle.ssd_geo.specs.declared.base.ChannelBase.{ChannelBase}
use Rattle.ssd_geo.specs.declared.shape.Shape.{Shape}

-- how pages are written and read: the page's word of a serial, a row and data; whether a page's word has the head of a
-- serial and a row; the number of its bytes and of its codewords; the read levels in order, and the distance between soft
-- senses; the codeword of a number that is found from one sense by hard values and from five by soft ones; the page's word
-- of its codewords in order; and how many checks the raw codewords of a sense fail together
pub record Coding : Type 0 where
  pub encoded : ℕ → ℕ → List ℕ → List ℕ
  pub has_head : ℕ → ℕ → List ℕ → Bool
  pub word_bytes : ℕ
  pub words : ℕ
  pub levels : List ℤ
  pub step : ℕ
  pub hard : List ℕ → ℕ → Option (List ℕ)
  pub soft : List (List ℕ) → ℕ → Option (List ℕ)
  pub joined : List (List ℕ) → List ℕ
  pub failed : List ℕ → ℕ

-- the base matrix of a channel
abbrev pub matrix_of : ChannelBase → BaseMatrix
matrix_of base = record { z = base.shape.z; mb = base.shape.mb; nb = base.shape.nb; entries = base.entries }

-- the codeword that a decoder with a base matrix and an iteration limit finds from values
abbrev pub code_found : BaseMatrix → ℕ → List ℤ → Option (List ℕ)
code_found m limit values = option_map (λ outcome. outcome.1) (decode m limit values)

-- codeword f that is found from one sense of a page, and from five
abbrev pub found_hard : Sizes → BaseMatrix → ℕ → List ℕ → ℕ → Option (List ℕ)
found_hard sizes m limit sense f = code_found m limit (hard_values (code_in sizes sense f))

abbrev pub found_soft : Sizes → BaseMatrix → ℕ → List (List ℕ) → ℕ → Option (List ℕ)
found_soft sizes m limit five f =
    code_found m limit (soft_values (code_bytes_of sizes) (map (λ sense. code_in sizes sense f) five))

-- how many checks the raw codewords of a sense of a page fail together
abbrev pub failed_in : Sizes → BaseMatrix → List ℕ → ℕ
failed_in sizes m sense = sum_by (λ f. failed_checks m (code_in sizes sense f)) (range_with_len 0 sizes.words)

-- the number of bytes of a page's word, and the payload of a page
abbrev pub word_bytes_in : Shape → ℕ
word_bytes_in shape = word_bytes_of (sizes_of shape)

abbrev pub payload_of : Shape → ℕ → ℕ → List ℕ → List ℕ
payload_of shape serial row bytes = payload_of_page (payload_bytes_of (sizes_of shape)) serial row bytes

-- the data bytes of a page's word, where it has the head of a serial and a row
abbrev pub data_in : Shape → ℕ → ℕ → List ℕ → Option (List ℕ)
data_in shape serial row word = data_of_word (payload_bytes_of (sizes_of shape)) shape.bytes serial row word

-- the coding of a shape, of read levels in order, of a distance of soft senses, and of a decoder with a base matrix and an
-- iteration limit
abbrev pub coding_in : Shape → List ℤ → ℕ → BaseMatrix → ℕ → Coding
coding_in shape levels step m limit = record {
  encoded = λ serial row bytes. word_of (sizes_of shape) m (payload_of shape serial row bytes);
  has_head = λ serial row word. is_some (data_in shape serial row word);
  word_bytes = word_bytes_in shape;
  words = shape.words;
  levels = levels;
  step = step;
  hard = found_hard (sizes_of shape) m limit;
  soft = found_soft (sizes_of shape) m limit;
  joined = joined (sizes_of shape);
  failed = failed_in (sizes_of shape) m;
}

-- the coding of a channel
abbrev pub coding_of : ChannelBase → Coding
coding_of base = coding_in base.shape base.read_levels base.step (matrix_of base) base.iterations
