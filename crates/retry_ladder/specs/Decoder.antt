-- What does a decoder answer, and which words does a ladder expect? A decoder has a base matrix and an iteration limit;
-- with the shape, the read levels and the distance of soft senses they are the coding of a channel.
use Rattle.std.specs.Prelude.{ℕ, ◌≡◌, Bool, true, is_some, List, Option, Some, None}
use Rattle.ssd_geo.specs.BaseMatrix.{BaseMatrix}
use Rattle.ssd_geo.specs.Coding.{coding_in, coding_of, data_in, matrix_of}
use Rattle.ssd_geo.specs.declared.base.ChannelBase.{ChannelBase}
use Rattle.ssd_geo.specs.declared.shape.Shape.{Shape}

-- the answer is the definition's: what is found is written, and else the word stays as it was
abbrev pub IsDecoded : Option (ℕ × List ℕ) → List ℕ → Option ℕ → List ℕ → Type 0
IsDecoded decoded before (Some iterations) after = decoded ≡ Some (iterations, after)
IsDecoded decoded before None after = (decoded ≡ None) × (after ≡ before)

-- a base matrix has a shape's sizes
pub record IsCodeOf (shape : Shape) (matrix : BaseMatrix) : Type 0 where
  pub lifting : matrix.z ≡ shape.z
  pub base_rows : matrix.mb ≡ shape.mb
  pub base_columns : matrix.nb ≡ shape.nb

-- whether a page's word has the head of a serial and a row, where one is expected
abbrev pub is_expected : Shape → Option (ℕ × ℕ) → List ℕ → Bool
is_expected shape None word = true
is_expected shape (Some head) word = is_some (data_in shape head.0 head.1 word)

-- A law, the contract of a function without a body: a channel's coding is that of its shape, levels and decoder.
abbrev pub CodingsAreOfDecoders : Type 0
CodingsAreOfDecoders =
    (base : ChannelBase) → coding_in base.shape base.read_levels base.step (matrix_of base) base.iterations ≡ coding_of base
