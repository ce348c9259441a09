-- Which drives have the tests of ladders? Each has one channel of three dies, four superblocks and pages of 48 bytes, and a
-- decoder of its code.
use Rattle.std.specs.Prelude.{◌≡◌}
use Rattle.ssd_geo.specs.BaseMatrix.{BaseMatrix}
use Rattle.ssd_geo.specs.Coding.{word_bytes_in}
use Rattle.ssd_geo.specs.Limits.{Sizes}
use Rattle.ssd_geo.specs.declared.shape.Shape.{Shape}
use Rattle.retry_ladder.specs.Decoder.{IsCodeOf}

pub record IsDrive (shape : Shape) (matrix : BaseMatrix) : Type 0 where
  pub dies : shape.dies ≡ 3
  pub superblocks : shape.superblocks ≡ 4
  pub pages : shape.pages ≡ 2
  pub word_bytes : word_bytes_in shape ≡ 48
  pub code : IsCodeOf shape matrix

-- the sizes of one with pages of two codewords
abbrev pub two_codewords : Sizes
two_codewords = record { words = 2; channels = 1; dies = 3; superblocks = 4; pages = 2; z = 32; mb = 3; nb = 6; bytes = 8; rows = 8 }
