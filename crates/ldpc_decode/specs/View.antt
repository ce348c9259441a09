-- What do contracts see of a decoder? Its code and its iteration limit, which no call changes.
use Rattle.std.specs.Prelude.{ℕ}
use Rattle.lane_layer.specs.WorkSize.{WorkSize}
use Rattle.ssd_geo.specs.BaseMatrix.{BaseMatrix}

-- a decoder of this code that iterates at most this often
pub record DecoderView : Type 0 where
  pub code : BaseMatrix
  pub limit : ℕ

-- memory for each layer of a code: a base row has at most one block in each column
abbrev pub work_size : BaseMatrix → WorkSize
work_size m = record { z = m.z; degree = m.nb }
