-- What does a page map hold? Its rows, in order, and the sizes that their slots keep to.
use Rattle.std.specs.Prelude.{ℕ, List}
use Rattle.ssd_geo.specs.declared.row.Row.{Row}

-- the rows of a channel, the number of its superblocks, and how many data slots each has
pub record PageMap : Type 0 where
  pub rows : List Row
  pub superblocks : ℕ
  pub slots : ℕ
