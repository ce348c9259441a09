-- What always holds of what the dies of a channel are kept in? The dies are mounted, the sum is one of words, and the cycles
-- of every operation have room: a program has its word's bytes and seven cycles beside them.
use Rattle.std.specs.Prelude.{ℕ, ◌≡◌, ◌+◌, ◌≤◌, List, length}
use Rattle.ssd_geo.specs.Coding.{word_bytes_in}
use Rattle.ssd_geo.specs.declared.shape.Shape.{Shape}
use Rattle.onfi_cmd.specs.DieState.{DieState}
use Rattle.chan_dies.specs.DiesState.{AreMounted}

pub record AreKept (shape : Shape) (dies : List DieState) (sum : List ℕ) (room : ℕ) : Type 0 where
  pub mounted : AreMounted shape dies
  pub sum_bytes : length sum ≡ word_bytes_in shape
  pub has_room : word_bytes_in shape + 7 ≤ room
