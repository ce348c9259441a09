-- Which superblocks, rows and tables do the examples of room and of policies speak of? Four slots each.
use Rattle.std.specs.Prelude.{ℕ, List, [], ◌∷◌}
use Rattle.ssd_histories.specs.PageMap.{slot_at}
use Rattle.ssd_geo.specs.declared.base.BlockBase.{BlockBase}
use Rattle.ssd_geo.specs.declared.row.Row.{Row}
use Rattle.ssd_geo.specs.declared.row.Row.TheVariants.{Empty, Page}
use Rattle.ssd_geo.specs.declared.superblock.SbInfo.{SbInfo}
use Rattle.ssd_geo.specs.declared.superblock.SbState.{SbState}
use Rattle.ssd_geo.specs.declared.superblock.SbState.TheVariants.{Free, Frontier, Sealed}

-- a superblock, and what a policy is told of one without open looks
abbrev pub block : SbState → ℕ → ℕ → BlockBase
block state erases used = record { state = state; erases = erases; used = used }

abbrev pub info : SbState → ℕ → SbInfo
info state live = record { state = state; live = live; slots = 4; erases = 0; pins = 0 }

-- a frontier with one slot left, and two free superblocks, of which the last was erased less often
abbrev pub open_blocks : List BlockBase
open_blocks = block Sealed 2 4 ∷ block Frontier 0 3 ∷ block Free 5 0 ∷ block Free 1 0 ∷ []

-- the same after its last slot was used
abbrev pub sealed_blocks : List BlockBase
sealed_blocks = block Sealed 2 4 ∷ block Sealed 0 4 ∷ block Free 5 0 ∷ block Free 1 0 ∷ []

-- a blank channel on which row 0 was written four times, and then row 1 once
abbrev pub written_blocks : List BlockBase
written_blocks = block Sealed 0 4 ∷ block Frontier 0 1 ∷ block Free 0 0 ∷ block Free 0 0 ∷ []

abbrev pub written_rows : List Row
written_rows = Page (slot_at 0 3) 3 ∷ Page (slot_at 1 0) 4 ∷ Empty ∷ []

-- two superblocks with three slots of garbage, one with two, one with none, and a frontier
abbrev pub mixed_table : List SbInfo
mixed_table = info Sealed 1 ∷ info Sealed 4 ∷ info Frontier 1 ∷ info Sealed 1 ∷ info Sealed 2 ∷ []
