-- Which slots of a channel are marked, where those are that rows name? The marks stand superblock by superblock.
use Rattle.std.specs.Prelude.{◌≡◌, ℕ, ◌+◌, ◌*◌, ◌<◌, Bool, false, List, length, slice_index_or}
use Rattle.std.specs.List.{list_any}
use Rattle.ssd_histories.specs.PageMap.{names_slot}
use Rattle.ssd_geo.specs.declared.row.Row.{Row}
use Rattle.ssd_geo.specs.declared.slot.Slot.{Slot}

-- the marks are those of the slots that rows name
pub record AreMarks (superblocks slots : ℕ) (rows : List Row) (marks : List Bool) : Type 0 where
  pub count_is : length marks ≡ superblocks * slots
  pub marked :
      (slot : Slot) → slot.sb < superblocks → slot.index < slots
      → slice_index_or marks (slot.sb * slots + slot.index) false ≡ list_any (names_slot slot) rows
