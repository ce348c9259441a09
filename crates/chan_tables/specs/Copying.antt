-- Is there a slot for a copy of a look's page, does the page stay for want of room, or has its row changed meanwhile? A copy
-- goes to the next slot. A look in the victim takes it wherever there is one; any other needs room for a host's page.
use Rattle.std.specs.Prelude.{ℕ, ◌==◌, ◌≡◌, ◌≢◌, ◌<◌, Bool, false, ◌||◌, if◌then◌else◌, IsTrue, IsFalse, List, Option, Some, None, ⊤}
use Rattle.ssd_histories.specs.Blocks.{blocks_have_room, are_blocks_worn, next_slot_of, victim_in}
use Rattle.ssd_histories.specs.Lawful.{page_looked_at}
use Rattle.ssd_histories.specs.PageMap.{live_in, names_within, row_at}
use Rattle.ssd_geo.specs.declared.base.BlockBase.{BlockBase}
use Rattle.ssd_geo.specs.declared.look.Look.{Look}
use Rattle.ssd_geo.specs.declared.row.Row.{Row}
use Rattle.ssd_geo.specs.declared.slot.Slot.{Slot}
use Rattle.chan_tables.specs.declared.rooms.MoveRoom.{MoveRoom}
use Rattle.chan_tables.specs.declared.rooms.MoveRoom.TheVariants as room

-- whether a look stands in the victim
abbrev pub is_in_victim : List BlockBase → Look → Bool
is_in_victim blocks look = elim (victim_in blocks) [ Some victim ↦ victim == look.slot.sb | None ↦ false ]

-- the slot for a copy of a look's page, if there is one
abbrev pub copy_slot_of : List BlockBase → Look → Option Slot
copy_slot_of blocks look = if blocks_have_room blocks || is_in_victim blocks look then next_slot_of blocks else None

-- the live pages of the victim, and whether no collection can make room
abbrev pub live_in_victim : List BlockBase → List Row → ℕ
live_in_victim blocks rows = elim (victim_in blocks) [ Some sb ↦ live_in rows sb | None ↦ 0 ]

abbrev pub is_worn_with : ℕ → List BlockBase → List Row → Bool
is_worn_with slots blocks rows = are_blocks_worn slots blocks (live_in_victim blocks rows)

-- the row of a look is as the look found it
abbrev pub KeepsPage : List Row → Look → Type 0
KeepsPage rows look = row_at rows look.row ≡ page_looked_at look

-- a copy of a look's page may go to a slot: the row is as the look found it, and the slot is the one for the copy
pub record MayCopy (blocks : List BlockBase) (rows : List Row) (look : Look) (slot : Slot) : Type 0 where
  pub keeps_page : KeepsPage rows look
  pub is_copy_slot : copy_slot_of blocks look ≡ Some slot

-- when each answer comes, over the superblocks, of so many slots each, and the rows: just one of the cases holds
abbrev pub IsMoveRoom : ℕ → List BlockBase → List Row → Look → MoveRoom → Type 0
IsMoveRoom slots blocks rows look (room.Changed row) = (row ≡ row_at rows look.row) × (row ≢ page_looked_at look)
IsMoveRoom slots blocks rows look room.ReadOnly =
    KeepsPage rows look × (copy_slot_of blocks look ≡ None) × IsTrue (is_worn_with slots blocks rows)
IsMoveRoom slots blocks rows look room.NoRoom =
    KeepsPage rows look × (copy_slot_of blocks look ≡ None) × IsFalse (is_worn_with slots blocks rows)
    × IsFalse (is_in_victim blocks look)
IsMoveRoom slots blocks rows look (room.Slot slot) = MayCopy blocks rows look slot

-- what an answer names is one of so many superblocks, of so many slots each
abbrev pub NamesInRange : ℕ → ℕ → MoveRoom → Type 0
NamesInRange superblocks slots (room.Changed row) = IsTrue (names_within superblocks slots row)
NamesInRange superblocks slots (room.Slot slot) = (slot.sb < superblocks) × (slot.index < slots)
NamesInRange superblocks slots room.ReadOnly = ⊤
NamesInRange superblocks slots room.NoRoom = ⊤
