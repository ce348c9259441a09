-- Is there a slot for a write? Where the host has room it is the next one. Else the channel is worn, or full, or a
-- collection can make room.
use Rattle.std.specs.Prelude.{◌≡◌, Bool, IsTrue, IsFalse, Some}
use Rattle.ssd_histories.specs.Blocks.{are_blocks_full, blocks_have_room, next_slot_of}
use Rattle.ssd_histories.specs.Policies.{count_of_candidates}
use Rattle.ssd_histories.specs.Ranges.{has_slot}
use Rattle.ssd_geo.specs.Superblock.{slots_of}
use Rattle.chan_tables.specs.Copying.{is_worn_with}
use Rattle.chan_tables.specs.TablesState.{TablesState, table_of}
use Rattle.chan_tables.specs.declared.rooms.WriteRoom.{WriteRoom}
use Rattle.chan_tables.specs.declared.rooms.WriteRoom.TheVariants as room

-- whether no collection can make room, and whether all room for the host is taken by live pages
abbrev pub is_worn : TablesState → Bool
is_worn tables = is_worn_with (slots_of tables.shape.pages tables.shape.dies) tables.blocks tables.rows

abbrev pub is_full : TablesState → Bool
is_full tables = are_blocks_full tables.blocks (count_of_candidates (table_of tables))

-- when each answer comes: just one of the cases holds
abbrev pub IsWriteRoom : TablesState → WriteRoom → Type 0
IsWriteRoom tables (room.Slot slot) =
    IsTrue (blocks_have_room tables.blocks) × (next_slot_of tables.blocks ≡ Some slot) × IsTrue (has_slot tables.shape slot)
IsWriteRoom tables room.ReadOnly = IsFalse (blocks_have_room tables.blocks) × IsTrue (is_worn tables)
IsWriteRoom tables room.Full =
    IsFalse (blocks_have_room tables.blocks) × IsFalse (is_worn tables) × IsTrue (is_full tables)
IsWriteRoom tables room.NeedRoom =
    IsFalse (blocks_have_room tables.blocks) × IsFalse (is_worn tables) × IsFalse (is_full tables)
