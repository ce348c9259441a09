-- Which slot of a channel comes next, how much room is there, and how do its superblocks change? Each definition
-- takes the superblocks of one channel as a list, in the order of their numbers; `slots` is how many data slots each
-- has. So they serve a table that is kept as well as the list that a history gives. The rules are this project's own.
use Rattle.std.specs.Prelude.{ℕ, ◌+◌, ◌-◌, ◌==◌, ◌≤◌, nat_lt, nat_le, Bool, not, ◌&&◌, ◌||◌, IsTrue, if◌then◌else◌, Option, Some, None, is_some, is_none, List, length, count_by, position, slice_index_or, slice_set}
use Rattle.std.specs.List.{list_all}
use Rattle.ssd_histories.specs.States.{is_free, is_frontier, is_victim}
use Rattle.ssd_geo.specs.declared.base.BlockBase.{BlockBase}
use Rattle.ssd_geo.specs.declared.slot.Slot.{Slot}
use Rattle.ssd_geo.specs.declared.superblock.SbState.{SbState}
use Rattle.ssd_geo.specs.declared.superblock.SbState.TheVariants.{Free, Frontier, Sealed, Bad, Victim}

-- a superblock that is free and was never erased
abbrev pub blank_block : BlockBase
blank_block = record { state = Free; erases = 0; used = 0 }

-- the superblock with this number
abbrev pub block_at : List BlockBase → ℕ → BlockBase
block_at blocks sb = slice_index_or blocks sb blank_block

-- whether a superblock is free, the frontier, the victim
abbrev pub is_free_block : BlockBase → Bool
is_free_block block = is_free block.state

abbrev pub is_frontier_block : BlockBase → Bool
is_frontier_block block = is_frontier block.state

abbrev pub is_victim_block : BlockBase → Bool
is_victim_block block = is_victim block.state

-- how many superblocks are free
abbrev pub free_blocks_in : List BlockBase → ℕ
free_blocks_in blocks = count_by is_free_block blocks

-- the number of the frontier, if there is one
abbrev pub frontier_of : List BlockBase → Option ℕ
frontier_of blocks = position is_frontier_block blocks

-- the number of the victim, if there is one
abbrev pub victim_in : List BlockBase → Option ℕ
victim_in blocks = position is_victim_block blocks

-- whether another superblock isn't free, or was erased at least as often as this one
abbrev pub is_no_fresher : BlockBase → BlockBase → Bool
is_no_fresher block other = not (is_free_block other) || nat_le block.erases other.erases

-- whether a superblock is free, and no free one of the list was erased less often
abbrev pub is_freshest : List BlockBase → BlockBase → Bool
is_freshest blocks block = is_free_block block && list_all (is_no_fresher block) blocks

-- the free superblock with the least erase count, the least number among equals
abbrev pub freshest_of : List BlockBase → Option ℕ
freshest_of blocks = position (is_freshest blocks) blocks

-- the slot that comes next in a superblock
abbrev pub slot_after_used : List BlockBase → ℕ → Slot
slot_after_used blocks sb = record { sb = sb; index = (block_at blocks sb).used }

-- the superblock of the next slot: the frontier, else the freshest free superblock
abbrev pub first_some : Option ℕ → Option ℕ → Option ℕ
first_some (Some sb) other = Some sb
first_some None other = other

abbrev pub next_superblock : List BlockBase → Option ℕ
next_superblock blocks = first_some (frontier_of blocks) (freshest_of blocks)

-- the next slot, if there is one
abbrev pub slot_in : List BlockBase → Option ℕ → Option Slot
slot_in blocks None = None
slot_in blocks (Some sb) = Some (slot_after_used blocks sb)

abbrev pub next_slot_of : List BlockBase → Option Slot
next_slot_of blocks = slot_in blocks (next_superblock blocks)

-- whether the host may write: a slot is there for it, and a superblock stays free for copies
abbrev pub blocks_have_room : List BlockBase → Bool
blocks_have_room blocks =
    is_some (frontier_of blocks) && nat_le 1 (free_blocks_in blocks) || nat_le 2 (free_blocks_in blocks)

-- whether there is a next slot
abbrev pub has_any_room : List BlockBase → Bool
has_any_room blocks = is_some (next_superblock blocks)

-- how many slots the frontier has left: none without a frontier
abbrev pub left_in : ℕ → List BlockBase → Option ℕ → ℕ
left_in slots blocks None = 0
left_in slots blocks (Some sb) = slots - (block_at blocks sb).used

abbrev pub slots_left : ℕ → List BlockBase → ℕ
slots_left slots blocks = left_in slots blocks (frontier_of blocks)

-- whether no collection can make room: no superblock is free, and there is no victim, or the frontier has fewer
-- slots left than the victim has live pages
abbrev pub are_blocks_worn : ℕ → List BlockBase → ℕ → Bool
are_blocks_worn slots blocks victim_live =
    free_blocks_in blocks == 0 && (is_none (victim_in blocks) || nat_lt (slots_left slots blocks) victim_live)

-- whether all room for the host is taken by live pages: there are a free superblock, no room for the host, no victim,
-- and no garbage. `garbage` is the number of sealed superblocks that have some.
abbrev pub are_blocks_full : List BlockBase → ℕ → Bool
are_blocks_full blocks garbage =
    nat_le 1 (free_blocks_in blocks) && not (blocks_have_room blocks) && is_none (victim_in blocks) && garbage == 0

-- whether a superblock has as many slots used as its state asks
abbrev pub has_due_used : ℕ → SbState → ℕ → Bool
has_due_used slots Free used = used == 0
has_due_used slots Frontier used = nat_le 1 used && nat_lt used slots
has_due_used slots Sealed used = used == slots
has_due_used slots Bad used = nat_le used slots
has_due_used slots Victim used = used == slots

abbrev pub is_due_block : ℕ → BlockBase → Bool
is_due_block slots block = has_due_used slots block.state block.used

-- the superblocks of a channel as they may stand: at most 256, with at most one frontier and one victim, each with as
-- many slots used as its state asks
pub record AreSound (slots : ℕ) (blocks : List BlockBase) : Type 0 where
  pub some_slots : 1 ≤ slots
  pub few : length blocks ≤ 256
  pub one_frontier : count_by is_frontier_block blocks ≤ 1
  pub one_victim : count_by is_victim_block blocks ≤ 1
  pub due : IsTrue (list_all (is_due_block slots) blocks)

-- a superblock after its next slot was used: it is the frontier, and sealed where that was its last slot
abbrev pub with_slot_used : ℕ → BlockBase → BlockBase
with_slot_used slots block = record {
  state = (if block.used + 1 == slots then Sealed else Frontier);
  erases = block.erases;
  used = block.used + 1;
}

-- the superblocks after the next slot was used
abbrev pub used_in : ℕ → List BlockBase → Option ℕ → List BlockBase
used_in slots blocks None = blocks
used_in slots blocks (Some sb) = slice_set blocks sb (with_slot_used slots (block_at blocks sb))

abbrev pub with_next_used : ℕ → List BlockBase → List BlockBase
with_next_used slots blocks = used_in slots blocks (next_superblock blocks)

-- a superblock after a program or an erase failed in it: it is bad. The victim, whose erase failed, has no slot used;
-- any other keeps its used slots, and so the number of the slot that failed.
abbrev pub retired_block : BlockBase → BlockBase
retired_block block = record {
  state = Bad;
  erases = block.erases;
  used = (if is_victim_block block then 0 else block.used);
}

-- the superblocks after this one was retired, was made the victim, and after it was erased
abbrev pub with_retired : List BlockBase → ℕ → List BlockBase
with_retired blocks sb = slice_set blocks sb (retired_block (block_at blocks sb))

abbrev pub victim_block : BlockBase → BlockBase
victim_block block = record { state = Victim; erases = block.erases; used = block.used }

abbrev pub with_victim : List BlockBase → ℕ → List BlockBase
with_victim blocks sb = slice_set blocks sb (victim_block (block_at blocks sb))

abbrev pub erased_block : BlockBase → BlockBase
erased_block block = record { state = Free; erases = block.erases + 1; used = 0 }

abbrev pub with_erased : List BlockBase → ℕ → List BlockBase
with_erased blocks sb = slice_set blocks sb (erased_block (block_at blocks sb))
