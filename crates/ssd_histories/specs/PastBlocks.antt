-- In which state is each superblock, how often was it erased, and how many of its slots are used? Everything is
-- counted over the past: no count is kept. The rules are this project's own.
use Rattle.std.specs.Prelude.{ℕ, ◌+◌, ◌==◌, Bool, true, false, ◌||◌, if◌then◌else◌, List, [], ◌∷◌, map, count_by}
use Rattle.std.specs.List.{range_with_len, list_any}
use Rattle.ssd_histories.specs.Blocks as Blocks
use Rattle.ssd_histories.specs.States as States
use Rattle.ssd_geo.specs.Superblock.{slots_of}
use Rattle.ssd_geo.specs.declared.base.BlockBase.{BlockBase}
use Rattle.ssd_geo.specs.declared.base.ChannelBase.{ChannelBase}
use Rattle.ssd_geo.specs.declared.entry.Entry.{Entry}
use Rattle.ssd_geo.specs.declared.kind.Kind.{Kind}
use Rattle.ssd_geo.specs.declared.superblock.SbState.{SbState}

-- the data slots of each superblock of a channel
abbrev pub slots_in : ChannelBase → ℕ
slots_in base = slots_of base.shape.pages base.shape.dies

-- a superblock at the start
abbrev pub block_before : ChannelBase → ℕ → BlockBase
block_before base sb = Blocks.block_at base.blocks sb

-- whether an entry turns a superblock bad: a program or an erase in it failed
abbrev pub turns_bad : ℕ → Kind → Bool
turns_bad sb (Kind.BadWrite row slot die fault) = slot.sb == sb
turns_bad sb (Kind.BadCopy at slot die fault) = slot.sb == sb
turns_bad sb (Kind.BadErase named die fault) = named == sb
turns_bad sb _ = false

-- whether a superblock is bad: it was at the start, or it turned bad since
abbrev pub is_bad_superblock : ChannelBase → List Entry → ℕ → Bool
is_bad_superblock base past sb = States.is_bad (block_before base sb).state || list_any (λ entry. turns_bad sb entry.kind) past

-- whether an entry is an erase of a superblock
abbrev pub is_erase_of : ℕ → Kind → Bool
is_erase_of sb (Kind.Erase named) = named == sb
is_erase_of sb _ = false

-- how often a superblock was erased
abbrev pub erases_of : ChannelBase → List Entry → ℕ → ℕ
erases_of base past sb = (block_before base sb).erases + count_by (λ entry. is_erase_of sb entry.kind) past

-- the used slots of a superblock after an entry, from those before: a write or a copy in it uses one more, and an
-- erase leaves none, also one that failed
abbrev pub used_after : ℕ → Kind → ℕ → ℕ
used_after sb (Kind.Write row slot) used = if slot.sb == sb then used + 1 else used
used_after sb (Kind.Move at slot) used = if slot.sb == sb then used + 1 else used
used_after sb (Kind.Erase named) used = if named == sb then 0 else used
used_after sb (Kind.BadErase named die fault) used = if named == sb then 0 else used
used_after sb _ used = used

-- how many data slots of a superblock are used
abbrev pub used_of : ChannelBase → List Entry → ℕ → ℕ
used_of base [] sb = (block_before base sb).used
used_of base (entry ∷ past) sb = used_after sb entry.kind (used_of base past sb)

-- whether a superblock is picked after an entry, from whether it was before: a pick begins that, and an erase ends it
abbrev pub picked_after : ℕ → Kind → Bool → Bool
picked_after sb (Kind.Pick named) picked = if named == sb then true else picked
picked_after sb (Kind.Erase named) picked = if named == sb then false else picked
picked_after sb _ picked = picked

-- whether a superblock was picked since its latest erase, or was the victim at the start and not erased
abbrev pub is_picked : ChannelBase → List Entry → ℕ → Bool
is_picked base [] sb = States.is_victim (block_before base sb).state
is_picked base (entry ∷ past) sb = picked_after sb entry.kind (is_picked base past sb)

-- the state of a superblock: bad first, then victim, then by its used slots
abbrev pub state_by : Bool → Bool → ℕ → ℕ → SbState
state_by true picked slots used = SbState.Bad
state_by false true slots used = SbState.Victim
state_by false false slots used =
    if used == 0 then SbState.Free else if used == slots then SbState.Sealed else SbState.Frontier

abbrev pub state_of : ChannelBase → List Entry → ℕ → SbState
state_of base past sb = state_by (is_bad_superblock base past sb) (is_picked base past sb) (slots_in base) (used_of base past sb)

-- a superblock, and all superblocks in the order of their numbers
abbrev pub block_of : ChannelBase → List Entry → ℕ → BlockBase
block_of base past sb =
    record { state = state_of base past sb; erases = erases_of base past sb; used = used_of base past sb }

abbrev pub blocks_of : ChannelBase → List Entry → List BlockBase
blocks_of base past = map (block_of base past) (range_with_len 0 base.shape.superblocks)
