-- Where is room for one more page, and is there garbage to collect? The words of room and of policies are those over
-- plain lists, at the superblocks, rows and open looks that the past gives.
use Rattle.std.specs.Prelude.{ℕ, ◌==◌, Bool, false, List, Option, Some, None}
use Rattle.ssd_histories.specs.Blocks as Blocks
use Rattle.ssd_histories.specs.History.{open_looks}
use Rattle.ssd_histories.specs.OpenLooks.{looks_in}
use Rattle.ssd_histories.specs.PageMap.{live_in}
use Rattle.ssd_histories.specs.PastBlocks.{blocks_of, slots_in, used_of}
use Rattle.ssd_histories.specs.PastRows.{rows_of}
use Rattle.ssd_histories.specs.Policies as Policies
use Rattle.ssd_geo.specs.Stripe.{is_closed, stripe_of_index}
use Rattle.ssd_geo.specs.declared.base.ChannelBase.{ChannelBase}
use Rattle.ssd_geo.specs.declared.entry.Entry.{Entry}
use Rattle.ssd_geo.specs.declared.slot.Slot.{Slot}
use Rattle.ssd_geo.specs.declared.superblock.SbInfo.{SbInfo}

-- the victim, if there is one
abbrev pub victim_of : ChannelBase → List Entry → Option ℕ
victim_of base past = Blocks.victim_in (blocks_of base past)

-- how many superblocks are free
abbrev pub count_of_free : ChannelBase → List Entry → ℕ
count_of_free base past = Blocks.free_blocks_in (blocks_of base past)

-- the next slot, if there is one
abbrev pub next_slot : ChannelBase → List Entry → Option Slot
next_slot base past = Blocks.next_slot_of (blocks_of base past)

-- whether a host's page has room
abbrev pub has_host_room : ChannelBase → List Entry → Bool
has_host_room base past = Blocks.blocks_have_room (blocks_of base past)

-- the live pages of a superblock, and those of a superblock if there is one
abbrev pub live_of : ChannelBase → List Entry → ℕ → ℕ
live_of base past sb = live_in (rows_of base past) sb

abbrev pub live_of_victim : ChannelBase → List Entry → ℕ
live_of_victim base past = elim (victim_of base past) [ Some sb ↦ live_of base past sb | None ↦ 0 ]

-- the open looks that stand in a superblock, and those in the victim
abbrev pub pins_of : List Entry → ℕ → ℕ
pins_of past sb = looks_in (open_looks past) sb

abbrev pub pins_of_victim : ChannelBase → List Entry → ℕ
pins_of_victim base past = elim (victim_of base past) [ Some sb ↦ pins_of past sb | None ↦ 0 ]

-- what a policy is told
abbrev pub table_of : ChannelBase → List Entry → List SbInfo
table_of base past = Policies.table_in (slots_in base) (blocks_of base past) (rows_of base past) (open_looks past)

-- how many sealed superblocks have garbage
abbrev pub count_of_garbage : ChannelBase → List Entry → ℕ
count_of_garbage base past = Policies.count_of_candidates (table_of base past)

-- whether a superblock is sealed and has garbage
abbrev pub has_garbage : ChannelBase → List Entry → ℕ → Bool
has_garbage base past sb = Policies.is_candidate_at (table_of base past) sb

-- worn: no superblock is free, and no collection can make one free
abbrev pub is_worn : ChannelBase → List Entry → Bool
is_worn base past = Blocks.are_blocks_worn (slots_in base) (blocks_of base past) (live_of_victim base past)

-- full: the superblock kept free for copies is the only one, and there is nothing to collect
abbrev pub is_full : ChannelBase → List Entry → Bool
is_full base past = Blocks.are_blocks_full (blocks_of base past) (count_of_garbage base past)

-- whether the stripe of a slot is closed
abbrev pub is_stripe_closed : ChannelBase → List Entry → Slot → Bool
is_stripe_closed base past slot =
    is_closed base.shape.dies (used_of base past slot.sb) (stripe_of_index base.shape.dies slot.index)

-- whether the victim is this superblock
abbrev pub is_victim_now : ChannelBase → List Entry → ℕ → Bool
is_victim_now base past sb = elim (victim_of base past) [ Some victim ↦ victim == sb | None ↦ false ]
