-- The next slot is one of the channel's.
use Rattle.std.proofs.Common.{◌≡◌, ℕ, ◌-◌, ◌<◌, ◌≤◌, ◌==◌, nat_lt, ◌&&◌, ◌||◌, Bool, true, false, List, refl, ◌∙◌, Option, Some, None, arith}
use Rattle.std.specs.Prelude.{if◌then◌else◌}
use Rattle.std.specs.List.{list_all}
use Rattle.std.proofs.lemmas.Bool.Decides.{nat_tests}
use Rattle.std.proofs.lemmas.Nat.{mul-le}
use Rattle.ssd_geo.specs.Ladder.{LadderState}
use Rattle.ssd_geo.specs.declared.base.ChannelBase.{ChannelBase}
use Rattle.ssd_geo.specs.declared.entry.Entry.{Entry}
use Rattle.ssd_geo.specs.declared.shape.Shape.{Shape}
use Rattle.ssd_geo.specs.declared.slot.Slot.{Slot}
use Rattle.ssd_geo.specs.declared.superblock.SbState.{SbState}
use Rattle.ssd_geo.specs.Superblock.{slots_of}
use Rattle.ssd_histories.specs.Blocks as Blocks
use Rattle.ssd_histories.specs.Lawful.{IsLawfulBy}
use Rattle.ssd_histories.specs.PastBlocks.{block_of, blocks_of, is_bad_superblock, is_picked, slots_in, state_by, state_of, used_of}
use Rattle.ssd_histories.specs.Ranges.{has_slot}
use Rattle.ssd_histories.specs.Room.{next_slot}
use Rattle.ssd_histories.specs.Standing.{IsStart}
use Rattle.ssd_histories.specs.Start.{Start}
use Rattle.ssd_histories.specs.States as States
use Rattle.ssd_histories.proofs.OneOfEach.{found_block}
use Rattle.ssd_histories.proofs.PinnedWords.{slot_block}
use Rattle.ssd_histories.proofs.UsedSlots.{first_holds, next_is_used}
use Rattle.history_laws.proofs.LivePages.{live_pages_fit}

-- a channel's superblocks have slots
pub some_slots : (shape : Shape) → 1 ≤ slots_of shape.pages shape.dies
some_slots shape = omega (
  arith,
  mul-le 1 1 shape.pages (shape.dies - 1) (omega (arith, shape.within.pages_low))
      (omega (arith, shape.within.dies_low)),
)

-- the superblock of the next slot is one of the channel's, and the frontier or free
abbrev IsUsable : ChannelBase → List Entry → ℕ → Type 0
IsUsable base past sb = (sb < base.shape.superblocks) ×
    ((States.is_frontier (state_of base past sb) || States.is_free (state_of base past sb)) ≡ true)

next_usable : (base : ChannelBase) (past : List Entry) (sb : ℕ) (frontier : Option ℕ)
    → Blocks.frontier_of (blocks_of base past) ≡ frontier
    → Blocks.first_some frontier (Blocks.freshest_of (blocks_of base past)) ≡ Some sb → IsUsable base past sb
next_usable base past sb (Some k) is e =
    let found : (sb < base.shape.superblocks) × (States.is_frontier (state_of base past sb) ≡ true) = found_block base past
    Blocks.is_frontier_block sb (is ∙ e) in
    (found.0, first_of_two (States.is_frontier (state_of base past sb)) (States.is_free (state_of base past sb)) found.1)
  where
    first_of_two : (a b : Bool) → a ≡ true → (a || b) ≡ true
    first_of_two true b e = refl
    first_of_two false b e = absurd (grind arith)
next_usable base past sb None is e =
    let found : (sb < base.shape.superblocks) × (Blocks.is_freshest (blocks_of base past) (block_of base past sb) ≡ true) =
    found_block base past (Blocks.is_freshest (blocks_of base past)) sb e in (
      found.0,
      second_of_two (States.is_frontier (state_of base past sb)) (States.is_free (state_of base past sb))
          (first_holds (States.is_free (state_of base past sb))
          (list_all (Blocks.is_no_fresher (block_of base past sb)) (blocks_of base past)) found.1),
    )
  where
    second_of_two : (a b : Bool) → b ≡ true → (a || b) ≡ true
    second_of_two true b e = refl
    second_of_two false b e = e

-- a free superblock or a frontier has a slot that isn't used
slot_left : (bad picked : Bool) (slots used : ℕ)
    → (States.is_frontier (state_by bad picked slots used) || States.is_free (state_by bad picked slots used)) ≡ true
    → used ≤ slots → 1 ≤ slots → used < slots
slot_left true picked slots used e le some = absurd (grind arith)
slot_left false true slots used e le some = absurd (grind arith)
slot_left false false slots used e le some = by_tests (used == 0) (used == slots) refl refl e
  where
    is_zero : (used == 0) ≡ true → used < slots
    is_zero e = omega (arith, some, number e)
      where
        number : (used == 0) ≡ true → used ≡ 0
        number e = grind (arith, nat_tests)

    isnt_all : (used == slots) ≡ false → used < slots
    isnt_all e = less used slots e le
      where
        less : (a b : ℕ) → (a == b) ≡ false → a ≤ b → a < b
        less a b e le = grind (arith, nat_tests)

    by_tests : (a b : Bool) → (used == 0) ≡ a → (used == slots) ≡ b
        → (States.is_frontier (if a then SbState.Free else if b then SbState.Sealed else SbState.Frontier)
        || States.is_free (if a then SbState.Free else if b then SbState.Sealed else SbState.Frontier)) ≡ true → used < slots
    by_tests true b here all e = is_zero here
    by_tests false true there all e = absurd (grind arith)
    by_tests false false there all e = isnt_all all

-- so the next slot is in range
pub next_in_range : (ladder : List Entry → ℕ → LadderState) (start : Start) (past : List Entry) (slot : Slot) → IsStart start
    → IsLawfulBy ladder start.base past
    → next_slot start.base past ≡ Some slot → has_slot start.base.shape slot ≡ true
next_in_range ladder start past slot is_start lawful next =
    both (nat_lt slot.sb start.base.shape.superblocks) (nat_lt slot.index (slots_in start.base))
    (low slot.sb start.base.shape.superblocks usable.0) (low slot.index (slots_in start.base) (omega (arith, index, less)))
  where
    usable : IsUsable start.base past slot.sb
    usable =
        next_usable start.base past slot.sb (Blocks.frontier_of (blocks_of start.base past)) refl
        (slot_block (blocks_of start.base past) (Blocks.next_superblock (blocks_of start.base past)) slot next)

    index : slot.index ≡ used_of start.base past slot.sb
    index = next_is_used start.base past slot next usable.0

    less : used_of start.base past slot.sb < slots_in start.base
    less =
        slot_left (is_bad_superblock start.base past slot.sb) (is_picked start.base past slot.sb) (slots_in start.base)
        (used_of start.base past slot.sb)
        usable.1 (live_pages_fit ladder start past slot.sb is_start lawful usable.0).used (some_slots start.base.shape)

    low : (a b : ℕ) → a < b → nat_lt a b ≡ true
    low a b h = grind (arith, nat_tests)

    both : (a b : Bool) → a ≡ true → b ≡ true → (a && b) ≡ true
    both true b e f = f
    both false b e f = absurd (grind arith)
