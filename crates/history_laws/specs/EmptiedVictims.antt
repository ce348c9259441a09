-- Can a victim always be emptied? As long as it is the victim, no entry gives it a live page, and each copy of one of its
-- pages takes one away. Under the reserve the slots left are enough for all its live pages: each open look in it whose page
-- was recovered and whose row is unchanged finds a slot, which takes the copy where no die that it uses is weak; and no
-- look of it stays. Each law is the contract of a function without a body.
use Rattle.std.specs.Prelude.{ℕ, ◌≡◌, ◌+◌, ◌*◌, ◌≤◌, Bool, false, IsTrue, IsSomeAnd, List, ◌∷◌, All, Some}
use Rattle.ssd_geo.specs.Ladder.{LadderState, is_recovered}
use Rattle.ssd_geo.specs.declared.base.ChannelBase.{ChannelBase}
use Rattle.ssd_geo.specs.declared.entry.Entry.{Entry}
use Rattle.ssd_geo.specs.declared.kind.Kind.{Kind}
use Rattle.ssd_geo.specs.declared.look.Look.{Look}
use Rattle.ssd_geo.specs.declared.slot.Slot.{Slot}
use Rattle.ssd_geo.specs.declared.tag.Tag.{Tag}
use Rattle.ssd_histories.specs.Blocks.{slots_left}
use Rattle.ssd_histories.specs.History.{open_look, open_looks}
use Rattle.ssd_histories.specs.Lawful.{IsLawfulBy, IsLawfulMove, IsUnchanged}
use Rattle.ssd_histories.specs.PastBlocks.{blocks_of, slots_in}
use Rattle.ssd_histories.specs.Ranges.{has_slot}
use Rattle.ssd_histories.specs.Reserve.{has_reserve}
use Rattle.ssd_histories.specs.Room.{count_of_free, is_victim_now, live_of, next_slot, victim_of}
use Rattle.ssd_histories.specs.Standing.{IsStart}
use Rattle.ssd_histories.specs.Start.{Start}
use Rattle.ssd_histories.specs.WeakDies.{dies_of_program, is_none_weak}

-- as long as a superblock is the victim, no entry gives it a live page
abbrev pub VictimsGainNoPages : Type 0
VictimsGainNoPages =
    (ladder : List Entry → ℕ → LadderState) (base : ChannelBase) (entry : Entry) (past : List Entry) (sb : ℕ) →
    IsLawfulBy ladder base (entry ∷ past) → victim_of base past ≡ Some sb →
    live_of base (entry ∷ past) sb ≤ live_of base past sb

-- a copy of one of its pages leaves it one fewer
abbrev pub CopiesTakePages : Type 0
CopiesTakePages =
    (ladder : List Entry → ℕ → LadderState) (base : ChannelBase) (past : List Entry) (tag : Tag) (at sb : ℕ) (slot : Slot) →
    IsLawfulBy ladder base (record { tag = tag; kind = Kind.Move at slot } ∷ past) → victim_of base past ≡ Some sb →
    IsSomeAnd (open_look past tag at) (λ look. look.slot.sb ≡ sb) →
    live_of base (record { tag = tag; kind = Kind.Move at slot } ∷ past) sb + 1 ≡ live_of base past sb

-- how many slots are left in the frontier and in all free superblocks
abbrev pub slots_to_fill : ChannelBase → List Entry → ℕ
slots_to_fill base past =
    slots_left (slots_in base) (blocks_of base past) + slots_in base * count_of_free base past

-- under the reserve these are enough for the victim's live pages
abbrev pub VictimsHaveSlots : Type 0
VictimsHaveSlots =
    (ladder : List Entry → ℕ → LadderState) (start : Start) (past : List Entry) (sb : ℕ) →
    IsStart start → IsLawfulBy ladder start.base past → IsTrue (has_reserve start.base past) →
    victim_of start.base past ≡ Some sb → live_of start.base past sb ≤ slots_to_fill start.base past

-- there is a next slot of the channel, and it takes a lawful copy of a look's page where no die that its program uses is weak
pub record FindsSlot (state : LadderState) (base : ChannelBase) (past : List Entry) (look : Look) : Type 0 where
  pub slot : Slot
  pub in_range : IsTrue (has_slot base.shape slot)
  pub is_next : next_slot base past ≡ Some slot
  pub takes_copy :
      IsTrue (is_none_weak base past slot.sb (dies_of_program base.shape.dies slot)) → IsLawfulMove state base past look slot

-- an open look in the victim finds a slot, where its ladder recovered its page and the row is unchanged
abbrev pub FindsSlotInVictim : LadderState → ChannelBase → List Entry → Look → Type 0
FindsSlotInVictim state base past look =
    IsTrue (is_victim_now base past look.slot.sb) → IsTrue (is_recovered state) → IsUnchanged base past look →
    FindsSlot state base past look

-- under the reserve each open look does
abbrev pub CopiesFindSlots : Type 0
CopiesFindSlots =
    (ladder : List Entry → ℕ → LadderState) (start : Start) (past : List Entry) →
    IsStart start → IsLawfulBy ladder start.base past → IsTrue (has_reserve start.base past) →
    All (λ pin. FindsSlotInVictim (ladder past pin.1.at) start.base past pin.1) (open_looks past)

-- and no look stays in the victim
abbrev pub NoneStayInVictim : Type 0
NoneStayInVictim =
    (ladder : List Entry → ℕ → LadderState) (base : ChannelBase) (past : List Entry) (tag : Tag) (at : ℕ) (worn : Bool) →
    IsLawfulBy ladder base (record { tag = tag; kind = Kind.Stay at worn } ∷ past) → IsTrue (has_reserve base past) →
    IsSomeAnd (open_look past tag at) (λ look. is_victim_now base past look.slot.sb ≡ false)
