-- What does a write of a row answer? It goes to the next slot where the host has room. Where it hasn't, the write says why: no
-- collection can make room, all room is taken, or a collection is to come first.
use Rattle.std.specs.Prelude.{ℕ, ◌==◌, ◌≡◌, Bool, true, false, IsTrue, IsFalse, List, Option, Some, None}
use Rattle.std.specs.List.{list_any}
use Rattle.chan_tables.specs.Copying.{is_worn_with}
use Rattle.ssd_histories.specs.Blocks.{are_blocks_full, blocks_have_room, next_slot_of}
use Rattle.ssd_histories.specs.Policies.{count_of_candidates, table_in}
use Rattle.ssd_histories.specs.Start.{Start}
use Rattle.ssd_histories.specs.WeakDies.{dies_of_program}
use Rattle.ssd_geo.specs.Superblock.{slots_of}
use Rattle.ssd_geo.specs.declared.kind.Kind.{Kind}
use Rattle.ssd_geo.specs.declared.policy_view.PolicyView.{PolicyView}
use Rattle.ssd_geo.specs.declared.shape.Shape.{Shape}
use Rattle.ssd_geo.specs.declared.slot.Slot.{Slot}
use Rattle.ssd_geo.specs.declared.superblock.SbInfo.{SbInfo}
use Rattle.ssd_geo.specs.declared.tag.Tag.{Tag}
use Rattle.chan_state.specs.ChannelState.{ChannelState, StandsFor}
use Rattle.chan_state.specs.Steps.{AddsEntry, IsWordOf}
use Rattle.chan_state.specs.declared.answers.WriteAnswer.{WriteAnswer}
use Rattle.chan_state.specs.declared.answers.WriteAnswer.TheVariants.{Written, Failed, DieFault, ReadOnly, Full, NeedRoom}

-- what a policy is told of a channel
abbrev pub table_now : ChannelState → List SbInfo
table_now channel = table_in (slots_of channel.shape.pages channel.shape.dies) channel.blocks channel.rows channel.looks

-- whether no collection can make room, and whether all room for the host is taken
abbrev pub is_worn_now : ChannelState → Bool
is_worn_now channel = is_worn_with (slots_of channel.shape.pages channel.shape.dies) channel.blocks channel.rows

abbrev pub is_full_now : ChannelState → Bool
is_full_now channel = are_blocks_full channel.blocks (count_of_candidates (table_now channel))

-- whether a program of a slot uses a die
abbrev pub uses_die : Shape → Slot → ℕ → Bool
uses_die shape slot die = list_any (λ used. used == die) (dies_of_program shape.dies slot)

-- a program of the next slot failed on a die that it uses, and this entry was added
pub record FailsAt (old new : ChannelState) (tag : Tag) (slot : Slot) (die : ℕ) (kind : Kind) : Type 0 where
  pub is_next : next_slot_of old.blocks ≡ Some slot
  pub is_used : IsTrue (uses_die old.shape slot die)
  pub entry : AddsEntry old new tag kind

-- a program of the next slot, which is in this superblock, answered FAIL on some die
pub record FailsIn (old new : ChannelState) (tag : Tag) (sb : ℕ) (kind : Slot → ℕ → Bool → Kind) : Type 0 where
  pub slot : Slot
  pub die : ℕ
  pub sb_is : slot.sb ≡ sb
  pub fails : FailsAt old new tag slot die (kind slot die false)

-- a program of the next slot stopped at this die, whose call failed
pub record StopsAt (old new : ChannelState) (tag : Tag) (die : ℕ) (kind : Slot → ℕ → Bool → Kind) : Type 0 where
  pub slot : Slot
  pub fails : FailsAt old new tag slot die (kind slot die true)

-- what a write answers and adds
abbrev pub Writes : ChannelState → ChannelState → Tag → ℕ → WriteAnswer → Type 0
Writes old new tag row (Written slot) =
    IsTrue (blocks_have_room old.blocks) × (next_slot_of old.blocks ≡ Some slot) × AddsEntry old new tag (Kind.Write row slot)
Writes old new tag row (Failed sb) = IsTrue (blocks_have_room old.blocks) × FailsIn old new tag sb (Kind.BadWrite row)
Writes old new tag row (DieFault die) = IsTrue (blocks_have_room old.blocks) × StopsAt old new tag die (Kind.BadWrite row)
Writes old new tag row ReadOnly =
    IsFalse (blocks_have_room old.blocks) × IsTrue (is_worn_now old) × AddsEntry old new tag (Kind.Refused row true)
Writes old new tag row Full =
    IsFalse (blocks_have_room old.blocks) × IsFalse (is_worn_now old) × IsTrue (is_full_now old)
    × AddsEntry old new tag (Kind.Refused row false)
Writes old new tag row NeedRoom =
    IsFalse (blocks_have_room old.blocks) × IsFalse (is_worn_now old) × IsFalse (is_full_now old) × (new ≡ old)

-- the die that a write names as failed, if it names one
abbrev pub fault_of_write : WriteAnswer → Option ℕ
fault_of_write (Written slot) = None
fault_of_write (Failed sb) = None
fault_of_write (DieFault die) = Some die
fault_of_write ReadOnly = None
fault_of_write Full = None
fault_of_write NeedRoom = None

-- where the word is the call's, the channel goes on standing
abbrev pub WritesFor : ChannelState → ChannelState → Tag → ℕ → List ℕ → Type 0
WritesFor old new tag row word =
    (view : Option PolicyView) (start : Start) (contents : List (Tag × List ℕ)) → StandsFor old view start contents →
    IsWordOf start contents tag row word → StandsFor new view start contents
