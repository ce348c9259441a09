-- What does a channel keep, and for which starts and contents does it stand? A channel doesn't keep the data of its writes, nor
-- what it began with. So it is seen by a relation: it stands for a start and contents where its history is lawful from
-- that start with these contents, and all that it keeps is what the definitions give at the end of that history.
use Rattle.std.specs.Prelude.{ℕ, ◌≡◌, ◌≢◌, List, length, Option, Some, None}
use Rattle.chan_dies.specs.DiesState.{AreMounted, die_at}
use Rattle.chan_fits.specs.DiesFit.{AreDue, DiesFit}
use Rattle.chan_tables.specs.TablesState.{AreWhole}
use Rattle.onfi_cmd.specs.DieState.{DieState}
use Rattle.ssd_geo.specs.Coding.{word_bytes_in}
use Rattle.ssd_geo.specs.Faults.{Rose}
use Rattle.ssd_histories.specs.History.{open_looks}
use Rattle.ssd_histories.specs.PastBlocks.{blocks_of}
use Rattle.ssd_histories.specs.PastRows.{rows_of}
use Rattle.ssd_histories.specs.Standing.{IsPastOf, view_told}
use Rattle.ssd_histories.specs.Start.{Start}
use Rattle.ssd_geo.specs.declared.base.BlockBase.{BlockBase}
use Rattle.ssd_geo.specs.declared.entry.Entry.{Entry}
use Rattle.ssd_geo.specs.declared.look.Look.{Look}
use Rattle.ssd_geo.specs.declared.policy_view.PolicyView.{PolicyView}
use Rattle.ssd_geo.specs.declared.row.Row.{Row}
use Rattle.ssd_geo.specs.declared.shape.Shape.{Shape}
use Rattle.ssd_geo.specs.declared.tag.Tag.{Tag}
use Rattle.chan_state.specs.declared.parts.BaseParts.{BaseParts}

-- what contracts see of a channel beside its policy: its sizes and session; the limit of its history; its page map, its
-- superblocks and its open looks; its dies and the running sum of its open stripe; and its past, newest entry first
pub record ChannelState : Type 0 where
  pub shape : Shape
  pub session : ℕ
  pub limit : ℕ
  pub rows : List Row
  pub blocks : List BlockBase
  pub looks : List (Tag × Look)
  pub dies : List DieState
  pub sum : List ℕ
  pub past : List Entry

-- the parts of its base as a channel has them
abbrev pub parts_of : ChannelState → BaseParts
parts_of channel = record { blocks = channel.blocks; rows = channel.rows; sum = channel.sum }

-- the parts, the dies and the sizes fit each other
pub record EndsWhole (channel : ChannelState) : Type 0 where
  pub tables : AreWhole channel.shape channel.blocks channel.rows
  pub mounted : AreMounted channel.shape channel.dies
  pub sum_bytes : length channel.sum ≡ word_bytes_in channel.shape
  pub due : AreDue channel.shape channel.blocks channel.dies

-- what a step leaves as it is
pub record SameDrive (old new : ChannelState) : Type 0 where
  pub shape_stays : new.shape ≡ old.shape
  pub session_stays : new.session ≡ old.session
  pub limit_stays : new.limit ≡ old.limit

-- the dies and the running sum are as they were
pub record DiesStay (old new : ChannelState) : Type 0 where
  pub dies_stay : new.dies ≡ old.dies
  pub sum_stays : new.sum ≡ old.sum

-- no die counted a fault
pub record CountNone (old new : List DieState) : Type 0 where
  pub works_stay : (die : ℕ) → (die_at new die).work_count ≡ (die_at old die).work_count
  pub loads_stay : (die : ℕ) → (die_at new die).load_count ≡ (die_at old die).load_count

-- one die counted a fault as work, and no other counted any
pub record CountOne (named : ℕ) (old new : List DieState) : Type 0 where
  pub rose : Rose (die_at old named).work_count (die_at new named).work_count
  pub others : (die : ℕ) → die ≢ named → (die_at new die).work_count ≡ (die_at old die).work_count
  pub loads_stay : (die : ℕ) → (die_at new die).load_count ≡ (die_at old die).load_count

-- a fault was counted by the die that is named, if one is, and by no other
abbrev pub Count : Option ℕ → ChannelState → ChannelState → Type 0
Count None old new = CountNone old.dies new.dies
Count (Some named) old new = CountOne named old.dies new.dies

-- a channel, of which the policy tells this view if it tells any, stands for a start and contents
pub record StandsFor (channel : ChannelState) (view : Option PolicyView) (start : Start) (contents : List (Tag × List ℕ)) : Type 0 where
  pub is_past : IsPastOf start contents channel.past
  pub shape_is : channel.shape ≡ start.base.shape
  pub session_is : channel.session ≡ start.base.session
  pub limit_is : channel.limit ≡ start.limit
  pub rows_are : channel.rows ≡ rows_of start.base channel.past
  pub blocks_are : channel.blocks ≡ blocks_of start.base channel.past
  pub looks_are : channel.looks ≡ open_looks channel.past
  pub dies_fit : DiesFit start contents channel.past channel.dies channel.sum
  pub view_is : view ≡ view_told start channel.past

-- whatever a channel stood for, it stands for after a step that leaves the view
abbrev pub KeepsStanding : ChannelState → ChannelState → Type 0
KeepsStanding old new =
    (view : Option PolicyView) (start : Start) (contents : List (Tag × List ℕ)) →
    StandsFor old view start contents → StandsFor new view start contents
