-- On which channel are the steps tried, and what stays so from step to step? A small drive has one channel with three dies
-- and four superblocks of two pages, so of four data slots each, and words of 48 bytes. Some of its blocks may be weak.
use Rattle.std.specs.Prelude.{ℕ, ◌≡◌, ◌≤◌, IsFalse, IsTrue, Bool, nat_lt, ◌&&◌, List, [], ◌∷◌, length}
use Rattle.std.specs.Prelude.{Some, replicate, pos, negsuc}
use Rattle.std.specs.List.{list_all}
use Rattle.ssd_geo.specs.BlockCells.{blank_cells}
use Rattle.ssd_histories.specs.Blocks.{blank_block}
use Rattle.ssd_histories.specs.Lawful.{has_fault_sense}
use Rattle.ssd_geo.specs.declared.base.ChannelBase.{ChannelBase}
use Rattle.ssd_geo.specs.declared.cell_law.CellLaw.{CellLaw}
use Rattle.ssd_geo.specs.declared.row.Row.{Row}
use Rattle.ssd_geo.specs.declared.shape.Shape.{Shape}
use Rattle.ssd_geo.specs.declared.weak.Weak.{Weak}
use Rattle.onfi_cmd.specs.DieState.{DieState}
use Rattle.chan_tables.specs.TablesState.{ends_recovered, ends_uncorrectable}
use Rattle.chan_state.specs.ChannelState.{ChannelState}
use Rattle.chan_state.specs.Steps.{senses_made}

abbrev pub small_law : CellLaw
small_law = record { erased = negsuc 99; programmed = pos 100; spread = 0; seed = 1 }

-- the base of the blank channel of a drive with these sizes and weak blocks
abbrev pub small_base : Shape → List Weak → ChannelBase
small_base shape weak = record {
  shape = shape;
  session = 0;
  blocks = replicate 4 blank_block;
  rows = replicate 8 Row.Empty;
  sum = replicate 48 0;
  channel = 0;
  entries = pos 0 ∷ pos 1 ∷ negsuc 0 ∷ pos 1 ∷ pos 0 ∷ negsuc 0
      ∷ pos 5 ∷ negsuc 0 ∷ pos 7 ∷ pos 0 ∷ pos 0 ∷ pos 0
      ∷ negsuc 0 ∷ pos 11 ∷ pos 3 ∷ pos 1 ∷ negsuc 0 ∷ pos 0 ∷ [];
  read_levels = pos 0 ∷ negsuc 59 ∷ [];
  iterations = 8;
  step = 10;
  law = small_law;
  weak = weak;
}

-- a list names blocks of the small drive as weak
abbrev pub is_small_block : Weak → Bool
is_small_block weak = nat_lt weak.channel 1 && nat_lt weak.die 3 && nat_lt weak.sb 4

abbrev pub AreSmallBlocks : List Weak → Type 0
AreSmallBlocks weak = IsTrue (list_all is_small_block weak)

-- a die was just mounted as the one of a number, and is blank
pub record IsStartDie (shape : Shape) (weak : List Weak) (number : ℕ) (state : DieState) : Type 0 where
  pub plan_is : state.plan ≡ Some (record { channel = 0; die = number; shape = shape; law = small_law; weak = weak })
  pub told_are : state.told ≡ Some (replicate shape.superblocks blank_cells)

-- a channel on which steps are tried: it has the small sizes, and no entry is of a look that is to come
pub record IsTried (channel : ChannelState) : Type 0 where
  pub rows : channel.shape.rows ≡ 8
  pub dies : channel.shape.dies ≡ 3
  pub superblocks : channel.shape.superblocks ≡ 4
  pub pages : channel.shape.pages ≡ 2
  pub words : channel.shape.words ≡ 1
  pub columns : channel.shape.nb ≡ 6
  pub lifting : channel.shape.z ≡ 64
  pub none_sensed : (at : ℕ) → length channel.past ≤ at → senses_made channel at ≡ 0
  pub none_failed : (at : ℕ) → length channel.past ≤ at → IsFalse (has_fault_sense channel.past at)
  pub none_recovered : (at : ℕ) → length channel.past ≤ at → IsFalse (ends_recovered channel.past at)
  pub none_uncorrectable : (at : ℕ) → length channel.past ≤ at → IsFalse (ends_uncorrectable channel.past at)
