-- With what does a channel begin that has a superblock to collect at once? Each slot of superblock 0 is used, and row 0 names
-- one of them, so that it is sealed with one live page; it was erased seven times. The other superblocks are blank.
use Rattle.std.specs.Prelude.{ℕ, ℤ, ◌≡◌, List, [], ◌∷◌, replicate, pos, negsuc, Option}
use Rattle.ssd_geo.specs.Shape.{HasSizes}
use Rattle.ssd_geo.specs.declared.base.BlockBase.{BlockBase}
use Rattle.ssd_geo.specs.declared.base.ChannelBase.{ChannelBase}
use Rattle.ssd_geo.specs.declared.policy_view.PolicyView.{PolicyView}
use Rattle.ssd_geo.specs.declared.row.Row.{Row}
use Rattle.ssd_geo.specs.declared.shape.Shape.{Shape}
use Rattle.ssd_geo.specs.declared.superblock.SbState.{SbState}
use Rattle.ssd_geo.specs.declared.tag.Tag.{Tag}
use Rattle.ssd_geo.specs.declared.weak.Weak.{Weak}
use Rattle.ssd_histories.specs.Blocks.{blank_block}
use Rattle.ssd_histories.specs.HistoryExamples.{small_sizes}
use Rattle.ssd_histories.specs.Start.{Start}
use Rattle.chan_state.specs.ChannelState.{ChannelState, StandsFor}
use Rattle.loaded_tests.specs.LoadedDies.{quiet_law}

-- the superblock to collect
abbrev pub loaded_block : BlockBase
loaded_block = record { state = SbState.Sealed; erases = 7; used = 4 }

-- the page that is live in it
abbrev pub live_row : Row
live_row = Row.Page (record { sb = 0; index = 1 }) 9

-- the entries of the base matrix, row by row
abbrev pub loaded_entries : List ℤ
loaded_entries =
    pos 0 ∷ pos 1 ∷ negsuc 0 ∷ pos 1 ∷ pos 0 ∷ negsuc 0
    ∷ pos 5 ∷ negsuc 0 ∷ pos 7 ∷ pos 0 ∷ pos 0 ∷ pos 0
    ∷ negsuc 0 ∷ pos 11 ∷ pos 3 ∷ pos 1 ∷ negsuc 0 ∷ pos 0 ∷ []

-- the read levels
abbrev pub loaded_levels : List ℤ
loaded_levels = pos 0 ∷ negsuc 59 ∷ []

-- the base of the channel of a drive with these sizes and weak blocks
abbrev pub loaded_base : Shape → List Weak → ChannelBase
loaded_base shape weak = record {
  shape = shape;
  session = 1;
  blocks = loaded_block ∷ replicate 3 blank_block;
  rows = live_row ∷ replicate 7 Row.Empty;
  sum = replicate 48 0;
  channel = 0;
  entries = loaded_entries;
  read_levels = loaded_levels;
  iterations = 8;
  step = 10;
  law = quiet_law;
  weak = weak;
}

-- a channel, of whose policy this view is told, has begun so on a drive with these sizes, whatever the contents are
pub record HasBegunLoaded (shape : Shape) (channel : ChannelState) (view : Option PolicyView) : Type 0 where
  pub start : Start
  pub weak : List Weak
  pub sizes : HasSizes shape small_sizes
  pub is_base : start.base ≡ loaded_base shape weak
  pub stands : (contents : List (Tag × List ℕ)) → StandsFor channel view start contents
