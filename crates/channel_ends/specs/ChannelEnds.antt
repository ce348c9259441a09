-- May a channel begin again with what it has at its end, and is it read again once it is saved? What a channel stands for says
-- what its superblocks, rows, sum and pages are. Each law is the contract of a function without a body.
use Rattle.std.specs.Prelude.{ℕ, ◌^◌, ◌<◌, ◌≤◌, All, List, map, Option}
use Rattle.chan_dies.specs.DiesState.{blocks_in, die_at}
use Rattle.chan_state.specs.ChannelState.{ChannelState, EndsWhole, StandsFor}
use Rattle.contents_end.specs.ContentsEnd.{IsSavable}
use Rattle.onfi_cmd.specs.DieState.{DieState, programmed_in}
use Rattle.ssd_geo.specs.declared.base.BlockBase.{BlockBase}
use Rattle.ssd_geo.specs.declared.base.ChannelBase.{ChannelBase}
use Rattle.ssd_geo.specs.declared.entry.Entry.{Entry}
use Rattle.ssd_geo.specs.declared.policy_view.PolicyView.{PolicyView}
use Rattle.ssd_geo.specs.declared.shape.Shape.{Shape}
use Rattle.ssd_geo.specs.declared.tag.Tag.{Tag}
use Rattle.ssd_histories.specs.Standing.{IsStart}
use Rattle.ssd_histories.specs.Start.{Start}
use Rattle.run_laws.specs.SpelledPasts.{IsSmallTag}
use Rattle.ssd_formats.specs.ImageContents.{ChannelImage, IsSaved, saved_channel}
use Rattle.ssd_formats.specs.ImageHead.{Head, IsHead}

-- the base at the end of a channel: the parts that its steps change, and all else as at its start
abbrev pub base_at_end : ChannelBase → ChannelState → ChannelBase
base_at_end base channel = record base { blocks = channel.blocks; rows = channel.rows; sum = channel.sum }

-- what a channel is saved as at its end: what that base and its dies tell
abbrev pub image_at_end : ChannelBase → ChannelState → ChannelImage
image_at_end base channel = saved_channel (base_at_end base channel) (map blocks_in channel.dies)

-- what a channel has at its end, as the start of the next session with this view of a policy
abbrev pub start_at_end : Start → ChannelState → Option PolicyView → Start
start_at_end start channel view = record {
  base = base_at_end start.base channel;
  limit = start.limit;
  cells = map blocks_in channel.dies;
  work_faults = map (λ (die : DieState). die.work_count) channel.dies;
  load_faults = map (λ (die : DieState). die.load_count) channel.dies;
  view = view;
}

-- no block of a die has more programmed pages than a block has pages, and so it is with each die of a channel
abbrev pub HasFewPages : Shape → DieState → Type 0
HasFewPages shape die = (sb : ℕ) → sb < shape.superblocks → programmed_in (blocks_in die) sb ≤ shape.pages

abbrev pub HaveFewPages : Shape → List DieState → Type 0
HaveFewPages shape dies = (die : ℕ) → die < shape.dies → HasFewPages shape (die_at dies die)

-- a channel has ended that stood for a start and contents
pub record HasEnded (view : Option PolicyView) (start : Start) (contents : List (Tag × List ℕ)) (channel : ChannelState) : Type 0 where
  pub stands : StandsFor channel view start contents
  pub whole : EndsWhole channel
  pub few_pages : HaveFewPages start.base.shape channel.dies

-- no superblock was erased too often for an image
abbrev pub HasFewErases : List BlockBase → Type 0
HasFewErases blocks = All (λ block. block.erases ≤ 2 ^ 31) blocks

-- what an ended channel has is a start
abbrev pub EndedChannelsStartAgain : Type 0
EndedChannelsStartAgain =
    (view next : Option PolicyView) (start : Start) (contents : List (Tag × List ℕ)) (channel : ChannelState) →
    HasEnded view start contents channel → HasFewErases channel.blocks → IsStart (start_at_end start channel next)

-- the numbers of an entry's call fit their fields
abbrev pub HasSmallTag : Entry → Type 0
HasSmallTag entry = IsSmallTag entry.tag

-- and where the start could be saved and the numbers of its calls fit their fields, it is read again once it is saved
abbrev pub EndedChannelsAreSaved : Type 0
EndedChannelsAreSaved =
    (head : Head) (number : ℕ) (view : Option PolicyView) (start : Start) (contents : List (Tag × List ℕ)) (channel : ChannelState) →
    IsHead head → IsSavable head number start → HasEnded view start contents channel →
    HasFewErases channel.blocks → All HasSmallTag channel.past → IsSaved head number (image_at_end start.base channel)
