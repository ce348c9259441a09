-- What has each channel of a blank drive before the first call? It stands for its start in a run: the one that the blank image,
-- the limit of the histories, its dies and its policy give it.
use Rattle.std.specs.Prelude.{ℕ, ◌≡◌, ◌*◌, List, [], drop, length, map, slice_get, slice_index_or, take, Option, Some, None}
use Rattle.std.specs.List.{range_with_len}
use Rattle.chan_dies.specs.DiesState.{blocks_in}
use Rattle.chan_state.specs.ChannelState.{ChannelState, StandsFor}
use Rattle.chan_state.specs.Starting.{HasBegun}
use Rattle.final_dies.specs.FinalDies.{dies_of_channel}
use Rattle.onfi_cmd.specs.DieState.{DieState}
use Rattle.run_laws.specs.HandedCounts.{handed_by_channel}
use Rattle.run_laws.specs.Runs.{FaultCounts}
use Rattle.run_laws.specs.Starts.{starts_of}
use Rattle.ssd_formats.specs.ImageContents.{IsBaseOf, blank_channel, cells_of_saved}
use Rattle.ssd_formats.specs.ImageHead.{Head, head_of}
use Rattle.ssd_histories.specs.Start.{Start}
use Rattle.ssd_geo.specs.declared.base.ChannelBase.{ChannelBase}
use Rattle.ssd_geo.specs.declared.head.ImageHead.{ImageHead}
use Rattle.ssd_geo.specs.declared.policy_view.PolicyView.{PolicyView}
use Rattle.ssd_geo.specs.declared.tag.Tag.{Tag}

-- a channel has begun as the one of this number of a blank drive, with these dies and this view of its policy
pub record IsBegun (head : Head) (limit number : ℕ) (dies : List DieState) (view : Option PolicyView) (channel : ChannelState)
    : Type 0 where
  pub base : ChannelBase
  pub is_base : IsBaseOf head number (blank_channel head number) base
  pub cells_are : map blocks_in dies ≡ cells_of_saved head.sizes (blank_channel head number)
  pub has_begun : HasBegun base limit dies view channel

-- so have channels from the first on, with the dies of the drive and the views of their policies
pub record AreBegun (head : Head) (limit : ℕ) (dies : List DieState) (views : List (Option PolicyView)) (channels : List ChannelState)
    : Type 0 where
  pub each :
      (number : ℕ) (channel : ChannelState) → slice_get channels number ≡ Some channel
      → IsBegun head limit number (dies_of_channel head.sizes.dies dies number) (slice_index_or views number None) channel

-- the starts of a run on a blank drive, with these counts of its dies and these views of its policies
abbrev pub blank_starts : ImageHead → ℕ → FaultCounts → List (Option PolicyView) → List Start
blank_starts head limit counts views =
    starts_of head.shape (head_of head) limit (map (blank_channel (head_of head)) (range_with_len 0 head.shape.channels))
    (handed_by_channel head.shape.channels head.shape.dies counts views)

-- channels stand for the starts of such a run, whatever its contents are, and have no entry
pub record StandAtStarts (head : ImageHead) (limit : ℕ) (counts : FaultCounts) (views : List (Option PolicyView)) (channels : List ChannelState)
    : Type 0 where
  pub each :
      (number : ℕ) (start : Start) (channel : ChannelState) (contents : List (Tag × List ℕ))
      → slice_get (blank_starts head limit counts views) number ≡ Some start → slice_get channels number ≡ Some channel
      → StandsFor channel (slice_index_or views number None) start contents
  pub no_entries : (number : ℕ) (channel : ChannelState) → slice_get channels number ≡ Some channel → channel.past ≡ []
