-- What has each channel of a drive before the first call? It has begun with its base, its dies and its policy. Where those are of
-- an image, it stands for its start in a run: the one that what the image tells of it, the limit of the histories, its dies
-- and its policy give it.
use Rattle.std.specs.Prelude.{ℕ, ◌≡◌, List, [], slice_get, slice_index_or, Option, Some, None}
use Rattle.chan_state.specs.ChannelState.{ChannelState, StandsFor}
use Rattle.chan_state.specs.Starting.{HasBegun}
use Rattle.final_dies.specs.FinalDies.{dies_of_channel}
use Rattle.onfi_cmd.specs.DieState.{DieState}
use Rattle.run_laws.specs.HandedCounts.{handed_by_channel}
use Rattle.run_laws.specs.Runs.{FaultCounts}
use Rattle.run_laws.specs.Starts.{starts_of}
use Rattle.ssd_formats.specs.ImageContents.{ChannelImage}
use Rattle.ssd_formats.specs.ImageHead.{head_of}
use Rattle.ssd_histories.specs.Start.{Start}
use Rattle.ssd_geo.specs.declared.base.ChannelBase.{ChannelBase}
use Rattle.ssd_geo.specs.declared.head.ImageHead.{ImageHead}
use Rattle.ssd_geo.specs.declared.policy_view.PolicyView.{PolicyView}
use Rattle.ssd_geo.specs.declared.tag.Tag.{Tag}

-- a channel has begun with the base of its number, with these dies and this view of its policy
pub record HasBegunWith (bases : List ChannelBase) (limit number : ℕ) (dies : List DieState) (view : Option PolicyView)
    (channel : ChannelState) : Type 0 where
  pub base : ChannelBase
  pub base_is : slice_get bases number ≡ Some base
  pub has_begun : HasBegun base limit dies view channel

-- so have channels from the first on, with so many dies each of the drive's, and the views of their policies
pub record HaveBegun (bases : List ChannelBase) (limit count : ℕ) (dies : List DieState) (views : List (Option PolicyView))
    (channels : List ChannelState) : Type 0 where
  pub each :
      (number : ℕ) (channel : ChannelState) → slice_get channels number ≡ Some channel
      → HasBegunWith bases limit number (dies_of_channel count dies number) (slice_index_or views number None) channel

-- the starts of a run on a drive of which an image tells this, with these counts of its dies and these views of its policies
abbrev pub starts_with : ImageHead → List ChannelImage → ℕ → FaultCounts → List (Option PolicyView) → List Start
starts_with head saved limit counts views =
    starts_of head.shape (head_of head) limit saved (handed_by_channel head.shape.channels head.shape.dies counts views)

-- channels stand for the starts of such a run, whatever the data of its writes are, and have no entry
pub record StandAtStarts (head : ImageHead) (saved : List ChannelImage) (limit : ℕ) (counts : FaultCounts)
    (views : List (Option PolicyView)) (channels : List ChannelState) : Type 0 where
  pub each :
      (number : ℕ) (start : Start) (channel : ChannelState) (contents : List (Tag × List ℕ))
      → slice_get (starts_with head saved limit counts views) number ≡ Some start → slice_get channels number ≡ Some channel
      → StandsFor channel (slice_index_or views number None) start contents
  pub no_entries : (number : ℕ) (channel : ChannelState) → slice_get channels number ≡ Some channel → channel.past ≡ []
