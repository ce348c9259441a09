-- What has a run left of a drive, so that it can be saved? Each channel stood for its start and came to its past; it gave back
-- the changed parts of its base, which fit the sizes of the drive, and its dies, which are mounted.
use Rattle.std.specs.Prelude.{ℕ, ◌≡◌, ◌<◌, true, List, length, map, slice_get, Option, Some, ⊤}
use Rattle.std.specs.Io.KnownBytes.{Appends}
use Rattle.chan_dies.specs.DiesState.{AreMounted}
use Rattle.chan_state.specs.ChannelState.{ChannelState, EndsWhole, StandsFor, parts_of}
use Rattle.chan_state.specs.declared.parts.BaseParts.{BaseParts}
use Rattle.channel_ends.specs.ChannelEnds.{HaveFewPages}
use Rattle.contents_file.specs.DiesCopied.{FailsAt}
use Rattle.drive_image.specs.WholeImage.{saved_channels_of}
use Rattle.final_dies.specs.FinalDies.{dies_of_channel}
use Rattle.onfi_cmd.specs.DieState.{DieState}
use Rattle.run_laws.specs.Runs.{Run, channels_of, data_in}
use Rattle.ssd_formats.specs.ImageContents.{image_bytes}
use Rattle.ssd_formats.specs.ImageHead.{Head, with_next_session}
use Rattle.ssd_geo.specs.declared.base.ChannelBase.{ChannelBase}
use Rattle.ssd_geo.specs.declared.policy_view.PolicyView.{PolicyView}
use Rattle.ssd_geo.specs.declared.shape.Shape.{Shape}
use Rattle.ssd_geo.specs.declared.tag.Tag.{Tag}
use Rattle.ssd_histories.specs.CallsInOrder.{ChannelRun}
use Rattle.ssd_io.specs.Pieces.{AppendsFront}
use Rattle.ssd_top.specs.declared.status.Status.{Status}
use Rattle.ssd_top.specs.declared.status.Status.TheVariants.{Done, WriteFault, OutOfMemory, DieFailed}

-- a channel has its superblocks and its rows
pub record PartsFit (shape : Shape) (parts : BaseParts) : Type 0 where
  pub block_count : length parts.blocks ≡ shape.superblocks
  pub row_count : length parts.rows ≡ shape.rows

-- the dies of each channel, among those of a drive, are mounted as its own
abbrev pub AreChannelsMounted : Shape → List DieState → Type 0
AreChannelsMounted shape dies =
    (channel : ℕ) → channel < shape.channels → AreMounted shape (dies_of_channel shape.dies dies channel)

-- and none of them has more programmed pages in a block than there are
abbrev pub HaveChannelsFewPages : Shape → List DieState → Type 0
HaveChannelsFewPages shape dies =
    (channel : ℕ) → channel < shape.channels → HaveFewPages shape (dies_of_channel shape.dies dies channel)

-- parts are those of all channels of a drive, and the dies of each channel are mounted
pub record CanBeSaved (shape : Shape) (parts : List BaseParts) (dies : List DieState) : Type 0 where
  pub as_many : length parts ≡ shape.channels
  pub fit : (channel : ℕ) (own : BaseParts) → slice_get parts channel ≡ Some own → PartsFit shape own
  pub mounted : AreChannelsMounted shape dies

-- a channel of a drive of a shape stood for the start of a run, came to its past, and ended whole with these dies
pub record IsAtEnd (contents : List (Tag × List ℕ)) (run : ChannelRun) (shape : Shape) (dies : List DieState)
    (channel : ChannelState) : Type 0 where
  pub view : Option PolicyView
  pub past_is : channel.past ≡ run.past
  pub stands : StandsFor channel view run.start contents
  pub whole : EndsWhole channel
  pub shape_is : run.start.base.shape ≡ shape
  pub dies_are : channel.dies ≡ dies

-- a run left these parts of its channels' bases, and these dies
pub record LeavesDrive (head : Head) (shape : Shape) (run : Run) (parts : List BaseParts) (dies : List DieState) : Type 0 where
  pub channels : List ChannelState
  pub as_many : length (channels_of run) ≡ length channels
  pub parts_are : parts ≡ map parts_of channels
  pub at_end :
      (n : ℕ) (own : ChannelRun) (channel : ChannelState) → slice_get (channels_of run) n ≡ Some own
      → slice_get channels n ≡ Some channel
      → IsAtEnd (data_in head run) own shape (dies_of_channel shape.dies dies n) channel
  pub can_be_saved : CanBeSaved shape parts dies

-- a base has the sizes of a drive, the number of a channel, and these parts
pub record HasParts (shape : Shape) (channel : ℕ) (parts : BaseParts) (base : ChannelBase) : Type 0 where
  pub shape_is : base.shape ≡ shape
  pub number_is : base.channel ≡ channel
  pub blocks_are : base.blocks ≡ parts.blocks
  pub rows_are : base.rows ≡ parts.rows
  pub sum_is : base.sum ≡ parts.sum

-- bases have these parts, channel by channel
pub record HaveParts (shape : Shape) (parts : List BaseParts) (bases : List ChannelBase) : Type 0 where
  pub as_many : length bases ≡ length parts
  pub each :
      (channel : ℕ) (own : BaseParts) (base : ChannelBase) → slice_get parts channel ≡ Some own
      → slice_get bases channel ≡ Some base → HasParts shape channel own base

-- bases with these parts are saved with a head, whose session is then the next, and with the pages of dies; this holds of the
-- image
pub record OfImageLeft (head : Head) (shape : Shape) (parts : List BaseParts) (dies : List DieState) (P : List ℕ → Type 0)
    : Type 0 where
  pub bases : List ChannelBase
  pub have_parts : HaveParts shape parts bases
  pub of_image : P (image_bytes (with_next_session head true) (saved_channels_of shape bases dies))

-- the image was written: all of it, or a front where the sink or a die failed
abbrev pub IsLeftWritten : Status → Head → Shape → List BaseParts → List DieState → Option (List ℕ) → Option (List ℕ) → Type 0
IsLeftWritten Done head shape parts dies old new = OfImageLeft head shape parts dies (Appends old new)
IsLeftWritten WriteFault head shape parts dies old new = OfImageLeft head shape parts dies (AppendsFront old new)
IsLeftWritten (DieFailed die) head shape parts dies old new = OfImageLeft head shape parts dies (AppendsFront old new)
IsLeftWritten OutOfMemory head shape parts dies old new = ⊤
IsLeftWritten other head shape parts dies old new = ⊥

-- one die of the first so many of a list failed as its levels were copied
pub record FailsBelow (count die : ℕ) (olds news : List DieState) : Type 0 where
  pub in_drive : die < count
  pub fails : FailsAt 0 die olds news

-- what became of the dies then, of which so many are the drive's: they stay, but one of these that failed
abbrev pub AreLeft : ℕ → Status → List DieState → List DieState → Type 0
AreLeft count (DieFailed die) olds news = FailsBelow count die olds news
AreLeft count other olds news = news ≡ olds
