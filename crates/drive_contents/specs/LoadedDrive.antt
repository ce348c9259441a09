-- What becomes of the dies of a drive where the contents of one channel are loaded? Those of the other channels, and those behind
-- the drive's, are as they were.
use Rattle.std.specs.Prelude.{ℕ, ◌≡◌, ◌+◌, ◌*◌, false, List, drop, length, map, slice_get, take, Some}
use Rattle.std.specs.List.{range_with_len}
use Rattle.contents_start.specs.ContentsStart.{AreOfContents}
use Rattle.drive_dies.specs.Mounting.{AreReady}
use Rattle.final_dies.specs.FinalDies.{dies_of_channel}
use Rattle.onfi_cmd.specs.DieState.{DieState}
use Rattle.saved_drive.specs.Contents.{AreOfImage}
use Rattle.ssd_formats.specs.ImageContents.{ChannelImage, IsBaseOf, blank_channel}
use Rattle.ssd_formats.specs.ImageHead.{Head}
use Rattle.ssd_geo.specs.declared.base.ChannelBase.{ChannelBase}
use Rattle.ssd_geo.specs.declared.head.ImageHead.{ImageHead}

-- the dies of a list are as they were but those of one channel, of so many dies each
pub record ChangesChannel (count channel : ℕ) (olds news : List DieState) : Type 0 where
  pub count_stays : length news ≡ length olds
  pub before_stay : take (channel * count) news ≡ take (channel * count) olds
  pub behind_stay : drop (channel * count + count) news ≡ drop (channel * count + count) olds

-- the dies of the channels from this one on are as they were where the drive's were mounted and blank
pub record AreReadyFrom (head : ImageHead) (channel : ℕ) (dies : List DieState) : Type 0 where
  pub before : List DieState
  pub ready : AreReady head before
  pub same : drop (channel * head.shape.dies) dies ≡ drop (channel * head.shape.dies) before
  pub as_many : length dies ≡ length before

-- so many channels, from the first on, have contents: their bases and their dies, among those of the drive, are of them
pub record AreLoadedBelow (head : Head) (count : ℕ) (saved : List ChannelImage) (bases : List ChannelBase) (dies : List DieState)
    : Type 0 where
  pub as_many_saved : length saved ≡ count
  pub as_many_bases : length bases ≡ count
  pub each :
      (channel : ℕ) (of : ChannelImage) (base : ChannelBase) → slice_get saved channel ≡ Some of
      → slice_get bases channel ≡ Some base
      → AreOfContents head channel of base (dies_of_channel head.sizes.dies dies channel)

-- bases are those of so many channels of a blank drive, from the first on
pub record AreBlankBelow (head : Head) (count : ℕ) (bases : List ChannelBase) : Type 0 where
  pub as_many : length bases ≡ count
  pub each :
      (channel : ℕ) (base : ChannelBase) → slice_get bases channel ≡ Some base
      → IsBaseOf head channel (blank_channel head channel) base

-- bases and the dies of a drive are those of what an image tells of its channels, which is blank where it has no contents
pub record AreOfDrive (head : Head) (saved : List ChannelImage) (bases : List ChannelBase) (dies : List DieState) : Type 0 where
  pub of_image : AreOfImage head saved bases dies
  pub blank : head.full ≡ false → saved ≡ map (blank_channel head) (range_with_len 0 head.sizes.channels)
