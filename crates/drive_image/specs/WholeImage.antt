-- As what is a drive with contents saved in an image? Each channel, in their order, as its base and its dies tell, which are
-- those of its number among the dies of the drive.
use Rattle.std.specs.Prelude.{ℕ, ◌≡◌, ◌<◌, List, length, map, slice_get, Some, Result, Ok, Err, ⊤}
use Rattle.std.specs.List.{enumerate_from}
use Rattle.ssd_geo.specs.declared.base.ChannelBase.{ChannelBase}
use Rattle.ssd_geo.specs.declared.shape.Shape.{Shape}
use Rattle.ssd_formats.specs.ImageContents.{ChannelImage, saved_channel}
use Rattle.chan_dies.specs.DiesState.{AreMounted}
use Rattle.onfi_cmd.specs.DieState.{DieState}
use Rattle.final_dies.specs.FinalDies.{dies_of_channel}
use Rattle.contents_file.specs.DiesCopied.{AllTellPages, cells_told}
use Rattle.contents_file.specs.declared.stop.WriteStop.{WriteStop}
use Rattle.contents_file.specs.declared.stop.WriteStop.TheVariants.{WriteFault, DieFailed}

-- a base is that of the channel with this number, in a drive of a shape
pub record IsBaseOfChannel (shape : Shape) (channel : ℕ) (base : ChannelBase) : Type 0 where
  pub shape_is : base.shape ≡ shape
  pub number_is : base.channel ≡ channel
  pub block_count : length base.blocks ≡ shape.superblocks
  pub row_count : length base.rows ≡ shape.rows

-- bases are those of the channels of a drive of a shape, in their order
pub record AreBasesOf (shape : Shape) (bases : List ChannelBase) : Type 0 where
  pub count_is : length bases ≡ shape.channels
  pub each : (channel : ℕ) (base : ChannelBase) → slice_get bases channel ≡ Some base → IsBaseOfChannel shape channel base

-- the dies of each channel, among those of a drive of a shape, are mounted in it and tell their blocks
abbrev pub ChannelsTellPages : Shape → List DieState → Type 0
ChannelsTellPages shape dies =
    (channel : ℕ) → channel < shape.channels → AllTellPages shape (dies_of_channel shape.dies dies channel)

-- what a channel is saved as, of its number and its base
abbrev pub saved_of : Shape → List DieState → ℕ × ChannelBase → ChannelImage
saved_of shape dies numbered = saved_channel numbered.1 (cells_told (dies_of_channel shape.dies dies numbered.0))

-- what the channels of a drive are saved as
abbrev pub saved_channels_of : Shape → List ChannelBase → List DieState → List ChannelImage
saved_channels_of shape bases dies = map (saved_of shape dies) (enumerate_from 0 bases)

-- a die that failed is one of the first so many of a list
abbrev pub NamesOneBelow : {T : Type 0} → ℕ → Result T WriteStop → Type 0
NamesOneBelow count (Ok done) = ⊤
NamesOneBelow count (Err WriteFault) = ⊤
NamesOneBelow count (Err (DieFailed die)) = die < count

-- the dies of channels that are mounted, as they are where a channel ended whole, tell their pages
abbrev pub MountedChannelsTell : Type 0
MountedChannelsTell =
    (shape : Shape) (dies : List DieState)
    → ((channel : ℕ) → channel < shape.channels → AreMounted shape (dies_of_channel shape.dies dies channel))
    → ChannelsTellPages shape dies
