-- May a channel begin with what an image tells of it? Contents that have a spelling are those that are read, and each of their
-- fields is in its range; so superblocks, rows, sum and pages fit each other. Each law is the contract of a function without
-- a body.
use Rattle.std.specs.Prelude.{ℕ, ◌≡◌, ◌^◌, ◌<◌, ◌≤◌, List, map}
use Rattle.chan_dies.specs.DiesState.{blocks_in}
use Rattle.onfi_cmd.specs.DieState.{DieState}
use Rattle.ssd_geo.specs.declared.base.ChannelBase.{ChannelBase}
use Rattle.ssd_formats.specs.ImageContents.{ChannelImage, IsBaseOf, IsSaved, blank_channel, cells_of_saved}
use Rattle.ssd_formats.specs.ImageHead.{Head, IsHead}
use Rattle.ssd_histories.specs.Standing.{IsStart}
use Rattle.ssd_histories.specs.Start.{Start}

-- a base and dies are those of contents of a channel
pub record AreOfContents (head : Head) (channel : ℕ) (saved : ChannelImage) (base : ChannelBase) (dies : List DieState) : Type 0 where
  pub is_saved : IsSaved head channel saved
  pub is_base : IsBaseOf head channel saved base
  pub cells_are : map blocks_in dies ≡ cells_of_saved head.sizes saved

-- what a blank image tells of a channel has a spelling
abbrev pub BlankContentsAreSaved : Type 0
BlankContentsAreSaved = (head : Head) (channel : ℕ) → IsHead head → IsSaved head channel (blank_channel head channel)

-- with contents that have a spelling a channel may begin, whatever its dies counted and its policy tells: its base is theirs,
-- and the cells of its dies are theirs
abbrev pub ContentsMakeStarts : Type 0
ContentsMakeStarts =
    (head : Head) (channel : ℕ) (saved : ChannelImage) (start : Start) → IsHead head → channel < head.sizes.channels →
    IsSaved head channel saved → IsBaseOf head channel saved start.base → start.cells ≡ cells_of_saved head.sizes saved →
    256 ≤ start.limit → start.limit ≤ 2 ^ 22 → IsStart start

-- so it may with dies into which they were loaded
abbrev pub LoadedDiesMakeStarts : Type 0
LoadedDiesMakeStarts =
    (head : Head) (channel : ℕ) (saved : ChannelImage) (dies : List DieState) (start : Start) → IsHead head →
    channel < head.sizes.channels → AreOfContents head channel saved start.base dies → start.cells ≡ map blocks_in dies →
    256 ≤ start.limit → start.limit ≤ 2 ^ 22 → IsStart start
