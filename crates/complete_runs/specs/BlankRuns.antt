-- With what begins a run of a blank drive? Each channel is as an image without contents gives it: its superblocks are free or
-- factory bad, and its rows are empty.
use Rattle.std.specs.Prelude.{ℕ, List, map}
use Rattle.std.specs.List.{range_with_len}
use Rattle.ssd_formats.specs.ImageContents.{ChannelImage, blank_channel}
use Rattle.ssd_formats.specs.ImageHead.{Head, IsHead}
use Rattle.run_laws.specs.Runs.{Run}
use Rattle.run_laws.specs.Starts.{BeginsWith, Handed}

-- the channels of an image without contents
abbrev pub blank_channels : Head → List ChannelImage
blank_channels head = map (blank_channel head) (range_with_len 0 head.sizes.channels)

-- a run begins with these
pub record BeginsBlank (head : Head) (run : Run) : Type 0 where
  pub is_head : IsHead head
  pub limit : ℕ
  pub handed : List Handed
  pub begins : BeginsWith head (blank_channels head) limit handed run
