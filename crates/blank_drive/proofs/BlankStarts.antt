-- A channel may begin as a blank image tells of it: what a blank image tells has a spelling, and contents that have one make a
-- start.
use Rattle.std.proofs.Common.{◌≡◌, ap, sym, ◌∙◌, ℕ, ◌^◌, ◌≤◌, ◌<◌, replicate}
use Rattle.ssd_geo.specs.BlockCells.{blank_cells}
use Rattle.ssd_geo.specs.Limits.{Sizes}
use Rattle.ssd_histories.specs.Standing.{IsStart}
use Rattle.ssd_histories.specs.Start.{Start}
use Rattle.ssd_formats.specs.ImageContents.{IsBaseOf, blank_channel}
use Rattle.ssd_formats.specs.ImageHead.{Head, IsHead}
use Rattle.channel_base.proofs.BlankChannels.{cells_are}
use Rattle.contents_start.proofs.BlankContents.{blank_contents_are_saved}
use Rattle.contents_start.proofs.SavedStarts.{contents_make_starts}

pub blank_is_start : (head : Head) → IsHead head → (channel : ℕ) → channel < head.sizes.channels → (start : Start) →
    IsBaseOf head channel (blank_channel head channel) start.base →
    start.cells ≡ replicate start.base.shape.dies (replicate start.base.shape.superblocks blank_cells) →
    256 ≤ start.limit → start.limit ≤ 2 ^ 22 → IsStart start
blank_is_start head h channel c start b cells low high =
    contents_make_starts head channel (blank_channel head channel) start h c (blank_contents_are_saved head channel h) b
    (cells
    ∙ ap (λ (sizes : Sizes). replicate sizes.dies (replicate sizes.superblocks blank_cells)) b.shape
    ∙ sym (cells_are head channel))
    low high
