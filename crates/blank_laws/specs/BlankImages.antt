-- Can a channel of a blank image refuse a write? Each factory bad superblock that a head lists leaves room for the rows
-- beside it and those before it, so the rows of a channel fit beside all of its own. Each law is the contract of a function
-- without a body.
use Rattle.std.specs.Prelude.{ℕ, ◌≤◌, IsTrue, List}
use Rattle.ssd_geo.specs.Ladder.{LadderState}
use Rattle.ssd_geo.specs.Limits.{most_rows_of}
use Rattle.ssd_geo.specs.declared.base.ChannelBase.{ChannelBase}
use Rattle.ssd_geo.specs.declared.entry.Entry.{Entry}
use Rattle.ssd_histories.specs.Lawful.{IsLawfulBy}
use Rattle.ssd_histories.specs.Standing.{IsStart}
use Rattle.ssd_histories.specs.Start.{Start}
use Rattle.ssd_formats.specs.ImageContents.{IsBaseOf, blank_channel}
use Rattle.ssd_formats.specs.ImageHead.{Head, IsHead, bad_of_channel}
use Rattle.history_laws.specs.BlankChannels.{IsBlankAndSound, TakesWrites, has_no_bad_by_fault, has_no_weak_block}

-- the rows of each channel fit beside the factory bad superblocks of it that a head lists
abbrev pub HeadsHaveRoom : Type 0
HeadsHaveRoom =
    (head : Head) (channel : ℕ) → IsHead head → head.sizes.rows ≤ most_rows_of head.sizes (bad_of_channel head.bad channel)

-- so a channel of a blank image is blank and sound, where the image has no weak block of it
abbrev pub BlankImagesAreBlank : Type 0
BlankImagesAreBlank =
    (head : Head) (channel : ℕ) (base : ChannelBase) →
    IsHead head → IsBaseOf head channel (blank_channel head channel) base → IsTrue (has_no_weak_block base) →
    IsBlankAndSound base

-- and takes writes as long as no call of a die fails
abbrev pub BlankImagesTakeWrites : Type 0
BlankImagesTakeWrites =
    (ladder : List Entry → ℕ → LadderState) (head : Head) (channel : ℕ) (start : Start) (past : List Entry) →
    IsHead head → IsBaseOf head channel (blank_channel head channel) start.base →
    IsTrue (has_no_weak_block start.base) → IsStart start → IsLawfulBy ladder start.base past →
    IsTrue (has_no_bad_by_fault past) → TakesWrites start.base past
