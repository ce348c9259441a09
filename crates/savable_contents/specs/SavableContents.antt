-- Is the drive of a run read again, once it is saved? Contents that have a spelling keep what an image asks of a start: factory bad
-- superblocks are bad, and serials and levels are in their ranges. The tags of a run's entries are those of its calls, whose
-- numbers fit their fields. Each law is the contract of a function without a body.
use Rattle.std.specs.Prelude.{ℕ, ◌≡◌, List, length, slice_get, All, Some}
use Rattle.chan_state.specs.ChannelState.{ChannelState}
use Rattle.channel_ends.specs.ChannelEnds.{HasSmallTag}
use Rattle.channel_ends.specs.EndedRuns.{AreSavable, EndRuns}
use Rattle.channel_ends.specs.SavedImage.{IsReadAgain}
use Rattle.contents_end.specs.ContentsEnd.{IsSavable}
use Rattle.run_laws.specs.Runs.{Run, channels_of, data_in}
use Rattle.run_laws.specs.SerialRuns.{HasCalls}
use Rattle.run_laws.specs.Starts.{BeginsWith, Handed}
use Rattle.ssd_formats.specs.ImageContents.{ChannelImage, IsBaseOf, IsSaved, cells_of_saved}
use Rattle.ssd_formats.specs.ImageHead.{Head, IsHead}
use Rattle.ssd_histories.specs.CallsInOrder.{AreCallsInOrder, ChannelRun}
use Rattle.ssd_histories.specs.Start.{Start}

-- with contents that have a spelling a channel begins so that it could be saved
abbrev pub ContentsAreSavable : Type 0
ContentsAreSavable =
    (head : Head) (channel : ℕ) (saved : ChannelImage) (start : Start) → IsSaved head channel saved →
    IsBaseOf head channel saved start.base → start.cells ≡ cells_of_saved head.sizes saved → IsSavable head channel start

-- what is told of each channel has a spelling
abbrev pub HaveSpelling : Head → List ChannelImage → Type 0
HaveSpelling head saved =
    (channel : ℕ) (contents : ChannelImage) → slice_get saved channel ≡ Some contents → IsSaved head channel contents

-- so a run that begins with such contents has starts that could be saved
abbrev pub RunsOfContentsAreSavable : Type 0
RunsOfContentsAreSavable =
    (head : Head) (saved : List ChannelImage) (limit : ℕ) (handed : List Handed) (run : Run) → HaveSpelling head saved →
    BeginsWith head saved limit handed run → AreSavable head 0 (channels_of run)

-- the numbers of the calls of all entries fit their fields
abbrev pub HaveSmallTags : List ChannelRun → Type 0
HaveSmallTags runs = All (λ of. All HasSmallTag of.past) runs

-- they do so where each entry is of a call, and the calls are numbered and few
abbrev pub CallsGiveSmallTags : Type 0
CallsGiveSmallTags =
    (head : Head) (run : Run) → HasCalls head run →
    AreCallsInOrder (data_in head run) run.calls.calls run.replies (channels_of run) → HaveSmallTags (channels_of run)

-- the image that the drive of a run is saved as is read again, once its channels have ended
abbrev pub IsReadOnceEnded : Head → Run → Type 0
IsReadOnceEnded head run =
    (channels : List ChannelState) → EndRuns (data_in head run) (channels_of run) channels → IsReadAgain head run

-- so it is where the run began with such contents
abbrev pub SavedRunsAreReadAgain : Type 0
SavedRunsAreReadAgain =
    (head : Head) (saved : List ChannelImage) (limit : ℕ) (handed : List Handed) (run : Run) → IsHead head →
    length (channels_of run) ≡ head.sizes.channels → HaveSpelling head saved → BeginsWith head saved limit handed run →
    HasCalls head run → AreCallsInOrder (data_in head run) run.calls.calls run.replies (channels_of run) →
    IsReadOnceEnded head run
