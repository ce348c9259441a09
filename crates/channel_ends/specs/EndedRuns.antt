-- Do the channels of a run, as they are at its end, hold the image that it is saved as? Each channel stood for its start and its
-- past, and ended whole. Each law is the contract of a function without a body.
use Rattle.std.specs.Prelude.{ℕ, ◌≡◌, ◌+◌, List, [], ◌∷◌, length, All, Option, ⊤}
use Rattle.contents_end.specs.ContentsEnd.{IsSavable}
use Rattle.chan_state.specs.ChannelState.{ChannelState}
use Rattle.ssd_formats.specs.ImageContents.{ChannelImage}
use Rattle.ssd_formats.specs.ImageHead.{Head, IsHead}
use Rattle.ssd_geo.specs.declared.policy_view.PolicyView.{PolicyView}
use Rattle.ssd_geo.specs.declared.tag.Tag.{Tag}
use Rattle.ssd_histories.specs.CallsInOrder.{ChannelRun}
use Rattle.run_laws.specs.Runs.{Run, channels_of, data_in}
use Rattle.channel_ends.specs.ChannelEnds.{HasEnded, HasSmallTag, image_at_end}
use Rattle.channel_ends.specs.SavedImage.{IsReadAgain, image_of_channel, images_of_run}

-- a channel has ended with the start and the past of a run
pub record EndsRun (contents : List (Tag × List ℕ)) (run : ChannelRun) (channel : ChannelState) : Type 0 where
  pub view : Option PolicyView
  pub past_is : channel.past ≡ run.past
  pub ended : HasEnded view run.start contents channel

-- so have as many channels with those of the runs, in their order
abbrev pub EndRuns : List (Tag × List ℕ) → List ChannelRun → List ChannelState → Type 0
EndRuns contents [] [] = ⊤
EndRuns contents [] (channel ∷ channels) = ⊥
EndRuns contents (run ∷ runs) [] = ⊥
EndRuns contents (run ∷ runs) (channel ∷ channels) = EndsRun contents run channel × EndRuns contents runs channels

-- what the channels are saved as
abbrev pub images_at_end : List ChannelRun → List ChannelState → List ChannelImage
images_at_end [] channels = []
images_at_end (run ∷ runs) [] = []
images_at_end (run ∷ runs) (channel ∷ channels) = image_at_end run.start.base channel ∷ images_at_end runs channels

-- a channel holds what its past says that it is saved as
abbrev pub EndedChannelsHoldTheirImage : Type 0
EndedChannelsHoldTheirImage =
    (contents : List (Tag × List ℕ)) (run : ChannelRun) (channel : ChannelState) → EndsRun contents run channel →
    image_at_end run.start.base channel ≡ image_of_channel contents run

-- and so do the channels of a run
abbrev pub EndedRunsHoldTheirImages : Type 0
EndedRunsHoldTheirImages =
    (head : Head) (run : Run) (channels : List ChannelState) → EndRuns (data_in head run) (channels_of run) channels →
    images_at_end (channels_of run) channels ≡ images_of_run head run

-- the starts of channels, from this number on, could be saved with a head
abbrev pub AreSavable : Head → ℕ → List ChannelRun → Type 0
AreSavable head number [] = ⊤
AreSavable head number (run ∷ runs) = IsSavable head number run.start × AreSavable head (number + 1) runs

-- what a run is saved as is read again, where its starts could be saved and the numbers of its calls fit their fields
abbrev pub EndedRunsAreReadAgain : Type 0
EndedRunsAreReadAgain =
    (head : Head) (run : Run) (channels : List ChannelState) → IsHead head → length (channels_of run) ≡ head.sizes.channels →
    AreSavable head 0 (channels_of run) → EndRuns (data_in head run) (channels_of run) channels →
    All (λ (of : ChannelRun). All HasSmallTag of.past) (channels_of run) → IsReadAgain head run
