-- What a run is saved as is read again: each channel could be saved with the head of the run's input, and so it can with the same
-- head and the next session.
use Rattle.std.proofs.Common.{◌≡◌, refl, ap, sym, subst, ◌∙◌, ℕ, ◌+◌, ◌%◌, ◌^◌, Bool, true, List, [], ◌∷◌, ◌++◌, length, map, length-append, arith}
use Rattle.std.specs.Prelude.{All}
use Rattle.std.proofs.lemmas.Bool.{lt-ltb}
use Rattle.std.proofs.lemmas.List.{length-map}
use Rattle.std.proofs.lemmas.List.Elements.{All-head, All-tail}
use Rattle.chan_state.specs.ChannelState.{ChannelState}
use Rattle.ssd_formats.specs.ImageContents.{AreSaved, ChannelImage, IsSaved}
use Rattle.ssd_formats.specs.ImageHead.{Head, IsHead, with_next_session}
use Rattle.ssd_formats.proofs.ContentsLaws.{image_is_read}
use Rattle.ssd_geo.specs.declared.base.BlockBase.{BlockBase}
use Rattle.ssd_geo.specs.declared.entry.Entry.{Entry}
use Rattle.ssd_geo.specs.declared.tag.Tag.{Tag}
use Rattle.ssd_histories.specs.CallsInOrder.{ChannelRun}
use Rattle.ssd_histories.specs.PastBlocks.{blocks_of}
use Rattle.run_laws.specs.Runs.{channels_of, data_in}
use Rattle.channel_ends.specs.ChannelEnds.{HasFewErases, HasSmallTag}
use Rattle.channel_ends.specs.EndedRuns.{AreSavable, EndRuns, EndedRunsAreReadAgain}
use Rattle.channel_ends.specs.SavedImage.{HaveFewErases, image_of_channel, images_of_run}
use Rattle.channel_ends.proofs.EndedStarts.{ended_channels_are_saved}
use Rattle.channel_ends.proofs.HeldImages.{image_held}

-- a head with the next session, and what may be saved with it
next_is_head : (head : Head) (full : Bool) → IsHead head → IsHead (with_next_session head full)
next_is_head head full is = record {
  words = is.words;
  channels = is.channels;
  dies = is.dies;
  superblocks = is.superblocks;
  pages = is.pages;
  lifting = is.lifting;
  base_rows = is.base_rows;
  base_columns = is.base_columns;
  level_count = is.level_count;
  iterations = is.iterations;
  bytes = is.bytes;
  rows = is.rows;
  seed = is.seed;
  session = lt-ltb ((head.session + 1) % 2 ^ 24) (2 ^ 24) (omega arith);
  erased = is.erased;
  programmed = is.programmed;
  spread = is.spread;
  step = is.step;
  levels = is.levels;
  entries = is.entries;
  entry_count = is.entry_count;
  faultless = is.faultless;
  weak_count = is.weak_count;
  weak_from = is.weak_from;
  weak = is.weak;
  bad_count = is.bad_count;
  bad = is.bad;
}

next_is_saved : (head : Head) (full : Bool) (number : ℕ) (saved : ChannelImage) → IsSaved head number saved
    → IsSaved (with_next_session head full) number saved
next_is_saved head full number saved is =
    record { block_count = is.block_count; blocks = is.blocks; row_count = is.row_count; rows = is.rows }

are_saved : (head : Head) (contents : List (Tag × List ℕ)) (before : List ChannelImage) (number : ℕ) (runs : List ChannelRun)
    (channels : List ChannelState) → IsHead head → length before ≡ number → AreSavable head number runs
    → EndRuns contents runs channels → All (λ (of : ChannelRun). All HasSmallTag of.past) runs → HaveFewErases runs
    → AreSaved (with_next_session head true) before (map (image_of_channel contents) runs)
are_saved head contents before number [] channels h place can end small few = tt
are_saved head contents before number (run ∷ runs) [] h place can end small few = absurd end
are_saved head contents before number (run ∷ runs) (channel ∷ channels) h place can end small few =
    let Small : ChannelRun → Type 0 = λ (of : ChannelRun). All HasSmallTag of.past in
    let Few : ChannelRun → Type 0 = λ (of : ChannelRun). HasFewErases (blocks_of of.start.base of.past) in
    let own : ChannelImage = image_of_channel contents run in
    let blocks_are : channel.blocks ≡ blocks_of run.start.base run.past =
    end.0.ended.stands.blocks_are ∙ ap (blocks_of run.start.base) end.0.past_is in
    let saved : IsSaved head number own =
    subst (λ (image : ChannelImage). IsSaved head number image) (image_held contents run channel end.0)
    (ended_channels_are_saved head number end.0.view run.start contents channel h can.0 end.0.ended
    (subst (λ (blocks : List BlockBase). HasFewErases blocks) (sym blocks_are) (All-head Few run runs few))
    (subst (λ (past : List Entry). All HasSmallTag past) (sym end.0.past_is) (All-head Small run runs small))) in (
      subst (λ (n : ℕ). IsSaved (with_next_session head true) n own) (sym place) (next_is_saved head true number own saved),
      are_saved head contents (before ++ own ∷ []) (number + 1) runs channels h
          (length-append before (own ∷ []) ∙ ap (λ (n : ℕ). n + 1) place) can.1 end.1 (All-tail Small run runs small)
          (All-tail Few run runs few),
    )

pub ended_runs_are_read_again : EndedRunsAreReadAgain
ended_runs_are_read_again head run channels h count can end small = λ few more.
    image_is_read (with_next_session head true) (images_of_run head run) more (next_is_head head true h) refl
    (length-map (channels_of run) (image_of_channel (data_in head run)) ∙ count)
    (are_saved head (data_in head run) [] 0 (channels_of run) channels h refl can end small few)
