-- Which image is the drive of a run saved as? The one of version 2 with the sizes, fields and lists of its input's head, with
-- contents, and with the next session. The contents of a channel are what its past says at its end: the rows of the page map, the
-- state, the erases and the used slots of each superblock, the levels of the programmed pages, and the sum of the open stripe.
use Rattle.std.specs.Prelude.{ℕ, ◌≡◌, ◌++◌, true, if◌then◌else◌, List, [], length, map, filter_map, ℤ, All, Ok}
use Rattle.std.specs.List.{range_with_len}
use Rattle.chan_fits.specs.DiesFit.{stored_levels}
use Rattle.ssd_formats.specs.ImageContents.{ChannelImage, SavedBlock, image_bytes, is_stripe_open, read_image}
use Rattle.ssd_formats.specs.ImageHead.{Head, with_next_session}
use Rattle.ssd_geo.specs.Coding.{coding_of}
use Rattle.ssd_geo.specs.Shape.{sizes_of}
use Rattle.ssd_geo.specs.declared.tag.Tag.{Tag}
use Rattle.ssd_histories.specs.CallsInOrder.{ChannelRun}
use Rattle.ssd_histories.specs.PastBlocks.{block_of, blocks_of}
use Rattle.ssd_histories.specs.PastPages.{running_sum}
use Rattle.ssd_histories.specs.PastRows.{rows_of}
use Rattle.run_laws.specs.Runs.{Run, channels_of, data_in}
use Rattle.channel_ends.specs.ChannelEnds.{HasFewErases}

-- the levels of the programmed pages of a block, in the order of the pages
abbrev pub pages_of_block : List (Tag × List ℕ) → ChannelRun → ℕ → ℕ → List (List ℤ)
pages_of_block contents run die sb =
    filter_map (λ page. stored_levels run.start contents run.past (record { die = die; sb = sb; page = page }))
    (range_with_len 0 run.start.base.shape.pages)

-- a superblock: its state, erases and used slots, the pages of each die, and the running sum where its stripe is open
abbrev pub image_of_block : List (Tag × List ℕ) → ChannelRun → ℕ → SavedBlock
image_of_block contents run sb =
    let block = block_of run.start.base run.past sb in
    record {
      block = block;
      pages = map (λ die. pages_of_block contents run die sb) (range_with_len 0 run.start.base.shape.dies);
      sum = (if is_stripe_open (sizes_of run.start.base.shape) block
          then running_sum (coding_of run.start.base) run.start contents run.past
          else []);
    }

-- a channel: its superblocks in order, and its page map
abbrev pub image_of_channel : List (Tag × List ℕ) → ChannelRun → ChannelImage
image_of_channel contents run = record {
  blocks = map (image_of_block contents run) (range_with_len 0 run.start.base.shape.superblocks);
  rows = rows_of run.start.base run.past;
}

-- the channels of a run
abbrev pub images_of_run : Head → Run → List ChannelImage
images_of_run head run = map (image_of_channel (data_in head run)) (channels_of run)

-- the bytes of the image that the drive of a run is saved as
abbrev pub saved_image : Head → Run → List ℕ
saved_image head run = image_bytes (with_next_session head true) (images_of_run head run)

-- no superblock of the channels was erased too often for an image
abbrev pub HaveFewErases : List ChannelRun → Type 0
HaveFewErases runs = All (λ run. HasFewErases (blocks_of run.start.base run.past)) runs

-- where that is so, the saved image is read again as what it was made of, whatever follows it
abbrev pub IsReadAgain : Head → Run → Type 0
IsReadAgain head run =
    HaveFewErases (channels_of run) → (more : List ℕ) →
    read_image (saved_image head run ++ more)
    ≡ Ok ((with_next_session head true, images_of_run head run), record { place = length (saved_image head run); bytes = more })
