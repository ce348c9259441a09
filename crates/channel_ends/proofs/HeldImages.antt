-- What an ended channel and its dies have is what the channel's past says that it is saved as: superblock by superblock, die by
-- die, and page by page.
use Rattle.std.proofs.Common.{◌≡◌, refl, ap, sym, subst, ◌∙◌, ℕ, zero, suc, ◌+◌, ◌<◌, ◌≤◌, List, [], ◌∷◌, length, map, Option, Some, None, slice_get, ℤ, arith}
use Rattle.std.specs.Prelude.{filter_map, if◌then◌else◌}
use Rattle.std.specs.List.{cons_option, enumerate_from, range_with_len}
use Rattle.std.proofs.lemmas.List.{ext_get_or, get_or-map, length-map}
use Rattle.std.proofs.lemmas.List.FromFn.{get_or-map-range_with_len, length-map-range_with_len}
use Rattle.chan_dies.specs.DiesState.{AreMounted, blocks_in, blocks_told, no_die}
use Rattle.chan_fits.specs.DiesFit.{stored_levels}
use Rattle.chan_fits.proofs.PlacesInRange.{place_has_range}
use Rattle.chan_state.specs.ChannelState.{ChannelState}
use Rattle.ssd_formats.specs.ImageContents.{ChannelImage, SavedBlock, is_stripe_open, pages_at, saved_block}
use Rattle.ssd_geo.specs.BlockCells.{BlockCells, cells_at}
use Rattle.ssd_geo.specs.Coding.{coding_of}
use Rattle.ssd_geo.specs.Shape.{sizes_of}
use Rattle.ssd_geo.specs.declared.base.BlockBase.{BlockBase}
use Rattle.ssd_geo.specs.declared.entry.Entry.{Entry}
use Rattle.ssd_geo.specs.declared.place.Place.{Place}
use Rattle.ssd_geo.specs.declared.shape.Shape.{Shape}
use Rattle.ssd_geo.specs.declared.tag.Tag.{Tag}
use Rattle.ssd_histories.specs.CallsInOrder.{ChannelRun}
use Rattle.ssd_histories.specs.PastBlocks.{block_of, blocks_of}
use Rattle.ssd_histories.specs.PastPages.{running_sum}
use Rattle.ssd_histories.specs.PastRows.{rows_of}
use Rattle.run_laws.specs.Runs.{channels_of, data_in}
use Rattle.channel_ends.specs.ChannelEnds.{image_at_end}
use Rattle.channel_ends.specs.EndedRuns.{EndRuns, EndedChannelsHoldTheirImage, EndedRunsHoldTheirImages, EndsRun, images_at_end}
use Rattle.channel_ends.specs.SavedImage.{image_of_block, image_of_channel, pages_of_block}

-- a list is what a test gives of as many numbers or more, where it gives each item and nothing behind the last
listed : {X : Type 0} (items : List X) (given : ℕ → Option X) (a n : ℕ) → length items ≤ n
    → ((k : ℕ) → k < n → slice_get items k ≡ given (a + k)) → filter_map given (range_with_len a n) ≡ items
listed {X} [] given a zero few each = refl
listed {X} (item ∷ items) given a zero few each = absurd (omega (arith, few))
listed {X} [] given a (suc n) few each =
    let here : None ≡ given a = each 0 (omega arith) ∙ ap given (omega arith) in
    ap (λ (first : Option X). cons_option first (filter_map given (range_with_len (a + 1) n))) (sym here)
    ∙ listed [] given (a + 1) n (omega (arith, few)) (λ k below. each (suc k) (omega (arith, below)) ∙ ap given (omega arith))
listed {X} (item ∷ items) given a (suc n) few each =
    let here : Some item ≡ given a = each 0 (omega arith) ∙ ap given (omega arith) in
    ap (λ (first : Option X). cons_option first (filter_map given (range_with_len (a + 1) n))) (sym here)
    ∙ ap (λ (more : List X). item ∷ more)
    (listed items given (a + 1) n (omega (arith, few)) (λ k below. each (suc k) (omega (arith, below)) ∙ ap given (omega arith)))

-- numbered items, one by one
numbered : (made : ℕ × BlockBase → SavedBlock) (block : ℕ → BlockBase) (image : ℕ → SavedBlock) (a n : ℕ)
    → ((k : ℕ) → a ≤ k → k < a + n → made (k, block k) ≡ image k)
    → map made (enumerate_from a (map block (range_with_len a n))) ≡ map image (range_with_len a n)
numbered made block image a zero each = refl
numbered made block image a (suc n) each =
    ap (λ (first : SavedBlock). first ∷ map made (enumerate_from (a + 1) (map block (range_with_len (a + 1) n))))
    (each a (omega arith) (omega arith))
    ∙ ap (λ (more : List SavedBlock). image a ∷ more)
    (numbered made block image (a + 1) n (λ k low below. each k (omega (arith, low)) (omega (arith, below))))

module _ (contents : List (Tag × List ℕ)) (run : ChannelRun) (channel : ChannelState) (ends : EndsRun contents run channel) where
  abbrev shape : Shape
  shape = run.start.base.shape

  mounted : AreMounted shape channel.dies
  mounted = subst (λ (of : Shape). AreMounted of channel.dies) ends.ended.stands.shape_is ends.ended.whole.mounted

  -- the pages of a block of a die
  block_pages : (die sb : ℕ) → die < shape.dies → sb < shape.superblocks
      → (cells_at (blocks_told channel.dies die) sb).pages ≡ pages_of_block contents run die sb
  block_pages die sb in_dies in_blocks =
      sym (listed (cells_at (blocks_told channel.dies die) sb).pages
      (λ (page : ℕ). stored_levels run.start contents run.past (record { die = die; sb = sb; page = page })) 0 shape.pages
      (ends.ended.few_pages die in_dies sb in_blocks)
      (λ page below.
      let place : Place = record { die = die; sb = sb; page = page } in
      ends.ended.stands.dies_fit.pages_are place
      (place_has_range shape place (record { die = in_dies; superblock = in_blocks; page = below }))
      ∙ ap (λ (past : List Entry). stored_levels run.start contents past place) ends.past_is
      ∙ ap (λ (n : ℕ). stored_levels run.start contents run.past (record { die = die; sb = sb; page = n })) (omega arith)))

  -- those of all dies
  dies_pages : (sb : ℕ) → sb < shape.superblocks
      → map (pages_at sb) (map blocks_in channel.dies)
      ≡ map (λ (die : ℕ). pages_of_block contents run die sb) (range_with_len 0 shape.dies)
  dies_pages sb in_blocks =
      let none : List (List ℤ) = [] in
      let told : List (List BlockCells) = map blocks_in channel.dies in
      let many : length told ≡ shape.dies = length-map channel.dies blocks_in ∙ mounted.count_is in
      ext_get_or none (map (pages_at sb) told) (map (λ (die : ℕ). pages_of_block contents run die sb) (range_with_len 0 shape.dies))
      (length-map told (pages_at sb) ∙ many ∙ sym (length-map-range_with_len (λ (die : ℕ). pages_of_block contents run die sb) 0 shape.dies))
      (λ die below.
      let in_told : die < length told = omega (arith, below, length-map told (pages_at sb)) in
      let in_dies : die < shape.dies = omega (arith, in_told, many) in
      get_or-map (pages_at sb) told die [] none in_told
      ∙ ap (pages_at sb) (get_or-map blocks_in channel.dies die no_die [] (omega (arith, in_dies, mounted.count_is)))
      ∙ block_pages die sb in_dies in_blocks
      ∙ sym (get_or-map-range_with_len (λ (k : ℕ). pages_of_block contents run k sb) 0 shape.dies die die none in_dies (omega arith)))

  sum_is : channel.sum ≡ running_sum (coding_of run.start.base) run.start contents run.past
  sum_is =
      ends.ended.stands.dies_fit.sum_is
      ∙ ap (λ (past : List Entry). running_sum (coding_of run.start.base) run.start contents past) ends.past_is

  -- a superblock
  block_held : (sb : ℕ) → sb < shape.superblocks
      → saved_block (sizes_of shape) channel.sum (map blocks_in channel.dies) (sb, block_of run.start.base run.past sb)
      ≡ image_of_block contents run sb
  block_held sb in_blocks = λ i. record {
    block = block_of run.start.base run.past sb;
    pages = dies_pages sb in_blocks i;
    sum = (if is_stripe_open (sizes_of shape) (block_of run.start.base run.past sb) then sum_is i else []);
  }

  blocks_held : map (saved_block (sizes_of shape) channel.sum (map blocks_in channel.dies)) (enumerate_from 0 channel.blocks)
      ≡ map (image_of_block contents run) (range_with_len 0 shape.superblocks)
  blocks_held =
      ap (λ (blocks : List BlockBase). map (saved_block (sizes_of shape) channel.sum (map blocks_in channel.dies)) (enumerate_from 0 blocks))
      (ends.ended.stands.blocks_are ∙ ap (blocks_of run.start.base) ends.past_is)
      ∙ numbered (saved_block (sizes_of shape) channel.sum (map blocks_in channel.dies)) (block_of run.start.base run.past)
      (image_of_block contents run) 0 shape.superblocks
      (λ sb low below. block_held sb (omega (arith, below)))

  pub image_held : image_at_end run.start.base channel ≡ image_of_channel contents run
  image_held = λ i. record {
    blocks = blocks_held i;
    rows = (ends.ended.stands.rows_are ∙ ap (rows_of run.start.base) ends.past_is) i;
  }

pub ended_channels_hold_their_image : EndedChannelsHoldTheirImage
ended_channels_hold_their_image contents run channel ends = image_held contents run channel ends

pub images_held : (contents : List (Tag × List ℕ)) (runs : List ChannelRun) (channels : List ChannelState)
    → EndRuns contents runs channels → images_at_end runs channels ≡ map (image_of_channel contents) runs
images_held contents [] channels end = refl
images_held contents (run ∷ runs) [] end = absurd end
images_held contents (run ∷ runs) (channel ∷ channels) end =
    ap (λ (first : ChannelImage). first ∷ images_at_end runs channels) (image_held contents run channel end.0)
    ∙ ap (λ (more : List ChannelImage). image_of_channel contents run ∷ more) (images_held contents runs channels end.1)

pub ended_runs_hold_their_images : EndedRunsHoldTheirImages
ended_runs_hold_their_images head run channels end = images_held (data_in head run) (channels_of run) channels end
