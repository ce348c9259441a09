-- A channel of a blank image is blank and sound: the proofs of the laws of specs/BlankImages.antt on bases.
use Rattle.std.proofs.Common.{◌≡◌, ℕ, zero, suc, ◌<◌, ◌≤◌, ◌||◌, Bool, true, false, List, [], ◌∷◌, map, refl, ap, ◌∙◌, arith}
use Rattle.std.specs.Prelude.{count_by, if◌then◌else◌}
use Rattle.std.specs.List.{list_all, range_with_len}
use Rattle.std.proofs.lemmas.Simd.{map-map}
use Rattle.std.proofs.lemmas.List.FromFn.{get_or-map-range_with_len}
use Rattle.ssd_geo.specs.Limits.{Sizes, most_rows_of}
use Rattle.ssd_geo.specs.Shape.{sizes_of}
use Rattle.ssd_geo.specs.declared.base.BlockBase.{BlockBase}
use Rattle.ssd_geo.specs.declared.base.ChannelBase.{ChannelBase}
use Rattle.ssd_geo.specs.declared.superblock.SbState.{SbState}
use Rattle.ssd_histories.specs.Blocks as Blocks
use Rattle.ssd_histories.specs.PastBlocks.{block_of, is_bad_superblock, is_picked, slots_in, used_of}
use Rattle.ssd_histories.specs.States as States
use Rattle.ssd_formats.specs.ImageContents.{IsBaseOf, SavedBlock, blank_channel, blank_saved, is_factory_bad}
use Rattle.ssd_formats.specs.ImageHead.{Head, bad_of_channel}
use Rattle.blank_laws.specs.BlankImages.{BlankImagesAreBlank, BlankImagesTakeWrites}
use Rattle.blank_laws.proofs.FactoryBad.{few_listed, heads_have_room, listed_below, rows_fit_fewer}
use Rattle.history_laws.specs.BlankChannels.{is_free_or_bad}
use Rattle.history_laws.specs.NeverFull.{count_of_bad, is_bad_block}
use Rattle.history_laws.proofs.BlankChannels.{blank_channels_take_writes}
use Rattle.history_laws.proofs.Counting.{one}
use Rattle.history_laws.proofs.NeverFull.{bad_state, count_more, first_blocks}

-- a superblock of a blank image
abbrev blank_base : Head → ℕ → ℕ → BlockBase
blank_base head channel sb = record
    { state = (if is_factory_bad head channel sb then SbState.Bad else SbState.Free); erases = 0; used = 0 }

-- its superblocks are those that the head tells of
blocks_are : (head : Head) (channel : ℕ) (base : ChannelBase) → IsBaseOf head channel (blank_channel head channel) base
    → base.blocks ≡ map (blank_base head channel) (range_with_len 0 head.sizes.superblocks)
blocks_are head channel base of = of.blocks
    ∙ map-map (λ (saved : SavedBlock). saved.block) (blank_saved head channel) (range_with_len 0 head.sizes.superblocks)

-- each of them is free or bad
all_free_or_bad : (head : Head) (channel : ℕ) (numbers : List ℕ)
    → list_all is_free_or_bad (map (blank_base head channel) numbers) ≡ true
all_free_or_bad head channel [] = refl
all_free_or_bad head channel (sb ∷ numbers) = by_test (is_factory_bad head channel sb) (all_free_or_bad head channel numbers)
  where
    by_test : (b : Bool) → list_all is_free_or_bad (map (blank_base head channel) numbers) ≡ true
        → list_all is_free_or_bad (record { state = (if b then SbState.Bad else SbState.Free); erases = 0; used = 0 } ∷ map
        (blank_base head channel) numbers) ≡ true
    by_test true rest = rest
    by_test false rest = rest

-- a superblock is bad at the start where the head lists it
listed_is_bad : (head : Head) (channel : ℕ) (base : ChannelBase) (sb : ℕ)
    → IsBaseOf head channel (blank_channel head channel) base → sb < head.sizes.superblocks
    → is_bad_block (block_of base [] sb) ≡ is_factory_bad head channel sb
listed_is_bad head channel base sb of lt =
    bad_state (is_bad_superblock base [] sb) (is_picked base [] sb) (slots_in base) (used_of base [] sb)
    ∙ ap {B = Bool} (λ (block : BlockBase). States.is_bad block.state || false) block
    ∙ by_test (is_factory_bad head channel sb)
  where
    block : Blocks.block_at base.blocks sb ≡ blank_base head channel sb
    block =
        ap {B = BlockBase} (λ (blocks : List BlockBase). Blocks.block_at blocks sb) (blocks_are head channel base of)
        ∙ get_or-map-range_with_len (blank_base head channel) 0 head.sizes.superblocks sb sb Blocks.blank_block lt (omega arith)

    by_test : (b : Bool) → (States.is_bad (if b then SbState.Bad else SbState.Free) || false) ≡ b
    by_test true = refl
    by_test false = refl

-- so as many of the first are bad as the head lists
bad_are_listed : (head : Head) (channel : ℕ) (base : ChannelBase) (n : ℕ)
    → IsBaseOf head channel (blank_channel head channel) base → n ≤ head.sizes.superblocks
    → count_by is_bad_block (first_blocks base [] n) ≡ listed_below head.bad channel n
bad_are_listed head channel base zero of le = refl
bad_are_listed head channel base (suc n) of le =
    omega (
      arith,
      count_more is_bad_block base [] n,
      bad_are_listed head channel base n of (omega arith),
      ap {B = ℕ} one (listed_is_bad head channel base n of (omega arith)),
    )

-- the rows fit beside those that are bad, which are no more than the head lists
pub blank_images_are_blank : BlankImagesAreBlank
blank_images_are_blank head channel base is_head of sound = record {
  free_or_bad =
      ap {B = Bool} (list_all is_free_or_bad) (blocks_are head channel base of)
      ∙ all_free_or_bad head channel (range_with_len 0 head.sizes.superblocks);
  rows_fit = omega (
    arith,
    room,
    rows_fit_fewer head.sizes (count_of_bad base [])
        (bad_of_channel head.bad channel) few,
    rows,
    same,
  );
  none_weak = sound;
}
  where
    superblocks : base.shape.superblocks ≡ head.sizes.superblocks
    superblocks = ap {B = ℕ} (λ (sizes : Sizes). sizes.superblocks) of.shape

    room : head.sizes.rows ≤ most_rows_of head.sizes (bad_of_channel head.bad channel)
    room = heads_have_room head channel is_head

    few : count_of_bad base [] ≤ bad_of_channel head.bad channel
    few =
        omega (
          arith,
          few_listed head.bad channel base.shape.superblocks,
          bad_are_listed head channel base base.shape.superblocks of (omega (arith, superblocks)),
        )

    rows : base.shape.rows ≡ head.sizes.rows
    rows = ap {B = ℕ} (λ (sizes : Sizes). sizes.rows) of.shape

    same : most_rows_of (sizes_of base.shape) (count_of_bad base []) ≡ most_rows_of head.sizes (count_of_bad base [])
    same = ap {B = ℕ} (λ (sizes : Sizes). most_rows_of sizes (count_of_bad base [])) of.shape

-- so it takes writes
pub blank_images_take_writes : BlankImagesTakeWrites
blank_images_take_writes ladder head channel start past is_head of sound is_start lawful none =
    blank_channels_take_writes ladder start past is_start (blank_images_are_blank head channel start.base is_head of sound)
    lawful none
