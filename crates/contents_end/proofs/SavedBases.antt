-- The base of a start is that of contents that are made of it: the proof of the second law of specs/ContentsEnd.antt.
use Rattle.std.proofs.Common.{◌≡◌, refl, ap, sym, ◌∙◌, ℕ, ◌+◌, ◌||◌, not, cond, Bool, true, false, List, [], ◌∷◌, map, find, Some}
use Rattle.std.specs.Prelude.{if◌then◌else◌}
use Rattle.std.specs.List.{enumerate_from, list_any}
use Rattle.std.specs.Option.{option_map_or}
use Rattle.ssd_geo.specs.BlockCells.{BlockCells}
use Rattle.ssd_geo.specs.Limits.{Sizes, word_bytes_of}
use Rattle.ssd_geo.specs.Shape.{sizes_of}
use Rattle.ssd_geo.specs.StripeSum.{zero_word}
use Rattle.ssd_geo.specs.declared.base.BlockBase.{BlockBase}
use Rattle.ssd_formats.specs.ImageContents.{ChannelImage, SavedBlock, is_stripe_open, saved_block, saved_channel, sum_of_saved}
use Rattle.contents_start.proofs.SavedSums.{sum_or}
use Rattle.contents_end.specs.ContentsEnd.{SavedStartsHaveTheirBases}
use Rattle.contents_end.proofs.SavableBlocks.{blocks_back}

-- the sum is at the first superblock with an open stripe, or it is as where none is open
sum_back : (sizes : Sizes) (sum : List ℕ) (cells : List (List BlockCells)) (other : List ℕ) (blocks : List BlockBase) (from : ℕ)
    → (list_any (is_stripe_open sizes) blocks ≡ false → sum ≡ other)
    → sum ≡ sum_or sizes other (map (saved_block sizes sum cells) (enumerate_from from blocks))
sum_back sizes sum cells other [] from none = none refl
sum_back sizes sum cells other (block ∷ blocks) from none =
    by_test (is_stripe_open sizes block) refl
    (λ e. sum_back sizes sum cells other blocks (from + 1)
    (λ rest. none (ap (λ (b : Bool). b || list_any (is_stripe_open sizes) blocks) e ∙ rest)))
  where
    by_test : (b : Bool) → is_stripe_open sizes block ≡ b
        → (is_stripe_open sizes block ≡ false
        → sum ≡ sum_or sizes other (map (saved_block sizes sum cells) (enumerate_from (from + 1) blocks)))
        → sum ≡ option_map_or (λ (one : SavedBlock). one.sum)
        (cond b (Some (saved_block sizes sum cells (from, block)))
        (find (λ (one : SavedBlock). is_stripe_open sizes one.block) (map (saved_block sizes sum cells) (enumerate_from (from + 1) blocks)))) other
    by_test true e rest = ap (λ (b : Bool). if b then sum else []) (sym e)
    by_test false e rest = rest e

pub saved_starts_have_their_bases : SavedStartsHaveTheirBases
saved_starts_have_their_bases head channel start is of =
    let saved : ChannelImage = saved_channel start.base start.cells in
    let sizes : Sizes = sizes_of start.base.shape in
    record {
      shape = of.shape;
      session = of.session;
      blocks = sym (blocks_back sizes start.base.sum start.cells start.base.blocks 0);
      rows = refl;
      sum =
          sum_back sizes start.base.sum start.cells (zero_word (word_bytes_of sizes)) start.base.blocks 0
          (λ none. is.sum_of_none (ap not none))
          ∙ ap (λ (of_shape : Sizes). sum_of_saved of_shape saved) of.shape;
      number = of.number;
      entries = of.entries;
      read_levels = of.read_levels;
      iterations = of.iterations;
      step = of.step;
      law = of.law;
      weak = of.weak;
    }
