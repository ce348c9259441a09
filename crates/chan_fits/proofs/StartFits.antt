-- The dies and the running sum fit the start that their blocks and counts give, and its superblocks are due in them.
use Rattle.std.proofs.Common.{◌≡◌, ℕ, ◌+◌, ◌≤◌, min, not, Bool, List, [], ℤ, refl, ap, ◌∙◌, subst, Option, Some, None, arith}
use Rattle.std.specs.Prelude.{IsFalse, option_map, slice_get}
use Rattle.ssd_geo.specs.BlockCells.{BlockCells, cells_at}
use Rattle.ssd_geo.specs.Faults.{greatest_count}
use Rattle.ssd_geo.specs.declared.base.BlockBase.{BlockBase}
use Rattle.ssd_geo.specs.declared.superblock.SbState.{SbState}
use Rattle.ssd_geo.specs.declared.tag.Tag.{Tag}
use Rattle.ssd_histories.specs.Blocks.{block_at}
use Rattle.ssd_histories.specs.PastPages.{stored_in_image}
use Rattle.ssd_histories.specs.Standing.{IsStart, count_at}
use Rattle.ssd_histories.specs.Start.{Start, cells_at_start}
use Rattle.ssd_histories.specs.States.{is_bad}
use Rattle.onfi_cmd.specs.DieState.{DieState, programmed_in}
use Rattle.chan_dies.specs.DiesState.{die_at}
use Rattle.chan_fits.specs.DiesFit.{AreDue, DiesFit, AreDiesOfStart}
use Rattle.chan_fits.proofs.FirstSum.{sum_at_start}
use Rattle.chan_fits.proofs.Frontiers.{state_at_start}
use Rattle.chan_fits.proofs.PlacesInRange.{place_in_range}

-- the superblocks of the base are due in the dies
pub start_due : (start : Start) (dies : List DieState) → IsStart start → AreDiesOfStart start dies
    → AreDue start.base.shape start.base.blocks dies
start_due start dies is_start tell = record {
  blocks_count = λ die lt. (tell die lt).blocks_count;
  pages_due = λ die sb lt within good.
      ap {B = ℕ} (λ (blocks : List BlockCells). programmed_in blocks sb) (tell die lt).blocks_are
      ∙ (is_start.blocks_due die sb lt within).exact (ap {B = Bool} (λ (b : Bool). not b) good);
  erases_due = λ die sb lt within good.
      ap {B = ℕ} (λ (blocks : List BlockCells). (cells_at blocks sb).erases) (tell die lt).blocks_are
      ∙ (is_start.blocks_due die sb lt within).erases (ap {B = Bool} (λ (b : Bool). not b) good);
}

image_levels : (levels : Option (List ℤ)) → levels ≡ option_map (λ stored. stored.levels) (option_map stored_in_image levels)
image_levels None = refl
image_levels (Some levels) = refl

-- no fault was counted since
none_more : (count now top : ℕ) → now ≡ count → min (count + 0) top ≤ now
none_more count now top e = omega arith

-- the dies fit the start
pub start_fits : (start : Start) (contents : List (Tag × List ℕ)) (dies : List DieState) (sum : List ℕ) → IsStart start
    → AreDiesOfStart start dies → sum ≡ start.base.sum
    → DiesFit start contents [] dies sum
start_fits start contents dies sum is_start tell sum_is = record {
  plans_are = λ die lt. (tell die lt).plan_is;
  pages_are = λ place range.
      ap {B = Option (List ℤ)} (λ (blocks : List BlockCells). slice_get (cells_at blocks place.sb).pages place.page)
      (tell place.die (place_in_range start.base.shape place range).die).blocks_are
      ∙ image_levels (slice_get (cells_at_start start place.die place.sb).pages place.page);
  erases_are = λ die sb lt within good.
      let sound : IsFalse (is_bad (start_block sb).state) =
      subst (λ (state : SbState). IsFalse (is_bad state)) (state_at_start start sb is_start within) good in
      let due : AreDue start.base.shape start.base.blocks dies = start_due start dies is_start tell in
      omega (arith, due.erases_due die sb lt within sound);
  counts = λ die lt. record {
    work_rose = none_more (count_at start.work_faults die) (die_at dies die).work_count greatest_count (tell die lt).works_are;
    work_stays = λ no_faults. (tell die lt).works_are;
    load_stays = (tell die lt).loads_are;
  };
  sum_is = sum_is ∙ sum_at_start start contents is_start;
}
  where
    start_block : ℕ → BlockBase
    start_block sb = block_at start.base.blocks sb
