-- Do the dies of a channel hold what its past says? Each die has its plan, each page the levels that the past gives it,
-- each superblock that isn't bad its erases, and the counts of faults rose as the entries tell. Superblocks that are kept
-- as a table are due in the dies where each die has the pages and the erases that the table asks of it.
use Rattle.std.specs.Prelude.{ℕ, ◌≡◌, ◌<◌, IsTrue, IsFalse, List, [], length, ℤ, slice_get, slice_index_or, Option, Some}
use Rattle.std.specs.Prelude.{option_map}
use Rattle.ssd_geo.specs.BlockCells.{cells_at}
use Rattle.ssd_geo.specs.Coding.{coding_of}
use Rattle.ssd_geo.specs.Superblock.{due_pages}
use Rattle.ssd_histories.specs.Blocks.{block_at}
use Rattle.ssd_histories.specs.PastBlocks.{erases_of, state_of}
use Rattle.ssd_histories.specs.PastPages.{page_of, running_sum}
use Rattle.ssd_histories.specs.Ranges.{has_place}
use Rattle.ssd_histories.specs.Standing.{CountsFaults, count_at}
use Rattle.ssd_histories.specs.Start.{Start}
use Rattle.ssd_histories.specs.States.{is_bad}
use Rattle.onfi_cmd.specs.DieState.{DieState, programmed_in}
use Rattle.onfi_cmd.specs.declared.plan.DiePlan.{DiePlan}
use Rattle.chan_dies.specs.DiesState.{blocks_in, blocks_told, die_at}
use Rattle.ssd_geo.specs.declared.base.BlockBase.{BlockBase}
use Rattle.ssd_geo.specs.declared.base.ChannelBase.{ChannelBase}
use Rattle.ssd_geo.specs.declared.entry.Entry.{Entry}
use Rattle.ssd_geo.specs.declared.place.Place.{Place}
use Rattle.ssd_geo.specs.declared.shape.Shape.{Shape}
use Rattle.ssd_geo.specs.declared.tag.Tag.{Tag}

-- the plan of a die of a channel
abbrev pub plan_of : ChannelBase → ℕ → DiePlan
plan_of base die = record { channel = base.channel; die = die; shape = base.shape; law = base.law; weak = base.weak }

-- the levels of a page that dies tell, where it is programmed
abbrev pub told_page : List DieState → Place → Option (List ℤ)
told_page dies place = slice_get (cells_at (blocks_told dies place.die) place.sb).pages place.page

-- the erases of a block that dies tell
abbrev pub told_erases : List DieState → ℕ → ℕ → ℕ
told_erases dies die sb = (cells_at (blocks_told dies die) sb).erases

-- the levels of a page by the past, where it is programmed
abbrev pub stored_levels : Start → List (Tag × List ℕ) → List Entry → Place → Option (List ℤ)
stored_levels start contents past place =
    option_map (λ stored. stored.levels) (page_of (coding_of start.base) start contents past place)

-- the dies and the running sum are those of a start after a past
pub record DiesFit (start : Start) (contents : List (Tag × List ℕ)) (past : List Entry) (dies : List DieState)
    (sum : List ℕ) : Type 0 where
  pub plans_are : (die : ℕ) → die < start.base.shape.dies → (die_at dies die).plan ≡ Some (plan_of start.base die)
  pub pages_are :
      (place : Place) → IsTrue (has_place start.base.shape place)
      → told_page dies place ≡ stored_levels start contents past place
  pub erases_are :
      (die sb : ℕ) → die < start.base.shape.dies → sb < start.base.shape.superblocks
      → IsFalse (is_bad (state_of start.base past sb))
      → told_erases dies die sb ≡ erases_of start.base past sb
  pub counts :
      (die : ℕ) → die < start.base.shape.dies
      → CountsFaults start past die (die_at dies die).work_count (die_at dies die).load_count
  pub sum_is : sum ≡ running_sum (coding_of start.base) start contents past

-- the superblocks of a table are due in the dies: each die tells all its blocks, and for each superblock that isn't bad
-- it has programmed the pages that are due, and was erased as often as the table says
pub record AreDue (shape : Shape) (blocks : List BlockBase) (dies : List DieState) : Type 0 where
  pub blocks_count : (die : ℕ) → die < shape.dies → length (blocks_told dies die) ≡ shape.superblocks
  pub pages_due :
      (die sb : ℕ) → die < shape.dies → sb < shape.superblocks → IsFalse (is_bad (block_at blocks sb).state)
      → programmed_in (blocks_told dies die) sb ≡ due_pages shape.dies sb (block_at blocks sb).used die
  pub erases_due :
      (die sb : ℕ) → die < shape.dies → sb < shape.superblocks → IsFalse (is_bad (block_at blocks sb).state)
      → told_erases dies die sb ≡ (block_at blocks sb).erases

-- a die of a start: it has its plan, tells all its blocks, and these and its counts are the start's
pub record IsDieOfStart (start : Start) (die : ℕ) (state : DieState) : Type 0 where
  pub plan_is : state.plan ≡ Some (plan_of start.base die)
  pub blocks_are : blocks_in state ≡ slice_index_or start.cells die []
  pub blocks_count : length (blocks_in state) ≡ start.base.shape.superblocks
  pub works_are : state.work_count ≡ count_at start.work_faults die
  pub loads_are : state.load_count ≡ count_at start.load_faults die

-- the dies of a start
abbrev pub AreDiesOfStart : Start → List DieState → Type 0
AreDiesOfStart start dies = (die : ℕ) → die < start.base.shape.dies → IsDieOfStart start die (die_at dies die)
