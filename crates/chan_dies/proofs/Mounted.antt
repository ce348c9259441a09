-- A die that is mounted can do the operations on its pages and blocks.
use Rattle.std.proofs.Common.{◌≡◌, ℕ, ◌<◌, ◌*◌, List, [], length, sym, subst, ap, ◌∙◌, refl}
use Rattle.std.specs.Prelude.{Option, Some, None}
use Rattle.std.specs.Option.{unwrap_or}
use Rattle.ssd_geo.specs.BlockCells.{BlockCells}
use Rattle.ssd_geo.specs.Coding.{word_bytes_in}
use Rattle.ssd_geo.specs.Limits.{code_bytes_of, page_cells_of}
use Rattle.ssd_geo.specs.Shape.{sizes_of}
use Rattle.ssd_geo.specs.StripeLaws.{IsPlace}
use Rattle.ssd_geo.specs.declared.place.Place.{Place}
use Rattle.ssd_geo.specs.declared.shape.Shape.{Shape}
use Rattle.ssd_geo.proofs.Sizes.{eight_times, whole_eighths}
use Rattle.onfi_cmd.specs.Addresses.{block_of_row, page_of_row}
use Rattle.onfi_cmd.specs.DieCalls.{CanDo, IsBlock, IsMountedAnd, IsNextPage, IsRow}
use Rattle.onfi_cmd.specs.DieState.{DieState, cells_of_page, programmed_in}
use Rattle.onfi_cmd.specs.declared.op.Op.TheVariants.{Read, Program}
use Rattle.onfi_cmd.specs.declared.plan.DiePlan.{DiePlan}
use Rattle.chan_dies.specs.DiesState.{IsMountedDie, blocks_in}
use Rattle.chan_dies.proofs.OperationLemmas.{planned_then}

-- a word has a bit for each cell of a page
pub word_bits : (shape : Shape) (n : ℕ) → n ≡ word_bytes_in shape → 8 * n ≡ page_cells_of (sizes_of shape)
word_bits shape n e =
    ap (λ (m : ℕ). 8 * m) e
    ∙ eight_times shape.words (code_bytes_of (sizes_of shape))
    ∙ ap (λ (m : ℕ). shape.words * m) (whole_eighths (shape.nb * shape.z) shape.within.whole_word_bytes)

-- a row address names the page of a place
pub record Addresses (shape : Shape) (place : Place) (row : ℕ) : Type 0 where
  pub within : IsPlace shape.dies shape.superblocks shape.pages place
  pub block_is : block_of_row shape.pages row ≡ place.sb
  pub page_is : page_of_row shape.pages row ≡ place.page

-- it is one of a die with that shape
row_of_plan : (shape : Shape) (place : Place) (row : ℕ) (plan : DiePlan) → plan.shape ≡ shape → Addresses shape place row → IsRow plan row
row_of_plan shape place row plan same address = record {
  block = subst (λ (s : Shape). block_of_row s.pages row < s.superblocks) (sym same)
      (subst (λ (sb : ℕ). sb < shape.superblocks) (sym address.block_is) address.within.superblock);
  page_within = subst (λ (s : Shape). page_of_row s.pages row < s.pages) (sym same)
      (subst (λ (page : ℕ). page < shape.pages) (sym address.page_is) address.within.page);
}

cells_of_word : (shape : Shape) (n : ℕ) (plan : DiePlan) → plan.shape ≡ shape → n ≡ word_bytes_in shape → 8 * n ≡ cells_of_page plan
cells_of_word shape n plan same e = word_bits shape n e ∙ ap (λ (s : Shape). page_cells_of (sizes_of s)) (sym same)

-- the page of a place can be read
pub can_read : (shape : Shape) (number : ℕ) (place : Place) (row room : ℕ) (state : DieState) → IsMountedDie shape number state →
    Addresses shape place row → room ≡ word_bytes_in shape → IsMountedAnd state (λ plan. CanDo plan state.told (Read 0 row) [] room)
can_read shape number place row room state mounted address whole =
    planned_then state.plan
    (λ plan its. (refl, row_of_plan shape place row plan its.shape_is address, cells_of_word shape room plan its.shape_is whole))
    mounted.mounted

-- the next page, where the blocks are told
told_next : (told : Option (List BlockCells)) (sb page : ℕ) → page ≡ programmed_in (unwrap_or told []) sb → IsNextPage told sb page
told_next None sb page h = tt
told_next (Some blocks) sb page h = h

-- the page of a place can be programmed, where it is the next one of its block
pub can_program : (shape : Shape) (number : ℕ) (place : Place) (row : ℕ) (word : List ℕ) (state : DieState) →
    IsMountedDie shape number state → Addresses shape place row → length word ≡ word_bytes_in shape →
    place.page ≡ programmed_in (blocks_in state) place.sb →
    IsMountedAnd state (λ plan. CanDo plan state.told (Program 0 row) word 0)
can_program shape number place row word state mounted address whole next =
    planned_then state.plan
    (λ plan its. (
      refl,
      row_of_plan shape place row plan its.shape_is address,
      cells_of_word shape (length word) plan its.shape_is whole,
      refl,
      subst (λ (s : Shape). IsNextPage state.told (block_of_row s.pages row) (page_of_row s.pages row)) (sym its.shape_is)
          (subst (λ (sb : ℕ). IsNextPage state.told sb (page_of_row shape.pages row)) (sym address.block_is)
          (subst (λ (page : ℕ). IsNextPage state.told place.sb page) (sym address.page_is) (told_next state.told place.sb place.page next))),
    ))
    mounted.mounted

-- a block within the shape is one of a mounted die
pub is_block : (shape : Shape) (number sb : ℕ) (state : DieState) → IsMountedDie shape number state → sb < shape.superblocks → IsBlock state sb
is_block shape number sb state mounted within =
    planned_then state.plan (λ plan its. subst (λ (s : Shape). sb < s.superblocks) (sym its.shape_is) within) mounted.mounted
