-- The dies of a channel of which so many superblocks were taken over: what they have, and what may be loaded next.
use Rattle.std.proofs.Common.{◌≡◌, ℕ, zero, suc, ◌-◌, ◌≤◌, List, [], ◌∷◌, ◌++◌, length, map, replicate, slice_get, get_or, Option, Some, refl, sym, ap, subst, ◌∙◌, arith, length-append}
use Rattle.std.specs.Prelude.{All, IsSomeAnd}
use Rattle.std.proofs.lemmas.List.{length-map, length-replicate}
use Rattle.std.proofs.lemmas.Option.{slice_get-get_or}
use Rattle.ssd_geo.specs.BlockCells.{BlockCells, blank_cells}
use Rattle.ssd_geo.specs.Coding.{word_bytes_in}
use Rattle.ssd_geo.specs.StripeSum.{zero_word}
use Rattle.ssd_formats.specs.ImageContents.{SavedBlock, cells_of_block}
use Rattle.ssd_formats.specs.ImageHead.{head_of}
use Rattle.chan_dies.specs.DiesState.{blocks_in, no_die}
use Rattle.drive_dies.specs.Mounting.{AreDiesOf, EachBecomes, plan_of_die}
use Rattle.onfi_cmd.specs.DieState.{DieState}
use Rattle.onfi_cmd.specs.declared.plan.DiePlan.{DiePlan}
use Rattle.ssd_geo.specs.declared.head.ImageHead.{ImageHead}
use Rattle.image_contents.proofs.DieSteps.{told_blocks}
use Rattle.image_contents.proofs.DiesLoop.{KeepsLoads}
use Rattle.image_contents.specs.DiesLoaded.{IsDieIn, block_of}
use Rattle.image_contents.specs.Taken.{AreTaken}

-- at the beginning none was taken over
pub none_taken : (head : ImageHead) (channel : ℕ) (dies : List DieState) (sum : List ℕ) → AreDiesOf head channel dies → sum ≡ zero_word (word_bytes_in head.shape)
    → AreTaken (head_of head) channel [] dies sum
none_taken head channel dies sum are zeros = record {
  are_saved = refl;
  cells_are = λ number die at.
      let all : head.shape.superblocks ≡ head.shape.superblocks - 0 = omega arith in
      (are.each number die at).blank.told_are ∙ ap (λ n. Some (replicate n blank_cells)) all;
  sum_is = zeros;
}

-- what a die tells of which so many superblocks were taken over
abbrev cells_so_far : ImageHead → ℕ → List SavedBlock → List BlockCells
cells_so_far head number saved = map (cells_of_block number) saved ++ replicate (head.shape.superblocks - length saved) blank_cells

many_cells : (head : ImageHead) (number : ℕ) (saved : List SavedBlock) → length saved ≤ head.shape.superblocks → length (cells_so_far head number saved) ≡ head.shape.superblocks
many_cells head number saved few =
    let left : ℕ = head.shape.superblocks - length saved in
    omega (arith, length-append (map (cells_of_block number) saved) (replicate left blank_cells), length-map saved (cells_of_block number), length-replicate left blank_cells, few)

-- so each is a die of the drive
pub still_dies : (head : ImageHead) (channel : ℕ) (saved : List SavedBlock) (olds news : List DieState) (sum : List ℕ) → AreDiesOf head channel olds
    → EachBecomes (λ number old new. KeepsLoads old new) olds news → AreTaken (head_of head) channel saved news sum → length saved ≤ head.shape.superblocks
    → All (IsDieIn head.shape) news
still_dies head channel saved olds news sum are kept taken few = λ number d below.
    let old : DieState = get_or olds number no_die in
    let new : DieState = get_or news number d in
    let was : slice_get olds number ≡ Some old = slice_get-get_or olds number no_die (omega (arith, kept.count_stays, below)) in
    let is : slice_get news number ≡ Some new = slice_get-get_or news number d below in
    let plan : new.plan ≡ Some (plan_of_die head channel number) = (kept.each number old new was is).keeps.plan_stays ∙ (are.each number old was).plan_is in
    let told : new.told ≡ Some (cells_so_far head number saved) = taken.cells_are number new is in
    let blocks : blocks_in new ≡ cells_so_far head number saved = told_blocks new (cells_so_far head number saved) told in
    record {
      mounted = subst (λ (o : Option DiePlan). IsSomeAnd o (λ p. p.shape ≡ head.shape)) (sym plan) refl;
      told_are = told ∙ ap (λ (l : List BlockCells). Some l) (sym blocks);
      count_is = ap (λ (l : List BlockCells). length l) blocks ∙ many_cells head number saved few;
    }

-- the first that is blank stands behind them
first_behind : {A : Type 0} (xs ys : List A) (d : A) → get_or (xs ++ ys) (length xs) d ≡ get_or ys 0 d
first_behind [] ys d = refl
first_behind (x ∷ xs) ys d = first_behind xs ys d

blank_first : (n : ℕ) → get_or (replicate n blank_cells) 0 blank_cells ≡ blank_cells
blank_first zero = refl
blank_first (suc n) = refl

-- and the next superblock has no pages yet
pub next_blank : (head : ImageHead) (channel : ℕ) (saved : List SavedBlock) (dies : List DieState) (sum : List ℕ) → AreTaken (head_of head) channel saved dies sum
    → All (λ die. (block_of (length saved) die).pages ≡ []) dies
next_blank head channel saved dies sum taken = λ number d below.
    let die : DieState = get_or dies number d in
    let is : slice_get dies number ≡ Some die = slice_get-get_or dies number d below in
    let front : List BlockCells = map (cells_of_block number) saved in
    let behind : List BlockCells = replicate (head.shape.superblocks - length saved) blank_cells in
    let blocks : blocks_in die ≡ front ++ behind = told_blocks die (front ++ behind) (taken.cells_are number die is) in
    let at : length saved ≡ length front = sym (length-map saved (cells_of_block number)) in
    let block : block_of (length saved) die ≡ blank_cells =
    ap (λ (l : List BlockCells). get_or l (length saved) blank_cells) blocks ∙ ap (λ n. get_or (front ++ behind) n blank_cells) at
    ∙ first_behind front behind blank_cells ∙ blank_first (head.shape.superblocks - length saved) in
    ap (λ (of : BlockCells). of.pages) block
