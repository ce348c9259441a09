-- All superblocks and all rows of a channel were read.
use Rattle.std.proofs.Common.{◌≡◌, ℕ, zero, suc, ◌+◌, ◌-◌, List, [], ◌∷◌, ◌++◌, length, map, replicate, slice_get, Option, Some, true, refl, ap, ◌∙◌, arith, append-nil}
use Rattle.std.specs.List.{range_with_len}
use Rattle.std.specs.Option.{unwrap_or}
use Rattle.ssd_geo.specs.BlockCells.{BlockCells, blank_cells}
use Rattle.chan_dies.specs.DiesState.{blocks_in}
use Rattle.contents_start.specs.ContentsStart.{AreOfContents}
use Rattle.onfi_cmd.specs.DieState.{DieState}
use Rattle.ssd_formats.specs.ImageContents.{IsBaseOf, SavedBlock, are_saved_rows, blocks_of_saved, cells_of_block, cells_of_saved}
use Rattle.ssd_formats.specs.ImageHead.{Head}
use Rattle.ssd_geo.specs.declared.base.ChannelBase.{ChannelBase}
use Rattle.ssd_geo.specs.declared.row.Row.{Row}
use Rattle.image_contents.specs.Taken.{AreTaken}

-- a list whose items are given by their numbers
pub numbered : {A B : Type 0} (f : ℕ → B) (g : A → B) (xs : List A) (start n : ℕ) → length xs ≡ n
    → ((k : ℕ) (x : A) → slice_get xs k ≡ Some x → g x ≡ f (start + k)) → map g xs ≡ map f (range_with_len start n)
numbered f g [] start zero long each = refl
numbered f g [] start (suc n) long each = absurd (omega arith)
numbered f g (x ∷ xs) start zero long each = absurd (omega arith)
numbered f g (x ∷ xs) start (suc n) long each =
    let first : g x ≡ f start = each 0 x refl ∙ ap f (omega arith) in
    let rest : map g xs ≡ map f (range_with_len (start + 1) n) =
    numbered f g xs (start + 1) n (omega arith) (λ k y at. each (suc k) y at ∙ ap f (omega arith)) in
    rw (first, rest) refl

no_more : (n : ℕ) → n ≡ 0 → replicate n blank_cells ≡ []
no_more n none = rw none refl

-- each die has just the cells of the superblocks that were taken over
all_cells : (head : Head) (channel : ℕ) (saved : List SavedBlock) (rows : List Row) (dies : List DieState) (sum : List ℕ)
    → AreTaken head channel saved dies sum → length saved ≡ head.sizes.superblocks → length dies ≡ head.sizes.dies
    → map blocks_in dies ≡ cells_of_saved head.sizes (record { blocks = saved; rows = rows })
all_cells head channel saved rows dies sum are all count =
    numbered (λ die. map (cells_of_block die) saved) blocks_in dies 0 head.sizes.dies count
    (λ number die at.
    let here : number ≡ 0 + number = omega arith in
    let none : head.sizes.superblocks - length saved ≡ 0 = omega (arith, all) in
    ap (λ (told : Option (List BlockCells)). unwrap_or told []) (are.cells_are number die at)
    ∙ ap (λ l. map (cells_of_block number) saved ++ l) (no_more (head.sizes.superblocks - length saved) none)
    ∙ append-nil (map (cells_of_block number) saved)
    ∙ ap (λ (n : ℕ). map (cells_of_block n) saved) here)

-- so base and dies are those of contents
pub contents_taken : (head : Head) (channel : ℕ) (saved : List SavedBlock) (rows : List Row) (base : ChannelBase) (dies : List DieState) (sum : List ℕ)
    → AreTaken head channel saved dies sum → length saved ≡ head.sizes.superblocks → length dies ≡ head.sizes.dies
    → length rows ≡ head.sizes.rows → are_saved_rows head.sizes (blocks_of_saved saved) [] rows ≡ true
    → IsBaseOf head channel (record { blocks = saved; rows = rows }) base
    → AreOfContents head channel (record { blocks = saved; rows = rows }) base dies
contents_taken head channel saved rows base dies sum are all count row_count right is_base = record {
  is_saved = record { block_count = all; blocks = are.are_saved; row_count = row_count; rows = right };
  is_base = is_base;
  cells_are = all_cells head channel saved rows dies sum are all count;
}
