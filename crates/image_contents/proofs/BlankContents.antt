-- A blank channel's base and dies are those of its contents.
use Rattle.std.proofs.Common.{◌≡◌, ℕ, ℤ, zero, suc, ◌+◌, List, [], map, replicate, get_or, Option, refl, sym, ap, ◌∙◌}
use Rattle.std.specs.List.{range_with_len}
use Rattle.std.specs.Option.{unwrap_or}
use Rattle.ssd_formats.specs.ImageContents.{IsBaseOf, blank_channel, blank_saved, cells_of_block}
use Rattle.ssd_formats.specs.ImageHead.{Head, IsHead, head_of}
use Rattle.ssd_geo.specs.BlockCells.{BlockCells, blank_cells}
use Rattle.chan_dies.specs.DiesState.{blocks_in}
use Rattle.contents_start.specs.ContentsStart.{AreOfContents}
use Rattle.contents_start.proofs.BlankContents.{blank_contents_are_saved}
use Rattle.drive_dies.specs.Mounting.{AreDiesOf}
use Rattle.onfi_cmd.specs.DieState.{DieState}
use Rattle.ssd_geo.specs.declared.base.ChannelBase.{ChannelBase}
use Rattle.ssd_geo.specs.declared.head.ImageHead.{ImageHead}
use Rattle.image_contents.proofs.WholeContents.{numbered}

-- no pages of so many dies
abbrev blank_pages : ℕ → List (List (List ℤ))
blank_pages n = replicate n []

-- a blank die has the cells of a blank superblock in each block
no_pages_at : (n die : ℕ) → get_or (blank_pages n) die [] ≡ []
no_pages_at zero die = refl
no_pages_at (suc n) zero = refl
no_pages_at (suc n) (suc die) = no_pages_at n die

blank_cells_of : (head : Head) (channel die n start : ℕ) → map (cells_of_block die) (map (blank_saved head channel) (range_with_len start n)) ≡ replicate n blank_cells
blank_cells_of head channel die zero start = refl
blank_cells_of head channel die (suc n) start =
    let first : cells_of_block die (blank_saved head channel start) ≡ blank_cells = λ i. record { erases = 0; pages = no_pages_at head.sizes.dies die i } in
    rw (first, blank_cells_of head channel die n (start + 1)) refl

-- so base and dies of a blank channel are those of contents
pub blank_contents : (head : ImageHead) (channel : ℕ) (base : ChannelBase) (dies : List DieState) → IsHead (head_of head)
    → AreDiesOf head channel dies → IsBaseOf (head_of head) channel (blank_channel (head_of head) channel) base
    → AreOfContents (head_of head) channel (blank_channel (head_of head) channel) base dies
blank_contents head channel base dies right are is_base = record {
  is_saved = blank_contents_are_saved (head_of head) channel right;
  is_base = is_base;
  cells_are =
      numbered (λ die. map (cells_of_block die) (blank_channel (head_of head) channel).blocks) blocks_in dies 0 head.shape.dies are.count_is
      (λ number die at.
      ap (λ (told : Option (List BlockCells)). unwrap_or told []) (are.each number die at).blank.told_are
      ∙ sym (blank_cells_of (head_of head) channel (0 + number) head.shape.superblocks 0));
}
