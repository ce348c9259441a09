-- The rows that were read so far.
use Rattle.std.proofs.Common.{◌≡◌, ℕ, ◌^◌, ◌<◌, ◌≤◌, ◌&&◌, Bool, true, List, [], ◌∷◌, ◌++◌, refl, sym, ap, ◌∙◌, arith, append_assoc, append-nil, not}
use Rattle.std.specs.List.{list_any}
use Rattle.ssd_formats.proofs.HeadLaws.{below_is}
use Rattle.ssd_formats.proofs.SpelledHeads.{below_if}
use Rattle.ssd_formats.specs.Fields.{is_below}
use Rattle.ssd_formats.specs.ImageContents.{are_saved_rows, is_saved_row, may_name, slots_of_sizes}
use Rattle.ssd_geo.specs.Limits.{Sizes}
use Rattle.ssd_histories.specs.Blocks.{blank_block, block_at}
use Rattle.ssd_histories.specs.PageMap.{names_slot, names_within}
use Rattle.ssd_geo.specs.declared.base.BlockBase.{BlockBase}
use Rattle.ssd_geo.specs.declared.row.Row.{Row}
use Rattle.ssd_geo.specs.declared.row.Row.TheVariants.{Empty, Lost, Page}
use Rattle.image_contents.specs.Parts.{FitsRows}
use Rattle.std.proofs.lemmas.Bool.{and_parts}

-- one more, after those before
rows_after : (sizes : Sizes) (blocks : List BlockBase) (before rows : List Row) (more : Row) → are_saved_rows sizes blocks before rows ≡ true
    → is_saved_row sizes blocks (before ++ rows) more ≡ true → are_saved_rows sizes blocks before (rows ++ more ∷ []) ≡ true
rows_after sizes blocks before [] more are is =
    let here : is_saved_row sizes blocks before more ≡ true = ap (λ l. is_saved_row sizes blocks l more) (sym (append-nil before)) ∙ is in
    rw here refl
rows_after sizes blocks before (one ∷ rows) more are is =
    let both = and_parts (is_saved_row sizes blocks before one) (are_saved_rows sizes blocks (before ++ one ∷ []) rows) are in
    let again : is_saved_row sizes blocks ((before ++ one ∷ []) ++ rows) more ≡ true =
    ap (λ l. is_saved_row sizes blocks l more) (append_assoc before (one ∷ []) rows) ∙ is in
    rw (both.0, rows_after sizes blocks (before ++ one ∷ []) rows more both.1 again) refl

pub rows_longer : (sizes : Sizes) (blocks : List BlockBase) (rows : List Row) (more : Row) → are_saved_rows sizes blocks [] rows ≡ true
    → is_saved_row sizes blocks rows more ≡ true → are_saved_rows sizes blocks [] (rows ++ more ∷ []) ≡ true
rows_longer sizes blocks rows more are is = rows_after sizes blocks [] rows more are is

-- a slot that a row names is one of the channel's
pub row_within : (sizes : Sizes) (blocks : List BlockBase) (before : List Row) (superblocks slots : ℕ) (row : Row) → FitsRows sizes blocks superblocks slots
    → is_saved_row sizes blocks before row ≡ true → names_within superblocks slots row ≡ true
row_within sizes blocks before superblocks slots Empty fits is = refl
row_within sizes blocks before superblocks slots Lost fits is = refl
row_within sizes blocks before superblocks slots (Page slot serial) fits is =
    let sb_is : Bool = is_below sizes.superblocks slot.sb in
    let index_is : Bool = is_below (2 ^ 32) slot.index in
    let serial_is : Bool = is_below (2 ^ 64) serial in
    let all = and_parts (sb_is && index_is && serial_is) (may_name blocks before slot) is in
    let some = and_parts (sb_is && index_is) serial_is all.0 in
    let first = and_parts sb_is index_is some.0 in
    let named = and_parts (is_below (block_at blocks slot.sb).used slot.index) (not (list_any (names_slot slot) before)) all.1 in
    let sb : slot.sb < sizes.superblocks = below_is sizes.superblocks slot.sb first.0 in
    let index : slot.index < (block_at blocks slot.sb).used = below_is (block_at blocks slot.sb).used slot.index named.0 in
    let used : (block_at blocks slot.sb).used ≤ slots_of_sizes sizes = fits.used slot.sb blank_block (omega (arith, fits.count, sb)) in
    let sb_within : is_below superblocks slot.sb ≡ true = below_if slot.sb superblocks (omega (arith, fits.superblocks_are, sb)) in
    let index_within : is_below slots slot.index ≡ true = below_if slot.index slots (omega (arith, fits.slots_are, index, used)) in
    rw (sb_within, index_within) refl
