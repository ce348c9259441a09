-- The bytes of a superblock and of rows, in the parts in which they are written.
use Rattle.std.proofs.Common.{◌≡◌, ℕ, ◌<◌, List, [], ◌∷◌, ◌++◌, length, length-append, map, get_or, refl, ap, sym, ◌∙◌, zero-add, arith}
use Rattle.std.specs.Int.{w8, w16, w32, w64, to_le_bytes}
use Rattle.std.specs.List.{enumerate_from}
use Rattle.std.proofs.lemmas.List.{get_or-map, length-map}
use Rattle.std.proofs.lemmas.List.FromFn.{get_or-enumerate_from, length-enumerate_from}
use Rattle.std.specs.Prelude.{flat_map, if◌then◌else◌}
use Rattle.ssd_geo.specs.BlockCells.{BlockCells}
use Rattle.ssd_geo.specs.Limits.{Sizes}
use Rattle.ssd_geo.specs.declared.base.BlockBase.{BlockBase}
use Rattle.ssd_geo.specs.declared.row.Row.{Row}
use Rattle.ssd_geo.specs.declared.row.Row.TheVariants.{Empty, Lost, Page}
use Rattle.ssd_formats.specs.ImageContents.{SavedBlock, block_bytes, is_stripe_open, pages_at, pages_bytes, row_bytes, saved_block}
use Rattle.contents_file.specs.BlockParts.{base_bytes, front_bytes}

-- a superblock
pub block_in_parts : (sizes : Sizes) (sum : List ℕ) (cells : List (List BlockCells)) (sb : ℕ) (block : BlockBase)
    → block_bytes (saved_block sizes sum cells (sb, block))
    ≡ (front_bytes block (map (pages_at sb) cells) ++ flat_map pages_bytes (map (pages_at sb) cells))
    ++ (if is_stripe_open sizes block then sum else [])
unfolding front_bytes base_bytes
block_in_parts sizes sum cells sb block = refl

-- as many superblocks are saved as a channel has
pub saved_count : (sizes : Sizes) (sum : List ℕ) (cells : List (List BlockCells)) (blocks : List BlockBase)
    → length (map (saved_block sizes sum cells) (enumerate_from 0 blocks)) ≡ length blocks
saved_count sizes sum cells blocks = length-map (enumerate_from 0 blocks) (saved_block sizes sum cells) ∙ length-enumerate_from 0 blocks

-- the one with a number
pub saved_at : (sizes : Sizes) (sum : List ℕ) (cells : List (List BlockCells)) (blocks : List BlockBase) (sb : ℕ) (block : BlockBase) (d : SavedBlock)
    → sb < length blocks → block ≡ get_or blocks sb block
    → get_or (map (saved_block sizes sum cells) (enumerate_from 0 blocks)) sb d ≡ saved_block sizes sum cells (sb, block)
saved_at sizes sum cells blocks sb block d within is =
    get_or-map (saved_block sizes sum cells) (enumerate_from 0 blocks) sb (0, block) d (omega (arith, length-enumerate_from 0 blocks))
    ∙ ap (saved_block sizes sum cells) (
    get_or-enumerate_from 0 blocks sb (0, block) within
    ∙ ap {B = ℕ × BlockBase} (λ n. (n, get_or blocks sb block)) (zero-add sb)
    ∙ ap {B = ℕ × BlockBase} (λ b. (sb, b)) (sym is)
    )

cons_some : (byte : ℕ) (bytes : List ℕ) → 0 < length (byte ∷ bytes)
cons_some byte bytes = omega arith

append_some : (xs ys : List ℕ) → 0 < length xs → 0 < length (xs ++ ys)
append_some xs ys some = omega (arith, length-append xs ys)

-- a row has a byte
row_some : (row : Row) → 0 < length (row_bytes row)
row_some Empty = cons_some 0 []
row_some (Page slot serial) =
    let kind : List ℕ = to_le_bytes w8 1 in
    let sb : List ℕ = to_le_bytes w16 slot.sb in
    let index : List ℕ = to_le_bytes w32 slot.index in
    let last : List ℕ = to_le_bytes w64 serial in
    append_some (kind ++ sb ++ index) last (append_some (kind ++ sb) index (append_some kind sb (cons_some 1 [])))
row_some Lost = cons_some 2 []

-- so have rows, where there are some
pub rows_some : (rows : List Row) → 0 < length rows → 0 < length (flat_map row_bytes rows)
rows_some [] some = absurd (omega arith)
rows_some (row ∷ more) some = omega (arith, length-append (row_bytes row) (flat_map row_bytes more), row_some row)
