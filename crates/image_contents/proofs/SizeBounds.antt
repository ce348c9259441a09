-- How great the contents of a drive may be.
use Rattle.std.proofs.Common.{ℕ, ◌-◌, ◌*◌, ◌^◌, ◌≤◌, arith}
use Rattle.std.proofs.Math.Nat.{mul-le-mul}
use Rattle.ssd_geo.specs.Limits.{IsWithinLimits, Sizes, page_cells_of}
use Rattle.ssd_formats.specs.ImageContents.{slots_of_sizes}

-- the cells of a page
pub few_cells : (sizes : Sizes) → IsWithinLimits sizes → page_cells_of sizes ≤ 2 ^ 19
few_cells sizes is = mul-le-mul is.words_high (mul-le-mul is.base_columns_high is.lifting_high)

-- the bytes of the levels of so many pages of a block
pub few_page_bytes : (pages cells : ℕ) → pages ≤ 256 → cells ≤ 2 ^ 19 → pages * (2 * cells) ≤ 256 * 2 ^ 20
few_page_bytes pages cells few small = let two : 2 * cells ≤ 2 ^ 20 = omega (arith, small) in mul-le-mul few two

-- the data slots of a superblock
pub few_slots : (sizes : Sizes) → IsWithinLimits sizes → slots_of_sizes sizes ≤ 256 * 8
few_slots sizes is = let slots : sizes.dies - 1 ≤ 8 = omega (arith, is.dies_high) in mul-le-mul is.pages_high slots
