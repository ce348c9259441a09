-- Sizes that are in range are within the limits.
use Rattle.std.proofs.Common.{◌≡◌, ℕ, ◌≤◌, true, arith, refl}
use Rattle.std.specs.Prelude.{None}
use Rattle.std.proofs.lemmas.Grind.{common_steps}
use Rattle.ssd_geo.proofs.Sizes.{faultless_sizes_are_within}
use Rattle.ssd_geo.specs.Limits.{IsWithinLimits, Sizes, first_size_fault, is_within}
use Rattle.image_file.specs.Sizes.{AreSizes}

-- a number that was read up to a limit
pub is_within_limit : (low high limit n : ℕ) → limit ≡ high → (low ≤ n) × (n ≤ limit) → is_within low high n ≡ true
is_within_limit low high limit n same within =
    let least : low ≤ n = within.0 in let most : n ≤ limit = within.1 in grind (arith, common_steps)

pub sizes_are_within : (sizes : Sizes) → AreSizes sizes → IsWithinLimits sizes
sizes_are_within sizes are =
    let none : first_size_fault sizes ≡ None =
    rw (are.first.words, are.first.channels, are.first.dies, are.first.superblocks, are.first.pages, are.first.lifting, are.first.base_rows, are.base_columns, are.bytes, are.rows) refl in
    (faultless_sizes_are_within sizes).0 none
