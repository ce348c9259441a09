-- The pages of a drive are few.
use Rattle.std.proofs.Common.{◌*◌, ◌-◌, ◌+◌, ◌^◌, ◌<◌, ◌≤◌, arith}
use Rattle.std.proofs.lemmas.Nat.{mul-le}
use Rattle.ssd_geo.specs.Limits.{IsWithinLimits, Sizes, most_rows_of}

pub pages_fit : (sizes : Sizes) → IsWithinLimits sizes → sizes.channels * sizes.rows < 2 ^ 32
pages_fit sizes within =
    let stripes : (sizes.superblocks - (2 + 0)) * (sizes.dies - 1) ≤ 254 * 7 = mul-le _ _ 254 7 (omega (arith, within.superblocks_high)) (omega (arith, within.dies_high)) in
    let few : most_rows_of sizes 0 ≤ 254 * 7 * 256 = mul-le _ _ (254 * 7) 256 stripes within.pages_high in
    let rows_few : sizes.rows ≤ 254 * 7 * 256 = omega (arith, few, within.rows_high) in
    let all : sizes.channels * sizes.rows ≤ 8 * (254 * 7 * 256) = mul-le _ _ 8 (254 * 7 * 256) within.channels_high rows_few in
    omega (arith, all)
