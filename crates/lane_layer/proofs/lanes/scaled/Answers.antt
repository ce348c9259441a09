use Rattle.std.proofs.Common.{◌≡◌, ℕ, ◌+◌, ◌-◌, ◌*◌, ◌/◌, ◌%◌, ◌^◌, ◌≤◌, get_or, ap, ◌∙◌, arith}
use Rattle.std.proofs.lemmas.Simd.{shifts_fit_splat}
use Rattle.lane_layer.proofs.LaneValues.{HasLanes-same, HasLanes-splat_first, HasLanes-splat_second, HasLanes-zip2}
use Rattle.lane_layer.proofs.lanes.scaled.Goals as goal

three_quarters : (n : ℕ) → n ≤ 127 → (n + (130 + (256 - n)) % 256 / 4) % 256 ≡ 127 - 3 * (127 - n) / 4
three_quarters n h = omega arith

pub overflow_shr-result : goal.overflow_shr-result
overflow_shr-result g c = shifts_fit_splat 8 _ g.row.L 2 (omega arith)

pub returns : goal.returns
returns g c =
    let n = c.args.nearness in
    let less = HasLanes-splat_first g.row.L (λ a b. (a + (256 - b)) % 256) 130 n c.fits-nearness.0 in
    let quarter = HasLanes-splat_second g.row.L (λ a b. a / 2 ^ b) _ 2 less.long in
    let sum = HasLanes-zip2 g.row.L (λ a b. (a + b) % 256) n _ c.fits-nearness.0 quarter.long in
    HasLanes-same g.row.L _ _ _ sum (λ k l. ap (λ q. (get_or n k 0 + q) % 256) (quarter.each k l ∙ ap (λ d. d / 4) (less.each k l)) ∙ three_quarters (get_or n k 0) (c.requires k l))
