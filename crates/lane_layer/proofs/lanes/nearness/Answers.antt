use Rattle.std.proofs.Common.{◌≡◌, ℕ, ◌+◌, ◌-◌, ◌%◌, ◌≤◌, min, get_or, ap, ◌∙◌, arith}
use Rattle.lane_layer.proofs.LaneValues.{HasLanes-same, HasLanes-splat_first}
use Rattle.lane_layer.proofs.lanes.nearness.Goals as goal
use Rattle.lane_layer.proofs.Codes.{less}

pub returns : goal.returns
returns g c =
    let codes = c.args.codes in
    let differences = HasLanes-splat_first g.row.L (λ a b. (a + (256 - b)) % 256) 254 codes c.fits-codes.0 in
    HasLanes-same g.row.L _ _ _ c.lesser.ensures (λ k l. ap (λ n. min (get_or codes k 0) n) (differences.each k l ∙ less (get_or codes k 0) (c.requires k l)))
