use Rattle.std.proofs.Common.{◌≡◌, ℕ, ◌+◌, ◌-◌, ◌%◌, ◌≤◌, cond, get_or, replicate, leb, ◌∙◌, arith}
use Rattle.std.proofs.lemmas.Simd.{length-replicate, get_or-replicate}
use Rattle.lane_layer.proofs.LaneValues.{HasLanes-same, HasLanes-splat_first, HasLanes-select}
use Rattle.lane_layer.proofs.lanes.turned.Goals as goal
use Rattle.lane_layer.proofs.Codes.{less}

one_lane : (middle sign other code : ℕ) → middle ≡ 128 → other ≡ 254 - code → cond (leb middle sign) other code ≡ cond (leb 128 sign) (254 - code) code
one_lane middle sign other code h k = cc

pub returns : goal.returns
returns g c =
    let codes = c.args.codes in
    let signs = c.args.signs in
    let others = HasLanes-splat_first g.row.L (λ a b. (a + (256 - b)) % 256) 254 codes c.fits-codes.0 in
    let picked = HasLanes-select g.row.L leb (replicate g.row.L 128) signs _ codes (length-replicate g.row.L 128) c.fits-signs.0 others.long c.fits-codes.0 in
    HasLanes-same g.row.L _ _ _ picked
    (λ k l. one_lane _ (get_or signs k 0) _ (get_or codes k 0) (get_or-replicate g.row.L k 128 0 l) (others.each k l ∙ less (get_or codes k 0) (c.requires k l)))
