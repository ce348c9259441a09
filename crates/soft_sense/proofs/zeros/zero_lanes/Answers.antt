use Rattle.soft_sense.proofs.LaneLemmas.{zero_lane}
use Rattle.soft_sense.proofs.zeros.zero_lanes.Goals as goal
use Rattle.shared_lemmas.proofs.Lists.{eight_equal}

pub returns : goal.returns
returns c =
    let lane = zero_lane c.args.byte in
    eight_equal (lane 0) (lane 1) (lane 2) (lane 3) (lane 4) (lane 5) (lane 6) (lane 7)
