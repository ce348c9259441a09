use Rattle.soft_sense.proofs.LaneLemmas.{hard_lane}
use Rattle.soft_sense.proofs.hard.eight_hard.Goals as goal
use Rattle.shared_lemmas.proofs.Lists.{eight_equal}

pub returns : goal.returns
returns c =
    let lane = hard_lane c.args.byte in
    eight_equal (lane 0) (lane 1) (lane 2) (lane 3) (lane 4) (lane 5) (lane 6) (lane 7)
