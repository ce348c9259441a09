use Rattle.std.specs.Int.Bits.{bit_xor}
use Rattle.lane_layer.proofs.LaneValues.{HasLanes-zip2}
use Rattle.lane_layer.proofs.lanes.signs_of.Goals as goal

pub returns : goal.returns
returns g c = HasLanes-zip2 g.row.L bit_xor c.args.a c.args.b c.fits-a.0 c.fits-b.0
