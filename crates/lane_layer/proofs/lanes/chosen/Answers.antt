use Rattle.std.proofs.Common.{eqb}
use Rattle.lane_layer.proofs.LaneValues.{HasLanes-select}
use Rattle.lane_layer.proofs.lanes.chosen.Goals as goal

pub returns : goal.returns
returns g c =
    HasLanes-select g.row.L eqb c.args.a c.args.b c.args.same c.args.other c.fits-a.0 c.fits-b.0 c.fits-same.0 c.fits-other.0
