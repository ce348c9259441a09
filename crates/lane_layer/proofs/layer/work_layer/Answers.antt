use Rattle.std.proofs.Common.{arith}
use Rattle.lane_layer.proofs.WholeLayer.{layer_is_worked}
use Rattle.lane_layer.proofs.layer.work_layer.Goals as goal

pub returns : goal.returns
returns g c =
    layer_is_worked c.args.z c.args.layer.now c.args.p.now c.args.r.now c.leave_layer.new.p c.leave_layer.new.r c.give_layer.new.given c.work_rows.new.told c.requires.blocks c.requires.numbers (omega arith) (omega arith) c.give_layer.ensures.rows c.work_rows.ensures c.leave_layer.ensures.variables c.leave_layer.ensures.others c.leave_layer.ensures.edges
