use Rattle.std.proofs.Common.{length, ap, arith}
use Rattle.lane_layer.specs.WorkSize.{WorkSize}
use Rattle.ssd_geo.specs.BaseMatrix.{layer_of}
use Rattle.ssd_geo.specs.LayerNumbers.{AreNumbersOf}
use Rattle.ssd_geo.proofs.AcceptedLayers.{accepted_layer}
use Rattle.ldpc_decode.proofs.LayerSteps.{blocks_fit, columns_fit}
use Rattle.ldpc_decode.proofs.iteration.work_layer_by.Goals as goal

pub layer_lanes-requires-clause-blocks : goal.layer_lanes-requires-clause-blocks
layer_lanes-requires-clause-blocks g c =
    rw (c.z.ensures.value, c.layer.ensures) (accepted_layer c.args.code.now c.requires.accepted c.args.i c.requires.row)

pub layer_lanes-requires-clause-numbers : goal.layer_lanes-requires-clause-numbers
layer_lanes-requires-clause-numbers g c =
    let m = c.args.code.now in
    let numbers : AreNumbersOf m.z (layer_of m c.args.i) c.args.p.now c.args.r.now = record {
      columns = columns_fit m c.requires.accepted c.args.i c.requires.row c.args.p.now c.requires.variables;
      edges = c.requires.edges;
      p_within = c.requires.p_within;
      r_within = c.requires.r_within;
    } in
    rw (c.z.ensures.value, c.layer.ensures) numbers

pub layer_lanes-requires-clause-degree : goal.layer_lanes-requires-clause-degree
layer_lanes-requires-clause-degree g c =
    let m = c.args.code.now in
    let same = ap length c.layer.ensures in
    let size = ap (λ (w : WorkSize). w.degree) c.requires.size in
    omega (arith, blocks_fit m c.args.i)
