use Rattle.std.proofs.Common.{◌≡◌, length, drop}
use Rattle.ssd_geo.specs.Decoding.{edges_of, placed, sums_of}
use Rattle.ssd_geo.specs.Layer.{variables_of}
use Rattle.minsum_layer.proofs.layer.scatter.Given as goal

abbrev pub invariant-loop-e : goal.invariant-loop-e
invariant-loop-e l =
    (placed l.p (drop l.e (variables_of l.layer l.z l.t)) (drop l.e (sums_of l.given l.told)) ≡ placed l.initial.p (variables_of l.layer l.z l.t) (sums_of l.given l.told))
    × (placed l.r (drop l.e (edges_of (length l.layer) l.z l.t)) (drop l.e l.told) ≡ placed l.initial.r (edges_of (length l.layer) l.z l.t) l.told)
