use Rattle.std.proofs.Common.{◌≡◌}
use Rattle.ssd_geo.specs.Decoding.{rows_worked}
use Rattle.minsum_layer.proofs.layer.layer_serial.Given as goal

abbrev pub invariant-loop-t : goal.invariant-loop-t
invariant-loop-t l = (l.p, l.r) ≡ rows_worked l.layer l.z l.t (l.initial.p, l.initial.r)
