use Rattle.std.proofs.Common.{◌≡◌, ◌*◌, ◌≤◌, take}
use Rattle.ssd_geo.specs.Decoding.{edge_count, layers_of}
use Rattle.ldpc_decode.proofs.iteration.edge_total.Given as goal

abbrev pub invariant-loop-i : goal.invariant-loop-i
invariant-loop-i l = (l.total ≡ edge_count (take l.i (layers_of l.code)) l.code.z) × (l.total ≤ l.i * 8388608)
