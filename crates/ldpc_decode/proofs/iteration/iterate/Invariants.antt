use Rattle.std.proofs.Common.{◌≡◌, take, drop, All}
use Rattle.ssd_geo.specs.Decoding.{edge_count, iterated, layers_of}
use Rattle.ssd_geo.specs.RowRule.{IsWithin}
use Rattle.ldpc_decode.proofs.LayerSteps.{joined}
use Rattle.ldpc_decode.specs.View.{work_size}
use Rattle.ldpc_decode.proofs.iteration.iterate.Given as goal

abbrev pub invariant-loop-i : goal.invariant-loop-i
invariant-loop-i l =
    (l.from ≡ edge_count (take l.i (layers_of l.code)) l.code.z)
    × (joined (take l.from l.r) (iterated (drop l.i (layers_of l.code)) l.code.z (l.p, drop l.from l.r)) ≡ iterated (layers_of l.code) l.code.z (l.initial.p, l.initial.r))
    × All (IsWithin 222) l.p
    × All (IsWithin 95) l.r
    × (l.work ≡ work_size l.code)
