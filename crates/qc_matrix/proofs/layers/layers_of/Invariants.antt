use Rattle.std.proofs.Common.{◌≡◌, map}
use Rattle.std.specs.List.{range_with_len}
use Rattle.ssd_geo.specs.BaseMatrix.{layer_of}
use Rattle.qc_matrix.specs.Entries.{matrix_of}
use Rattle.qc_matrix.proofs.layers.layers_of.Given as goal

-- the layers of the rows so far
abbrev pub invariant-loop-i : goal.invariant-loop-i
invariant-loop-i l = map (λ layer. layer.items) l.layers.items ≡ map (layer_of (matrix_of l.entries)) (range_with_len 0 l.i)
