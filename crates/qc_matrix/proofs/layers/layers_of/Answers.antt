-- The next row gives its layer.
use Rattle.ssd_geo.specs.BaseMatrix.{layer_of}
use Rattle.qc_matrix.specs.Entries.{matrix_of}
use Rattle.qc_matrix.proofs.Ranges.{map-pushed}
use Rattle.qc_matrix.proofs.layers.layers_of.Goals as goal

pub loop-i-preserved : goal.loop-i-preserved
loop-i-preserved c =
    map-pushed (layer_of (matrix_of c.args.entries.now)) (λ layer. layer.items) c.loop-i.i c.loop-i.layers.items c.push.new.self.items c.in_ok-layer_of_row.field-0
    c.loop-i.invariant c.in_ok-push.ensures.items c.in_ok-layer_of_row.ensures
