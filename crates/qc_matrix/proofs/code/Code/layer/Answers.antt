-- The code keeps a layer for each base row.
use Rattle.std.proofs.Common.{◌≡◌, ◌∙◌, ap, arith}
use Rattle.ssd_geo.specs.BaseMatrix.{BaseMatrix, layer_of}
use Rattle.qc_matrix.specs.Layers.{code_matrix}
use Rattle.qc_matrix.proofs.Ranges.{map-length, map-item}
use Rattle.qc_matrix.proofs.code.Code.layer.Goals as goal

rows_are : (c : goal.After-self) → c.self.inside.mb ≡ c.args.self.now.mb
rows_are c = ap (λ (m : BaseMatrix). m.mb) c.self.view_is

pub index-requires : goal.index-requires
index-requires c =
    omega (
      arith,
      rows_are c,
      map-length (layer_of (code_matrix c.self.inside)) (λ layer. layer.items) c.self.inside.mb c.self.inside.layers.items c.self.invariant.layers,
      c.self.inside.layers.ok,
    )

pub returns : goal.returns
returns c =
    let rows : c.self.inside.mb ≡ c.args.self.now.mb = ap (λ (m : BaseMatrix). m.mb) c.self.view_is in
    c.as_slice.ensures.value
    ∙ map-item (layer_of (code_matrix c.self.inside)) (λ layer. layer.items) c.self.inside.mb c.args.i c.self.inside.layers.items c.index.result.now
    c.self.invariant.layers (omega arith) c.index.ensures
    ∙ ap (λ (m : BaseMatrix). layer_of m c.args.i) c.self.view_is
