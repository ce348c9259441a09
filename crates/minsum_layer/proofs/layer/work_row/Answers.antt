use Rattle.std.proofs.Common.{length}
use Rattle.std.proofs.lemmas.List.Elements.{All-same}
use Rattle.ssd_geo.specs.Decoding.{edges_of, given_of, picked, row_worked}
use Rattle.ssd_geo.specs.Layer.{variables_of}
use Rattle.ssd_geo.specs.RowRule.{IsWithin}
use Rattle.ssd_geo.proofs.DecodingBounds.{given_within}
use Rattle.minsum_layer.proofs.layer.work_row.Goals as goal

pub row_update-requires-clause-values : goal.row_update-requires-clause-values
row_update-requires-clause-values c =
    let ps = picked c.args.p.now (variables_of c.args.layer.now c.args.z c.args.t) in
    let rs = picked c.args.r.now (edges_of (length c.args.layer.now) c.args.z c.args.t) in
    All-same (IsWithin 127) c.gather.new.given (given_of ps rs) c.gather.ensures (given_within ps rs)

pub returns : goal.returns
unfolding row_worked
returns c = simp (c.scatter.ensures.variables, c.scatter.ensures.edges, c.row_update.ensures, c.gather.ensures)
