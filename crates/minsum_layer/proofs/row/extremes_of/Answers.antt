use Rattle.std.proofs.Common.{sym, ◌∙◌, fold, arith}
use Rattle.std.proofs.lemmas.List.{at_drop_all}
use Rattle.minsum_layer.proofs.TwoLeast.{keep, least_of_others}
use Rattle.minsum_layer.proofs.row.extremes_of.Goals as goal

pub returns-clause-least_of_others : goal.returns-clause-least_of_others
returns-clause-least_of_others c =
    let q = c.args.q.now in
    let is = sym (at_drop_all (fold keep (c.loop-x.least, c.loop-x.second)) q c.loop-x.x-index (omega arith)) ∙ c.loop-x.invariant.2 in
    λ i h. least_of_others q (c.loop-x.least, c.loop-x.second) i c.requires.several c.requires.values is h
