use Rattle.std.proofs.Common.{◌∙◌, sym, arith}
use Rattle.std.proofs.lemmas.Grind.{get_or_default_zero}
use Rattle.die_model.proofs.KeptLemmas.{in_store}
use Rattle.die_model.proofs.store.Store.erases.Goals as goal

pub index-requires : goal.index-requires
index-requires c =
    let here = in_store _ _ _ _ _ c.args.self.now c.args.sb c.self.view_is c.requires in
    let within = here.within in
    let same = c.self.invariant.same_blocks in
    let ok = c.self.inside.erases.ok in omega arith

pub returns : goal.returns
returns c =
    let here = in_store _ _ _ _ _ c.args.self.now c.args.sb c.self.view_is c.requires in
    let within = here.within in
    let same = c.self.invariant.same_blocks in
    c.index.ensures ∙ get_or_default_zero c.self.inside.erases.items c.args.sb _ (omega arith) ∙ sym here.erases_are
