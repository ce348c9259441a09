use Rattle.std.proofs.Common.{◌∙◌, sym, arith}
use Rattle.std.proofs.lemmas.Grind.{get_or_default_zero}
use Rattle.die_model.proofs.KeptLemmas.{in_store}
use Rattle.die_model.proofs.store.Store.programmed.Goals as goal

pub index-requires : goal.index-requires
index-requires c =
    let here = in_store _ _ _ _ _ c.args.self.now c.args.sb c.self.view_is c.requires in
    let within = here.within in
    let ok = c.self.inside.programmed.ok in omega arith

pub returns-clause-value : goal.returns-clause-value
returns-clause-value c =
    let here = in_store _ _ _ _ _ c.args.self.now c.args.sb c.self.view_is c.requires in
    c.index.ensures ∙ get_or_default_zero c.self.inside.programmed.items c.args.sb _ here.within ∙ sym here.programmed_is

pub returns-clause-most : goal.returns-clause-most
returns-clause-most c =
    let here = in_store _ _ _ _ _ c.args.self.now c.args.sb c.self.view_is c.requires in
    let read = c.index.ensures ∙ get_or_default_zero c.self.inside.programmed.items c.args.sb _ here.within in
    let most = c.self.invariant.most c.args.sb here.within in
    let pages = here.pages_are in omega arith
