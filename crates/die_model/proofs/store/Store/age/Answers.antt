use Rattle.std.proofs.Common.{◌∙◌, ℕ, ◌+◌, ◌*◌, ap, arith}
use Rattle.std.proofs.lemmas.Grind.{get_or_default_zero}
use Rattle.std.proofs.lemmas.Int.{to_z-of_z}
use Rattle.std.specs.Int.{w16}
use Rattle.std.specs.Int.RustNames.{FitsSigned}
use Rattle.die_model.proofs.AgedLemmas.{aged}
use Rattle.die_model.proofs.KeptLemmas.{in_store, pages_fit}
use Rattle.die_model.proofs.store.Store.age.Goals as goal

pub start_of-at-requires : goal.start_of-at-requires
start_of-at-requires c =
    let here = in_store _ _ _ _ _ c.args.self.now c.args.sb c.self.view_is c.requires in
    let fits = pages_fit _ _ _ _ _ c.args.sb c.self.invariant here.within in
    let small = c.self.inside.levels.small in
    let ok = c.self.inside.levels.ok in omega arith

pub index-requires : goal.index-requires
index-requires c =
    let here = in_store _ _ _ _ _ c.args.self.now c.args.sb c.self.view_is c.requires in
    let within = here.within in
    let ok = c.self.inside.programmed.ok in omega arith

pub start_of-end-requires : goal.start_of-end-requires
start_of-end-requires c =
    let here = in_store _ _ _ _ _ c.args.self.now c.args.sb c.self.view_is c.requires in
    let fits = pages_fit _ _ _ _ _ c.args.sb c.self.invariant here.within in
    let many = c.index.ensures ∙ get_or_default_zero c.self.inside.programmed.items c.args.sb _ here.within in
    let place = ap (λ (n : ℕ). (c.args.sb * c.self.inside.pages + n) * c.self.inside.cells) many in
    let small = c.self.inside.levels.small in
    let ok = c.self.inside.levels.ok in omega arith

pub age_from-requires-clause-cells : goal.age_from-requires-clause-cells
age_from-requires-clause-cells c =
    let here = in_store _ _ _ _ _ c.args.self.now c.args.sb c.self.view_is c.requires in
    let fits = pages_fit _ _ _ _ _ c.args.sb c.self.invariant here.within in
    let many = c.index.ensures ∙ get_or_default_zero c.self.inside.programmed.items c.args.sb _ here.within in
    let place = ap (λ (n : ℕ). (c.args.sb * c.self.inside.pages + n) * c.self.inside.cells) many in
    let ok = c.self.inside.levels.ok in omega (arith, c.deref_mut.ensures.len, c.start_of-end.ensures)

pub returns : goal.returns
returns c =
    let erased : FitsSigned w16 c.args.erased = c.ranges.erased in
    let here = in_store _ _ _ _ _ c.args.self.now c.args.sb c.self.view_is c.requires in
    let many = c.index.ensures ∙ get_or_default_zero c.self.inside.programmed.items c.args.sb _ here.within in
    let written = simp to_z-of_z at c.age_from.ensures in
    (aged _ _ _ _ _ c.args.self.now c.args.erased c.args.sb c.args.amount _ _ _ _ _ _ c.self.view_is c.self.invariant here.within many
    c.start_of-at.ensures c.start_of-end.ensures c.deref_mut.ensures.value c.self.inside.levels.ok.0 written).stands_for
