use Rattle.std.proofs.Common.{◌∙◌, ℕ, ◌+◌, ap, set, arith, rules}
use Rattle.std.proofs.lemmas.Grind.{get_or_default_zero}
use Rattle.onfi_cmd.specs.DieState.{with_erased}
use Rattle.die_model.specs.Stored.{kept_blocks}
use Rattle.die_model.proofs.KeptLemmas.{in_store, kept-erase, stored_after}
use Rattle.die_model.proofs.store.Store.erase.Goals as goal

pub index_mut-requires : goal.index_mut-requires
index_mut-requires c =
    let here = in_store _ _ _ _ _ c.args.self.now c.args.sb c.self.view_is c.requires.block in
    let within = here.within in search rules

pub index_mut-requires-2 : goal.index_mut-requires-2
index_mut-requires-2 c =
    let here = in_store _ _ _ _ _ c.args.self.now c.args.sb c.self.view_is c.requires.block in
    let within = here.within in
    let same = c.self.invariant.same_blocks in
    let ok = c.self.inside.erases.ok in omega arith

pub overflow_add-index_mut : goal.overflow_add-index_mut
overflow_add-index_mut c =
    let here = in_store _ _ _ _ _ c.args.self.now c.args.sb c.self.view_is c.requires.block in
    let within = here.within in
    let same = c.self.invariant.same_blocks in
    let read = c.index_mut-2.ensures.value ∙ get_or_default_zero c.self.inside.erases.items c.args.sb _ (omega arith) in
    let erases = here.erases_are in
    let count = c.requires.count in search rules

pub returns : goal.returns
returns c =
    let here = in_store _ _ _ _ _ c.args.self.now c.args.sb c.self.view_is c.requires.block in
    let within = here.within in
    let same = c.self.invariant.same_blocks in
    let read = c.index_mut-2.ensures.value ∙ get_or_default_zero c.self.inside.erases.items c.args.sb _ (omega arith) in
    let i = c.self.inside in
    stored_after i.pages i.cells (kept_blocks i.pages i.cells i.programmed.items i.erases.items i.levels.items) _ c.args.self.now
    (λ blocks. with_erased blocks c.args.sb) c.self.view_is
    (ap (λ (n : ℕ). kept_blocks i.pages i.cells (set i.programmed.items c.args.sb 0) (set i.erases.items c.args.sb (n + 1)) i.levels.items) read
    ∙ kept-erase i.pages i.cells i.programmed.items i.erases.items i.levels.items c.args.sb within same)
