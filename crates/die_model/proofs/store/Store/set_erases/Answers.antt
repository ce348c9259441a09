use Rattle.std.proofs.Common.{◌<◌, length, rules}
use Rattle.onfi_cmd.specs.DieState.{with_erases}
use Rattle.die_model.proofs.KeptLemmas.{kept-set_erases, stored_after, within_store}
use Rattle.die_model.proofs.store.Store.set_erases.Goals as goal

pub index_mut-requires : goal.index_mut-requires
index_mut-requires c =
    let within : c.args.sb < length c.self.inside.programmed.items =
    within_store _ _ _ _ _ c.args.self.now c.args.sb c.self.view_is c.requires in
    let same = c.self.invariant.same_blocks in search rules

pub returns : goal.returns
returns c =
    let within : c.args.sb < length c.self.inside.programmed.items =
    within_store _ _ _ _ _ c.args.self.now c.args.sb c.self.view_is c.requires in
    stored_after _ _ _ _ c.args.self.now (λ blocks. with_erases blocks c.args.sb c.args.erases) c.self.view_is
    (kept-set_erases _ _ _ _ _ c.args.sb c.args.erases within c.self.invariant.same_blocks)
