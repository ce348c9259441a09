use Rattle.std.proofs.Common.{◌≡◌, sym, subst, Some}
use Rattle.ssd_histories.specs.Blocks.{next_slot_of}
use Rattle.chan_tables.specs.TablesState.{TablesState}
use Rattle.chan_tables.proofs.ChangedBlocks.{fit_retired}
use Rattle.chan_tables.proofs.tables.Tables.retire_next.Goals as goal

pub invariant_of-self : goal.invariant_of-self
invariant_of-self c =
    let was = c.self.inside in
    let next : next_slot_of was.blocks.blocks ≡ Some c.args.slot = subst (λ (s : TablesState). next_slot_of s.blocks ≡ Some c.args.slot) (sym c.self.view_is) c.requires in
    rw c.retire.ensures
    (fit_retired was.shape was.session was.rows was.blocks was.looks was.history c.args.slot c.self.invariant next)
