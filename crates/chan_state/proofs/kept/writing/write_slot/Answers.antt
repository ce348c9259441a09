use Rattle.chan_fits.proofs.DueDies.{has_next_pages}
use Rattle.chan_state.proofs.kept.writing.write_slot.Goals as goal

pub program-end-requires-clause-next : goal.program-end-requires-clause-next
program-end-requires-clause-next g c =
    has_next_pages c.args.dies.now.shape c.args.tables.now.blocks c.args.dies.now.dies c.args.slot c.requires.due c.requires.next c.requires.in_range
