use Rattle.ssd_histories.specs.OpenLooks.{look_at}
use Rattle.chan_fits.proofs.DueDies.{has_next_pages}
use Rattle.chan_state.proofs.MoveSteps.{next_of_may}
use Rattle.chan_state.proofs.kept.moving.copy_to.Goals as goal

pub program-end-requires-clause-next : goal.program-end-requires-clause-next
program-end-requires-clause-next g c =
    has_next_pages c.args.dies.now.shape c.args.tables.now.blocks c.args.dies.now.dies c.args.slot c.requires.due
    (next_of_may c.args.tables.now.blocks c.args.tables.now.rows c.args.slot (look_at c.args.tables.now.looks c.args.at) c.requires.open c.requires.may) c.requires.in_range
