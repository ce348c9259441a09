use Rattle.std.proofs.Common.{sym}
use Rattle.chan_tables.proofs.LiveRows.{owner_names}
use Rattle.chan_tables.proofs.tables.collecting.first_live_row.Goals as goal

pub returns-clause-named : goal.returns-clause-named
returns-clause-named c =
    owner_names c.args.rows.now.rows c.args.sb c.in_ok-slot.slot c.owner.result (sym c.in_ok-slot.ensures.value) c.owner.ensures.value
