use Rattle.std.proofs.Common.{arith}
use Rattle.chan_tables.proofs.FilledRows.{all_filled, unnamed}
use Rattle.chan_tables.proofs.tables.fill.Goals as goal

pub set-requires-clause-unnamed : goal.set-requires-clause-unnamed
set-requires-clause-unnamed c =
    unnamed c.args.rows.now c.loop-row.row c.args.map.now c.loop-row.map c.requires.rows.apart c.loop-row.invariant

pub returns : goal.returns
returns c =
    all_filled c.args.rows.now c.loop-row.row c.args.map.now c.loop-row.map (omega (arith, c.loop-row-test.false)) c.loop-row.invariant
