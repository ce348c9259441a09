use Rattle.std.proofs.Common.{take}
use Rattle.chan_tables.specs.Filling.{HasLive}
use Rattle.chan_tables.proofs.tables.filling.add_live.Given as goal

abbrev pub invariant-loop-row : goal.invariant-loop-row
invariant-loop-row l = HasLive (take l.row l.rows.rows) l.initial.infos l.infos
