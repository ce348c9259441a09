use Rattle.std.proofs.Common.{take}
use Rattle.chan_tables.specs.Filling.{HasPins}
use Rattle.chan_tables.proofs.tables.filling.add_pins.Given as goal

abbrev pub invariant-loop-pin : goal.invariant-loop-pin
invariant-loop-pin l = HasPins (take l.pin-index l.looks) l.initial.infos l.infos
