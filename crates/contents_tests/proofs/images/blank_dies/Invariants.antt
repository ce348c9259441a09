use Rattle.std.proofs.Common.{map}
use Rattle.die_model.specs.SimState.{state_of}
use Rattle.drive_dies.specs.Mounting.{AllTell}
use Rattle.contents_tests.proofs.images.blank_dies.Given as goal

-- each die so far tells its blocks
abbrev pub invariant-loop : goal.invariant-loop
invariant-loop l = AllTell (map state_of l.dies.items)
