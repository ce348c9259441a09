use Rattle.std.proofs.Common.{map}
use Rattle.die_model.specs.Listed.{Listed, listed_state}
use Rattle.die_model.specs.SimState.{state_of}
use Rattle.die_model.specs.declared.sim_die.SimDie.{SimDie}
use Rattle.drive_dies.specs.Mounting.{AllTell}
use Rattle.onfi_cmd.specs.DieState.{DieState}
use Rattle.contents_tests.proofs.faults.failing_dies.Given as goal

-- what contracts see of a die
abbrev pub failing_state : Listed SimDie → DieState
failing_state die = listed_state state_of die

-- each die so far tells its blocks
abbrev pub invariant-loop-load : goal.invariant-loop-load
invariant-loop-load l = AllTell (map failing_state l.dies.items)
