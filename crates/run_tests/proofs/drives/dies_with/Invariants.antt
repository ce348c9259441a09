use Rattle.std.proofs.Common.{◌≡◌, length, map}
use Rattle.die_model.specs.Listed.{listed_state}
use Rattle.die_model.specs.SimState.{state_of}
use Rattle.drive_dies.specs.Mounting.{AllTell}
use Rattle.onfi_cmd.specs.DieState.{DieState}
use Rattle.run_tests.specs.declared.tried_die.TriedDie.{TriedDie}
use Rattle.run_tests.proofs.drives.dies_with.Given as goal

-- what contracts see of a die
abbrev pub tried_state : TriedDie → DieState
tried_state die = listed_state state_of die.inner

-- the dies so far are there, and each tells its blocks
abbrev pub invariant-loop-die : goal.invariant-loop-die
invariant-loop-die l = record {
  count : length l.dies.items ≡ l.die;
  tell : AllTell (map tried_state l.dies.items);
}
