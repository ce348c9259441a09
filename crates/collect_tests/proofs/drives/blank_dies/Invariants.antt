use Rattle.std.proofs.Common.{◌≡◌, length, map}
use Rattle.die_model.specs.SimState.{state_of}
use Rattle.drive_dies.specs.Mounting.{AllTell}
use Rattle.collect_tests.proofs.drives.blank_dies.Given as goal

-- the dies so far are there, and each tells its blocks
abbrev pub invariant-loop : goal.invariant-loop
invariant-loop l = record {
  count : length l.dies.items ≡ l.counter;
  tell : AllTell (map state_of l.dies.items);
}
