use Rattle.std.proofs.Common.{◌≡◌, drop}
use Rattle.onfi_cmd.specs.Reading.{data_fault}
use Rattle.onfi_cmd.proofs.reading.fault_of_data.Given as goal

abbrev pub invariant-loop-i : goal.invariant-loop-i
invariant-loop-i l = data_fault l.place (drop l.place l.cycles) ≡ data_fault l.i (drop l.i l.cycles)
