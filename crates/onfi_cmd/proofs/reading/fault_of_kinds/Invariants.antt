use Rattle.std.proofs.Common.{◌≡◌, ◌+◌, ◌≤◌, ℕ, List, Option, length, drop}
use Rattle.onfi_cmd.specs.declared.cycle.Cycle.{Cycle}
use Rattle.onfi_cmd.specs.declared.cycle_fault.CycleFault.{CycleFault}
use Rattle.onfi_cmd.specs.Reading.{first_fault}
use Rattle.onfi_cmd.proofs.reading.fault_of_kinds.Given as goal

abbrev pub invariant-loop-i : goal.invariant-loop-i
invariant-loop-i l =
    (l.i + 1 ≤ length l.cycles)
    × ((rest : ℕ → List Cycle → Option CycleFault) →
    first_fault rest l.expected 1 (drop 1 l.cycles)
    ≡ first_fault rest (drop l.i l.expected) (l.i + 1) (drop (l.i + 1) l.cycles))
