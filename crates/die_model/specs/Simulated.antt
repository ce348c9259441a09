-- What do contracts see of a simulated die? It tells its blocks, and it never fails: both counts are 0.
use Rattle.std.specs.Prelude.{ℕ, Some, None, Bool, if◌then◌else◌, List, [], ℤ, pos}
use Rattle.ssd_geo.specs.BlockCells.{BlockCells}
use Rattle.onfi_cmd.specs.DieState.{DieState, status_failed, status_passed}
use Rattle.onfi_cmd.specs.declared.plan.DiePlan.{DiePlan}

-- the status byte of an operation that answered FAIL or didn't
abbrev pub status_byte : Bool → ℕ
status_byte failed = if failed then status_failed else status_passed

-- a simulated die from its mount on, whose last operation other than Read Status answered FAIL or didn't
abbrev pub mounted_state : DiePlan → List BlockCells → ℤ → Bool → DieState
mounted_state plan blocks level failed = record {
  plan = Some plan;
  told = Some blocks;
  read_level = level;
  last_status = status_byte failed;
  work_count = 0;
  load_count = 0;
}

-- one that was never mounted
abbrev pub unmounted_state : DieState
unmounted_state = record {
  plan = None;
  told = Some [];
  read_level = pos 0;
  last_status = status_passed;
  work_count = 0;
  load_count = 0;
}
