-- A die runs the cycles of an operation where it can do the operation, and what the run did is what the operation does.
use Rattle.std.proofs.Common.{◌≡◌, ℕ, Result, List, sym, subst}
use Rattle.std.proofs.lemmas.Option.{IfSome_then}
use Rattle.std.proofs.lemmas.Result.{IfOk-weaker}
use Rattle.std.specs.Prelude.{Option, Some, None, IsSomeAnd}
use Rattle.std.specs.Prelude.{IfOk, IsOkAnd}
use Rattle.ssd_geo.specs.BlockCells.{BlockCells}
use Rattle.onfi_cmd.specs.Cycles.{HasItsBytes, HasItsFeature, bytes_of_op, cycles_of}
use Rattle.onfi_cmd.specs.DieCalls.{CanDo, CanRun, HasOutcome, IsMountedAnd, Runs}
use Rattle.onfi_cmd.specs.DieState.{DieState, outcome_of}
use Rattle.onfi_cmd.specs.Reading.{operation_of}
use Rattle.onfi_cmd.specs.declared.cycle.Cycle.{Cycle}
use Rattle.onfi_cmd.specs.declared.cycle_fault.CycleFault.{CycleFault}
use Rattle.onfi_cmd.specs.declared.op.Op.{Op}
use Rattle.onfi_cmd.specs.declared.plan.DiePlan.{DiePlan}
use Rattle.onfi_cmd.proofs.Spelling.{said, sent_bytes}
use Rattle.chan_dies.specs.Operations.{DoesOperation}

-- what follows from what holds of a plan
pub planned_then : (plan : Option DiePlan) {P Q : DiePlan → Type 0} → ((p : DiePlan) → P p → Q p) → IsSomeAnd plan P → IsSomeAnd plan Q
planned_then None f h = h
planned_then (Some p) f h = f p h

-- the cycles of an operation can be run where the operation can be done
can_run_its : (plan : DiePlan) (told : Option (List BlockCells)) (op : Op) (bytes : List ℕ) (room : ℕ) →
    HasItsFeature op → HasItsBytes op bytes → CanDo plan told op bytes room →
    IsOkAnd (operation_of (cycles_of op bytes)) (λ said_op. CanDo plan told said_op (bytes_of_op said_op (cycles_of op bytes)) room)
can_run_its plan told op bytes room feature its can =
    let kept : CanDo plan told op (bytes_of_op op (cycles_of op bytes)) room =
    subst (λ (sent : List ℕ). CanDo plan told op sent room) (sym (sent_bytes op bytes its)) can in
    subst (λ (read : Result Op CycleFault). IsOkAnd read (λ said_op. CanDo plan told said_op (bytes_of_op said_op (cycles_of op bytes)) room))
    (sym (said op bytes feature its)) kept

pub can_run : (state : DieState) (cycles : List Cycle) (op : Op) (bytes : List ℕ) (room : ℕ) → cycles ≡ cycles_of op bytes →
    HasItsFeature op → HasItsBytes op bytes → IsMountedAnd state (λ plan. CanDo plan state.told op bytes room) → CanRun state cycles room
can_run state cycles op bytes room spelt feature its can =
    subst (λ (spelling : List Cycle). CanRun state spelling room) (sym spelt)
    (planned_then state.plan (λ plan one. can_run_its plan state.told op bytes room feature its one) can)

-- what the cycles of an operation did
ran_its : (old new : DieState) (op : Op) (bytes : List ℕ) (status : ℕ) (out : List ℕ) → HasItsFeature op → HasItsBytes op bytes →
    Runs old new (cycles_of op bytes) status out → DoesOperation old new op bytes status out
ran_its old new op bytes status out feature its ran =
    IfSome_then old.plan ran
    (λ plan told. IfSome_then old.told told
    (λ blocks done.
    let its_own = subst (λ (read : Result Op CycleFault). IfOk read (λ said_op.
    HasOutcome (outcome_of plan blocks old.read_level old.last_status said_op (bytes_of_op said_op (cycles_of op bytes))) new status out))
    (said op bytes feature its) done in
    subst (λ (sent : List ℕ). HasOutcome (outcome_of plan blocks old.read_level old.last_status op sent) new status out)
    (sent_bytes op bytes its) its_own))

pub ran : {E : Type 0} (old new : DieState) (cycles : List Cycle) (op : Op) (bytes : List ℕ) (result : Result ℕ E) (out : List ℕ) →
    cycles ≡ cycles_of op bytes → HasItsFeature op → HasItsBytes op bytes →
    IfOk result (λ status. Runs old new cycles status out) → IfOk result (λ status. DoesOperation old new op bytes status out)
ran old new cycles op bytes result out spelt feature its h =
    IfOk-weaker result _ _
    (λ status one. ran_its old new op bytes status out feature its (subst (λ (spelling : List Cycle). Runs old new spelling status out) spelt one)) h
