-- What a die did stays what it did, whatever its counts of faults are said to be.
use Rattle.std.proofs.Common.{ℕ, Result, List}
use Rattle.std.proofs.lemmas.Option.{IfSome_then}
use Rattle.std.proofs.lemmas.Result.{IfOk-weaker}
use Rattle.std.specs.Result.{IfOk}
use Rattle.onfi_cmd.specs.Cycles.{bytes_of_op}
use Rattle.onfi_cmd.specs.DieCalls.{Runs, HasOutcome}
use Rattle.onfi_cmd.specs.DieState.{DieState, Outcome, outcome_of}
use Rattle.onfi_cmd.specs.Reading.{operation_of}
use Rattle.onfi_cmd.specs.declared.cycle.Cycle.{Cycle}

-- the state with other counts
abbrev pub recounted : DieState → ℕ → ℕ → DieState
recounted state work load = record state { work_count = work; load_count = load }

-- an outcome speaks of no count
outcome_recounted : (outcome : Outcome) (new : DieState) (status : ℕ) (out : List ℕ) (work load : ℕ) →
    HasOutcome outcome new status out → HasOutcome outcome (recounted new work load) status out
outcome_recounted outcome new status out work load h = record {
  told_are = h.told_are;
  read_level_is = h.read_level_is;
  kept_status_is = h.kept_status_is;
  status_is = h.status_is;
  answer_is = h.answer_is;
}

-- what a die ran it ran, also with other counts
pub runs_recounted : {E : Type 0} (old new : DieState) (cycles : List Cycle) (result : Result ℕ E) (out : List ℕ)
    (w l w' l' : ℕ) →
    IfOk result (λ status. Runs old new cycles status out) →
    IfOk result (λ status. Runs (recounted old w l) (recounted new w' l') cycles status out)
runs_recounted old new cycles result out w l w' l' h =
    IfOk-weaker result _ _
    (λ status ran. IfSome_then old.plan ran
    (λ plan told. IfSome_then old.told told
    (λ blocks said. IfOk-weaker (operation_of cycles) _ _
    (λ op done. outcome_recounted (outcome_of plan blocks old.read_level old.last_status op (bytes_of_op op cycles))
    new status out w' l' done)
    said)))
    h
