-- What does one operation do to one die, and how did it end?
use Rattle.std.specs.Prelude.{ℕ, ◌≡◌, Bool, true, false, List, ℤ}
use Rattle.onfi_cmd.specs.DieCalls.{HasOutcome, WhereTold}
use Rattle.onfi_cmd.specs.DieState.{DieState, outcome_of}
use Rattle.onfi_cmd.specs.declared.op.Op.{Op}
use Rattle.chan_dies.specs.OneDie.{FaultsDie, KeepsDie, RefusesBlock}
use Rattle.chan_dies.specs.declared.one_die.DieEnd.{DieEnd}

-- a die that tells did an operation with these data bytes
abbrev pub DoesOperation : DieState → DieState → Op → List ℕ → ℕ → List ℕ → Type 0
DoesOperation old new op bytes status out =
    WhereTold old (λ plan blocks. HasOutcome (outcome_of plan blocks old.read_level old.last_status op bytes) new status out)

-- a die senses at this level now, and keeps all else that is told of it
pub record SetsReadLevel (level : ℤ) (old new : DieState) : Type 0 where
  pub keeps : KeepsDie old new
  pub level_is : new.read_level ≡ level

-- how a block ended where the status has FAIL, and where it hasn't
abbrev pub end_told : Bool → DieEnd
end_told true = DieEnd.Failed
end_told false = DieEnd.Passed

-- what became of a die whose operation on a block ended so, where this becomes of the die that passes it
abbrev pub EndsAs : (DieState → DieState → Type 0) → ℕ → DieEnd → DieState → DieState → Type 0
EndsAs P sb DieEnd.Passed old new = P old new
EndsAs P sb DieEnd.Failed old new = RefusesBlock sb old new
EndsAs P sb DieEnd.Fault old new = FaultsDie old new
