-- What does an answer of a call that reads say of the source's count of faults? After a value, a fault of the bytes and want
-- of memory the count is as it was, so nothing that failed was read again. A failed read is answered only where it rose, and
-- a die's never.
use Rattle.std.specs.Prelude.{ℕ, ◌≡◌, Result, Ok, Err}
use Rattle.ssd_geo.specs.Faults.{NeverFell, Rose}
use Rattle.image_file.specs.declared.stop.ReadStop.{ReadStop}
use Rattle.image_file.specs.declared.stop.ReadStop.TheVariants.{Fault as FaultAt, ReadFault, DieFailed, Memory}

-- a stop, by the count before and after the call
abbrev pub StopHasCause : {F : Type 0} → ℕ → ℕ → ReadStop F → Type 0
StopHasCause before now (FaultAt at fault) = now ≡ before
StopHasCause before now ReadFault = Rose before now
StopHasCause before now (DieFailed die) = ⊥
StopHasCause before now Memory = now ≡ before

-- an answer
abbrev pub AnswerHasCause : {X F : Type 0} → ℕ → ℕ → Result X (ReadStop F) → Type 0
AnswerHasCause before now (Ok value) = now ≡ before
AnswerHasCause before now (Err stop) = StopHasCause before now stop

-- and that the count didn't fall
pub record StopsWithCause {X F : Type 0} (before now : ℕ) (result : Result X (ReadStop F)) : Type 0 where
  pub never_fell : NeverFell before now
  pub cause : AnswerHasCause before now result
