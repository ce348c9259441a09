-- What does a call answer that reads a part of an image and loads it into dies, where the source tells the bytes that it has
-- left? It answers what the definition of that part reads from them. Only a failed read of the source, a failed call of a die
-- and want of memory may come in its place.
use Rattle.std.specs.Prelude.{◌≡◌, ℕ, List, Option, Result, Ok, Err}
use Rattle.ssd_geo.specs.Faults.{NeverFell, Rose}
use Rattle.ssd_formats.specs.Fields.{Reading, Rest}
use Rattle.ssd_io.specs.Told.{IsTold}
use Rattle.image_file.specs.Gives.{named_fault, rest_at}
use Rattle.image_file.specs.declared.stop.ImageFault.{ImageFault}
use Rattle.image_file.specs.declared.stop.ReadStop.{ReadStop}
use Rattle.image_file.specs.declared.stop.ReadStop.TheVariants.{Fault as FaultAt, ReadFault, DieFailed, Memory}

-- a stop is the first fault, or it is none that bytes can have
abbrev pub StopsAtOrFails : {A : Type 0} → ReadStop ImageFault → Reading A → Type 0
StopsAtOrFails (FaultAt at fault) reading = reading ≡ Err (at, named_fault fault)
StopsAtOrFails ReadFault reading = Unit {0}
StopsAtOrFails (DieFailed die) reading = Unit {0}
StopsAtOrFails Memory reading = Unit {0}

-- the answer stands for a value; where the source tells its bytes, that is what reading gives, and what is left is told
abbrev pub GivesOrFails : {X A : Type 0} → (X → A → Type 0) → Result X (ReadStop ImageFault) → Option (List ℕ) → Option (List ℕ) → ℕ → ℕ → (Rest → Reading A) → Type 0
GivesOrFails {A = A} StandsFor (Ok answer) before after place next reading =
    (value : A) × StandsFor answer value ×
    (IsTold before → IsTold after × (reading (rest_at place before) ≡ Ok (value, rest_at next after)))
GivesOrFails StandsFor (Err stop) before after place next reading =
    IsTold before → StopsAtOrFails stop (reading (rest_at place before))

-- a stop, by the source's count before and after the call: a failed read is answered only where it rose
abbrev pub StopHasReadCause : {F : Type 0} → ℕ → ℕ → ReadStop F → Type 0
StopHasReadCause before now (FaultAt at fault) = now ≡ before
StopHasReadCause before now ReadFault = Rose before now
StopHasReadCause before now (DieFailed die) = now ≡ before
StopHasReadCause before now Memory = now ≡ before

-- an answer
abbrev pub HasReadCause : {X F : Type 0} → ℕ → ℕ → Result X (ReadStop F) → Type 0
HasReadCause before now (Ok value) = now ≡ before
HasReadCause before now (Err stop) = StopHasReadCause before now stop

-- what a call did that reads a part of an image from a place on, up to another place, and loads it into dies. Its answer
-- stands for a value as this relation says
pub record Loads {X A : Type 0} (StandsFor : X → A → Type 0) (before after : Option (List ℕ)) (faults_before faults_after place next : ℕ) (result : Result X (ReadStop ImageFault)) (reading : Rest → Reading A) : Type 0 where
  pub given : GivesOrFails StandsFor result before after place next reading
  pub never_fell : NeverFell faults_before faults_after
  pub cause : HasReadCause faults_before faults_after result
