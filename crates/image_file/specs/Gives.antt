-- What does a call answer that reads a part of an image from a source, where the source tells the bytes that it has
-- left? It answers what the definition of that part reads from them. Only a failed read of the source and want of
-- memory may come in its place.
use Rattle.std.specs.Prelude.{◌≡◌, ℕ, ℤ, Bool, true, List, Option, Result, Ok, Err}
use Rattle.ssd_formats.specs.Fields.{Reading, Rest}
use Rattle.ssd_geo.specs.Faults.{NeverFell}
use Rattle.ssd_formats.specs.InputFaults.{ImageFault, short, magic, range, entry, parity, diagonal, order, state, count, sum, row}
use Rattle.ssd_io.specs.Told.{IsTold, told_bytes}
use Rattle.image_file.specs.StopCauses.{AnswerHasCause}
use Rattle.image_file.specs.declared.stop.ImageFault.{ImageFault as ImageFaultAnswer}
use Rattle.image_file.specs.declared.stop.ImageFault.TheVariants.{Short, Magic, Range, Entry, Parity, Diagonal, Order, State, Count, Sum, Row}
use Rattle.image_file.specs.declared.stop.ReadStop.{ReadStop}
use Rattle.image_file.specs.declared.stop.ReadStop.TheVariants.{Fault as FaultAt, ReadFault, DieFailed, Memory}

-- the fault that an answer names
abbrev pub named_fault : ImageFaultAnswer → ImageFault
named_fault Short = short
named_fault Magic = magic
named_fault Range = range
named_fault Entry = entry
named_fault Parity = parity
named_fault Diagonal = diagonal
named_fault Order = order
named_fault State = state
named_fault Count = count
named_fault Sum = sum
named_fault Row = row

-- what is left to read of an image, of which so many bytes were read
abbrev pub rest_at : ℕ → Option (List ℕ) → Rest
rest_at place left = record { place = place; bytes = told_bytes left }

-- A stop is the first fault, or it is none that bytes can have. No die has a part in it.
abbrev pub StopsAt : {A : Type 0} → ReadStop ImageFaultAnswer → Reading A → Type 0
StopsAt (FaultAt at fault) reading = reading ≡ Err (at, named_fault fault)
StopsAt ReadFault reading = Unit {0}
StopsAt (DieFailed die) reading = ⊥
StopsAt Memory reading = Unit {0}

-- The answer is what reading gives: a value, of which contracts see this much, and what is left then, which is told.
abbrev pub Gives : {X A : Type 0} → (X → A) → Result X (ReadStop ImageFaultAnswer) → ℕ → Option (List ℕ) → Reading A → Type 0
Gives view (Ok value) next after reading = IsTold after × (reading ≡ Ok (view value, rest_at next after))
Gives view (Err stop) next after reading = StopsAt stop reading

-- What a call did that reads a part of an image from a place on, up to another place.
pub record Reads {X A : Type 0} (view : X → A) (before after : Option (List ℕ)) (faults_before faults_after place next : ℕ) (result : Result X (ReadStop ImageFaultAnswer)) (reading : Rest → Reading A) : Type 0 where
  pub given : IsTold before → Gives view result next after (reading (rest_at place before))
  pub never_fell : NeverFell faults_before faults_after
  pub cause : AnswerHasCause faults_before faults_after result

-- The same of a value that tells itself how far it was read.
abbrev pub GivesUpTo : {X A : Type 0} → (X → A) → (X → ℕ) → Result X (ReadStop ImageFaultAnswer) → Option (List ℕ) → Reading A → Type 0
GivesUpTo view place_of (Ok value) after reading = IsTold after × (reading ≡ Ok (view value, rest_at (place_of value) after))
GivesUpTo view place_of (Err stop) after reading = StopsAt stop reading

-- What a call did that reads a part of an image from a place on, up to the one that its value tells.
pub record ReadsUpTo {X A : Type 0} (view : X → A) (place_of : X → ℕ) (before after : Option (List ℕ)) (faults_before faults_after place : ℕ) (result : Result X (ReadStop ImageFaultAnswer)) (reading : Rest → Reading A) : Type 0 where
  pub given : IsTold before → GivesUpTo view place_of result after (reading (rest_at place before))
  pub never_fell : NeverFell faults_before faults_after
  pub cause : AnswerHasCause faults_before faults_after result

-- the test that each number with a sign passes
abbrev pub is_any_signed : ℤ → Bool
is_any_signed n = true
