-- What does the call answer that reads the head of an image? Where the source tells its bytes it answers the head that
-- they begin with, or their first fault. Only a failed read of the source and want of memory may come in its place.
use Rattle.std.specs.Prelude.{ℕ, List, Option, Some, None, Result, Ok, Err}
use Rattle.ssd_formats.specs.Input.{HasHead, HasNoHead}
use Rattle.ssd_geo.specs.declared.head.ImageHead.{ImageHead}
use Rattle.image_file.specs.Gives.{named_fault}
use Rattle.image_file.specs.declared.stop.ImageFault.{ImageFault}
use Rattle.image_file.specs.declared.stop.ReadStop.{ReadStop}
use Rattle.image_file.specs.declared.stop.ReadStop.TheVariants.{Fault as FaultAt, ReadFault, DieFailed, Memory}

-- the stop is the first fault of these bytes, or none that bytes can have
abbrev pub StopsHead : List ℕ → ReadStop ImageFault → Type 0
StopsHead bytes (FaultAt at fault) = HasNoHead bytes at (named_fault fault)
StopsHead bytes ReadFault = Unit {0}
StopsHead bytes (DieFailed die) = ⊥
StopsHead bytes Memory = Unit {0}

-- the bytes before and after, each where they are told: a source that told its bytes goes on telling them
abbrev pub ReadsHead : Option (List ℕ) → Option (List ℕ) → Result ImageHead (ReadStop ImageFault) → Type 0
ReadsHead None left result = Unit {0}
ReadsHead (Some bytes) None (Ok head) = ⊥
ReadsHead (Some bytes) (Some left) (Ok head) = HasHead bytes head left
ReadsHead (Some bytes) left (Err stop) = StopsHead bytes stop
