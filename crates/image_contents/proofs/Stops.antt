-- What a stop of a part says of the whole.
use Rattle.std.proofs.Common.{◌≡◌, ℕ, List, Option, Ok, Err, refl, sym, subst, arith}
use Rattle.ssd_formats.specs.Fields.{Fault, Reading, Rest}
use Rattle.ssd_geo.specs.Faults.{NeverFell}
use Rattle.ssd_io.specs.Told.{IsTold}
use Rattle.image_file.proofs.LevelSteps.{cause_earlier}
use Rattle.image_file.specs.Gives.{Reads, StopsAt, named_fault, rest_at}
use Rattle.image_file.specs.StopCauses.{StopHasCause}
use Rattle.image_file.specs.declared.stop.ImageFault.{ImageFault}
use Rattle.image_file.specs.declared.stop.ReadStop.{ReadStop}
use Rattle.image_file.specs.declared.stop.ReadStop.TheVariants.{Fault as FaultAt, ReadFault, DieFailed, Memory}
use Rattle.image_contents.specs.DiesLoaded.{CountsLoad}
use Rattle.image_contents.specs.Loads.{Loads, StopsAtOrFails, StopHasReadCause}

-- a stop of a part that stops the whole at each fault
pub stops_on : {A B : Type 0} (stop : ReadStop ImageFault) (part : Reading A) (whole : Reading B)
    → ((fault : Fault) → part ≡ Err fault → whole ≡ Err fault) → StopsAtOrFails stop part → StopsAtOrFails stop whole
stops_on (FaultAt at fault) part whole each stops = each (at, named_fault fault) stops
stops_on ReadFault part whole each stops = tt
stops_on (DieFailed die) part whole each stops = tt
stops_on Memory part whole each stops = tt

-- the same where no die has a part in it
pub stops_at_on : {A B : Type 0} (stop : ReadStop ImageFault) (part : Reading A) (whole : Reading B)
    → ((fault : Fault) → part ≡ Err fault → whole ≡ Err fault) → StopsAt stop part → StopsAt stop whole
stops_at_on (FaultAt at fault) part whole each stops = each (at, named_fault fault) stops
stops_at_on ReadFault part whole each stops = tt
stops_at_on (DieFailed die) part whole each stops = absurd stops
stops_at_on Memory part whole each stops = tt

-- a stop in which no die has a part is one in which one may have
pub stops_also : {A : Type 0} (stop : ReadStop ImageFault) (reading : Reading A) → StopsAt stop reading → StopsAtOrFails stop reading
stops_also (FaultAt at fault) reading stops = stops
stops_also ReadFault reading stops = tt
stops_also (DieFailed die) reading stops = tt
stops_also Memory reading stops = tt

pub cause_also : (stop : ReadStop ImageFault) (before now : ℕ) → StopHasCause before now stop → StopHasReadCause before now stop
cause_also (FaultAt at fault) before now cause = cause
cause_also ReadFault before now cause = cause
cause_also (DieFailed die) before now cause = absurd cause
cause_also Memory before now cause = cause

-- where the source stopped, no die counted a load
pub source_stops : (X : Type 0) (stop : ReadStop ImageFault) (before now number loads : ℕ) → StopHasCause before now stop → CountsLoad {X = X} number loads loads (Err stop)
source_stops X (FaultAt at fault) before now number loads cause = refl
source_stops X ReadFault before now number loads cause = refl
source_stops X (DieFailed die) before now number loads cause = absurd cause
source_stops X Memory before now number loads cause = refl

-- a cause in a later part is one in the whole
pub read_cause_earlier : (stop : ReadStop ImageFault) (first before now : ℕ) → before ≡ first → StopHasReadCause before now stop → StopHasReadCause first now stop
read_cause_earlier stop first before now same cause = subst (λ (n : ℕ). StopHasReadCause n now stop) same cause

-- what a first part that stops does to the whole
pub first_stops : {X Y A B : Type 0} (view : X → A) (Stands : Y → B → Type 0) (a b : Option (List ℕ)) (before now place next after : ℕ) (stop : ReadStop ImageFault)
    (part : Rest → Reading A) (whole : Rest → Reading B) → ((rest : Rest) (fault : Fault) → part rest ≡ Err fault → whole rest ≡ Err fault)
    → Reads view a b before now place next (Err stop) part → Loads Stands a b before now place after (Err stop) whole
first_stops view Stands a b before now place next after stop part whole each read = record {
  given = λ told.
      stops_on stop (part (rest_at place a)) (whole (rest_at place a)) (each (rest_at place a))
      (stops_also stop (part (rest_at place a)) (read.given told));
  never_fell = read.never_fell;
  cause = cause_also stop before now read.cause;
}

-- the same where a die may have a part in it
pub first_load_stops : {X Y A B : Type 0} (Part : X → A → Type 0) (Stands : Y → B → Type 0) (a b : Option (List ℕ)) (before now place next after : ℕ) (stop : ReadStop ImageFault)
    (part : Rest → Reading A) (whole : Rest → Reading B) → ((rest : Rest) (fault : Fault) → part rest ≡ Err fault → whole rest ≡ Err fault)
    → Loads Part a b before now place next (Err stop) part → Loads Stands a b before now place after (Err stop) whole
first_load_stops Part Stands a b before now place next after stop part whole each read = record {
  given = λ told. stops_on stop (part (rest_at place a)) (whole (rest_at place a)) (each (rest_at place a)) (read.given told);
  never_fell = read.never_fell;
  cause = read.cause;
}

-- a later part that stops stops the whole
pub later_load_stops : {X Y A B : Type 0} (Part : X → A → Type 0) (Stands : Y → B → Type 0) (a b c : Option (List ℕ)) (first before now start place next after : ℕ) (stop : ReadStop ImageFault)
    (part : Rest → Reading A) (whole : Rest → Reading B)
    → (IsTold a → IsTold b × ((fault : Fault) → part (rest_at place b) ≡ Err fault → whole (rest_at start a) ≡ Err fault)) → before ≡ first
    → Loads Part b c before now place next (Err stop) part → Loads Stands a c first now start after (Err stop) whole
later_load_stops Part Stands a b c first before now start place next after stop part whole each same read = record {
  given = λ told.
      let here = each told in
      stops_on stop (part (rest_at place b)) (whole (rest_at start a)) here.1 (read.given here.0);
  never_fell = subst (λ (n : ℕ). NeverFell n now) same read.never_fell;
  cause = read_cause_earlier stop first before now same read.cause;
}

pub later_stops : {X Y A B : Type 0} (view : X → A) (Stands : Y → B → Type 0) (a b c : Option (List ℕ)) (first before now start place next after : ℕ) (stop : ReadStop ImageFault)
    (part : Rest → Reading A) (whole : Rest → Reading B)
    → (IsTold a → IsTold b × ((fault : Fault) → part (rest_at place b) ≡ Err fault → whole (rest_at start a) ≡ Err fault)) → before ≡ first
    → Reads view b c before now place next (Err stop) part → Loads Stands a c first now start after (Err stop) whole
later_stops view Stands a b c first before now start place next after stop part whole each same read = record {
  given = λ told.
      let here = each told in
      stops_on stop (part (rest_at place b)) (whole (rest_at start a)) here.1 (stops_also stop (part (rest_at place b)) (read.given here.0));
  never_fell = subst (λ (n : ℕ). NeverFell n now) same read.never_fell;
  cause = read_cause_earlier stop first before now same (cause_also stop before now read.cause);
}

-- the same where the whole has no die in it either
pub later_read_stops : {X Y A B : Type 0} (view : X → A) (other : Y → B) (a b c : Option (List ℕ)) (first before now start place next after : ℕ) (stop : ReadStop ImageFault)
    (part : Rest → Reading A) (whole : Rest → Reading B)
    → (IsTold a → IsTold b × ((fault : Fault) → part (rest_at place b) ≡ Err fault → whole (rest_at start a) ≡ Err fault)) → before ≡ first
    → Reads view b c before now place next (Err stop) part → Reads other a c first now start after (Err stop) whole
later_read_stops view other a b c first before now start place next after stop part whole each same read = record {
  given = λ told.
      let here = each told in
      stops_at_on stop (part (rest_at place b)) (whole (rest_at start a)) here.1 (read.given here.0);
  never_fell = subst (λ (n : ℕ). NeverFell n now) same read.never_fell;
  cause = cause_earlier stop first before now same read.cause;
}

-- a call of a die failed: nothing is said of the bytes
pub die_stops : {X A : Type 0} (Stands : X → A → Type 0) (a b : Option (List ℕ)) (before now place next die : ℕ) (whole : Rest → Reading A)
    → now ≡ before → Loads Stands a b before now place next (Err (DieFailed die)) whole
die_stops Stands a b before now place next die whole same = record {
  given = λ told. tt;
  never_fell = subst (λ (n : ℕ). NeverFell before n) (sym same) (omega arith);
  cause = same;
}

-- all was read
pub all_read : {X A : Type 0} (Stands : X → A → Type 0) (a b : Option (List ℕ)) (before now place next : ℕ) (answer : X) (value : A) (whole : Rest → Reading A)
    → now ≡ before → Stands answer value → (IsTold a → IsTold b × (whole (rest_at place a) ≡ Ok (value, rest_at next b)))
    → Loads Stands a b before now place next (Ok answer) whole
all_read Stands a b before now place next answer value whole same stands given = record {
  given = (value, stands, given);
  never_fell = subst (λ (n : ℕ). NeverFell before n) (sym same) (omega arith);
  cause = same;
}
