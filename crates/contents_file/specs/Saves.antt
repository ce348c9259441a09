-- What does a call do that writes contents of an image, whose levels are copied from dies? It appends their bytes, or the
-- first of them where the sink or a die fails. The sink's count of faults rises where the sink fails, and only there.
use Rattle.std.specs.Prelude.{◌≡◌, ℕ, ◌≤◌, List, length, take, Option, Result, Ok, Err, OnErr, OnOk}
use Rattle.std.specs.Io.KnownBytes.{Appends}
use Rattle.ssd_geo.specs.Faults.{NeverFell, Rose}
use Rattle.ssd_io.specs.Pieces.{AppendsFront}
use Rattle.contents_file.specs.declared.stop.WriteStop.{WriteStop}
use Rattle.contents_file.specs.declared.stop.WriteStop.TheVariants.{WriteFault, DieFailed}

-- an answer, by the sink's count before and after the call
abbrev pub HasWriteCause : {T : Type 0} → ℕ → ℕ → Result T WriteStop → Type 0
HasWriteCause before now (Ok done) = now ≡ before
HasWriteCause before now (Err WriteFault) = Rose before now
HasWriteCause before now (Err (DieFailed die)) = now ≡ before

-- known bytes grew by the first of these bytes, maybe by all of them
abbrev pub AppendsFirst : Option (List ℕ) → Option (List ℕ) → List ℕ → Type 0
AppendsFirst old new bytes = (n : ℕ) × (n ≤ length bytes) × Appends old new (take n bytes)

-- a call that writes the bytes of a part of the contents: what the sink tells of its bytes and its count of faults, the sink
-- before and after, and the answer. A part may have no bytes
pub record Puts {O T : Type 0} (written : O → Option (List ℕ)) (faults : O → ℕ) (output output' : O) (result : Result T WriteStop) (bytes : List ℕ) : Type 0 where
  pub all : OnOk result (Appends (written output) (written output') bytes)
  pub first : OnErr result (AppendsFirst (written output) (written output') bytes)
  pub never_fell : NeverFell (faults output) (faults output')
  pub cause : HasWriteCause (faults output) (faults output') result

-- the same of the whole contents: after a stop they aren't all written
pub record Saves {O T : Type 0} (written : O → Option (List ℕ)) (faults : O → ℕ) (output output' : O) (result : Result T WriteStop) (bytes : List ℕ) : Type 0 where
  pub all : OnOk result (Appends (written output) (written output') bytes)
  pub front : OnErr result (AppendsFront (written output) (written output') bytes)
  pub never_fell : NeverFell (faults output) (faults output')
  pub cause : HasWriteCause (faults output) (faults output') result
