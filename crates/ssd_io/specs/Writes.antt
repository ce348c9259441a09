-- What does a call do that writes bytes to a sink? It appends them all, or a front of them where the sink fails.
use Rattle.std.specs.Prelude.{ℕ, ◌≡◌, List, Option, Result, OnOk, OnErr}
use Rattle.std.specs.Io.KnownBytes.{Appends}
use Rattle.ssd_io.specs.FaultCounts.{MatchesCount}
use Rattle.ssd_io.specs.Pieces.{AppendsFront}

-- what a sink tells of its bytes and its count of faults, the sink before and after, and the answer
pub record Writes {O T E : Type 0} (written : O → Option (List ℕ)) (faults : O → ℕ) (output output' : O) (result : Result T E) (bytes : List ℕ) : Type 0 where
  pub all : OnOk result (Appends (written output) (written output') bytes)
  pub front : OnErr result (AppendsFront (written output) (written output') bytes)
  pub cause : MatchesCount (faults output) (faults output') result

-- midway in such a call: these bytes were appended, and no write failed
pub record Wrote {O : Type 0} (written : O → Option (List ℕ)) (faults : O → ℕ) (output output' : O) (bytes : List ℕ) : Type 0 where
  pub appended : Appends (written output) (written output') bytes
  pub stays : faults output' ≡ faults output
