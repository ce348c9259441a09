-- What does an answer say of a count of faults? After Ok the count is as it was, so nothing that failed was made again;
-- after an error it rose.
use Rattle.std.specs.Prelude.{ℕ, ◌≡◌, Result, OnOk, OnErr}
use Rattle.ssd_geo.specs.Faults.{NeverFell, Rose}

-- an answer and the count before and after its call
pub record MatchesCount {T E : Type 0} (before now : ℕ) (result : Result T E) : Type 0 where
  pub stays : OnOk result (now ≡ before)
  pub never_fell : NeverFell before now
  pub failed : OnErr result (Rose before now)
