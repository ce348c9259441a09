-- Which calls of a die fail by a list? Those whose number, counted from 1, is listed. The count of calls stays at its
-- greatest value: the calls after that have numbers that no list of u64 has.
use Rattle.std.specs.Prelude.{ℕ, ◌+◌, ◌==◌, Bool, List, if◌then◌else◌}
use Rattle.std.specs.List.{list_any}
use Rattle.ssd_geo.specs.Faults.{count_after}

-- the numbers of the calls that fail, how many calls there were, and how many of them failed
pub record Calls : Type 0 where
  pub failing : List ℕ
  pub done : ℕ
  pub faults : ℕ

-- no call yet
abbrev pub no_calls : List ℕ → Calls
no_calls failing = record { failing = failing; done = 0; faults = 0 }

-- whether the number of the next call is listed
abbrev pub is_next_listed : Calls → Bool
is_next_listed calls = list_any (λ listed. listed == calls.done + 1) calls.failing

-- one call later, which failed or not
abbrev pub calls_after : Calls → Bool → Calls
calls_after calls failed = record {
  failing = calls.failing;
  done = count_after calls.done 1;
  faults = if failed then count_after calls.faults 1 else calls.faults;
}
