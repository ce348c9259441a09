-- Which counts of faults fit a history? Each entry that tells of a failed call of a die raises the die's work count by one at
-- least; a program or an erase that answers FAIL doesn't. A full count stays, and so does one of which no entry tells.
use Rattle.std.specs.Prelude.{ℕ, List, [], ◌∷◌}
use Rattle.ssd_geo.specs.Faults.{greatest_count}
use Rattle.ssd_histories.specs.History.{past_of}
use Rattle.ssd_histories.specs.HistoryExamples.{AreWithinLimits, blank_start}
use Rattle.ssd_histories.specs.Standing.{CountsFaults}
use Rattle.ssd_geo.specs.declared.entry.Entry.{Entry}

-- a die of a channel, with its counts of work and of loads before a history and after it
pub record CountCase : Type 0 where
  pub history : List Entry
  pub die : ℕ
  pub work_before : List ℕ
  pub load_before : List ℕ
  pub work : ℕ
  pub load : ℕ

abbrev pub AreCounted : AreWithinLimits → CountCase → Type 0
AreCounted within case =
    CountsFaults (record (blank_start [] within) { work_faults = case.work_before; load_faults = case.load_before }) (past_of case.history) case.die case.work case.load

abbrev pub AreCounts : CountCase → Type 0
AreCounts case = (within : AreWithinLimits) → AreCounted within case

abbrev pub AreNoCounts : CountCase → Type 0
AreNoCounts case = (within : AreWithinLimits) → AreCounted within case → ⊥

-- a die's counts after a history, all counts being 0 before it
abbrev pub from_zero : List Entry → ℕ → ℕ → CountCase
from_zero history die work =
    record { history = history; die = die; work_before = 0 ∷ 0 ∷ 0 ∷ []; load_before = 0 ∷ 0 ∷ 0 ∷ []; work = work; load = 0 }

-- the same, where die 1 had a full count
abbrev pub from_full : List Entry → ℕ → CountCase
from_full history work =
    record { history = history; die = 1; work_before = 0 ∷ greatest_count ∷ 0 ∷ []; load_before = 0 ∷ 0 ∷ 0 ∷ []; work = work; load = 0 }

-- the same, where die 1 had three faults of loads and has so many now
abbrev pub with_loads : List Entry → ℕ → CountCase
with_loads history load =
    record { history = history; die = 1; work_before = 0 ∷ 0 ∷ 0 ∷ []; load_before = 0 ∷ 3 ∷ 0 ∷ []; work = 1; load = load }
