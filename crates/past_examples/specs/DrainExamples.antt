-- Which calls are drains? One goes on until it has as many pages as it asked for, until no page waits, or until a die's call
-- fails. One that goes on after that, one that takes the newest page and one that stops early just miss.
use Rattle.std.specs.Prelude.{ℕ, false, List, [], ◌∷◌, pos}
use Rattle.ssd_histories.specs.HistoryExamples.{AreWithinLimits, page, place, step, tag_of}
use Rattle.ssd_histories.specs.PageMap.{slot_at}
use Rattle.ssd_histories.specs.SerialHistory.{SerialDrain}
use Rattle.ssd_geo.specs.declared.entry.Entry.{Entry}
use Rattle.ssd_geo.specs.declared.kind.Kind.{Kind}
use Rattle.ssd_geo.specs.declared.row.Row.{Row}
use Rattle.past_examples.specs.WorkedRuns.{WorkedRun, channel_to, state_of}

-- a history as that of a channel without weak blocks
abbrev pub history_run : List Entry → WorkedRun
history_run history = record { weak = []; contents = []; calls = []; replies = []; history = history }

-- the rows of two pages that wait are empty
abbrev pub empty_rows : List Entry
empty_rows =
    step 0 0 (Kind.Look 1 Row.Empty false)
    ∷ step 0 0 (Kind.Look 2 Row.Empty false)
    ∷ []

-- the row of the page that came last is looked at first
abbrev pub newest_first : List Entry
newest_first = step 0 0 (Kind.Look 2 Row.Empty false) ∷ []

-- a die's call fails in the refresh of row 0, and then row 1 is looked at
abbrev pub failed_refresh : List Entry
failed_refresh =
    step 0 0 (Kind.Write 0 (slot_at 0 0))
    ∷ step 0 1 (Kind.Look 0 (page 0 0 0) false)
    ∷ step 0 1 (Kind.FaultSense 1 (place 1 0 0) (pos 0))
    ∷ step 0 1 (Kind.Leave 1)
    ∷ step 0 1 (Kind.Look 1 Row.Empty false)
    ∷ []

-- a drain of a call leads from the first entries of a history to more of them: it asks for so many pages of those that
-- wait, takes these, and leaves these
pub record DrainCase : Type 0 where
  pub history : List Entry
  pub call : ℕ
  pub first : ℕ
  pub waiting : List ℕ
  pub asked : ℕ
  pub taken : List ℕ
  pub last : ℕ
  pub left : List ℕ

abbrev pub IsDrained : AreWithinLimits → DrainCase → Type 0
IsDrained within case =
    SerialDrain [] 1 (tag_of 0 case.call) case.asked case.taken
    (state_of (channel_to case.first (history_run case.history) within) case.waiting)
    (state_of (channel_to case.last (history_run case.history) within) case.left)

abbrev pub IsDrain : DrainCase → Type 0
IsDrain case = (within : AreWithinLimits) → IsDrained within case

abbrev pub IsNoDrain : DrainCase → Type 0
IsNoDrain case = (within : AreWithinLimits) → IsDrained within case → ⊥

-- it takes both pages and finds no third; and it takes just the one that it asked for
abbrev pub takes_both : DrainCase
takes_both =
    record { history = empty_rows; call = 0; first = 0; waiting = 1 ∷ 2 ∷ []; asked = 4; taken = 1 ∷ 2 ∷ []; last = 2; left = [] }

abbrev pub takes_one : DrainCase
takes_one =
    record { history = empty_rows; call = 0; first = 0; waiting = 1 ∷ 2 ∷ []; asked = 1; taken = 1 ∷ []; last = 1; left = 2 ∷ [] }

-- it stops at a fault, with a page left
abbrev pub stops_at_fault : DrainCase
stops_at_fault =
    record { history = failed_refresh; call = 1; first = 1; waiting = 0 ∷ 1 ∷ []; asked = 2; taken = 0 ∷ []; last = 4; left = 1 ∷ [] }

-- it goes on after the fault
abbrev pub goes_on_after_fault : DrainCase
goes_on_after_fault =
    record { history = failed_refresh; call = 1; first = 1; waiting = 0 ∷ 1 ∷ []; asked = 2; taken = 0 ∷ 1 ∷ []; last = 5; left = [] }

-- it takes the newest page
abbrev pub takes_newest : DrainCase
takes_newest =
    record { history = newest_first; call = 0; first = 0; waiting = 1 ∷ 2 ∷ []; asked = 1; taken = 2 ∷ []; last = 1; left = 1 ∷ [] }

-- it stops though it asked for two pages, one still waits and no call failed
abbrev pub stops_early : DrainCase
stops_early =
    record { history = empty_rows; call = 0; first = 0; waiting = 1 ∷ 2 ∷ []; asked = 2; taken = 1 ∷ []; last = 1; left = 2 ∷ [] }
