-- With what do the channels of a run begin where dies and policies are handed in, and what do the dies count at the end?
-- Channel c has the dies from number c * K on, with K dies on each channel, and the view that policy c tells, if it tells
-- one. The counts at the end are those of the dies that are handed back.
use Rattle.std.specs.Prelude.{ℕ, ◌≡◌, ◌*◌, List, drop, map, slice_index_or, take, Option, None}
use Rattle.std.specs.List.{range_with_len}
use Rattle.ssd_formats.specs.Input.{Input}
use Rattle.ssd_geo.specs.declared.policy_view.PolicyView.{PolicyView}
use Rattle.run_laws.specs.Runs.{FaultCounts, Run}
use Rattle.run_laws.specs.Starts.{BeginsWith, Handed}

-- the counts of the dies of a channel, from those of all dies
abbrev pub counts_of_channel : ℕ → FaultCounts → ℕ → FaultCounts
counts_of_channel dies all channel =
    record { work = take dies (drop (channel * dies) all.work); load = take dies (drop (channel * dies) all.load) }

-- those of each of so many channels
abbrev pub counts_by_channel : ℕ → ℕ → FaultCounts → List FaultCounts
counts_by_channel channels dies all = map (counts_of_channel dies all) (range_with_len 0 channels)

-- what is handed in for a channel, and for each of so many
abbrev pub handed_to : ℕ → FaultCounts → List (Option PolicyView) → ℕ → Handed
handed_to dies all views channel =
    record { faults = counts_of_channel dies all channel; view = slice_index_or views channel None }

abbrev pub handed_by_channel : ℕ → ℕ → FaultCounts → List (Option PolicyView) → List Handed
handed_by_channel channels dies all views = map (handed_to dies all views) (range_with_len 0 channels)

-- a run is one of an input over dies with these counts before and after it, policies that tell these views, and this limit
-- of the histories
pub record IsRunOver (asked : Input) (limit : ℕ) (before after : FaultCounts) (views : List (Option PolicyView)) (run : Run)
    : Type 0 where
  pub calls_are : run.calls ≡ asked.calls
  pub begins :
      BeginsWith asked.head asked.channels limit
      (handed_by_channel asked.head.sizes.channels asked.head.sizes.dies before views) run
  pub faults_are : run.faults ≡ counts_by_channel asked.head.sizes.channels asked.head.sizes.dies after
