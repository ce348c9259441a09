-- What do the dies of a run hold and count at its end? Channel c has the dies from number c * K on, with K dies on each
-- channel. They have programmed the pages that the channel's past says, with their levels; each superblock that isn't bad was
-- erased as often as the past says; and they counted the faults of which its entries tell.
use Rattle.std.specs.Prelude.{ℕ, ◌≡◌, ◌+◌, ◌*◌, ◌<◌, IsTrue, IsFalse, List, [], ◌∷◌, drop, map, take, ⊤}
use Rattle.chan_fits.specs.DiesFit.{DiesFit, stored_levels, told_erases, told_page}
use Rattle.onfi_cmd.specs.DieState.{DieState}
use Rattle.run_laws.specs.Headline.{CountsAll}
use Rattle.run_laws.specs.Runs.{FaultCounts}
use Rattle.ssd_geo.specs.declared.entry.Entry.{Entry}
use Rattle.ssd_geo.specs.declared.place.Place.{Place}
use Rattle.ssd_geo.specs.declared.tag.Tag.{Tag}
use Rattle.ssd_histories.specs.CallsInOrder.{ChannelRun}
use Rattle.ssd_histories.specs.PastBlocks.{erases_of, state_of}
use Rattle.ssd_histories.specs.Ranges.{has_place}
use Rattle.ssd_histories.specs.Start.{Start}
use Rattle.ssd_histories.specs.States.{is_bad}

-- the dies of a channel, among those of the drive
abbrev pub dies_of_channel : ℕ → List DieState → ℕ → List DieState
dies_of_channel count dies channel = take count (drop (channel * count) dies)

-- the counts of faults of dies
abbrev pub counts_of : List DieState → FaultCounts
counts_of dies = record { work = map (λ die. die.work_count) dies; load = map (λ die. die.load_count) dies }

-- the dies of a channel hold what its past says
pub record HoldPast (contents : List (Tag × List ℕ)) (run : ChannelRun) (dies : List DieState) : Type 0 where
  pub pages_are :
      (place : Place) → IsTrue (has_place run.start.base.shape place)
      → told_page dies place ≡ stored_levels run.start contents run.past place
  pub erases_are :
      (die sb : ℕ) → die < run.start.base.shape.dies → sb < run.start.base.shape.superblocks
      → IsFalse (is_bad (state_of run.start.base run.past sb))
      → told_erases dies die sb ≡ erases_of run.start.base run.past sb

-- so do those of each channel from this number on, and of each channel of a run
abbrev pub HoldPastsFrom : List (Tag × List ℕ) → ℕ → List DieState → ℕ → List ChannelRun → Type 0
HoldPastsFrom contents count dies channel [] = ⊤
HoldPastsFrom contents count dies channel (run ∷ runs) =
    HoldPast contents run (dies_of_channel count dies channel) × HoldPastsFrom contents count dies (channel + 1) runs

abbrev pub HoldPasts : List (Tag × List ℕ) → ℕ → List DieState → List ChannelRun → Type 0
HoldPasts contents count dies runs = HoldPastsFrom contents count dies 0 runs

-- dies that fit a start after a past hold what it says, and counted the faults of which it tells
pub record HoldAndCount (contents : List (Tag × List ℕ)) (run : ChannelRun) (dies : List DieState) : Type 0 where
  pub hold : HoldPast contents run dies
  pub count : CountsAll run (counts_of dies)

abbrev pub FittingDiesHold : Type 0
FittingDiesHold =
    (start : Start) (contents : List (Tag × List ℕ)) (past : List Entry) (dies : List DieState) (sum : List ℕ) →
    DiesFit start contents past dies sum → HoldAndCount contents (record { start = start; past = past }) dies
