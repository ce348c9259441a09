-- What do the counts of a channel's dies say of its entries? Where the work count of a die is at the end what it was at the start,
-- and isn't at the greatest value, where it would stay, no entry tells of a failed call of that die.
use Rattle.std.specs.Prelude.{ℕ, ◌≡◌, ◌<◌}
use Rattle.ssd_geo.specs.Faults.{greatest_count}
use Rattle.ssd_histories.specs.CallsInOrder.{ChannelRun}
use Rattle.ssd_histories.specs.Standing.{count_at, faults_of}
use Rattle.run_laws.specs.Headline.{CountsAll}
use Rattle.run_laws.specs.Runs.{FaultCounts}

abbrev pub UncountedFaultsAreNone : Type 0
UncountedFaultsAreNone =
    (channel : ChannelRun) (counts : FaultCounts) (die : ℕ) → CountsAll channel counts → die < channel.start.base.shape.dies →
    count_at counts.work die ≡ count_at channel.start.work_faults die → count_at counts.work die < greatest_count →
    faults_of die channel.past ≡ 0
