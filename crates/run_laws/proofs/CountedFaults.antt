-- Where a die's work count is what it was at the start, no entry tells of its failed calls.
use Rattle.std.proofs.Common.{ℕ, ◌≡◌, ◌<◌, arith}
use Rattle.ssd_geo.specs.Faults.{RoseBy, greatest_count}
use Rattle.ssd_histories.specs.Standing.{count_at, faults_of}
use Rattle.run_laws.specs.CountedFaults.{UncountedFaultsAreNone}

none_rose : (faults before now : ℕ) → RoseBy faults before now → now ≡ before → now < greatest_count → faults ≡ 0
none_rose faults before now rose same low = omega (arith, rose, same, low)

pub uncounted_faults_are_none : UncountedFaultsAreNone
uncounted_faults_are_none channel counts die counted low same below =
    none_rose (faults_of die channel.past) (count_at channel.start.work_faults die) (count_at counts.work die) (counted die low).work_rose same below
