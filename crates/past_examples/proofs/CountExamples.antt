-- The worked counts of faults.
use Rattle.std.proofs.Common.{ℕ, ◌≡◌, ◌≤◌, ◌-◌, arith, refl, lit≤, le→leb}
use Rattle.ssd_geo.specs.Faults.{greatest_count}
use Rattle.ssd_histories.specs.History.{past_of}
use Rattle.ssd_histories.specs.HistoryExamples.{faulted_history, worn_history}
use Rattle.ssd_histories.specs.Standing.{faults_of}
use Rattle.past_examples.specs.CountExamples.{AreCounts, AreNoCounts, from_full, from_zero, with_loads}

-- one fault isn't none
not_none : (faults : ℕ) → faults ≡ 1 → faults ≡ 0 → ⊥
not_none faults one none = omega (arith, one, none)

not_below : (now before : ℕ) → now ≡ before → before ≤ now
not_below now before same = omega (arith, same)

not_above : (now before : ℕ) → now ≡ before → now ≤ before
not_above now before same = omega (arith, same)

pub one : AreCounts (from_zero faulted_history 1 1)
one within = record { work_rose = lit≤ tt; work_stays = λ none. absurd (not_none (faults_of 1 (past_of faulted_history)) refl none); load_stays = refl }

pub more : AreCounts (from_zero faulted_history 1 5)
more within = record { work_rose = lit≤ tt; work_stays = λ none. absurd (not_none (faults_of 1 (past_of faulted_history)) refl none); load_stays = refl }

pub other_die : AreCounts (from_zero faulted_history 0 0)
other_die within = record { work_rose = lit≤ tt; work_stays = λ none. refl; load_stays = refl }

pub answered_fail : AreCounts (from_zero worn_history 0 0)
answered_fail within = record { work_rose = lit≤ tt; work_stays = λ none. refl; load_stays = refl }

pub full : AreCounts (from_full faulted_history greatest_count)
full within = record { work_rose = lit≤ tt; work_stays = λ none. absurd (not_none (faults_of 1 (past_of faulted_history)) refl none); load_stays = refl }

pub loads : AreCounts (with_loads faulted_history 3)
loads within = record { work_rose = lit≤ tt; work_stays = λ none. absurd (not_none (faults_of 1 (past_of faulted_history)) refl none); load_stays = refl }

pub not_counted : AreNoCounts (from_zero faulted_history 1 0)
not_counted within counts = le→leb 1 0 counts.work_rose

pub below_full : AreNoCounts (from_full faulted_history (greatest_count - 1))
below_full within counts = le→leb greatest_count (greatest_count - 1) counts.work_rose

pub told_of_none : AreNoCounts (from_zero faulted_history 0 1)
told_of_none within counts = not_none 1 refl (counts.work_stays refl)

pub load_fell : AreNoCounts (with_loads faulted_history 2)
load_fell within counts = le→leb 3 2 (not_below 2 3 counts.load_stays)

pub load_rose : AreNoCounts (with_loads faulted_history 4)
load_rose within counts = le→leb 4 3 (not_above 4 3 counts.load_stays)
