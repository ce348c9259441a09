-- The counts of the dies of a drive that stood still are those of its channels.
use Rattle.std.proofs.Common.{ℕ, zero, suc, ◌≡◌, ◌+◌, ◌*◌, ◌<◌, ◌≤◌, List, [], ◌∷◌, drop, map, take, sym, ap, subst, ◌∙◌, arith, mul-le-mul_right}
use Rattle.std.specs.Prelude.{Option}
use Rattle.std.specs.List.{range_with_len}
use Rattle.std.proofs.lemmas.List.{get_or-drop, get_or-take}
use Rattle.ssd_formats.specs.ImageContents.{ChannelImage}
use Rattle.ssd_formats.specs.ImageHead.{Head}
use Rattle.ssd_geo.specs.Limits.{Sizes}
use Rattle.ssd_geo.specs.declared.entry.Entry.{Entry}
use Rattle.ssd_geo.specs.declared.policy_view.PolicyView.{PolicyView}
use Rattle.ssd_geo.specs.declared.shape.Shape.{Shape}
use Rattle.ssd_histories.specs.Standing.{count_at}
use Rattle.run_laws.specs.HandedCounts.{counts_of_channel, handed_to}
use Rattle.run_laws.specs.Headline.{AreCounted}
use Rattle.run_laws.specs.Runs.{FaultCounts, runs_with}
use Rattle.run_laws.specs.Starts.{starts_from}
use Rattle.complete_runs.specs.UncountedRuns.{CountNone, StoodStill, UncountedDiesCountNone}

-- the count of a die of a channel, from those of all dies
own_count : (dies channel die : ℕ) (counts : List ℕ) → die < dies →
    count_at (take dies (drop (channel * dies) counts)) die ≡ count_at counts (channel * dies + die)
own_count dies channel die counts low =
    get_or-take dies (drop (channel * dies) counts) die 0 low ∙ get_or-drop (channel * dies) counts die 0

own_still : (dies channel die : ℕ) (before after : List ℕ) → die < dies →
    StoodStill (count_at before (channel * dies + die)) (count_at after (channel * dies + die)) →
    StoodStill (count_at (take dies (drop (channel * dies) before)) die) (count_at (take dies (drop (channel * dies) after)) die)
own_still dies channel die before after low still =
    subst (λ (now : ℕ). StoodStill (count_at (take dies (drop (channel * dies) before)) die) now) (sym (own_count dies channel die after low))
    (subst (λ (was : ℕ). StoodStill was (count_at after (channel * dies + die))) (sym (own_count dies channel die before low)) still)

module _ (shape : Shape) (head : Head) (limit dies : ℕ) (same : shape.dies ≡ dies) (before after : FaultCounts) (views : List (Option PolicyView)) where
  all_still : (from count : ℕ) (saved : List ChannelImage) (pasts : List (List Entry)) →
      ((channel die : ℕ) → channel < from + count → die < dies →
      StoodStill (count_at before.work (channel * dies + die)) (count_at after.work (channel * dies + die))) →
      AreCounted (runs_with (starts_from shape head limit from saved (map (handed_to dies before views) (range_with_len from count))) pasts)
      (map (counts_of_channel dies after) (range_with_len from count)) →
      CountNone (runs_with (starts_from shape head limit from saved (map (handed_to dies before views) (range_with_len from count))) pasts)
      (map (counts_of_channel dies after) (range_with_len from count))
  all_still from zero [] pasts still counted = tt
  all_still from zero (first ∷ saved) pasts still counted = tt
  all_still from (suc count) [] pasts still counted = absurd counted
  all_still from (suc count) (first ∷ saved) [] still counted = absurd counted
  all_still from (suc count) (first ∷ saved) (past ∷ pasts) still counted = (
    λ die low.
        let own : die < dies = omega (arith, low, same) in
        own_still dies from die before.work after.work own (still from die (omega arith) own),
    all_still (from + 1) count saved pasts (λ channel die low own. still channel die (omega arith) own) counted.1,
  )

-- the number of a die of a drive
die_number : (channels dies channel die : ℕ) → channel < channels → die < dies → channel * dies + die < channels * dies
die_number channels dies channel die low own =
    let whole : suc channel * dies ≤ channels * dies = mul-le-mul_right dies (omega arith) in
    let one : suc channel * dies ≡ channel * dies + dies = grind arith in
    omega (arith, whole, one)

pub uncounted_dies_count_none : UncountedDiesCountNone
uncounted_dies_count_none asked limit before after views run over ordered still =
    let channels : ℕ = asked.head.sizes.channels in
    let dies : ℕ = asked.head.sizes.dies in
    let same : over.begins.shape.dies ≡ dies = ap {B = ℕ} (λ (sizes : Sizes). sizes.dies) over.begins.sizes_are in
    let counted = ordered.are_counted in
    rw (over.begins.starts_are, over.faults_are)
    (all_still over.begins.shape asked.head limit dies same before after views 0 channels asked.channels run.pasts
    (λ channel die low own. still (channel * dies + die) (die_number channels dies channel die (omega arith) own))
    (rw (sym over.begins.starts_are, sym over.faults_are) counted))
