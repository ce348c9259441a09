-- The channels of a run, after all its calls or where it stopped: each stands for the start of its number, and
-- its dies, which it gives back, hold what its past says and counted the faults of which that tells.
use Rattle.std.proofs.Common.{ℕ, zero, suc, ◌≡◌, ◌+◌, ◌*◌, ◌<◌, ◌≤◌, inl, inr, List, [], ◌∷◌, ◌++◌, drop, length, map, min, take, Some, Option, refl, sym, ap, subst, ◌∙◌, add-zero, arith}
use Rattle.std.proofs.lemmas.Option.{get_or_from_slice_get}
use Rattle.std.specs.List.{range_with_len}
use Rattle.std.specs.Prelude.{flat_map, slice_get}
use Rattle.blank_drive.proofs.RunStarts.{part_of, start_at}
use Rattle.chan_calls.specs.Workers.{WorkerState}
use Rattle.chan_dies.specs.DiesState.{die_at, no_die}
use Rattle.ctl.specs.Seen.{SeenChannel, pasts_of}
use Rattle.ctl.specs.Served.{AreStanding}
use Rattle.final_dies.proofs.FittingDies.{fitting_dies_hold}
use Rattle.final_dies.specs.FinalDies.{HoldAndCount, HoldPast, HoldPasts, HoldPastsFrom, counts_of, dies_of_channel}
use Rattle.onfi_cmd.specs.DieState.{DieState}
use Rattle.run_laws.specs.HandedCounts.{counts_by_channel, counts_of_channel, handed_by_channel, handed_to}
use Rattle.run_laws.specs.Headline.{AreCounted, CountsAll}
use Rattle.run_laws.specs.Runs.{FaultCounts, runs_with}
use Rattle.run_laws.specs.ServedRuns.{contents_in}
use Rattle.run_laws.specs.Starts.{Handed, start_of, starts_from, starts_of}
use Rattle.ssd_formats.specs.ImageContents.{ChannelImage}
use Rattle.ssd_formats.specs.ImageHead.{Head}
use Rattle.ssd_geo.specs.Faults.{RoseBy, greatest_count}
use Rattle.ssd_geo.specs.Limits.{Sizes}
use Rattle.ssd_geo.specs.Shape.{sizes_of}
use Rattle.ssd_histories.specs.CallsInOrder.{ChannelRun}
use Rattle.ssd_histories.specs.Standing.{CountsFaults, count_at, faults_of}
use Rattle.ssd_histories.specs.Start.{Start}
use Rattle.ssd_geo.specs.declared.policy_view.PolicyView.{PolicyView}
use Rattle.ssd_geo.specs.declared.shape.Shape.{Shape}
use Rattle.ssd_geo.specs.declared.tag.Tag.{Tag}
use Rattle.ssd_geo.specs.declared.trace.Trace.{Trace}
use Rattle.ssd_top.proofs.GivenDies as Given
use Rattle.ssd_top.proofs.GivenDies.{IsInPiece, count_in_part, in_piece_or_old, piece_at}
use Rattle.ssd_top.specs.Forms.{input_of}
use Rattle.ssd_top.specs.HandedBack.{AllCountRuns, CountsRun}
use Rattle.ssd_top.specs.Serving.{GiveBack}

-- what stands in a list has its like in one that is as long
pub like_at : {X Y : Type 0} (xs : List X) (ys : List Y) (k : ℕ) (x : X) → length xs ≡ length ys → slice_get xs k ≡ Some x
    → (y : Y) × (slice_get ys k ≡ Some y)
like_at [] ys k x many is = absurd (cc)
like_at (first ∷ xs) [] k x many is = absurd (omega (arith, many))
like_at (first ∷ xs) (y ∷ ys) zero x many is = (y, refl)
like_at (first ∷ xs) (y ∷ ys) (suc k) x many is = like_at xs ys k x (omega (arith, many)) is

-- there is a start of each channel
as_many_starts : (shape : Shape) (head : Head) (limit : ℕ) (saved : ℕ → ChannelImage) (handed : ℕ → Handed) (from count : ℕ)
    → length
    (starts_from shape head limit from (map saved (range_with_len from count)) (map handed (range_with_len from count)))
    ≡ count
as_many_starts shape head limit saved handed from zero = refl
as_many_starts shape head limit saved handed from (suc count) =
    ap suc (as_many_starts shape head limit saved handed (from + 1) count)

-- ---- facts of each channel of a run by its number, where the first has this one

abbrev run_with : Start → SeenChannel → ChannelRun
run_with start channel = record { start = start; past = channel.kept.past }

abbrev EachFrom : (ℕ → Start → SeenChannel → Type 0) → ℕ → List Start → List SeenChannel → Type 0
EachFrom P from starts channels =
    (n : ℕ) (start : Start) (channel : SeenChannel) → slice_get starts n ≡ Some start → slice_get channels n ≡ Some channel
    → P (from + n) start channel

from_first : (P : ℕ → Start → SeenChannel → Type 0) (starts : List Start) (channels : List SeenChannel)
    → ((n : ℕ) (start : Start) (channel : SeenChannel) → slice_get starts n ≡ Some start → slice_get channels n ≡ Some channel
    → P n start channel)
    → EachFrom P 0 starts channels
from_first P starts channels each n start channel has_start has_channel =
    let same : n ≡ 0 + n = omega arith in
    subst (λ (k : ℕ). P k start channel) same (each n start channel has_start has_channel)

first_of : (P : ℕ → Start → SeenChannel → Type 0) (from : ℕ) (start : Start) (starts : List Start) (channel : SeenChannel)
    (channels : List SeenChannel) → EachFrom P from (start ∷ starts) (channel ∷ channels) → P from start channel
first_of P from start starts channel channels each =
    subst (λ (n : ℕ). P n start channel) (add-zero from) (each 0 start channel refl refl)

rest_of : (P : ℕ → Start → SeenChannel → Type 0) (from : ℕ) (first : Start) (starts : List Start) (front : SeenChannel)
    (channels : List SeenChannel) → EachFrom P from (first ∷ starts) (front ∷ channels) → EachFrom P (from + 1) starts channels
rest_of P from first starts front channels each n start channel has_start has_channel =
    let further : from + suc n ≡ from + 1 + n = omega arith in
    subst (λ (k : ℕ). P k start channel) further (each (suc n) start channel has_start has_channel)

-- the dies of each count the faults of which its past tells
abbrev CountAt : (ℕ → FaultCounts) → ℕ → Start → SeenChannel → Type 0
CountAt counts n start channel = CountsAll (run_with start channel) (counts n)

counted_from : (counts : ℕ → FaultCounts) (from : ℕ) (starts : List Start) (channels : List SeenChannel)
    → length channels ≡ length starts → EachFrom (CountAt counts) from starts channels
    → AreCounted (runs_with starts (pasts_of channels)) (map counts (range_with_len from (length starts)))
counted_from counts from [] channels many each = tt
counted_from counts from (start ∷ starts) [] many each = absurd (omega (arith, many))
counted_from counts from (start ∷ starts) (channel ∷ channels) many each = (
  first_of (CountAt counts) from start starts channel channels each,
  counted_from counts (from + 1) starts channels (omega (arith, many))
      (rest_of (CountAt counts) from start starts channel channels each),
)

-- and hold what it says
abbrev HoldAt : List (Tag × List ℕ) → ℕ → List DieState → ℕ → Start → SeenChannel → Type 0
HoldAt contents count dies n start channel = HoldPast contents (run_with start channel) (dies_of_channel count dies n)

hold_from : (contents : List (Tag × List ℕ)) (count : ℕ) (dies : List DieState) (from : ℕ) (starts : List Start)
    (channels : List SeenChannel) → EachFrom (HoldAt contents count dies) from starts channels
    → HoldPastsFrom contents count dies from (runs_with starts (pasts_of channels))
hold_from contents count dies from [] channels each = tt
hold_from contents count dies from (start ∷ starts) [] each = tt
hold_from contents count dies from (start ∷ starts) (channel ∷ channels) each = (
  first_of (HoldAt contents count dies) from start starts channel channels each,
  hold_from contents count dies (from + 1) starts channels
      (rest_of (HoldAt contents count dies) from start starts channel channels each),
)

-- ---- counts of dies

-- a count that rose by some faults rose by none
rose_by_none : (faults before now most : ℕ) → min (before + faults) most ≤ now → min (before + 0) most ≤ now
rose_by_none faults before now most rose = omega (arith, rose)

pub stays_at : (before most : ℕ) → min (before + 0) most ≤ before
stays_at before most = omega arith

-- the counts of a die that didn't change
pub same_counts_run : (old new : DieState) → new ≡ old → CountsRun old new
same_counts_run old new same =
    subst (λ (die : DieState). CountsRun old die) (sym same)
    (record { loads_stay = refl; works_rose = stays_at old.work_count greatest_count })

-- those of a die of a channel, whose counts at the start were the die's
counts_run : (start : Start) (faults die work load : ℕ) (old new : DieState) → count_at start.work_faults die ≡ old.work_count
    → count_at start.load_faults die ≡ old.load_count → work ≡ new.work_count → load ≡ new.load_count
    → RoseBy faults (count_at start.work_faults die) work → load ≡ count_at start.load_faults die → CountsRun old new
counts_run start faults die work load old new works loads is_work is_load rose stays = record {
  loads_stay = sym is_load ∙ stays ∙ loads;
  works_rose =
      rose_by_none faults old.work_count new.work_count greatest_count
      (subst (λ (before : ℕ). RoseBy faults before new.work_count) works
      (subst (λ (now : ℕ). RoseBy faults (count_at start.work_faults die) now) is_work rose));
}

module _ (head : Head) (saved : ℕ → ChannelImage) (asked : Trace) (limit : ℕ) (dies : List DieState)
    (views : List (Option PolicyView)) where
  -- these channels stand for the starts of a run on the drive of which an image tells this
  pub record StandInRun (worker : WorkerState) (channels : List SeenChannel) (starts : List Start) : Type 0 where
    pub starts_are :
        starts
        ≡ starts_of worker.shape head limit (input_of head saved asked).channels
        (handed_by_channel head.sizes.channels head.sizes.dies (counts_of dies) views)
    pub sizes_are : sizes_of worker.shape ≡ head.sizes
    pub standing : AreStanding worker channels starts (contents_in (input_of head saved asked))

  module _ (worker : WorkerState) (channels : List SeenChannel) (starts : List Start)
      (stand : StandInRun worker channels starts) where
    pub many_starts : length starts ≡ head.sizes.channels
    many_starts =
        ap (λ (list : List Start). length list) stand.starts_are
        ∙ as_many_starts worker.shape head limit saved
        (handed_to head.sizes.dies (counts_of dies) views) 0 head.sizes.channels

    pub many_channels : length channels ≡ head.sizes.channels
    many_channels = stand.standing.as_many ∙ many_starts

    -- the start of a number has the counts of that channel's dies, and as many dies
    start_is : (number : ℕ) (start : Start) → slice_get starts number ≡ Some start
        → start
        ≡ start_of worker.shape head limit number (saved number)
        (handed_to head.sizes.dies (counts_of dies) views number)
    start_is number start there =
        let of_number : ℕ → Start = λ (n : ℕ).
        start_of worker.shape head limit n (saved n)
        (handed_to head.sizes.dies (counts_of dies) views n) in
        let here : 0 + number ≡ number = omega arith in
        subst (λ (n : ℕ). start ≡ of_number n) here
        (start_at worker.shape head limit saved (handed_to head.sizes.dies (counts_of dies) views)
        head.sizes.channels 0 number start
        (subst (λ (list : List Start). slice_get list number ≡ Some start) stand.starts_are there))

    has_dies : (number : ℕ) (start : Start) → slice_get starts number ≡ Some start → start.base.shape.dies ≡ head.sizes.dies
    has_dies number start there =
        ap (λ (other : Start). other.base.shape.dies) (start_is number start there)
        ∙ ap (λ (sizes : Sizes). sizes.dies) stand.sizes_are

    -- the dies of a channel hold and count what its past says
    pub hold_and_count : (n : ℕ) (start : Start) (channel : SeenChannel) → slice_get starts n ≡ Some start
        → slice_get channels n ≡ Some channel
        → HoldAndCount (contents_in (input_of head saved asked)) (run_with start channel) channel.kept.dies
    hold_and_count n start channel has_start has_channel =
        fitting_dies_hold start (contents_in (input_of head saved asked)) channel.kept.past channel.kept.dies channel.kept.sum
        (stand.standing.stand n start channel has_start has_channel).dies_fit

    -- they are given back
    module _ (back : List DieState) (give : GiveBack head channels dies back) where
      abbrev dies_in : SeenChannel → List DieState
      dies_in channel = channel.kept.dies

      back_is : back ≡ flat_map dies_in channels ++ drop (length channels * head.sizes.dies) dies
      back_is =
          give.back_are
          ∙ ap (λ (n : ℕ). flat_map dies_in channels ++ drop (n * head.sizes.dies) dies) (sym many_channels)

      -- those of each channel in their place
      pub dies_back : (n : ℕ) (channel : SeenChannel) → slice_get channels n ≡ Some channel
          → dies_of_channel head.sizes.dies back n ≡ channel.kept.dies
      dies_back n channel has_channel =
          ap (λ (all : List DieState). take head.sizes.dies (drop (n * head.sizes.dies) all)) give.back_are
          ∙ piece_at dies_in head.sizes.dies channels (drop (head.sizes.channels * head.sizes.dies) dies) n channel give.counts
          has_channel

      counts_back : (n : ℕ) (channel : SeenChannel) → slice_get channels n ≡ Some channel
          → counts_of channel.kept.dies ≡ counts_of_channel head.sizes.dies (counts_of back) n
      counts_back n channel has_channel =
          ap counts_of (sym (dies_back n channel has_channel))
          ∙ (λ i. record {
            work = part_of head.sizes.dies back n (λ (die : DieState). die.work_count) i;
            load = part_of head.sizes.dies back n (λ (die : DieState). die.load_count) i;
          })

      -- so they hold and count what the run says
      pub are_counted : AreCounted (runs_with starts (pasts_of channels))
          (counts_by_channel head.sizes.channels head.sizes.dies (counts_of back))
      are_counted =
          let counts : ℕ → FaultCounts = counts_of_channel head.sizes.dies (counts_of back) in
          subst (λ (n : ℕ). AreCounted (runs_with starts (pasts_of channels)) (map counts (range_with_len 0 n))) many_starts
          (counted_from counts 0 starts channels stand.standing.as_many
          (from_first (CountAt counts) starts channels
          (λ n start channel has_start has_channel.
          subst (CountsAll (run_with start channel)) (counts_back n channel has_channel)
          (hold_and_count n start channel has_start has_channel).count)))

      pub hold_pasts :
          HoldPasts (contents_in (input_of head saved asked)) head.sizes.dies back (runs_with starts (pasts_of channels))
      hold_pasts =
          let contents : List (Tag × List ℕ) = contents_in (input_of head saved asked) in
          hold_from contents head.sizes.dies back 0 starts channels
          (from_first (HoldAt contents head.sizes.dies back) starts channels
          (λ n start channel has_start has_channel.
          subst (HoldPast contents (run_with start channel)) (sym (dies_back n channel has_channel))
          (hold_and_count n start channel has_start has_channel).hold))

      pub others_stay : drop (head.sizes.channels * head.sizes.dies) back ≡ drop (head.sizes.channels * head.sizes.dies) dies
      others_stay =
          subst
          (λ (n : ℕ). drop (n * head.sizes.dies) back ≡ drop (n * head.sizes.dies) dies) many_channels
          (ap (λ (all : List DieState). drop (length channels * head.sizes.dies) all) back_is
          ∙ Given.others_stay dies_in head.sizes.dies dies channels give.counts)

      -- where the dies of the drive are all there, each counts as one that took part in a run
      die_counts_run : (number : ℕ) (old new : DieState) → slice_get dies number ≡ Some old
          → IsInPiece dies_in head.sizes.dies channels number new → CountsRun old new
      die_counts_run number old new was piece =
          let there = like_at channels starts piece.piece piece.x stand.standing.as_many piece.has_piece in
          let start : Start = there.0 in
          let low : piece.place < start.base.shape.dies = omega (arith, piece.low, has_dies piece.piece start there.1) in
          let fit = (stand.standing.stand piece.piece start piece.x there.1 piece.has_piece).dies_fit in
          let counted : CountsFaults start piece.x.kept.past piece.place (die_at piece.x.kept.dies piece.place).work_count
          (die_at piece.x.kept.dies piece.place).load_count = fit.counts piece.place low in
          let is_die : die_at piece.x.kept.dies piece.place ≡ new =
          get_or_from_slice_get piece.x.kept.dies piece.place new no_die piece.has_item in
          let place : slice_get dies (piece.piece * head.sizes.dies + piece.place) ≡ Some old =
          subst (λ (n : ℕ). slice_get dies n ≡ Some old) piece.number_is was in
          let start_count : (of : DieState → ℕ)
          → count_at (take head.sizes.dies (drop (piece.piece * head.sizes.dies) (map of dies))) piece.place ≡ of old = λ of.
          count_in_part of dies (piece.piece * head.sizes.dies) head.sizes.dies piece.place old piece.low place in
          counts_run start (faults_of piece.place piece.x.kept.past) piece.place
          (die_at piece.x.kept.dies piece.place).work_count (die_at piece.x.kept.dies piece.place).load_count old new
          (ap (λ (other : Start). count_at other.work_faults piece.place) (start_is piece.piece start there.1)
          ∙ start_count (λ (die : DieState). die.work_count))
          (ap (λ (other : Start). count_at other.load_faults piece.place) (start_is piece.piece start there.1)
          ∙ start_count (λ (die : DieState). die.load_count))
          (ap (λ (die : DieState). die.work_count) is_die) (ap (λ (die : DieState). die.load_count) is_die) counted.work_rose
          counted.load_stays

      pub dies_count : head.sizes.channels * head.sizes.dies ≤ length dies → AllCountRuns dies back
      dies_count enough =
          let enough_here : length channels * head.sizes.dies ≤ length dies =
          subst (λ (n : ℕ). n * head.sizes.dies ≤ length dies) (sym many_channels) enough in
          record {
            count_stays =
                ap (λ (all : List DieState). length all) back_is
                ∙ Given.as_long dies_in head.sizes.dies dies channels give.counts enough_here;
            each = λ number old new was is.
                elim (in_piece_or_old dies_in head.sizes.dies dies channels give.counts enough_here number old new was
                (subst (λ (all : List DieState). slice_get all number ≡ Some new) back_is is)) [
                  | inl piece ↦ die_counts_run number old new was piece
                  | inr same ↦ same_counts_run old new same
                ];
          }
