-- The channels of a blank drive that have begun stand for the starts of a run.
use Rattle.std.proofs.Common.{ℕ, zero, suc, ◌≡◌, ◌+◌, ◌*◌, List, [], ◌∷◌, drop, length, map, get_or, slice_get, take, Option, Some, None, refl, sym, ap, subst, ◌∙◌, add-zero, arith}
use Rattle.std.specs.List.{drop-map, range_with_len, take-map}
use Rattle.chan_state.specs.ChannelState.{ChannelState, StandsFor}
use Rattle.chan_state.specs.Starting as Starting
use Rattle.drive_dies.specs.Mounting.{CountsNone, EachBecomes}
use Rattle.final_dies.specs.FinalDies.{counts_of, dies_of_channel}
use Rattle.onfi_cmd.specs.DieState.{DieState}
use Rattle.run_laws.specs.HandedCounts.{handed_to}
use Rattle.run_laws.specs.Starts.{Handed, base_of, start_of, starts_from}
use Rattle.ssd_formats.specs.ImageContents.{ChannelImage, blank_channel}
use Rattle.ssd_formats.specs.ImageHead.{Head, head_of}
use Rattle.ssd_geo.specs.Shape.{sizes_of}
use Rattle.ssd_geo.specs.declared.head.ImageHead.{ImageHead}
use Rattle.ssd_geo.specs.declared.policy_view.PolicyView.{PolicyView}
use Rattle.ssd_geo.specs.declared.shape.Shape.{Shape}
use Rattle.ssd_histories.specs.Start.{Start}
use Rattle.blank_drive.proofs.SameSizes.{same_shape}
use Rattle.blank_drive.specs.Begun.{AreBegun, IsBegun, StandAtStarts}
use Rattle.std.proofs.lemmas.Option.{same_Some}

-- the start of a number among those of a run
pub start_at : (shape : Shape) (head : Head) (limit : ℕ) (saved : ℕ → ChannelImage) (handed : ℕ → Handed) (count from number : ℕ) (start : Start)
    → slice_get (starts_from shape head limit from (map saved (range_with_len from count)) (map handed (range_with_len from count))) number
    ≡ Some start
    → start ≡ start_of shape head limit (from + number) (saved (from + number)) (handed (from + number))
start_at shape head limit saved handed zero from number start at = absurd (cc)
start_at shape head limit saved handed (suc count) from zero start at =
    subst (λ (n : ℕ). start ≡ start_of shape head limit n (saved n) (handed n)) (sym (add-zero from))
    (sym (same_Some (start_of shape head limit from (saved from) (handed from)) start at))
start_at shape head limit saved handed (suc count) from (suc number) start at =
    let sum : from + 1 + number ≡ from + suc number = omega arith in
    subst (λ (n : ℕ). start ≡ start_of shape head limit n (saved n) (handed n)) sum
    (start_at shape head limit saved handed count (from + 1) number start at)

-- the counts of the dies of a channel are its part of the counts of all
pub part_of : (count : ℕ) (dies : List DieState) (channel : ℕ) (of : DieState → ℕ)
    → map of (dies_of_channel count dies channel) ≡ take count (drop (channel * count) (map of dies))
part_of count dies channel of =
    sym (ap (λ (all : List ℕ). take count all) (drop-map of (channel * count) dies) ∙ take-map of count (drop (channel * count) dies))

base_is : (shape : Shape) (head : Head) (limit number : ℕ) (dies : List DieState) (view : Option PolicyView) (channel : ChannelState)
    → sizes_of shape ≡ head.sizes → (begun : IsBegun head limit number dies view channel)
    → begun.base ≡ base_of shape head number (blank_channel head number)
base_is shape head limit number dies view channel sizes_are begun = λ i. record {
  shape = same_shape begun.base.shape shape (begun.is_base.shape ∙ sym sizes_are) i;
  session = begun.is_base.session i;
  blocks = begun.is_base.blocks i;
  rows = begun.is_base.rows i;
  sum = begun.is_base.sum i;
  channel = begun.is_base.number i;
  entries = begun.is_base.entries i;
  read_levels = begun.is_base.read_levels i;
  iterations = begun.is_base.iterations i;
  step = begun.is_base.step i;
  law = begun.is_base.law i;
  weak = begun.is_base.weak i;
}

-- a channel's start is the one of its number in a run
start_is : (shape : Shape) (head : Head) (limit number : ℕ) (dies : List DieState) (views : List (Option PolicyView)) (channel : ChannelState)
    → sizes_of shape ≡ head.sizes
    → (begun : IsBegun head limit number (dies_of_channel head.sizes.dies dies number) (get_or views number None) channel)
    → Starting.start_of begun.base limit (dies_of_channel head.sizes.dies dies number) (get_or views number None)
    ≡ start_of shape head limit number (blank_channel head number) (handed_to head.sizes.dies (counts_of dies) views number)
start_is shape head limit number dies views channel sizes_are begun = λ i. record {
  base =
      base_is shape head limit number (dies_of_channel head.sizes.dies dies number) (get_or views number None) channel sizes_are begun i;
  limit = limit;
  cells = begun.cells_are i;
  work_faults = part_of head.sizes.dies dies number (λ (die : DieState). die.work_count) i;
  load_faults = part_of head.sizes.dies dies number (λ (die : DieState). die.load_count) i;
  view = get_or views number None;
}

-- so channels that have begun stand for the starts of a run
pub stand_at_starts : (head : ImageHead) (limit : ℕ) (dies : List DieState) (views : List (Option PolicyView)) (channels : List ChannelState)
    → AreBegun (head_of head) limit dies views channels → StandAtStarts head limit (counts_of dies) views channels
stand_at_starts head limit dies views channels begun = record {
  each = λ number start channel contents start_there channel_there.
      let is : IsBegun (head_of head) limit number (dies_of_channel head.shape.dies dies number) (get_or views number None) channel =
      begun.each number channel channel_there in
      let run_start : ℕ → Start = λ (n : ℕ).
      start_of head.shape (head_of head) limit n (blank_channel (head_of head) n) (handed_to head.shape.dies (counts_of dies) views n) in
      let here : 0 + number ≡ number = omega arith in
      let named : start ≡ run_start number =
      subst (λ (n : ℕ). start ≡ run_start n) here
      (start_at head.shape (head_of head) limit (blank_channel (head_of head)) (handed_to head.shape.dies (counts_of dies) views)
      head.shape.channels 0 number start start_there) in
      subst (λ (at : Start). StandsFor channel (get_or views number None) at contents)
      (start_is head.shape (head_of head) limit number dies views channel refl is ∙ sym named) (is.has_begun.stands contents);
  no_entries = λ number channel there. (begun.each number channel there).has_begun.no_entry;
}

-- dies that counted no fault have the same counts
same_each : (of : DieState → ℕ) (olds news : List DieState) → length news ≡ length olds
    → ((number : ℕ) (old new : DieState) → slice_get olds number ≡ Some old → slice_get news number ≡ Some new → of new ≡ of old)
    → map of news ≡ map of olds
same_each of [] [] long each = refl
same_each of [] (new ∷ news) long each = absurd (omega arith)
same_each of (old ∷ olds) [] long each = absurd (omega arith)
same_each of (old ∷ olds) (new ∷ news) long each =
    rw (each 0 old new refl refl, same_each of olds news (omega (arith, long)) (λ n x y was is. each (suc n) x y was is)) refl

pub same_counts : (olds news : List DieState) → EachBecomes (λ number old new. CountsNone old new) olds news
    → counts_of news ≡ counts_of olds
same_counts olds news each = λ i. record {
  work =
      same_each (λ (die : DieState). die.work_count) olds news each.count_stays
      (λ n old new was is. (each.each n old new was is).works_stay) i;
  load =
      same_each (λ (die : DieState). die.load_count) olds news each.count_stays
      (λ n old new was is. (each.each n old new was is).loads_stay) i;
}
