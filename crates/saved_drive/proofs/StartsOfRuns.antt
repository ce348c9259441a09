-- The channels of a drive that have begun stand for the starts of a run on it.
use Rattle.std.proofs.Common.{ℕ, zero, suc, ◌≡◌, ◌+◌, List, [], ◌∷◌, map, get_or, slice_get, Option, Some, None, refl, sym, subst, ◌∙◌, add-zero, arith}
use Rattle.std.specs.List.{range_with_len}
use Rattle.blank_drive.proofs.RunStarts.{part_of}
use Rattle.blank_drive.proofs.SameSizes.{same_shape}
use Rattle.chan_state.specs.ChannelState.{ChannelState, StandsFor}
use Rattle.chan_state.specs.Starting as Starting
use Rattle.contents_start.specs.ContentsStart.{AreOfContents}
use Rattle.final_dies.specs.FinalDies.{counts_of, dies_of_channel}
use Rattle.onfi_cmd.specs.DieState.{DieState}
use Rattle.run_laws.specs.HandedCounts.{handed_to}
use Rattle.run_laws.specs.Starts.{Handed, base_of, start_of, starts_from}
use Rattle.ssd_formats.specs.ImageContents.{ChannelImage, IsBaseOf}
use Rattle.ssd_formats.specs.ImageHead.{Head, head_of}
use Rattle.ssd_geo.specs.Shape.{sizes_of}
use Rattle.ssd_geo.specs.declared.base.ChannelBase.{ChannelBase}
use Rattle.ssd_geo.specs.declared.head.ImageHead.{ImageHead}
use Rattle.ssd_geo.specs.declared.policy_view.PolicyView.{PolicyView}
use Rattle.ssd_geo.specs.declared.shape.Shape.{Shape}
use Rattle.ssd_histories.specs.Start.{Start}
use Rattle.saved_drive.specs.Begun.{HaveBegun, StandAtStarts}
use Rattle.saved_drive.specs.Contents.{AreOfImage}
use Rattle.std.proofs.lemmas.Option.{same_Some}

-- the start of a number among those of a run is of what the image tells of that channel
pub record IsStartIn (shape : Shape) (head : Head) (limit from number : ℕ) (saved : List ChannelImage) (handed : ℕ → Handed)
    (start : Start) : Type 0 where
  pub of : ChannelImage
  pub there : slice_get saved number ≡ Some of
  pub is : start ≡ start_of shape head limit (from + number) of (handed (from + number))

pub start_in : (shape : Shape) (head : Head) (limit : ℕ) (saved : List ChannelImage) (handed : ℕ → Handed) (count from number : ℕ)
    (start : Start)
    → slice_get (starts_from shape head limit from saved (map handed (range_with_len from count))) number ≡ Some start
    → IsStartIn shape head limit from number saved handed start
start_in shape head limit [] handed count from number start at = absurd (cc)
start_in shape head limit (of ∷ saved) handed zero from number start at = absurd (cc)
start_in shape head limit (of ∷ saved) handed (suc count) from zero start at = record {
  of = of;
  there = refl;
  is =
      subst (λ (n : ℕ). start ≡ start_of shape head limit n of (handed n)) (sym (add-zero from))
      (sym (same_Some (start_of shape head limit from of (handed from)) start at));
}
start_in shape head limit (of ∷ saved) handed (suc count) from (suc number) start at =
    let sum : from + 1 + number ≡ from + suc number = omega arith in
    let rest = start_in shape head limit saved handed count (from + 1) number start at in
    record {
      of = rest.of;
      there = rest.there;
      is = subst (λ (n : ℕ). start ≡ start_of shape head limit n rest.of (handed n)) sum rest.is;
    }

-- a base that is of contents is the one that a run has for them
base_is : (shape : Shape) (head : Head) (number : ℕ) (saved : ChannelImage) (base : ChannelBase) → sizes_of shape ≡ head.sizes
    → IsBaseOf head number saved base → base ≡ base_of shape head number saved
base_is shape head number saved base sizes_are is = λ i. record {
  shape = same_shape base.shape shape (is.shape ∙ sym sizes_are) i;
  session = is.session i;
  blocks = is.blocks i;
  rows = is.rows i;
  sum = is.sum i;
  channel = is.number i;
  entries = is.entries i;
  read_levels = is.read_levels i;
  iterations = is.iterations i;
  step = is.step i;
  law = is.law i;
  weak = is.weak i;
}

-- so a channel's start is the one of its number in a run
start_is : (shape : Shape) (head : Head) (limit number : ℕ) (saved : ChannelImage) (base : ChannelBase) (dies : List DieState)
    (views : List (Option PolicyView)) → sizes_of shape ≡ head.sizes
    → AreOfContents head number saved base (dies_of_channel head.sizes.dies dies number)
    → Starting.start_of base limit (dies_of_channel head.sizes.dies dies number) (get_or views number None)
    ≡ start_of shape head limit number saved (handed_to head.sizes.dies (counts_of dies) views number)
start_is shape head limit number saved base dies views sizes_are of = λ i. record {
  base = base_is shape head number saved base sizes_are of.is_base i;
  limit = limit;
  cells = of.cells_are i;
  work_faults = part_of head.sizes.dies dies number (λ (die : DieState). die.work_count) i;
  load_faults = part_of head.sizes.dies dies number (λ (die : DieState). die.load_count) i;
  view = get_or views number None;
}

-- so channels that have begun stand for the starts of a run
pub stand_at_starts : (head : ImageHead) (saved : List ChannelImage) (bases : List ChannelBase) (limit : ℕ) (dies : List DieState)
    (views : List (Option PolicyView)) (channels : List ChannelState) → AreOfImage (head_of head) saved bases dies
    → HaveBegun bases limit head.shape.dies dies views channels
    → StandAtStarts head saved limit (counts_of dies) views channels
stand_at_starts head saved bases limit dies views channels image begun = record {
  each = λ number start channel contents start_there channel_there.
      let is = begun.each number channel channel_there in
      let found =
      start_in head.shape (head_of head) limit saved (handed_to head.shape.dies (counts_of dies) views) head.shape.channels 0 number
      start start_there in
      let here : 0 + number ≡ number = omega arith in
      let named : start ≡ start_of head.shape (head_of head) limit number found.of
      (handed_to head.shape.dies (counts_of dies) views number) =
      subst (λ (n : ℕ). start ≡ start_of head.shape (head_of head) limit n found.of
      (handed_to head.shape.dies (counts_of dies) views n)) here found.is in
      subst (λ (at : Start). StandsFor channel (get_or views number None) at contents)
      (start_is head.shape (head_of head) limit number found.of is.base dies views refl
      (image.each number found.of is.base found.there is.base_is) ∙ sym named)
      (is.has_begun.stands contents);
  no_entries = λ number channel there. (begun.each number channel there).has_begun.no_entry;
}
