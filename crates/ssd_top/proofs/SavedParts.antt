-- Bases are made with the parts that channels gave back, and the image that is written of them is that of the run that left them.
use Rattle.std.proofs.Common.{ℕ, ◌<◌, zero, suc, ◌≡◌, ◌+◌, List, [], ◌∷◌, ◌++◌, length, map, slice_get, Some, true, refl, sym, ap, subst, ◌∙◌, add-zero, arith}
use Rattle.std.specs.List.{enumerate_from}
use Rattle.std.proofs.lemmas.List.{length-append, length-map}
use Rattle.std.proofs.lemmas.Option.{slice_get_within}
use Rattle.chan_state.specs.declared.parts.BaseParts.{BaseParts}
use Rattle.chan_dies.specs.DiesState.{blocks_in}
use Rattle.chan_state.specs.ChannelState.{ChannelState, parts_of}
use Rattle.channel_ends.proofs.HeldImages.{ended_runs_hold_their_images}
use Rattle.channel_ends.specs.ChannelEnds.{HaveFewPages, base_at_end, image_at_end}
use Rattle.channel_ends.specs.EndedRuns.{EndRuns, images_at_end}
use Rattle.channel_ends.specs.SavedImage.{IsReadAgain, images_of_run, saved_image}
use Rattle.drive_image.proofs.MountedDies.{mounted_tell}
use Rattle.drive_image.specs.WholeImage.{AreBasesOf, ChannelsTellPages, saved_channels_of, saved_of}
use Rattle.final_dies.specs.FinalDies.{dies_of_channel}
use Rattle.onfi_cmd.specs.DieState.{DieState}
use Rattle.run_laws.specs.Runs.{Run, channels_of, data_in}
use Rattle.savable_contents.specs.SavableContents.{IsReadOnceEnded}
use Rattle.ssd_formats.specs.ImageContents.{ChannelImage, image_bytes, saved_channel}
use Rattle.ssd_formats.specs.ImageHead.{Head, with_next_session}
use Rattle.ssd_geo.specs.declared.base.BlockBase.{BlockBase}
use Rattle.ssd_geo.specs.declared.base.ChannelBase.{ChannelBase}
use Rattle.ssd_geo.specs.declared.row.Row.{Row}
use Rattle.ssd_geo.specs.declared.shape.Shape.{Shape}
use Rattle.ssd_geo.specs.declared.tag.Tag.{Tag}
use Rattle.ssd_histories.specs.CallsInOrder.{ChannelRun}
use Rattle.ssd_top.proofs.ServedChannels.{like_at}
use Rattle.ssd_top.specs.LeftDrives.{CanBeSaved, HasParts, HaveChannelsFewPages, HaveParts, IsAtEnd, LeavesDrive, OfImageLeft, PartsFit}

-- ---- bases, one after the other

-- so many bases have the parts of their numbers
pub record HavePartsBelow (shape : Shape) (count : ℕ) (parts : List BaseParts) (bases : List ChannelBase) : Type 0 where
  pub as_many : length bases ≡ count
  pub each :
      (channel : ℕ) (own : BaseParts) (base : ChannelBase) → slice_get parts channel ≡ Some own
      → slice_get bases channel ≡ Some base → HasParts shape channel own base

pub none_have : (shape : Shape) (parts : List BaseParts) (bases : List ChannelBase) → bases ≡ [] → HavePartsBelow shape 0 parts bases
none_have shape parts bases none = record {
  as_many = ap (λ (all : List ChannelBase). length all) none;
  each = λ channel own base has_own has_base.
      absurd (omega (arith, slice_get_within bases channel base has_base, ap (λ (all : List ChannelBase). length all) none));
}

-- what holds of the items of a list and of one more holds of the list with it
with_one_more : {X : Type 0} (P : ℕ → X → Type 0) (from : ℕ) (xs : List X) (last : X)
    → ((n : ℕ) (x : X) → slice_get xs n ≡ Some x → P (from + n) x) → P (from + length xs) last
    → (n : ℕ) (x : X) → slice_get (xs ++ last ∷ []) n ≡ Some x → P (from + n) x
with_one_more P from [] last each here zero x is = let same : last ≡ x = cc in subst (P (from + 0)) same here
with_one_more P from [] last each here (suc n) x is = absurd (cc)
with_one_more P from (first ∷ xs) last each here zero x is = each 0 x is
with_one_more {X = X} P from (first ∷ xs) last each here (suc n) x is =
    let further : (k : ℕ) → from + 1 + k ≡ from + suc k = λ k. omega arith in
    subst (λ (k : ℕ). P k x) (further n)
    (with_one_more P (from + 1) xs last
    (λ k y has. subst (λ (m : ℕ). P m y) (sym (further k)) (each (suc k) y has))
    (subst (λ (m : ℕ). P m last) (sym (further (length xs))) here) n x is)

pub one_more_has : (shape : Shape) (channel : ℕ) (parts : List BaseParts) (own : BaseParts) (bases news : List ChannelBase)
    (base : ChannelBase) → HavePartsBelow shape channel parts bases → slice_get parts channel ≡ Some own
    → HasParts shape channel own base → news ≡ bases ++ base ∷ [] → HavePartsBelow shape (channel + 1) parts news
one_more_has shape channel parts own bases news base below has_own has news_are =
    let OfParts : ℕ → ChannelBase → Type 0 = λ n other.
    (part : BaseParts) → slice_get parts n ≡ Some part → HasParts shape n part other in
    let none : (n : ℕ) → 0 + n ≡ n = λ n. omega arith in
    let here : OfParts channel base = λ part is.
    let same_some : Some own ≡ Some part = sym has_own ∙ is in
    let same : own ≡ part = cc in
    subst (λ (p : BaseParts). HasParts shape channel p base) same has in
    record {
      as_many =
          ap (λ (all : List ChannelBase). length all) news_are ∙ length-append bases (base ∷ [])
          ∙ ap (λ (n : ℕ). n + 1) below.as_many;
      each = λ n part other has_part has_other.
          subst (λ (k : ℕ). OfParts k other) (none n)
          (with_one_more OfParts 0 bases base
          (λ k old has_old. subst (λ (m : ℕ). OfParts m old) (sym (none k)) (λ p has_p. below.each k p old has_p has_old))
          (subst (λ (m : ℕ). OfParts m base) (sym (none (length bases) ∙ below.as_many)) here) n other
          (subst (λ (all : List ChannelBase). slice_get all n ≡ Some other) news_are has_other))
          part has_part;
    }

pub all_have : (shape : Shape) (count : ℕ) (parts : List BaseParts) (bases : List ChannelBase) → length parts ≡ count
    → HavePartsBelow shape count parts bases → HaveParts shape parts bases
all_have shape count parts bases many below = record { as_many = below.as_many ∙ sym many; each = below.each }

-- they are those of the channels of a drive
pub are_bases : (shape : Shape) (parts : List BaseParts) (dies : List DieState) (bases : List ChannelBase) → CanBeSaved shape parts dies
    → HaveParts shape parts bases → AreBasesOf shape bases
are_bases shape parts dies bases can have = record {
  count_is = have.as_many ∙ can.as_many;
  each = λ channel base has_base.
      let own = like_at bases parts channel base have.as_many has_base in
      let has : HasParts shape channel own.0 base = have.each channel own.0 base own.1 has_base in
      let fit : PartsFit shape own.0 = can.fit channel own.0 own.1 in
      record {
        shape_is = has.shape_is;
        number_is = has.number_is;
        block_count = ap (λ (blocks : List BlockBase). length blocks) has.blocks_are ∙ fit.block_count;
        row_count = ap (λ (rows : List Row). length rows) has.rows_are ∙ fit.row_count;
      };
}

-- ---- the image

-- channels at the ends of runs have ended, where their dies tell no more pages than a block has
end_runs : (contents : List (Tag × List ℕ)) (shape : Shape) (dies : ℕ → List DieState) (from : ℕ) (runs : List ChannelRun)
    (channels : List ChannelState) → length runs ≡ length channels
    → ((n : ℕ) (own : ChannelRun) (channel : ChannelState) → slice_get runs n ≡ Some own → slice_get channels n ≡ Some channel
    → IsAtEnd contents own shape (dies (from + n)) channel)
    → ((n : ℕ) → n < length channels → HaveFewPages shape (dies (from + n)))
    → EndRuns contents runs channels
end_runs contents shape dies from [] [] many at_end few = tt
end_runs contents shape dies from [] (channel ∷ channels) many at_end few = absurd (omega (arith, many))
end_runs contents shape dies from (run ∷ runs) [] many at_end few = absurd (omega (arith, many))
end_runs contents shape dies from (run ∷ runs) (channel ∷ channels) many at_end few =
    let is : IsAtEnd contents run shape (dies (from + 0)) channel = at_end 0 run channel refl refl in
    let few_here : HaveFewPages shape (dies (from + 0)) = few 0 (omega arith) in
    let further : (n : ℕ) → from + suc n ≡ from + 1 + n = λ n. omega arith in (
      record {
        view = is.view;
        past_is = is.past_is;
        ended = record {
          stands = is.stands;
          whole = is.whole;
          few_pages =
              subst (λ (other : Shape). HaveFewPages other channel.dies) (sym is.shape_is)
              (subst (HaveFewPages shape) (sym is.dies_are) few_here);
        };
      },
      end_runs contents shape dies (from + 1) runs channels (omega (arith, many))
          (λ n own other has_own has_other.
          subst (λ (k : ℕ). IsAtEnd contents own shape (dies k) other) (further n) (at_end (suc n) own other has_own has_other))
          (λ n below. subst (λ (k : ℕ). HaveFewPages shape (dies k)) (further n) (few (suc n) (omega (arith, below)))),
    )

-- bases are saved as the channels of their numbers at the end
saved_at_end : (f : ℕ × ChannelBase → ChannelImage) (from : ℕ) (bases : List ChannelBase) (runs : List ChannelRun)
    (channels : List ChannelState) → length bases ≡ length runs → length runs ≡ length channels
    → ((n : ℕ) (base : ChannelBase) (own : ChannelRun) (channel : ChannelState) → slice_get bases n ≡ Some base
    → slice_get runs n ≡ Some own → slice_get channels n ≡ Some channel
    → f (from + n, base) ≡ image_at_end own.start.base channel)
    → map f (enumerate_from from bases) ≡ images_at_end runs channels
saved_at_end f from [] [] channels many as_many each = refl
saved_at_end f from [] (run ∷ runs) channels many as_many each = absurd (omega (arith, many))
saved_at_end f from (base ∷ bases) [] channels many as_many each = absurd (omega (arith, many))
saved_at_end f from (base ∷ bases) (run ∷ runs) [] many as_many each = absurd (omega (arith, as_many))
saved_at_end f from (base ∷ bases) (run ∷ runs) (channel ∷ channels) many as_many each =
    let first : f (from, base) ≡ image_at_end run.start.base channel =
    subst (λ (n : ℕ). f (n, base) ≡ image_at_end run.start.base channel) (add-zero from) (each 0 base run channel refl refl refl) in
    let rest : map f (enumerate_from (from + 1) bases) ≡ images_at_end runs channels =
    saved_at_end f (from + 1) bases runs channels (omega (arith, many)) (omega (arith, as_many))
    (λ n z own w has_z has_own has_w.
    let further : from + suc n ≡ from + 1 + n = omega arith in
    subst (λ (k : ℕ). f (k, z) ≡ image_at_end own.start.base w) further (each (suc n) z own w has_z has_own has_w)) in
    λ i. first i ∷ rest i

-- a channel is saved as its base and dies say, whatever else its base has
same_channel : (base other : ChannelBase) (dies others : List DieState) → base.shape ≡ other.shape
    → base.blocks ≡ other.blocks → base.rows ≡ other.rows → base.sum ≡ other.sum → dies ≡ others
    → saved_channel base (map blocks_in dies) ≡ saved_channel other (map blocks_in others)
same_channel base other dies others shape blocks rows sum same = rw (shape, blocks, rows, sum, same) refl

-- the channels of a run that left a drive are those of the drive
pub as_many_left : (head : Head) (shape : Shape) (run : Run) (parts : List BaseParts) (dies : List DieState)
    → LeavesDrive head shape run parts dies → length (channels_of run) ≡ shape.channels
as_many_left head shape run parts dies leaves =
    leaves.as_many ∙ sym (length-map leaves.channels parts_of)
    ∙ ap (λ (all : List BaseParts). length all) (sym leaves.parts_are) ∙ leaves.can_be_saved.as_many

-- and have ended, where their dies tell no more pages than a block has
left_have_ended : (head : Head) (shape : Shape) (run : Run) (parts : List BaseParts) (dies : List DieState)
    (leaves : LeavesDrive head shape run parts dies) → HaveChannelsFewPages shape dies
    → EndRuns (data_in head run) (channels_of run) leaves.channels
left_have_ended head shape run parts dies leaves few =
    let contents : List (Tag × List ℕ) = data_in head run in
    let none : (n : ℕ) → 0 + n ≡ n = λ n. omega arith in
    let of_number : ℕ → List DieState = λ n. dies_of_channel shape.dies dies n in
    let count : length leaves.channels ≡ shape.channels =
    sym leaves.as_many ∙ as_many_left head shape run parts dies leaves in
    end_runs contents shape of_number 0 (channels_of run) leaves.channels leaves.as_many
    (λ n own channel has_own has_channel.
    subst (λ (k : ℕ). IsAtEnd contents own shape (of_number k) channel) (sym (none n))
    (leaves.at_end n own channel has_own has_channel))
    (λ n below. subst (λ (k : ℕ). HaveFewPages shape (of_number k)) (sym (none n)) (few n (omega (arith, below, count))))

-- so the image of its drive is read again
pub read_again_as_left : (head : Head) (shape : Shape) (run : Run) (parts : List BaseParts) (dies : List DieState)
    → LeavesDrive head shape run parts dies → HaveChannelsFewPages shape dies → IsReadOnceEnded head run → IsReadAgain head run
read_again_as_left head shape run parts dies leaves few is_read =
    is_read leaves.channels (left_have_ended head shape run parts dies leaves few)

-- bases with the parts that a run left are saved as the run says
saved_as_left : (head : Head) (shape : Shape) (run : Run) (parts : List BaseParts) (bases : List ChannelBase) (dies : List DieState)
    → LeavesDrive head shape run parts dies → HaveParts shape parts bases → HaveChannelsFewPages shape dies
    → saved_channels_of shape bases dies ≡ images_of_run head run
saved_as_left head shape run parts bases dies leaves have few =
    let contents : List (Tag × List ℕ) = data_in head run in
    let as_many_parts : length parts ≡ length leaves.channels =
    ap (λ (all : List BaseParts). length all) leaves.parts_are ∙ length-map leaves.channels parts_of in
    let none : (n : ℕ) → 0 + n ≡ n = λ n. omega arith in
    let of_number : ℕ → List DieState = λ n. dies_of_channel shape.dies dies n in
    saved_at_end (saved_of shape dies) 0 bases (channels_of run) leaves.channels
    (have.as_many ∙ as_many_parts ∙ sym leaves.as_many) leaves.as_many
    (λ n base own channel has_base has_own has_channel.
    let part : slice_get parts n ≡ Some (parts_of channel) =
    ap (λ (all : List BaseParts). slice_get all n) leaves.parts_are ∙ mapped_at parts_of leaves.channels n channel has_channel in
    let has : HasParts shape n (parts_of channel) base = have.each n (parts_of channel) base part has_base in
    let is : IsAtEnd contents own shape (of_number n) channel = leaves.at_end n own channel has_own has_channel in
    subst (λ (k : ℕ). saved_of shape dies (k, base) ≡ image_at_end own.start.base channel) (sym (none n))
    (same_channel base (base_at_end own.start.base channel) (of_number n) channel.dies
    (has.shape_is ∙ sym is.shape_is) has.blocks_are has.rows_are has.sum_is (sym is.dies_are)))
    ∙ ended_runs_hold_their_images head run leaves.channels (left_have_ended head shape run parts dies leaves few)
  where
    mapped_at : {X Y : Type 0} (f : X → Y) (xs : List X) (n : ℕ) (x : X) → slice_get xs n ≡ Some x
        → slice_get (map f xs) n ≡ Some (f x)
    mapped_at f [] n x is = absurd (cc)
    mapped_at f (y ∷ xs) zero x is = let same : y ≡ x = cc in ap (λ z. Some (f z)) same
    mapped_at f (y ∷ xs) (suc n) x is = mapped_at f xs n x is

-- so what is said of their image is said of that of the run
pub of_run : (head : Head) (shape : Shape) (run : Run) (parts : List BaseParts) (dies : List DieState) (P : List ℕ → Type 0)
    → LeavesDrive head shape run parts dies → HaveChannelsFewPages shape dies → OfImageLeft head shape parts dies P
    → P (saved_image head run)
of_run head shape run parts dies P leaves few image =
    subst (λ (channels : List ChannelImage). P (image_bytes (with_next_session head true) channels))
    (saved_as_left head shape run parts image.bases dies leaves image.have_parts few) image.of_image

-- the dies of a drive that can be saved tell their pages
pub channels_tell : (shape : Shape) (parts : List BaseParts) (dies : List DieState) → CanBeSaved shape parts dies
    → ChannelsTellPages shape dies
channels_tell shape parts dies can channel below =
    mounted_tell shape (dies_of_channel shape.dies dies channel) (can.mounted channel below)
