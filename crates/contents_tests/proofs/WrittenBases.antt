-- The base and the dies of the first channel of a drive that was read fit each other, so they may be written.
use Rattle.std.proofs.Common.{◌≡◌, ◌*◌, ◌<◌, ◌≤◌, List, length, slice_get, Option, Some, sym, ap, subst, ◌∙◌, arith}
use Rattle.std.specs.Prelude.{IsSomeAnd}
use Rattle.std.proofs.Math.Nat.{mul-le-mul}
use Rattle.std.proofs.lemmas.List.{length-map}
use Rattle.std.proofs.lemmas.Option.{slice_get-get_or}
use Rattle.blank_drive.proofs.SameSizes.{same_shape}
use Rattle.chan_dies.specs.DiesState.{die_at, no_die}
use Rattle.contents_file.specs.DiesCopied.{AllTellPages}
use Rattle.contents_start.specs.ContentsStart.{AreOfContents}
use Rattle.contents_tests.proofs.BegunRows.{first_of}
use Rattle.drive_dies.specs.Mounting.{plan_in_drive}
use Rattle.final_dies.specs.FinalDies.{dies_of_channel}
use Rattle.onfi_cmd.specs.DieState.{DieState}
use Rattle.onfi_cmd.specs.declared.plan.DiePlan.{DiePlan}
use Rattle.saved_drive.specs.Contents.{AreMounted, HaveImage, IsMountedAs}
use Rattle.ssd_formats.specs.ImageContents.{ChannelImage, SavedBlock}
use Rattle.ssd_formats.specs.ImageHead.{head_of}
use Rattle.ssd_geo.specs.declared.base.BlockBase.{BlockBase}
use Rattle.ssd_geo.specs.declared.base.ChannelBase.{ChannelBase}
use Rattle.ssd_geo.specs.declared.head.ImageHead.{ImageHead}
use Rattle.ssd_geo.specs.declared.row.Row.{Row}
use Rattle.ssd_geo.specs.declared.shape.Shape.{Shape}

-- the first of a list that was lent is the list's
pub first_is : {A : Type 0} (items lent : List A) (item : A) → lent ≡ items → Some item ≡ slice_get lent 0
    → slice_get items 0 ≡ Some item
first_is {A = A} items lent item same is = subst (λ (all : List A). slice_get all 0 ≡ Some item) same (sym is)

module _ (head : ImageHead) (bases : List ChannelBase) (dies : List DieState) (base : ChannelBase)
    (image : HaveImage (head_of head) bases dies) (at : slice_get bases 0 ≡ Some base) where
  record IsOf : Type 0 where
    saved : ChannelImage
    are : AreOfContents (head_of head) 0 saved base (dies_of_channel head.shape.dies dies 0)

  is_of : IsOf
  is_of =
      let first = first_of image.0 (omega (arith, image.1.as_many_saved, head.shape.within.channels_low)) in
      record { saved = first.0; are = image.1.each 0 first.0 base first.1 at }

  contents : AreOfContents (head_of head) 0 is_of.saved base (dies_of_channel head.shape.dies dies 0)
  contents = is_of.are

  shape_is : base.shape ≡ head.shape
  shape_is = same_shape base.shape head.shape contents.is_base.shape

  pub channel_low : base.channel < base.shape.channels
  channel_low =
      let many : base.shape.channels ≡ head.shape.channels = ap (λ (shape : Shape). shape.channels) shape_is in
      omega (arith, many, contents.is_base.number, head.shape.within.channels_low)

  pub blocks_are : length base.blocks ≡ base.shape.superblocks
  blocks_are =
      ap (λ (blocks : List BlockBase). length blocks) contents.is_base.blocks
      ∙ length-map is_of.saved.blocks (λ (block : SavedBlock). block.block) ∙ contents.is_saved.block_count
      ∙ ap (λ (shape : Shape). shape.superblocks) (sym shape_is)

  pub rows_are : length base.rows ≡ base.shape.rows
  rows_are =
      ap (λ (rows : List Row). length rows) contents.is_base.rows ∙ contents.is_saved.row_count
      ∙ ap (λ (shape : Shape). shape.rows) (sym shape_is)

  pub all_tell : AreMounted head dies → length dies ≡ head.shape.dies → AllTellPages base.shape dies
  all_tell mounted count = record {
    count_is = count ∙ ap (λ (shape : Shape). shape.dies) (sym shape_is);
    each = λ die low.
        let many : base.shape.dies ≡ head.shape.dies = ap (λ (shape : Shape). shape.dies) shape_is in
        let more : 1 * head.shape.dies ≤ head.shape.channels * head.shape.dies =
        mul-le-mul {n₁ = 1} {m₁ = head.shape.dies} {n₂ = head.shape.channels} {m₂ = head.shape.dies}
        (omega (arith, head.shape.within.channels_low)) (omega arith) in
        let there : slice_get dies die ≡ Some (die_at dies die) =
        slice_get-get_or dies die no_die (omega (arith, low, many, count)) in
        let is : IsMountedAs (plan_in_drive head die) (die_at dies die) =
        mounted.each die (die_at dies die) (omega (arith, low, many, more)) there in
        record {
          mounted =
              subst (λ (plan : Option DiePlan). IsSomeAnd plan (λ plan. plan.shape ≡ base.shape)) (sym is.plan_is) (sym shape_is);
          tells = is.tells;
        };
  }
