-- A channel may begin with a base and mounted dies that are of contents, and the rows that it begins with have small serials.
use Rattle.std.proofs.Common.{ℕ, ◌≡◌, ◌^◌, ◌<◌, ◌≤◌, ◌&&◌, Bool, true, List, [], length, map, take, get_or, slice_get, Option, Some, refl, sym, ap, subst, ◌∙◌, arith}
use Rattle.std.proofs.lemmas.List.{get_or-map, length-map}
use Rattle.std.proofs.lemmas.List.FromFn.{get_or-map-range_with_len}
use Rattle.std.proofs.lemmas.Option.{slice_get-get_or}
use Rattle.blank_drive.proofs.SameSizes.{same_shape}
use Rattle.chan_dies.specs.DiesState.{blocks_in, die_at, no_die}
use Rattle.chan_state.specs.Starting.{IsDieOf, MayBegin, start_of}
use Rattle.contents_start.specs.ContentsStart.{AreOfContents}
use Rattle.contents_start.proofs.SavedRows.{saved_row_at}
use Rattle.contents_start.proofs.SavedStarts.{loaded_dies_make_starts}
use Rattle.drive_dies.specs.Mounting.{plan_of_die}
use Rattle.final_dies.specs.FinalDies.{dies_of_channel}
use Rattle.onfi_cmd.specs.DieState.{DieState}
use Rattle.run_laws.specs.Serials.{HasSmallSerial}
use Rattle.ssd_formats.specs.Fields.{is_below}
use Rattle.ssd_formats.specs.ImageContents.{ChannelImage, blocks_of_saved, cells_of_block, is_saved_row, may_name}
use Rattle.ssd_formats.specs.ImageHead.{Head, IsHead, head_of}
use Rattle.ssd_formats.proofs.HeadLaws.{below_is}
use Rattle.ssd_geo.specs.BlockCells.{BlockCells}
use Rattle.ssd_geo.specs.Limits.{Sizes}
use Rattle.ssd_geo.specs.declared.base.BlockBase.{BlockBase}
use Rattle.ssd_geo.specs.declared.base.ChannelBase.{ChannelBase}
use Rattle.ssd_geo.specs.declared.head.ImageHead.{ImageHead}
use Rattle.ssd_geo.specs.declared.policy_view.PolicyView.{PolicyView}
use Rattle.ssd_geo.specs.declared.row.Row.{Row}
use Rattle.ssd_geo.specs.declared.row.Row.TheVariants.{Empty, Lost, Page}
use Rattle.ssd_geo.specs.declared.shape.Shape.{Shape}
use Rattle.saved_drive.specs.Contents.{AreMounted, AreMountedOn, ContentsMayBegin, HaveImage, IsMountedAs, SavedSerialsAreSmall}
use Rattle.saved_drive.proofs.MountedDies.{are_mounted_on}
use Rattle.std.proofs.lemmas.Bool.{and_parts}

-- a die that is of contents tells as many blocks as its channel has
as_many_blocks : (head : Head) (channel : ℕ) (saved : ChannelImage) (base : ChannelBase) (dies : List DieState) (die : ℕ)
    → AreOfContents head channel saved base dies → die < head.sizes.dies → die < length dies
    → length (blocks_in (die_at dies die)) ≡ head.sizes.superblocks
as_many_blocks head channel saved base dies die are in_sizes in_list =
    let of_die : ℕ → List BlockCells = λ (number : ℕ). map (cells_of_block number) saved.blocks in
    ap (λ (blocks : List BlockCells). length blocks)
    (sym (get_or-map blocks_in dies die no_die [] in_list)
    ∙ ap (λ (cells : List (List BlockCells)). get_or cells die []) are.cells_are
    ∙ get_or-map-range_with_len of_die 0 head.sizes.dies die die [] in_sizes (omega arith))
    ∙ length-map saved.blocks (cells_of_block die) ∙ are.is_saved.block_count

die_is : (head : ImageHead) (channel : ℕ) (saved : ChannelImage) (base : ChannelBase) (dies : List DieState) (die : ℕ)
    → AreOfContents (head_of head) channel saved base dies → AreMountedOn head channel dies → die < base.shape.dies
    → IsDieOf base die (die_at dies die)
die_is head channel saved base dies die are mounted below =
    let same : base.shape ≡ head.shape = same_shape base.shape head.shape are.is_base.shape in
    let in_sizes : die < head.shape.dies = omega (arith, below, ap (λ (shape : Shape). shape.dies) same) in
    let in_list : die < length dies = omega (arith, in_sizes, mounted.count_is) in
    let is : IsMountedAs (plan_of_die head channel die) (die_at dies die) =
    mounted.each die (die_at dies die) (slice_get-get_or dies die no_die in_list) in
    record {
      plan_is = is.plan_is ∙ (λ i. Some (
          record {
            channel = sym are.is_base.number i;
            die = die;
            shape = sym same i;
            law = sym are.is_base.law i;
            weak = sym are.is_base.weak i;
          }
          ));
      tells = is.tells;
      blocks_count =
          as_many_blocks (head_of head) channel saved base dies die are in_sizes in_list
          ∙ ap (λ (shape : Shape). shape.superblocks) (sym same);
    }

pub contents_may_begin : ContentsMayBegin
contents_may_begin head channel saved base dies limit view is_head within are mounted low high = record {
  is_start =
      loaded_dies_make_starts (head_of head) channel saved dies (start_of base limit dies view) is_head within are refl low
      high;
  dies_are = λ die below. die_is head channel saved base dies die are mounted below;
}

-- so may the channel of a number, where all bases and dies are of an image
abbrev no_contents : ChannelImage
no_contents = record { blocks = []; rows = [] }

pub may_begin_at : (head : ImageHead) (bases : List ChannelBase) (dies : List DieState) (number : ℕ) (base : ChannelBase)
    (own : List DieState) (limit : ℕ) (view : Option PolicyView) → IsHead (head_of head) → AreMounted head dies
    → HaveImage (head_of head) bases dies → number < head.shape.channels → slice_get bases number ≡ Some base
    → own ≡ dies_of_channel head.shape.dies dies number → 256 ≤ limit → limit ≤ 2 ^ 22 → MayBegin base limit own view
may_begin_at head bases dies number base own limit view is_head mounted image within there own_is low high =
    let saved : List ChannelImage = image.0 in
    let of : ChannelImage = get_or saved number no_contents in
    let of_there : slice_get saved number ≡ Some of =
    slice_get-get_or saved number no_contents (omega (arith, within, image.1.as_many_saved)) in
    let are : AreOfContents (head_of head) number of base own =
    subst (λ (all : List DieState). AreOfContents (head_of head) number of base all) (sym own_is)
    (image.1.each number of base of_there there) in
    contents_may_begin head number of base own limit view is_head within are (are_mounted_on head dies number mounted within own own_is)
    low high

-- the serial of a row that may stand in an image
small_serial : (sizes : Sizes) (blocks : List BlockBase) (before : List Row) (of : Row)
    → is_saved_row sizes blocks before of ≡ true → HasSmallSerial of
small_serial sizes blocks before Empty e = tt
small_serial sizes blocks before Lost e = tt
small_serial sizes blocks before (Page slot serial) e =
    let t1 : Bool = is_below sizes.superblocks slot.sb in
    let t2 : Bool = is_below (2 ^ 32) slot.index in
    let t3 : Bool = is_below (2 ^ 64) serial in
    below_is (2 ^ 64) serial (and_parts (t1 && t2) t3 (and_parts (t1 && t2 && t3) (may_name blocks before slot) e).0).1

pub saved_serials_are_small : SavedSerialsAreSmall
saved_serials_are_small head channel saved base is_saved is_base row =
    subst (λ (rows : List Row). HasSmallSerial (get_or rows row Empty)) (sym is_base.rows)
    (small_serial head.sizes (blocks_of_saved saved.blocks) (take row saved.rows) (get_or saved.rows row Empty)
    (saved_row_at head.sizes (blocks_of_saved saved.blocks) saved.rows [] is_saved.rows row))
