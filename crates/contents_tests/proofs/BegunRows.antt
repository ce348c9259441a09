-- A channel that began with what an image tells of it has as many rows as the image's drive.
use Rattle.std.proofs.Common.{ℕ, ◌≡◌, ◌<◌, List, [], ◌∷◌, length, map, get_or, slice_get, Option, Some, refl, sym, ap, ◌∙◌, arith}
use Rattle.chan_state.specs.ChannelState.{ChannelState}
use Rattle.onfi_cmd.specs.DieState.{DieState}
use Rattle.saved_drive.specs.Begun.{HaveBegun}
use Rattle.saved_drive.specs.Contents.{HaveImage}
use Rattle.ssd_formats.specs.ImageHead.{head_of}
use Rattle.ssd_geo.specs.Limits.{Sizes}
use Rattle.ssd_geo.specs.declared.base.ChannelBase.{ChannelBase}
use Rattle.ssd_geo.specs.declared.head.ImageHead.{ImageHead}
use Rattle.ssd_geo.specs.declared.policy_view.PolicyView.{PolicyView}
use Rattle.ssd_geo.specs.declared.shape.Shape.{Shape}

pub first_of : {A : Type 0} (xs : List A) → 0 < length xs → (x : A) × (slice_get xs 0 ≡ Some x)
first_of [] some = absurd (omega (arith, some))
first_of (x ∷ xs) some = (x, refl)

-- the first of mapped items
pub first_mapped : {A B : Type 0} (f : A → B) (xs : List A) (x : A) → 0 < length xs → x ≡ get_or xs 0 x → slice_get (map f xs) 0 ≡ Some (f x)
first_mapped f [] x some is = absurd (omega (arith, some))
first_mapped f (y ∷ xs) x some is = ap (λ a. Some (f a)) (sym is)

pub rows_of_begun : (head : ImageHead) (bases : List ChannelBase) (limit : ℕ) (dies : List DieState) (views : List (Option PolicyView))
    (channels : List ChannelState) (channel : ChannelState) → HaveImage (head_of head) bases dies
    → HaveBegun bases limit head.shape.dies dies views channels → slice_get channels 0 ≡ Some channel → 0 < head.shape.channels
    → channel.shape.rows ≡ head.shape.rows
rows_of_begun head bases limit dies views channels channel image begun at some =
    let own = begun.each 0 channel at in
    let of = first_of image.0 (omega (arith, image.1.as_many_saved, some)) in
    let contents = image.1.each 0 of.0 own.base of.1 own.base_is in
    ap (λ (shape : Shape). shape.rows) own.has_begun.shape_is ∙ ap (λ (sizes : Sizes). sizes.rows) contents.is_base.shape
