-- What a channel with a number is saved as, and its base among those of a drive.
use Rattle.std.proofs.Common.{◌≡◌, ℕ, ◌<◌, List, length, get_or, refl, sym, ap, subst, ◌∙◌, zero-add, arith}
use Rattle.std.specs.List.{enumerate_from}
use Rattle.std.proofs.lemmas.List.{get_or-map, length-map}
use Rattle.std.proofs.lemmas.List.FromFn.{get_or-enumerate_from, length-enumerate_from}
use Rattle.std.proofs.lemmas.Option.{slice_get_read}
use Rattle.ssd_geo.specs.declared.base.ChannelBase.{ChannelBase}
use Rattle.ssd_geo.specs.declared.shape.Shape.{Shape}
use Rattle.ssd_formats.specs.ImageContents.{ChannelImage, channel_bytes, saved_channel}
use Rattle.onfi_cmd.specs.DieState.{DieState}
use Rattle.final_dies.specs.FinalDies.{dies_of_channel}
use Rattle.contents_file.specs.DiesCopied.{AllTellPages, cells_told}
use Rattle.drive_image.specs.WholeImage.{AreBasesOf, ChannelsTellPages, IsBaseOfChannel, saved_channels_of, saved_of}

-- as many channels are saved as have a base
pub saved_count : (shape : Shape) (bases : List ChannelBase) (dies : List DieState)
    → length (saved_channels_of shape bases dies) ≡ length bases
saved_count shape bases dies =
    length-map (enumerate_from 0 bases) (saved_of shape dies) ∙ length-enumerate_from 0 bases

-- the one with a number
saved_at : (shape : Shape) (bases : List ChannelBase) (dies : List DieState) (channel : ℕ) (base : ChannelBase) (d : ChannelImage)
    → channel < length bases → base ≡ get_or bases channel base
    → get_or (saved_channels_of shape bases dies) channel d
    ≡ saved_channel base (cells_told (dies_of_channel shape.dies dies channel))
saved_at shape bases dies channel base d within is =
    get_or-map (saved_of shape dies) (enumerate_from 0 bases) channel (0, base) d
    (omega (arith, within, length-enumerate_from 0 bases))
    ∙ ap (saved_of shape dies) (
    get_or-enumerate_from 0 bases channel (0, base) within
    ∙ ap {B = ℕ × ChannelBase} (λ n. (n, get_or bases channel base)) (zero-add channel)
    ∙ ap {B = ℕ × ChannelBase} (λ b. (channel, b)) (sym is)
    )

-- the base that stands at a number is that of the channel
pub base_at : (shape : Shape) (bases : List ChannelBase) (channel : ℕ) (base : ChannelBase) → AreBasesOf shape bases
    → channel < shape.channels → base ≡ get_or bases channel base → IsBaseOfChannel shape channel base
base_at shape bases channel base are within is =
    are.each channel base (slice_get_read bases (length bases) channel base refl (omega (arith, within, are.count_is)) is)

-- the dies of the channel of a base
own_dies : (shape : Shape) (channel : ℕ) (base : ChannelBase) (dies : List DieState) → IsBaseOfChannel shape channel base
    → dies_of_channel base.shape.dies dies base.channel ≡ dies_of_channel shape.dies dies channel
own_dies shape channel base dies of =
    ap (λ (own : Shape). dies_of_channel own.dies dies base.channel) of.shape_is
    ∙ ap (λ (number : ℕ). dies_of_channel shape.dies dies number) of.number_is

-- they tell their pages, where those of the list stayed as they were
pub own_tell : (shape : Shape) (channel : ℕ) (base : ChannelBase) (olds dies : List DieState) → IsBaseOfChannel shape channel base
    → ChannelsTellPages shape olds → channel < shape.channels → dies ≡ olds
    → AllTellPages base.shape (dies_of_channel base.shape.dies dies base.channel)
own_tell shape channel base olds dies of tell within same =
    subst (λ (own : Shape). AllTellPages own (dies_of_channel base.shape.dies dies base.channel)) (sym of.shape_is)
    (subst (λ (own : List DieState). AllTellPages shape own)
    (ap (λ (all : List DieState). dies_of_channel shape.dies all channel) (sym same) ∙ sym (own_dies shape channel base dies of))
    (tell channel within))

-- and the bytes of the channel are those of its base and of its dies
pub bytes_at : (shape : Shape) (bases : List ChannelBase) (olds dies : List DieState) (channel : ℕ) (base : ChannelBase) (d : ChannelImage)
    → IsBaseOfChannel shape channel base → channel < length bases → base ≡ get_or bases channel base → dies ≡ olds
    → channel_bytes (get_or (saved_channels_of shape bases olds) channel d)
    ≡ channel_bytes (saved_channel base (cells_told (dies_of_channel base.shape.dies dies base.channel)))
bytes_at shape bases olds dies channel base d of within is same =
    ap channel_bytes
    (saved_at shape bases olds channel base d within is
    ∙ ap (λ (own : List DieState). saved_channel base (cells_told own))
    (ap (λ (all : List DieState). dies_of_channel shape.dies all channel) (sym same)
    ∙ sym (own_dies shape channel base dies of)))
