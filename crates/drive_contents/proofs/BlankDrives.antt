-- What an image without contents tells of the channels of a drive: nothing is read, and bases and dies are those of blank ones.
use Rattle.std.proofs.Common.{ℕ, zero, suc, ◌≡◌, ◌+◌, ◌<◌, false, List, [], ◌∷◌, ◌++◌, length, map, slice_get, Option, Some, Ok, Err, Result, refl, sym, ap, subst, ◌∙◌, arith, inl, inr}
use Rattle.std.specs.List.{range_with_len}
use Rattle.std.proofs.lemmas.Bool.{cases_lt}
use Rattle.std.proofs.lemmas.List.{append_assoc, append-nil, length-append}
use Rattle.std.proofs.lemmas.List.FromFn.{length-map-range_with_len}
use Rattle.std.proofs.lemmas.Option.{slice_get_within}
use Rattle.blank_drive.proofs.BegunChannels.{are_dies_of, cells_of_dies}
use Rattle.contents_start.proofs.BlankContents.{blank_contents_are_saved}
use Rattle.drive_dies.specs.Mounting.{AreDiesOf, AreReady}
use Rattle.final_dies.specs.FinalDies.{dies_of_channel}
use Rattle.image_contents.specs.Loads.{Loads}
use Rattle.image_file.specs.declared.stop.ImageFault.{ImageFault}
use Rattle.image_file.specs.declared.stop.ReadStop.{ReadStop}
use Rattle.onfi_cmd.specs.DieState.{DieState}
use Rattle.ssd_formats.proofs.FieldLaws.{goes_on}
use Rattle.ssd_formats.proofs.SpelledHeads.{reading_of}
use Rattle.ssd_formats.specs.Fields.{Reading, Rest}
use Rattle.ssd_formats.specs.ImageContents.{ChannelImage, IsBaseOf, IsSaved, blank_channel, cells_of_saved, read_channel, read_channels}
use Rattle.ssd_formats.specs.ImageHead.{Head, IsHead, head_of}
use Rattle.ssd_geo.specs.declared.base.ChannelBase.{ChannelBase}
use Rattle.ssd_geo.specs.declared.head.ImageHead.{ImageHead}
use Rattle.drive_contents.proofs.LoadSteps.{at_the_end}
use Rattle.drive_contents.proofs.Pieces.{same_of}
use Rattle.drive_contents.specs.LoadedDrive.{AreBlankBelow, AreOfDrive}
use Rattle.shared_lemmas.proofs.Lists.{in_front_of}

-- ---- the bases

pub none_blank : (head : Head) (bases : List ChannelBase) → bases ≡ [] → AreBlankBelow head 0 bases
none_blank head bases none = record {
  as_many = ap (λ (all : List ChannelBase). length all) none;
  each = λ channel base at.
      let low : channel < length bases = slice_get_within bases channel base at in
      absurd (omega (arith, low, ap (λ (all : List ChannelBase). length all) none));
}

-- one more
one_more_blank : (head : Head) (count : ℕ) (bases : List ChannelBase) (base : ChannelBase) → AreBlankBelow head count bases
    → IsBaseOf head count (blank_channel head count) base → AreBlankBelow head (count + 1) (bases ++ base ∷ [])
one_more_blank head count bases base blank is = record {
  as_many = omega (arith, length-append bases (base ∷ []), blank.as_many);
  each = λ channel other at.
      elim (cases_lt channel count) [
        | inl earlier ↦
            blank.each channel other
            (sym (in_front_of bases (base ∷ []) channel (omega (arith, earlier, blank.as_many))) ∙ at)
        | inr later ↦
            let low : channel < length (bases ++ base ∷ []) = slice_get_within (bases ++ base ∷ []) channel other at in
            let last : count ≡ channel = omega (arith, low, later, length-append bases (base ∷ []), blank.as_many) in
            let same : base ≡ other = same_of base other (sym (at_the_end bases base channel (blank.as_many ∙ last)) ∙ at) in
            subst (λ (n : ℕ). IsBaseOf head n (blank_channel head n) other) last
            (subst (λ (b : ChannelBase). IsBaseOf head count (blank_channel head count) b) same is)
      ];
}

pub next_blank : (head : Head) (count : ℕ) (bases : List ChannelBase) (base : ChannelBase) (more : List ChannelBase)
    → AreBlankBelow head count bases → IsBaseOf head count (blank_channel head count) base → more ≡ bases ++ base ∷ []
    → AreBlankBelow head (count + 1) more
next_blank head count bases base more blank is same =
    subst (λ (all : List ChannelBase). AreBlankBelow head (count + 1) all) (sym same) (one_more_blank head count bases base blank is)

-- ---- what they are of

-- what a list has that a function makes of numbers
made_at : {X : Type 0} (of : ℕ → X) (count from number : ℕ) (x : X) → slice_get (map of (range_with_len from count)) number ≡ Some x
    → of (from + number) ≡ x
made_at of zero from number x at = absurd (cc)
made_at of (suc count) from zero x at =
    let here : from ≡ from + 0 = omega arith in
    subst (λ n. of n ≡ x) here (same_of (of from) x at)
made_at of (suc count) from (suc number) x at =
    let there : from + 1 + number ≡ from + suc number = omega arith in
    subst (λ n. of n ≡ x) there (made_at of count (from + 1) number x at)

abbrev pub blank_channels : Head → List ChannelImage
blank_channels head = map (blank_channel head) (range_with_len 0 head.sizes.channels)

-- bases of blank channels, and dies that are mounted and blank, are of a blank drive
pub blank_drive_is : (head : ImageHead) (bases : List ChannelBase) (dies : List DieState) → IsHead (head_of head)
    → AreReady head dies → AreBlankBelow (head_of head) head.shape.channels bases
    → AreOfDrive (head_of head) (blank_channels (head_of head)) bases dies
blank_drive_is head bases dies is_head ready blank = record {
  of_image = record {
    as_many_saved = length-map-range_with_len (blank_channel (head_of head)) 0 head.shape.channels;
    as_many_bases = blank.as_many;
    each = λ channel of base of_at base_at.
        let low : channel < head.shape.channels = omega (arith, slice_get_within bases channel base base_at, blank.as_many) in
        let here : 0 + channel ≡ channel = omega arith in
        let same : blank_channel (head_of head) channel ≡ of =
        subst (λ (n : ℕ). blank_channel (head_of head) n ≡ of) here
        (made_at (blank_channel (head_of head)) head.shape.channels 0 channel of of_at) in
        let own : List DieState = dies_of_channel head.shape.dies dies channel in
        let are : AreDiesOf head channel own = are_dies_of head dies channel ready low own refl in
        record {
          is_saved = subst (λ (saved : ChannelImage). IsSaved (head_of head) channel saved) same
              (blank_contents_are_saved (head_of head) channel is_head);
          is_base = subst (λ (saved : ChannelImage). IsBaseOf (head_of head) channel saved base) same (blank.each channel base base_at);
          cells_are = cells_of_dies head channel own are
              ∙ ap (λ (saved : ChannelImage). cells_of_saved (head_of head).sizes saved) same;
        };
  };
  blank = λ none. refl;
}

-- ---- what is read

-- of a channel of a blank image nothing is read
blank_read : (head : Head) (channel : ℕ) (rest : Rest) → head.full ≡ false →
    read_channel head channel rest ≡ Ok (blank_channel head channel, rest)
blank_read head channel rest e = rw e refl

-- nor of so many more of them
blanks_read : (head : Head) (n : ℕ) (before : List ChannelImage) (rest : Rest) → head.full ≡ false →
    read_channels head n before rest ≡ Ok (before ++ map (blank_channel head) (range_with_len (length before) n), rest)
unfolding read_channels
blanks_read head zero before rest e =
    let all : before ≡ before ++ [] = sym (append-nil before) in
    ap (λ (channels : List ChannelImage). reading_of (channels, rest)) all
blanks_read head (suc n) before rest e =
    let blank : ChannelImage = blank_channel head (length before) in
    let more : ℕ → List ChannelImage = λ k. map (blank_channel head) (range_with_len k n) in
    let all : (before ++ blank ∷ []) ++ more (length (before ++ blank ∷ [])) ≡ before ++ blank ∷ more (length before + 1) =
    ap (λ (k : ℕ). (before ++ blank ∷ []) ++ more k) (length-append before (blank ∷ []))
    ∙ append_assoc before (blank ∷ []) (more (length before + 1)) in
    goes_on _ _ _ (blank_read head (length before) rest e)
    ∙ blanks_read head n (before ++ blank ∷ []) rest e
    ∙ ap (λ (channels : List ChannelImage). reading_of (channels, rest)) all

pub blank_channels_read : (head : Head) (rest : Rest) → head.full ≡ false
    → read_channels head head.sizes.channels [] rest ≡ Ok (blank_channels head, rest)
blank_channels_read head rest e = blanks_read head head.sizes.channels [] rest e

-- ---- a full image

-- what is loaded of a full image is loaded of a drive
pub loads_drive : {X : Type 0} (Of Also : X → List ChannelImage → Type 0) (before after : Option (List ℕ))
    (faults_before faults_after place next : ℕ) (result : Result X (ReadStop ImageFault))
    (reading : Rest → Reading (List ChannelImage))
    → ((x : X) (saved : List ChannelImage) → Of x saved → Also x saved)
    → Loads Of before after faults_before faults_after place next result reading
    → Loads Also before after faults_before faults_after place next result reading
loads_drive Of Also before after faults_before faults_after place next (Ok x) reading weaker loads = record {
  given = (loads.given.0, weaker x loads.given.0 loads.given.1, loads.given.2);
  never_fell = loads.never_fell;
  cause = loads.cause;
}
loads_drive Of Also before after faults_before faults_after place next (Err stop) reading weaker loads = record {
  given = loads.given;
  never_fell = loads.never_fell;
  cause = loads.cause;
}
