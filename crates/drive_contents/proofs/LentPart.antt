-- The dies of one channel are lent by the list of a drive's, loaded, and given back in their places.
use Rattle.std.proofs.Common.{ℕ, ◌≡◌, ◌+◌, ◌*◌, ◌<◌, ◌≤◌, List, ◌++◌, drop, length, map, take, sym, ap, subst, ◌∙◌, arith}
use Rattle.std.proofs.Math.Seq.{drop-append_seam, take-append_seam}
use Rattle.std.proofs.lemmas.List.{drop-map, drop-take, length-append, length-drop, length-map, length-take-le, take-map}
use Rattle.std.proofs.lemmas.Slice.{drop-put_mid, take-put_mid, take-put_mid_below}
use borrow.Rule.Slice.PartMut.{put_mid}
use Rattle.blank_drive.proofs.BegunChannels.{are_dies_of}
use Rattle.drive_dies.specs.Mounting.{AreDiesOf, die_count}
use Rattle.final_dies.specs.FinalDies.{dies_of_channel}
use Rattle.onfi_cmd.specs.DieState.{DieState}
use Rattle.ssd_geo.specs.declared.head.ImageHead.{ImageHead}
use Rattle.drive_contents.specs.LoadedDrive.{AreReadyFrom, ChangesChannel}
use Rattle.drive_contents.proofs.LoadSteps.{channel_fits}

-- the dies of the next channel are blank
pub next_are_blank : (head : ImageHead) (channel : ℕ) (dies own : List DieState) → AreReadyFrom head channel dies
    → channel < head.shape.channels → own ≡ dies_of_channel head.shape.dies dies channel → AreDiesOf head channel own
next_are_blank head channel dies own from within are =
    are_dies_of head from.before channel from.ready within own
    (are ∙ ap (λ (all : List DieState). take head.shape.dies all) from.same)

-- they are among the dies of the list
pub part_fits : {A : Type 0} (state : A → DieState) (head : ImageHead) (channel : ℕ) (dies : List A)
    → AreReadyFrom head channel (map state dies) → channel < head.shape.channels
    → channel * head.shape.dies + head.shape.dies ≤ length dies
part_fits state head channel dies from within =
    let room : channel * head.shape.dies + head.shape.dies ≤ die_count head =
    channel_fits head.shape.channels head.shape.dies channel within in
    omega (arith, room, from.ready.enough, from.as_many, length-map dies state)

module _ {A : Type 0} (state : A → DieState) (count channel first k : ℕ) (olds news : List A) (at : first ≡ channel * count)
    (as_many : k ≡ count) where
  -- what is lent
  pub lent_are : map state (take k (drop first olds)) ≡ dies_of_channel count (map state olds) channel
  lent_are =
      sym (ap (λ (n : ℕ). take n (drop (channel * count) (map state olds))) (sym as_many)
      ∙ ap (λ (n : ℕ). take k (drop n (map state olds))) (sym at)
      ∙ ap (λ (all : List DieState). take k all) (drop-map state first olds)
      ∙ take-map state k (drop first olds))

  abbrev after : List A
  after = put_mid first k olds news

  module _ (fits : first + count ≤ length olds) (long : length news ≡ count) where
    -- what is in its place afterwards
    pub given_back : dies_of_channel count (map state after) channel ≡ map state news
    given_back =
        let low : first ≤ length olds = omega (arith, fits) in
        let short : length (take first olds) ≡ first = length-take-le first olds low in
        let cut : take (first + count) after ≡ take first olds ++ news =
        take-put_mid first k olds news (first + count) (omega (arith, long)) low in
        let part : take count (drop first after) ≡ news =
        sym (drop-take first count after) ∙ ap (λ (all : List A). drop first all) cut
        ∙ ap (λ (n : ℕ). drop n (take first olds ++ news)) (sym short) ∙ drop-append_seam (take first olds) news in
        ap (λ (n : ℕ). take count (drop n (map state after))) (sym at)
        ∙ ap (λ (all : List DieState). take count all) (drop-map state first after)
        ∙ take-map state count (drop first after) ∙ ap (λ (all : List A). map state all) part

    after_length : length after ≡ length olds
    after_length =
        omega (
          arith,
          length-append (take first olds) (news ++ drop k (drop first olds)),
          length-append news (drop k (drop first olds)),
          length-take-le first olds (omega (arith, fits)),
          length-drop k (drop first olds),
          length-drop first olds,
          fits,
          long,
          as_many,
        )

    pub others_stay : ChangesChannel count channel (map state olds) (map state after)
    others_stay =
        let low : first ≤ length olds = omega (arith, fits) in
        let front : take first (map state after) ≡ take first (map state olds) =
        take-map state first after
        ∙ ap (λ (all : List A). map state all) (take-put_mid_below first k olds news first (omega arith) low)
        ∙ sym (take-map state first olds) in
        let behind : drop (first + count) (map state after) ≡ drop (first + count) (map state olds) =
        drop-map state (first + count) after
        ∙ ap (λ (all : List A). map state all)
        (drop-put_mid first k olds news (first + count) (omega (arith, as_many)) low (omega (arith, long, as_many)))
        ∙ sym (drop-map state (first + count) olds) in
        record {
          count_stays = length-map after state ∙ after_length ∙ sym (length-map olds state);
          before_stay = subst (λ (n : ℕ). take n (map state after) ≡ take n (map state olds)) at front;
          behind_stay =
              subst (λ (n : ℕ). drop (n + count) (map state after) ≡ drop (n + count) (map state olds)) at behind;
        }

-- a slice was lent by a list of so many items, and others were written in their places
module _ {A : Type 0} (state : A → DieState) (olds seen news : List A) (count : ℕ) (long : length news ≡ count) (same : seen ≡ olds) where
  abbrev written : List A
  written = take count (news ++ drop (length news) olds)

  written_is : map state written ≡ map state news
  written_is =
      ap (λ (n : ℕ). map state (take n (news ++ drop (length news) olds))) (sym long)
      ∙ ap (λ (all : List A). map state all) (take-append_seam news (drop (length news) olds))

  -- what holds of the slice's holds of the list's
  pub of_list : (P : List DieState → List DieState → Type 0) → P (map state seen) (map state news)
      → P (map state olds) (map state written)
  of_list P holds =
      subst (λ (all : List DieState). P (map state olds) all) (sym written_is)
      (subst (λ (all : List DieState). P all (map state news)) (ap (λ (all : List A). map state all) same) holds)
