-- A ladder asks for senses of the page itself and of the other pages of its stripe, which are all
-- pages of the channel.
use Rattle.std.proofs.Common.{◌≡◌, ℕ, zero, suc, ◌+◌, ◌<◌, ◌≤◌, ◌==◌, ◌&&◌, nat_lt, not, cond, Bool, true, false, List, [], ◌∷◌, length, map, refl, subst, Some, ltb-true, arith, All}
use Rattle.std.specs.Prelude.{IsTrue, filter, ℤ, ⊤}
use Rattle.std.specs.List.{range_with_len}
use Rattle.std.proofs.lemmas.Bool.Decides.{nat_tests}
use Rattle.std.proofs.lemmas.List.Elements.{All-nil, All-cons, All-head, All-tail}
use Rattle.ssd_geo.specs.Bits.{bytes_sum}
use Rattle.ssd_geo.specs.Coding.{Coding}
use Rattle.ssd_geo.specs.Ladder.{LadderState, PlaceState, asks, recovered, uncorrectable, wants, found, missed, place_work, stripe_work, other_places, ladder_over}
use Rattle.ssd_histories.specs.Ranges.{has_place, has_slot}
use Rattle.ssd_geo.specs.Stripe.{place_of_slot}
use Rattle.ssd_geo.specs.StripeLaws.{HasPlace, IsPlace}
use Rattle.ssd_geo.specs.StripeSum.{zero_word}
use Rattle.ssd_geo.specs.declared.look.Look.{Look}
use Rattle.ssd_geo.specs.declared.place.Place.{Place}
use Rattle.ssd_geo.specs.declared.shape.Shape.{Shape}
use Rattle.ssd_geo.proofs.Stripes.{slots_have_places}
use Rattle.ssd_geo.specs.Superblock.{slots_of}
use Rattle.retry_ladder.specs.View.{IsLookIn}

-- a ladder asks only for places with a property
abbrev AsksFor : (Place → Type 0) → LadderState → Type 0
AsksFor P (asks place level) = P place
AsksFor P (recovered rung word) = ⊤
AsksFor P uncorrectable = ⊤

sum_asks : (P : Place → Type 0) (coding : Coding) (sum : List ℕ) (b : Bool) →
    AsksFor P (elim b [ true ↦ recovered (length coding.levels + 1) sum | false ↦ uncorrectable ])
sum_asks P coding sum true = tt
sum_asks P coding sum false = tt

stripe_found : (P : Place → Type 0) (coding : Coding) (accepts : List ℕ → Bool) (place : Place)
    (places : List Place) (sum : List ℕ) (state : PlaceState) → P place →
    ((sum : List ℕ) (left : List (List ℕ)) → AsksFor P (stripe_work coding accepts places sum
    left)) →
    AsksFor P (elim state [
      | wants level ↦ asks place level
      | found rung word left ↦ stripe_work coding accepts places (bytes_sum sum word) left
      | missed left ↦ uncorrectable
    ])
stripe_found P coding accepts place places sum (wants level) here rest = here
stripe_found P coding accepts place places sum (found rung word left) here rest =
    rest (bytes_sum sum word) left
stripe_found P coding accepts place places sum (missed left) here rest = tt

stripe_asks : (P : Place → Type 0) (coding : Coding) (accepts : List ℕ → Bool)
    (places : List Place) → All P places → (sum : List ℕ) (senses : List (List ℕ)) →
    AsksFor P (stripe_work coding accepts places sum senses)
stripe_asks P coding accepts [] all sum senses = sum_asks P coding sum (accepts sum)
stripe_asks P coding accepts (place ∷ places) all sum senses =
    stripe_found P coding accepts place places sum (place_work coding (λ word. true) senses)
    (All-head P place places all)
    (stripe_asks P coding accepts places (All-tail P place places all))

closed_asks : (P : Place → Type 0) (coding : Coding) (accepts : List ℕ → Bool)
    (others : List Place) → All P others → (closed : Bool) (left : List (List ℕ)) →
    AsksFor P (elim closed [
      | true ↦ stripe_work coding accepts others
          (zero_word coding.word_bytes) left
      | false ↦ uncorrectable
    ])
closed_asks P coding accepts others all true left = stripe_asks P coding accepts others all
    (zero_word coding.word_bytes) left
closed_asks P coding accepts others all false left = tt

page_asks : (P : Place → Type 0) (coding : Coding) (accepts : List ℕ → Bool) (place : Place)
    (others : List Place) (closed : Bool) → P place → All P others → (state : PlaceState) →
    AsksFor P (elim state [
      | wants level ↦ asks place level
      | found rung word left ↦ recovered rung word
      | missed left ↦ elim closed [
        | true ↦ stripe_work coding accepts others (zero_word coding.word_bytes) left
        | false ↦ uncorrectable
      ]
    ])
page_asks P coding accepts place others closed here all (wants level) = here
page_asks P coding accepts place others closed here all (found rung word left) = tt
page_asks P coding accepts place others closed here all (missed left) =
    closed_asks P coding accepts others all closed left

-- the other places of a stripe are on the dies
abbrev on_die : Place → ℕ → Place
on_die place die = record { die = die; sb = place.sb; page = place.page }

one_kept : (P : Place → Type 0) (place : Place) (die : ℕ) (rest : List ℕ) (b : Bool) →
    P (on_die place die) → All P (map (on_die place) rest) →
    All P (map (on_die place) (cond b (die ∷ rest) rest))
one_kept P place die rest true here all = All-cons P (on_die place die)
    (map (on_die place) rest) here all
one_kept P place die rest false here all = all

dies_asked : (P : Place → Type 0) (place : Place) (dies from n : ℕ) →
    ((die : ℕ) → die < dies → P (on_die place die)) → from + n ≤ dies →
    All P (map (on_die place) (filter (λ die. not (die == place.die)) (range_with_len from n)))
dies_asked P place dies from zero each le = All-nil P
dies_asked P place dies from (suc n) each le =
    one_kept P place from (filter (λ die. not (die == place.die)) (range_with_len (from + 1) n))
    (not (from == place.die)) (each from (omega arith))
    (dies_asked P place dies (from + 1) n each (omega arith))

-- a place of a shape
place_test : (a b c d e f : ℕ) → a < b → c < d → e < f →
    IsTrue (nat_lt a b && nat_lt c d && nat_lt e f)
place_test a b c d e f p q r = grind (arith, nat_tests)

-- the page of a look's slot is one of its shape
pub look_has_place : (shape : Shape) (look : Look) → IsLookIn shape look →
    IsPlace shape.dies shape.superblocks shape.pages (place_of_slot shape.dies look.slot)
look_has_place shape look is =
    let there : HasPlace shape.dies shape.superblocks shape.pages look.slot =
    slots_have_places shape.dies shape.superblocks shape.pages look.slot
    (two shape.dies shape.within.dies_low)
    (record { superblock = is.superblock; index = is.index }) in
    there.place
  where
    two : (n : ℕ) → 3 ≤ n → 2 ≤ n
    two n h = omega arith

-- what a ladder asks for is a place of the shape
pub asked_place : (shape : Shape) (coding : Coding) (look : Look) (senses : List (List ℕ))
    (place : Place) (level : ℤ) → IsLookIn shape look →
    ladder_over coding shape.dies (Some look) senses ≡ asks place level →
    IsTrue (has_place shape place)
asked_place shape coding look senses place level is asked =
    let own : Place = place_of_slot shape.dies look.slot in
    let there : IsPlace shape.dies shape.superblocks shape.pages own =
    look_has_place shape look is in
    let P : Place → Type 0 = λ place. IsTrue (has_place shape place) in
    subst (AsksFor P) asked
    (page_asks P coding (coding.has_head look.serial look.row) own
    (other_places shape.dies own) look.closed
    (place_test own.die shape.dies own.sb shape.superblocks own.page shape.pages there.die
    there.superblock there.page)
    (dies_asked P own shape.dies 0 shape.dies
    (λ die h. place_test die shape.dies own.sb shape.superblocks own.page shape.pages h
    there.superblock there.page) (omega arith))
    (place_work coding (coding.has_head look.serial look.row) senses))

-- a slot of a shape is one that a ladder may look for
pub slot_in : (shape : Shape) (look : Look) → IsTrue (has_slot shape look.slot) →
    IsLookIn shape look
slot_in shape look has =
    both (nat_lt look.slot.sb shape.superblocks) (nat_lt look.slot.index
    (slots_of shape.pages shape.dies)) has
    (λ sb index. record {
      superblock = ltb-true look.slot.sb shape.superblocks sb;
      index =
          ltb-true look.slot.index (slots_of shape.pages shape.dies) index;
    })
  where
    both : (a b : Bool) {R : Type 0} → IsTrue (a && b) → (a ≡ true → b ≡ true → R) → R
    both true true is f = f refl refl
    both true false is f = absurd (cc)
    both false b is f = absurd (cc)
