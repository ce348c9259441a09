-- A ladder asks for senses of the page itself and of the other pages of its stripe, which are all pages of the channel.
use Rattle.std.proofs.Common.{◌≡◌, ℕ, zero, suc, ◌+◌, ◌<◌, ◌≤◌, ◌==◌, ◌&&◌, nat_lt, not, cond, Bool, true, false, List, [], ◌∷◌, length, map, subst, Some, ltb-true, arith, All}
use Rattle.std.specs.Prelude.{filter, ℤ, ⊤}
use Rattle.std.specs.List.{range_with_len}
use Rattle.std.proofs.lemmas.Bool.{and_parts}
use Rattle.std.proofs.lemmas.Bool.Decides.{nat_tests}
use Rattle.std.proofs.lemmas.List.Elements.{All-nil, All-cons, All-head, All-tail}
use Rattle.ssd_geo.specs.Bits.{bytes_sum}
use Rattle.ssd_geo.specs.Coding.{Coding}
use Rattle.ssd_geo.specs.Ladder.{LadderState, PlaceState, asks, recovered, uncorrectable, wants, found, missed, place_work, stripe_work, other_places, ladder_over}
use Rattle.ssd_geo.specs.Stripe.{place_of_slot}
use Rattle.ssd_geo.specs.StripeLaws.{HasPlace}
use Rattle.ssd_geo.specs.StripeSum.{zero_word}
use Rattle.ssd_geo.specs.Superblock.{slots_of}
use Rattle.ssd_geo.specs.declared.look.Look.{Look}
use Rattle.ssd_geo.specs.declared.place.Place.{Place}
use Rattle.ssd_geo.specs.declared.shape.Shape.{Shape}
use Rattle.ssd_geo.proofs.Stripes.{slots_have_places}
use Rattle.ssd_histories.specs.Ranges.{has_place, has_slot}

-- where a ladder asks for a sense, its place has a property
abbrev AsksOnly : (Place → Type 0) → LadderState → Type 0
AsksOnly P (asks place level) = P place
AsksOnly P (recovered rung word) = ⊤
AsksOnly P uncorrectable = ⊤

-- the work on other places asks only for these
others_asked : (P : Place → Type 0) (coding : Coding) (accepts : List ℕ → Bool) (places : List Place) → All P places
    → (sum : List ℕ) (senses : List (List ℕ))
    → AsksOnly P (stripe_work coding accepts places sum senses)
others_asked P coding accepts [] all sum senses = by_test (accepts sum)
  where
    by_test : (b : Bool) → AsksOnly P (elim b [ true ↦ recovered (length coding.levels + 1) sum | false ↦ uncorrectable ])
    by_test true = tt
    by_test false = tt
others_asked P coding accepts (place ∷ places) all sum senses =
    by_work (place_work coding (λ word. true) senses) (others_asked P coding accepts places (All-tail P place places all))
  where
    by_work : (state : PlaceState) → ((more : List ℕ) (left : List (List ℕ))
        → AsksOnly P (stripe_work coding accepts places more left))
        → AsksOnly P (elim state [
          | wants level ↦ asks place level
          | found rung word left ↦ stripe_work coding accepts places (bytes_sum sum word) left
          | missed left ↦ uncorrectable
        ])
    by_work (wants level) rest = All-head P place places all
    by_work (found rung word left) rest = rest (bytes_sum sum word) left
    by_work (missed left) rest = tt

-- a ladder asks only for the page's own place and for those
own_asked : (P : Place → Type 0) (coding : Coding) (accepts : List ℕ → Bool) (own : Place) (others : List Place)
    (closed : Bool) → P own → All P others → (state : PlaceState)
    → AsksOnly P (elim state [
      | wants level ↦ asks own level
      | found rung word left ↦ recovered rung word
      | missed left ↦ elim closed [
        | true ↦ stripe_work coding accepts others (zero_word coding.word_bytes) left
        | false ↦ uncorrectable
      ]
    ])
own_asked P coding accepts own others closed here all (wants level) = here
own_asked P coding accepts own others closed here all (found rung word left) = tt
own_asked P coding accepts own others true here all (missed left) = others_asked P coding accepts others all
    (zero_word coding.word_bytes) left
own_asked P coding accepts own others false here all (missed left) = tt

-- the same page on another die, and on all dies but some
abbrev on_die : Place → ℕ → Place
on_die place die = record { die = die; sb = place.sb; page = place.page }

-- what holds of a page on each die holds on all that pass a test
all_on_dies : (P : Place → Type 0) (place : Place) (test : ℕ → Bool) (dies from n : ℕ)
    → ((die : ℕ) → die < dies → P (on_die place die)) → from + n ≤ dies
    → All P (map (on_die place) (filter test (range_with_len from n)))
all_on_dies P place test dies from zero each le = All-nil P
all_on_dies P place test dies from (suc n) each le =
    by_test (test from) (filter test (range_with_len (from + 1) n))
    (all_on_dies P place test dies (from + 1) n each (omega arith))
  where
    by_test : (b : Bool) (rest : List ℕ) → All P (map (on_die place) rest)
        → All P (map (on_die place) (cond b (from ∷ rest) rest))
    by_test true rest all = All-cons P (on_die place from) (map (on_die place) rest) (each from (omega arith)) all
    by_test false rest all = all

-- what the ladder of a look asks for is a place of the channel
pub asked_in_range : (shape : Shape) (coding : Coding) (look : Look) (senses : List (List ℕ)) (place : Place) (level : ℤ)
    → has_slot shape look.slot ≡ true
    → ladder_over coding shape.dies (Some look) senses ≡ asks place level → has_place shape place ≡ true
asked_in_range shape coding look senses place level range asked =
    subst (AsksOnly InRange) asked
    (own_asked InRange coding (coding.has_head look.serial look.row) own (other_places shape.dies own) look.closed
    (within own.die own.sb own.page there.place.die there.place.superblock there.place.page)
    (all_on_dies InRange own (λ die. not (die == own.die)) shape.dies 0 shape.dies
    (λ die lt. within die own.sb own.page lt there.place.superblock there.place.page) (omega arith))
    (place_work coding (coding.has_head look.serial look.row) senses))
  where
    InRange : Place → Type 0
    InRange place = has_place shape place ≡ true

    own : Place
    own = place_of_slot shape.dies look.slot

    parts : (nat_lt look.slot.sb shape.superblocks ≡ true) × (nat_lt look.slot.index (slots_of shape.pages shape.dies) ≡ true)
    parts = and_parts (nat_lt look.slot.sb shape.superblocks) (nat_lt look.slot.index (slots_of shape.pages shape.dies)) range

    there : HasPlace shape.dies shape.superblocks shape.pages look.slot
    there =
        slots_have_places shape.dies shape.superblocks shape.pages look.slot (omega (arith, shape.within.dies_low))
        (record {
          superblock = ltb-true look.slot.sb shape.superblocks parts.0;
          index = ltb-true look.slot.index (slots_of shape.pages shape.dies) parts.1;
        })

    within : (die sb page : ℕ) → die < shape.dies → sb < shape.superblocks → page < shape.pages
        → (nat_lt die shape.dies && nat_lt sb shape.superblocks && nat_lt page shape.pages) ≡ true
    within die sb page p q r = tests die shape.dies sb shape.superblocks page shape.pages p q r
      where
        tests : (a b c d e f : ℕ) → a < b → c < d → e < f → (nat_lt a b && nat_lt c d && nat_lt e f) ≡ true
        tests a b c d e f p q r = grind (arith, nat_tests)
