-- Slots, places and due pages: the proofs of the laws of specs/StripeLaws.antt.
use Rattle.std.proofs.Common.{◌≡◌, ◌≢◌, ℕ, ◌+◌, ◌-◌, ◌*◌, ◌/◌, ◌%◌, ◌<◌, ◌≤◌, ◌==◌, ◌&&◌, not, if◌then◌else◌, nat_lt, ap, sym, ◌∙◌, inl, inr, add_assoc, arith}
use Rattle.std.proofs.Math.Nat.{add-mul, add-zero, mul-div_cancel, mul-mod_left, zero-div, zero-mod}
use Rattle.std.proofs.lemmas.Bool.{cases_lt}
use Rattle.std.proofs.lemmas.Bool.Decides.{nat_tests}
use Rattle.std.proofs.lemmas.Nat.{div-mul-add, mod-mul-add, div-add-mod', mul-add-lt, div_below, mod_below}
use Rattle.ssd_geo.specs.declared.place.Place.{Place}
use Rattle.ssd_geo.specs.declared.slot.Slot.{Slot}
use Rattle.ssd_geo.specs.Stripe.{data_die, data_number, parity_die, place_of_slot, slot_of_place}
use Rattle.ssd_geo.specs.StripeLaws.{IsDataPlace, SlotsHavePlaces, PlacesHaveSlots, PlacesDiffer, PagesRise, DuePagesStep, DuePagesEnds}

-- the number of a data die is the one that it was made from
pub data_number-data_die : (p n : ℕ) → data_number p (data_die p n) ≡ n
data_number-data_die p n = grind (arith, nat_tests)

-- a data die isn't the parity's
pub data_die-differs : (p n : ℕ) → data_die p n ≢ p
data_die-differs p n = grind (arith, nat_tests)

-- a die that isn't the parity's is the data die of its number
pub data_die-data_number : (p die : ℕ) → die ≢ p → data_die p (data_number p die) ≡ die
data_die-data_number p die h = grind (arith, nat_tests)

-- the data dies are dies
pub data_die-lt : (p n dies : ℕ) → n < dies - 1 → data_die p n < dies
data_die-lt p n dies h = grind (arith, nat_tests)

-- a data die's number is below the number of data dies
pub data_number-lt : (p die dies : ℕ) → p < dies → die < dies → die ≢ p → data_number p die < dies - 1
data_number-lt p die dies a b h = grind (arith, nat_tests)

-- 1 where a die is among the first r data dies of a stripe, else 0
abbrev counted : ℕ → ℕ → ℕ → ℕ
counted p r die = if not (die == p) && nat_lt (data_number p die) r then 1 else 0

-- the first data dies, and one more
counted_step : (p r die : ℕ) → counted p (r + 1) die ≡ counted p r die + (if die == data_die p r then 1 else 0)
counted_step p r die = grind (arith, nat_tests)

-- a slot by its parts
abbrev slot_at : ℕ → ℕ → Slot
slot_at sb index = record { sb = sb; index = index }

-- a place by its parts
abbrev place_at : ℕ → ℕ → ℕ → Place
place_at sb page die = record { die = die; sb = sb; page = page }

-- the die of a place
abbrev die_of : Place → ℕ
die_of place = place.die

-- the place of a data die's number in a stripe
abbrev place_in : ℕ → ℕ → ℕ → ℕ → Place
place_in dies sb stripe number = place_at sb stripe (data_die (parity_die dies sb stripe) number)

-- the slot of a slot's place is the slot
pub slot_of_place-place_of_slot : (dies : ℕ) (slot : Slot) → 2 ≤ dies → slot_of_place dies (place_of_slot dies slot) ≡ slot
slot_of_place-place_of_slot dies slot h =
    let w : ℕ = dies - 1 in
    let p : ℕ = parity_die dies slot.sb (slot.index / w) in
    let number : data_number p (data_die p (slot.index % w)) ≡ slot.index % w = data_number-data_die p (slot.index % w) in
    let index : slot.index / w * w + data_number p (data_die p (slot.index % w)) ≡ slot.index =
    ap (λ (n : ℕ). slot.index / w * w + n) number ∙ div-add-mod' slot.index w in
    ap (slot_at slot.sb) index

-- the parity's die is a die
pub parity_die-lt : (dies sb stripe : ℕ) → 2 ≤ dies → parity_die dies sb stripe < dies
parity_die-lt dies sb stripe h = mod_below (sb + stripe) dies (omega arith)

-- each slot has a place
pub slots_have_places : SlotsHavePlaces
slots_have_places dies superblocks pages slot h s =
    let stripe : ℕ = slot.index / (dies - 1) in
    let p : ℕ = parity_die dies slot.sb stripe in
    let below : slot.index % (dies - 1) < dies - 1 = mod_below slot.index (dies - 1) (omega arith) in
    record {
      place = record {
        die = data_die-lt p (slot.index % (dies - 1)) dies below;
        superblock = s.superblock;
        page = div_below slot.index (dies - 1) pages (omega arith) s.index;
      };
      holds_data = λ e. data_die-differs p (slot.index % (dies - 1)) (ap die_of e);
      back = slot_of_place-place_of_slot dies slot h;
    }

-- a place with a die that isn't the parity's
die_differs : (dies : ℕ) (place : Place) → IsDataPlace dies place → place.die ≢ parity_die dies place.sb place.page
die_differs dies place d e = d (ap (place_at place.sb place.page) e)

-- each data place has a slot
pub places_have_slots : PlacesHaveSlots
places_have_slots dies superblocks pages place h s d =
    let w : ℕ = dies - 1 in
    let p : ℕ = parity_die dies place.sb place.page in
    let other : place.die ≢ p = die_differs dies place d in
    let number : data_number p place.die < w =
    data_number-lt p place.die dies (parity_die-lt dies place.sb place.page h) s.die other in
    let stripe : (place.page * w + data_number p place.die) / w ≡ place.page =
    div-mul-add place.page w (data_number p place.die) number in
    let rest : (place.page * w + data_number p place.die) % w ≡ data_number p place.die =
    mod-mul-add place.page w (data_number p place.die) number in
    record {
      slot = record {
        superblock = s.superblock;
        index = omega (arith, mul-add-lt place.page w (data_number p place.die) pages s.page number);
      };
      back =
          ap (λ (q : ℕ). place_in dies place.sb q ((place.page * w + data_number p place.die) % w)) stripe
          ∙ ap (place_in dies place.sb place.page) rest
          ∙ ap (place_at place.sb place.page) (data_die-data_number p place.die other);
    }

-- two slots have two places
pub places_differ : PlacesDiffer
places_differ dies a b h e =
    sym (slot_of_place-place_of_slot dies a h) ∙ ap (slot_of_place dies) e ∙ slot_of_place-place_of_slot dies b h

-- the due pages of a die where so many stripes are closed and so many slots of the next one are used
abbrev due_in : ℕ → ℕ → ℕ → ℕ → ℕ → ℕ
due_in dies sb whole rest die =
    whole + counted (parity_die dies sb whole) rest die

-- without a slot used in the open stripe
due_in-none : (dies sb whole die : ℕ) → due_in dies sb whole 0 die ≡ whole
due_in-none dies sb whole die = grind (arith, nat_tests)

-- the die of the next slot has only the pages of the closed stripes
counted_not : (p r : ℕ) → counted p r (data_die p r) ≡ 0
counted_not p r = grind (arith, nat_tests)

-- and so has the parity's
counted_parity : (p r : ℕ) → counted p r p ≡ 0
counted_parity p r = grind (arith, nat_tests)

-- pages are programmed in rising order
pub pages_rise : PagesRise
pages_rise dies sb used h =
    let p : ℕ = parity_die dies sb (used / (dies - 1)) in
    let slot : used / (dies - 1) + counted p (used % (dies - 1)) (data_die p (used % (dies - 1))) ≡ used / (dies - 1) =
    ap (λ (n : ℕ). used / (dies - 1) + n) (counted_not p (used % (dies - 1))) ∙ add-zero (used / (dies - 1)) in
    let parity : used / (dies - 1) + counted p (used % (dies - 1)) p ≡ used / (dies - 1) =
    ap (λ (n : ℕ). used / (dies - 1) + n) (counted_parity p (used % (dies - 1))) ∙ add-zero (used / (dies - 1)) in
    record { of_slot = slot; of_parity = parity }

-- the due pages at the two ends
pub due_pages_ends : DuePagesEnds
due_pages_ends dies sb pages die h =
    record {
      none =
          ap (λ (q : ℕ). due_in dies sb q (0 % (dies - 1)) die) (zero-div (dies - 1))
          ∙ ap (λ (r : ℕ). due_in dies sb 0 r die) (zero-mod (dies - 1))
          ∙ due_in-none dies sb 0 die;
      all =
          ap (λ (q : ℕ). due_in dies sb q (pages * (dies - 1) % (dies - 1)) die) (mul-div_cancel pages {n = dies - 1} (omega arith))
          ∙ ap (λ (r : ℕ). due_in dies sb pages r die) (mul-mod_left pages (dies - 1))
          ∙ due_in-none dies sb pages die;
    }

-- one more slot of the open stripe, and not its last
due_in-open : (dies sb whole rest die : ℕ) → rest + 1 < dies - 1 →
    due_in dies sb whole (rest + 1) die
    ≡ due_in dies sb whole rest die
    + (if die == data_die (parity_die dies sb whole) rest then 1 else 0)
    + (if rest + 1 == dies - 1 && die == parity_die dies sb whole then 1 else 0)
due_in-open dies sb whole rest die more =
    let step : _ = counted_step (parity_die dies sb whole) rest die in
    grind (arith, nat_tests)

-- the last slot of the open stripe
due_in-last : (dies sb whole rest die : ℕ) → 2 ≤ dies → die < dies → rest + 1 ≡ dies - 1 →
    due_in dies sb (whole + 1) 0 die
    ≡ due_in dies sb whole rest die
    + (if die == data_die (parity_die dies sb whole) rest then 1 else 0)
    + (if rest + 1 == dies - 1 && die == parity_die dies sb whole then 1 else 0)
due_in-last dies sb whole rest die h d last =
    let parity : parity_die dies sb whole < dies = parity_die-lt dies sb whole h in
    let none : _ = due_in-none dies sb (whole + 1) die in
    grind (arith, nat_tests)

-- one slot more than r slots of the open stripe after q closed ones, before the stripe's end
one_more-div : (q r w : ℕ) → r + 1 < w → (q * w + r + 1) / w ≡ q
one_more-div q r w h = ap (λ (n : ℕ). n / w) (add_assoc (q * w) r 1) ∙ div-mul-add q w (r + 1) h

one_more-mod : (q r w : ℕ) → r + 1 < w → (q * w + r + 1) % w ≡ r + 1
one_more-mod q r w h = ap (λ (n : ℕ). n % w) (add_assoc (q * w) r 1) ∙ mod-mul-add q w (r + 1) h

-- and at the stripe's end
stripe_more : (q r w : ℕ) → r + 1 ≡ w → q * w + r + 1 ≡ (q + 1) * w + 0
stripe_more q r w e = omega (arith, add-mul q 1 w)

-- what one more used slot does to the due pages
pub due_pages_step : DuePagesStep
due_pages_step dies sb used die h d =
    let w : ℕ = dies - 1 in
    let q : ℕ = used / w in
    let r : ℕ = used % w in
    let parts : q * w + r ≡ used = div-add-mod' used w in
    let below : r < w = mod_below used w (omega arith) in
    elim (cases_lt (r + 1) w) [
      | inl more ↦
          ap (λ (n : ℕ). due_in dies sb ((n + 1) / w) ((n + 1) % w) die) (sym parts)
          ∙ ap (λ (n : ℕ). due_in dies sb n ((q * w + r + 1) % w) die) (one_more-div q r w more)
          ∙ ap (λ (n : ℕ). due_in dies sb q n die) (one_more-mod q r w more)
          ∙ due_in-open dies sb q r die more
      | inr last ↦
          let end : r + 1 ≡ w = omega arith in
          ap (λ (n : ℕ). due_in dies sb ((n + 1) / w) ((n + 1) % w) die) (sym parts)
          ∙ ap (λ (n : ℕ). due_in dies sb (n / w) (n % w) die) (stripe_more q r w end)
          ∙ ap (λ (n : ℕ). due_in dies sb n (((q + 1) * w + 0) % w) die) (div-mul-add (q + 1) w 0 (omega arith))
          ∙ ap (λ (n : ℕ). due_in dies sb (q + 1) n die) (mod-mul-add (q + 1) w 0 (omega arith))
          ∙ due_in-last dies sb q r die h d end
    ]

-- one slot more closes a stripe where it is the last of its stripe
pub one_more_closed : (used w : ℕ) → 0 < w → (used + 1) / w ≡ used / w + (if used % w + 1 == w then 1 else 0)
one_more_closed used w h =
    let q : ℕ = used / w in
    let r : ℕ = used % w in
    let parts : q * w + r ≡ used = div-add-mod' used w in
    let below : r < w = mod_below used w h in
    elim (cases_lt (r + 1) w) [
      | inl more ↦
          let next : (used + 1) / w ≡ q =
          ap (λ (n : ℕ). (n + 1) / w) (sym parts) ∙ one_more-div q r w more in
          grind (arith, nat_tests)
      | inr last ↦
          let end : r + 1 ≡ w = omega arith in
          let next : (used + 1) / w ≡ q + 1 =
          ap (λ (n : ℕ). (n + 1) / w) (sym parts)
          ∙ ap (λ (n : ℕ). n / w) (stripe_more q r w end)
          ∙ div-mul-add (q + 1) w 0 h in
          grind (arith, nat_tests)
    ]
