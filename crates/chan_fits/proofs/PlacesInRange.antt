-- Slots and places in range: what the tests say. A slot's page and its stripe's parity are two pages of the channel.
use Rattle.std.proofs.Common.{◌≢◌, ◌<◌, ◌≤◌, arith, IsTrue}
use Rattle.std.proofs.lemmas.Bool.Decides.{nat_tests}
use Rattle.ssd_histories.specs.Ranges.{has_place, has_slot}
use Rattle.ssd_geo.specs.Stripe.{place_of_parity, place_of_slot, stripe_of_index}
use Rattle.ssd_geo.specs.StripeLaws.{HasPlace, IsPlace, IsSlot}
use Rattle.ssd_geo.specs.Superblock.{slots_of}
use Rattle.ssd_geo.specs.declared.place.Place.{Place}
use Rattle.ssd_geo.specs.declared.shape.Shape.{Shape}
use Rattle.ssd_geo.specs.declared.slot.Slot.{Slot}
use Rattle.ssd_geo.proofs.Stripes.{parity_die-lt, slots_have_places}

-- what the tests of ranges say
pub place_in_range : (shape : Shape) (place : Place) → IsTrue (has_place shape place)
    → IsPlace shape.dies shape.superblocks shape.pages place
place_in_range shape place h = record {
  die = grind (arith, nat_tests);
  superblock = grind (arith, nat_tests);
  page = grind (arith, nat_tests);
}

pub place_has_range : (shape : Shape) (place : Place) → IsPlace shape.dies shape.superblocks shape.pages place
    → IsTrue (has_place shape place)
place_has_range shape place h =
    let die : place.die < shape.dies = h.die in
    let block : place.sb < shape.superblocks = h.superblock in
    let page : place.page < shape.pages = h.page in
    grind (arith, nat_tests)

pub slot_in_range : (shape : Shape) (slot : Slot) → IsTrue (has_slot shape slot)
    → IsSlot shape.dies shape.superblocks shape.pages slot
slot_in_range shape slot h = record {
  superblock = grind (arith, nat_tests);
  index = grind (arith, nat_tests);
}

pub slot_has_range : (shape : Shape) (slot : Slot) → slot.sb < shape.superblocks → slot.index < slots_of shape.pages shape.dies
    → IsTrue (has_slot shape slot)
slot_has_range shape slot block index = grind (arith, nat_tests)

-- a slot's place and its stripe's parity place are two places of the channel
pub record HasPlaces (shape : Shape) (slot : Slot) : Type 0 where
  pub slot_range : IsTrue (has_place shape (place_of_slot shape.dies slot))
  pub parity_range : IsTrue (has_place shape (place_of_parity shape.dies slot.sb (stripe_of_index shape.dies slot.index)))
  pub differ : place_of_slot shape.dies slot ≢ place_of_parity shape.dies slot.sb (stripe_of_index shape.dies slot.index)

pub has_places : (shape : Shape) (slot : Slot) → IsTrue (has_slot shape slot) → HasPlaces shape slot
has_places shape slot range =
    let two : 2 ≤ shape.dies = omega (arith, shape.within.dies_low) in
    let there : HasPlace shape.dies shape.superblocks shape.pages slot =
    slots_have_places shape.dies shape.superblocks shape.pages slot two (slot_in_range shape slot range) in
    record {
      slot_range = place_has_range shape (place_of_slot shape.dies slot) there.place;
      parity_range = place_has_range shape (place_of_parity shape.dies slot.sb (stripe_of_index shape.dies slot.index))
          (record {
            die = parity_die-lt shape.dies slot.sb (stripe_of_index shape.dies slot.index) two;
            superblock = there.place.superblock;
            page = there.place.page;
          });
      differ = there.holds_data;
    }
