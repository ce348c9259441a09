-- What holds of slots, places and due pages whatever the sizes of a drive? Each law is the contract of a function
-- without a body.
use Rattle.std.specs.Prelude.{ℕ, ◌≡◌, ◌≢◌, ◌+◌, ◌-◌, ◌/◌, ◌<◌, ◌≤◌, ◌==◌, ◌&&◌, not, if◌then◌else◌, filter, sum}
use Rattle.std.specs.List.{range_with_len}
use Rattle.ssd_geo.specs.declared.place.Place.{Place}
use Rattle.ssd_geo.specs.declared.slot.Slot.{Slot}
use Rattle.ssd_geo.specs.Stripe.{data_dies, is_last_of_stripe, parity_die, place_of_parity, place_of_slot, slot_of_place, stripe_of_index}
use Rattle.ssd_geo.specs.Superblock.{due_of_dies, due_pages, slots_of}

-- a slot of a channel with these sizes
pub record IsSlot (dies superblocks pages : ℕ) (slot : Slot) : Type 0 where
  pub superblock : slot.sb < superblocks
  pub index : slot.index < slots_of pages dies

-- a page of the dies of a channel with these sizes
pub record IsPlace (dies superblocks pages : ℕ) (place : Place) : Type 0 where
  pub die : place.die < dies
  pub superblock : place.sb < superblocks
  pub page : place.page < pages

-- a place that isn't the parity place of its stripe
abbrev pub IsDataPlace : ℕ → Place → Type 0
IsDataPlace dies place = place ≢ place_of_parity dies place.sb place.page

-- the place of a slot is a data place of the channel, and gives the slot back
pub record HasPlace (dies superblocks pages : ℕ) (slot : Slot) : Type 0 where
  pub place : IsPlace dies superblocks pages (place_of_slot dies slot)
  pub holds_data : IsDataPlace dies (place_of_slot dies slot)
  pub back : slot_of_place dies (place_of_slot dies slot) ≡ slot

-- each slot has a place
abbrev pub SlotsHavePlaces : Type 0
SlotsHavePlaces =
    (dies superblocks pages : ℕ) (slot : Slot) → 2 ≤ dies → IsSlot dies superblocks pages slot → HasPlace dies superblocks pages slot

-- a data place holds a slot of the channel, and the slot gives the place back
pub record HasSlot (dies superblocks pages : ℕ) (place : Place) : Type 0 where
  pub slot : IsSlot dies superblocks pages (slot_of_place dies place)
  pub back : place_of_slot dies (slot_of_place dies place) ≡ place

-- each data place has a slot
abbrev pub PlacesHaveSlots : Type 0
PlacesHaveSlots =
    (dies superblocks pages : ℕ) (place : Place) → 2 ≤ dies → IsPlace dies superblocks pages place → IsDataPlace dies place → HasSlot dies superblocks pages place

-- two slots have two places
abbrev pub PlacesDiffer : Type 0
PlacesDiffer =
    (dies : ℕ) (a b : Slot) → 2 ≤ dies → place_of_slot dies a ≡ place_of_slot dies b → a ≡ b

-- the data dies of a stripe are all dies but the parity's, in rising order
abbrev pub DataDiesAreTheOthers : Type 0
DataDiesAreTheOthers =
    (dies sb stripe : ℕ) → 1 ≤ dies →
    data_dies dies sb stripe ≡ filter (λ die. not (die == parity_die dies sb stripe)) (range_with_len 0 dies)

-- the due pages of all dies are the used slots and a parity page for each closed stripe
abbrev pub DuePagesAddUp : Type 0
DuePagesAddUp =
    (dies sb used : ℕ) → 2 ≤ dies → sum (due_of_dies dies sb used) ≡ used + used / (dies - 1)

-- the first slot that isn't used, and the parity of its stripe, stand on the first page that isn't programmed of
-- their blocks
pub record IsNextPage (dies sb used : ℕ) : Type 0 where
  pub of_slot : due_pages dies sb used (place_of_slot dies (record { sb = sb; index = used })).die ≡ stripe_of_index dies used
  pub of_parity : due_pages dies sb used (parity_die dies sb (stripe_of_index dies used)) ≡ stripe_of_index dies used

-- pages are programmed in rising order
abbrev pub PagesRise : Type 0
PagesRise = (dies sb used : ℕ) → 2 ≤ dies → IsNextPage dies sb used

-- one more slot is used: its die has one page more, and so has the parity's where the slot is the last of its stripe
abbrev pub due_after_one : ℕ → ℕ → ℕ → ℕ → ℕ
due_after_one dies sb used die =
    due_pages dies sb used die
    + (if die == (place_of_slot dies (record { sb = sb; index = used })).die then 1 else 0)
    + (if is_last_of_stripe dies used && die == parity_die dies sb (stripe_of_index dies used) then 1 else 0)

-- what one more used slot does to the due pages
abbrev pub DuePagesStep : Type 0
DuePagesStep =
    (dies sb used die : ℕ) → 2 ≤ dies → die < dies → due_pages dies sb (used + 1) die ≡ due_after_one dies sb used die

-- nothing is due without a used slot, and all pages are where all slots are used
pub record HasDueEnds (dies sb pages die : ℕ) : Type 0 where
  pub none : due_pages dies sb 0 die ≡ 0
  pub all : due_pages dies sb (slots_of pages dies) die ≡ pages

-- the due pages at the two ends
abbrev pub DuePagesEnds : Type 0
DuePagesEnds = (dies sb pages die : ℕ) → 2 ≤ dies → HasDueEnds dies sb pages die
