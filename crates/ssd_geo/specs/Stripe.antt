-- Which slots make a stripe, where do its pages stand, and which die has its parity? Superblock b is block b of all
-- dies of its channel; stripe n of it is page n of these blocks, and one of these pages is the parity of the others.
-- The parity's die moves on from stripe to stripe and from superblock to superblock, so that no die has them all.
-- The layout is this project's own.
use Rattle.std.specs.Prelude.{ℕ, ◌+◌, ◌-◌, ◌*◌, ◌/◌, ◌%◌, ◌==◌, nat_lt, nat_le, Bool, if◌then◌else◌, List, map}
use Rattle.std.specs.List.{range_with_len}
use Rattle.ssd_geo.specs.declared.place.Place.{Place}
use Rattle.ssd_geo.specs.declared.slot.Slot.{Slot}

-- the stripe of a slot's index: with K dies a stripe has K - 1 data slots
abbrev pub stripe_of_index : ℕ → ℕ → ℕ
stripe_of_index dies index = index / (dies - 1)

-- the die with the parity of a stripe of a superblock
abbrev pub parity_die : ℕ → ℕ → ℕ → ℕ
parity_die dies sb stripe = (sb + stripe) % dies

-- data die n of a stripe, counted from 0: the data dies are the dies but the parity's, in rising order
abbrev pub data_die : ℕ → ℕ → ℕ
data_die parity n = if nat_lt n parity then n else n + 1

-- the number of a die among the data dies of a stripe, counted from 0
abbrev pub data_number : ℕ → ℕ → ℕ
data_number parity die = if nat_lt die parity then die else die - 1

-- the data dies of a stripe of a superblock, in rising order
abbrev pub data_dies : ℕ → ℕ → ℕ → List ℕ
data_dies dies sb stripe = map (data_die (parity_die dies sb stripe)) (range_with_len 0 (dies - 1))

-- the place of a slot: its data die's page whose number is the stripe's
abbrev pub place_of_slot : ℕ → Slot → Place
place_of_slot dies slot =
    let stripe = stripe_of_index dies slot.index in
    record {
      die = data_die (parity_die dies slot.sb stripe) (slot.index % (dies - 1));
      sb = slot.sb;
      page = stripe;
    }

-- the place of a stripe's parity
abbrev pub place_of_parity : ℕ → ℕ → ℕ → Place
place_of_parity dies sb stripe = record { die = parity_die dies sb stripe; sb = sb; page = stripe }

-- the slot of a place that isn't its stripe's parity place
abbrev pub slot_of_place : ℕ → Place → Slot
slot_of_place dies place =
    record {
      sb = place.sb;
      index = place.page * (dies - 1) + data_number (parity_die dies place.sb place.page) place.die;
    }

-- a slot is the last of its stripe
abbrev pub is_last_of_stripe : ℕ → ℕ → Bool
is_last_of_stripe dies index = index % (dies - 1) + 1 == dies - 1

-- a stripe is closed where all its data slots are used: its parity was programmed with the last of them
abbrev pub is_closed : ℕ → ℕ → ℕ → Bool
is_closed dies used stripe = nat_le ((stripe + 1) * (dies - 1)) used
