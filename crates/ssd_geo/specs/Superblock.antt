-- How many data slots has a superblock, and how many pages of each of its blocks are programmed once so many of its
-- slots are used? Slots are used in rising order, and a stripe's parity is programmed with its last data slot.
use Rattle.std.specs.Prelude.{ℕ, ◌+◌, ◌-◌, ◌*◌, ◌/◌, ◌%◌, ◌==◌, nat_lt, not, ◌&&◌, if◌then◌else◌, List, map}
use Rattle.std.specs.List.{range_with_len}
use Rattle.ssd_geo.specs.Stripe.{parity_die, data_number}

-- the data slots of a superblock: all its pages but one of each stripe
abbrev pub slots_of : ℕ → ℕ → ℕ
slots_of pages dies = pages * (dies - 1)

-- how many pages of a die's block are programmed where so many slots of its superblock are used: one for each closed
-- stripe, and one of the open stripe where the die has one of the data slots used there
abbrev pub due_pages : ℕ → ℕ → ℕ → ℕ → ℕ
due_pages dies sb used die =
    let whole = used / (dies - 1) in
    let parity = parity_die dies sb whole in
    whole + (if not (die == parity) && nat_lt (data_number parity die) (used % (dies - 1)) then 1 else 0)

-- the due pages of all dies of a channel, in the order of the dies
abbrev pub due_of_dies : ℕ → ℕ → ℕ → List ℕ
due_of_dies dies sb used = map (due_pages dies sb used) (range_with_len 0 dies)
