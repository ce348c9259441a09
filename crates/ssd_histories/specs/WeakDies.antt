-- Which dies does a program or an erase use, and on which of them may it fail? A weak block answers FAIL while its
-- erase count is at least the number that the image lists for it. Weak blocks are this project's own.
use Rattle.std.specs.Prelude.{ℕ, ◌==◌, Bool, false, ◌&&◌, ◌||◌, not, if◌then◌else◌, List, [], ◌∷◌}
use Rattle.std.specs.List.{list_any, range_with_len}
use Rattle.ssd_histories.specs.PastBlocks.{erases_of}
use Rattle.ssd_geo.specs.Stripe.{is_last_of_stripe, parity_die, place_of_slot, stripe_of_index}
use Rattle.ssd_geo.specs.declared.base.ChannelBase.{ChannelBase}
use Rattle.ssd_geo.specs.declared.entry.Entry.{Entry}
use Rattle.ssd_geo.specs.declared.slot.Slot.{Slot}
use Rattle.ssd_geo.specs.WeakBlocks.{is_weak_in}

-- whether a die is weak in a superblock
abbrev pub is_weak : ChannelBase → List Entry → ℕ → ℕ → Bool
is_weak base past sb die = is_weak_in base.weak base.channel die sb (erases_of base past sb)

-- the dies that a program of a slot uses, in order: the slot's own, and then the parity's with the last slot of a stripe
abbrev pub dies_of_program : ℕ → Slot → List ℕ
dies_of_program dies slot =
    (place_of_slot dies slot).die
    ∷ (if is_last_of_stripe dies slot.index
    then parity_die dies slot.sb (stripe_of_index dies slot.index) ∷ []
    else [])

-- whether no die of some is weak in a superblock
abbrev pub is_none_weak : ChannelBase → List Entry → ℕ → List ℕ → Bool
is_none_weak base past sb dies = not (list_any (is_weak base past sb) dies)

-- whether an operation that goes over some dies in order may fail on a die: it is one of them, none before it is weak,
-- and it is weak itself where it answered FAIL, and any where its call failed
abbrev pub may_fail_on : ChannelBase → List Entry → ℕ → List ℕ → ℕ → Bool → Bool
may_fail_on base past sb [] failed fault = false
may_fail_on base past sb (die ∷ dies) failed fault =
    if die == failed then fault || is_weak base past sb die
    else not (is_weak base past sb die) && may_fail_on base past sb dies failed fault

-- all dies of a channel
abbrev pub dies_in : ChannelBase → List ℕ
dies_in base = range_with_len 0 base.shape.dies
