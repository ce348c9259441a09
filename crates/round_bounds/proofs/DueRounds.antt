-- How many rounds are due? At most two, and at most one where there is no victim: none where the channel is worn, or where the
-- host has room and there is no victim.
use Rattle.std.proofs.Common.{◌≡◌, ℕ, ◌+◌, ◌<◌, ◌≤◌, ◌==◌, ◌&&◌, ◌||◌, not, nat_lt, nat_le, cond, Bool, true, false, List, length, refl, ap, sym, ◌∙◌, Option, Some, None, arith, ◌⊎◌}
use Rattle.std.specs.Prelude.{is_none, is_some}
use Rattle.std.proofs.lemmas.Bool.{and_parts, false≢true, or_left}
use Rattle.std.proofs.lemmas.Bool.Decides.{nat_tests}
use Rattle.std.proofs.lemmas.List.FromFn.{get_or-map-range_with_len, length-map-range_with_len}
use Rattle.ssd_geo.specs.declared.base.BlockBase.{BlockBase}
use Rattle.ssd_geo.specs.declared.base.ChannelBase.{ChannelBase}
use Rattle.ssd_geo.specs.declared.entry.Entry.{Entry}
use Rattle.ssd_geo.specs.declared.superblock.SbInfo.{SbInfo}
use Rattle.ssd_histories.specs.Blocks as Blocks
use Rattle.ssd_histories.specs.History.{open_looks}
use Rattle.ssd_histories.specs.PastBlocks.{block_of, blocks_of, slots_in, state_of}
use Rattle.ssd_histories.specs.PastRows.{rows_of}
use Rattle.ssd_histories.specs.Policies as Policies
use Rattle.ssd_histories.specs.Room.{count_of_free, count_of_garbage, has_host_room, is_full, is_worn, live_of_victim, table_of, victim_of}
use Rattle.ssd_histories.specs.Rounds.{needs_room}
use Rattle.ssd_histories.specs.SerialCalls.{may_pick}
use Rattle.ssd_histories.specs.States as States
use Rattle.ssd_histories.proofs.UsedSlots.{block_is}
use Rattle.history_laws.specs.NeverFull.{count_of_bad}
use Rattle.history_laws.proofs.FreshestBlocks.{Passes, some_counted}
use Rattle.round_bounds.proofs.BadBlocks.{one_is_filled}

-- how many rounds are due: none where the channel is worn; two where there is a victim; without one, one where the host has no
-- room
abbrev pub due_with : Option ℕ → Bool → ℕ
due_with (Some sb) room = 2
due_with None room = cond room 0 1

abbrev pub rounds_due : ChannelBase → List Entry → ℕ
rounds_due base past = cond (is_worn base past) 0 (due_with (victim_of base past) (has_host_room base past))

pub due_at_most : (worn : Bool) (victim : Option ℕ) (room : Bool) → cond worn 0 (due_with victim room) ≤ 2
due_at_most true victim room = omega arith
due_at_most false (Some sb) room = omega arith
due_at_most false None true = omega arith
due_at_most false None false = omega arith

pub due_without_victim : (worn : Bool) (victim : Option ℕ) (room : Bool) → victim ≡ None →
    cond worn 0 (due_with victim room) ≤ 1
due_without_victim true victim room none = omega arith
due_without_victim false (Some sb) room none = absurd (cc)
due_without_victim false None true none = omega arith
due_without_victim false None false none = omega arith

pub due_with_room : (worn : Bool) (victim : Option ℕ) (room : Bool) → victim ≡ None → room ≡ true →
    cond worn 0 (due_with victim room) ≡ 0
due_with_room true victim room none is = refl
due_with_room false (Some sb) room none is = absurd (cc)
due_with_room false None true none is = refl
due_with_room false None false none is = absurd (false≢true is)

pub due_where_worn : (base : ChannelBase) (past : List Entry) → is_worn base past ≡ true → rounds_due base past ≡ 0
due_where_worn base past worn =
    ap {B = ℕ} (λ (b : Bool). cond b 0 (due_with (victim_of base past) (has_host_room base past))) worn

pub few_are_due : (base : ChannelBase) (past : List Entry) → rounds_due base past ≤ 2
few_are_due base past = due_at_most (is_worn base past) (victim_of base past) (has_host_room base past)

-- a write that needs room has a round due, and two where there is a victim
pub due_where_needed : (worn : Bool) (victim : Option ℕ) (room full : Bool) → (not room && not worn && not full) ≡ true →
    1 ≤ cond worn 0 (due_with victim room)
due_where_needed true victim true full needs = absurd (false≢true needs)
due_where_needed true victim false full needs = absurd (false≢true needs)
due_where_needed false (Some sb) room full needs = omega arith
due_where_needed false None true full needs = absurd (false≢true needs)
due_where_needed false None false full needs = omega arith

pub due_with_victim : (worn : Bool) (victim : Option ℕ) (room full : Bool) → (not room && not worn && not full) ≡ true →
    is_some victim ≡ true → cond worn 0 (due_with victim room) ≡ 2
due_with_victim true victim true full needs is = absurd (false≢true needs)
due_with_victim true victim false full needs is = absurd (false≢true needs)
due_with_victim false (Some sb) room full needs is = refl
due_with_victim false None room full needs is = absurd (false≢true is)

-- where the host has room the channel isn't worn, so two are due where there is a victim
pub room_isnt_worn : (frontier : Bool) (free : ℕ) → (frontier && nat_le 1 free || nat_le 2 free) ≡ true → (free == 0) ≡ false
room_isnt_worn frontier free room = grind (arith, nat_tests)

pub due_of_room : (victim : Option ℕ) (none later room : Bool) → none ≡ false → is_some victim ≡ true →
    cond (none && later) 0 (due_with victim room) ≡ 2
due_of_room None none later room free is = absurd (false≢true is)
due_of_room (Some sb) true later room free is = absurd (false≢true (sym free))
due_of_room (Some sb) false later room free is = refl

-- without a victim a write that needs room may pick one
pub needs_victim : (victim : Option ℕ) (room later no_free free no_garbage garbage : Bool) → (no_free ≡ false → free ≡ true) →
    (no_garbage ≡ false → garbage ≡ true) →
    (not room && not (no_free && (is_none victim || later)) && not (free && not room && is_none victim && no_garbage)) ≡ true →
    (is_none victim && free && garbage) ≡ false → is_some victim ≡ true
needs_victim (Some sb) room later no_free free no_garbage garbage frees closes needs may = refl
needs_victim None true later no_free free no_garbage garbage frees closes needs may = absurd (false≢true needs)
needs_victim None false later true free no_garbage garbage frees closes needs may = absurd (false≢true needs)
needs_victim None false later false false no_garbage garbage frees closes needs may = absurd (false≢true (frees refl))
needs_victim None false later false true true garbage frees closes needs may = absurd (false≢true needs)
needs_victim None false later false true false true frees closes needs may = absurd (false≢true (sym may))
needs_victim None false later false true false false frees closes needs may = absurd (false≢true (closes refl))

pub isnt_worn : (room worn full : Bool) → (not room && not worn && not full) ≡ true → worn ≡ true → ⊥
isnt_worn true true full needs is = false≢true needs
isnt_worn false true full needs is = false≢true needs
isnt_worn room false full needs is = false≢true is

-- a channel where a pick may be made has a free superblock and a sealed one
pub two_where_picked : (base : ChannelBase) (past : List Entry) → may_pick base past ≡ true →
    count_of_bad base past + 2 ≤ base.shape.superblocks
two_where_picked base past may =
    omega (
      arith,
      at_least_one (count_of_free base past)
          (and_parts (is_none (victim_of base past)) (nat_le 1 (count_of_free base past)) parts.0).1,
      one_is_filled base past found.index low
          (or_left (States.is_sealed (state_of base past found.index)) (States.is_victim (state_of base past found.index))
          sealed),
    )
  where
    parts : ((is_none (victim_of base past) && nat_le 1 (count_of_free base past)) ≡ true)
        × (nat_lt 0 (count_of_garbage base past) ≡ true)
    parts =
        and_parts (is_none (victim_of base past) && nat_le 1 (count_of_free base past))
        (nat_lt 0 (count_of_garbage base past)) may

    at_least_one : (n : ℕ) → nat_le 1 n ≡ true → 1 ≤ n
    at_least_one n e = grind (arith, nat_tests)

    some : (n : ℕ) → nat_lt 0 n ≡ true → 1 ≤ n
    some n e = grind (arith, nat_tests)

    found : Passes Policies.is_candidate Policies.no_info (table_of base past)
    found =
        some_counted Policies.is_candidate Policies.no_info (table_of base past)
        (some (count_of_garbage base past) parts.1)

    told : ℕ → SbInfo
    told = Policies.info_of (slots_in base) (blocks_of base past) (rows_of base past) (open_looks past)

    below_count : found.index < length (blocks_of base past)
    below_count = omega (arith, found.within, length-map-range_with_len told 0 (length (blocks_of base past)))

    low : found.index < base.shape.superblocks
    low = omega (arith, below_count, length-map-range_with_len (block_of base past) 0 base.shape.superblocks)

    candidate : Policies.is_candidate (told found.index) ≡ true
    candidate =
        sym (ap {B = Bool} Policies.is_candidate
        (get_or-map-range_with_len told 0 (length (blocks_of base past)) found.index found.index Policies.no_info below_count
        (omega arith)))
        ∙ found.passes

    sealed : States.is_sealed (state_of base past found.index) ≡ true
    sealed =
        sym (ap {B = Bool} (λ (block : BlockBase). States.is_sealed block.state) (block_is base past found.index low))
        ∙ (and_parts (States.is_sealed (told found.index).state)
        (nat_lt (told found.index).live (told found.index).slots) candidate).0

-- there is no victim, or the channel is worn
abbrev pub IsOver : ChannelBase → List Entry → Type 0
IsOver base past = (victim_of base past ≡ None) ⊎ (is_worn base past ≡ true)

-- whether the victim's live pages don't fit into the frontier
abbrev pub later_worn : ChannelBase → List Entry → Bool
later_worn base past =
    nat_lt (Blocks.slots_left (slots_in base) (blocks_of base past)) (live_of_victim base past)

pub has_due : (base : ChannelBase) (past : List Entry) → needs_room base past ≡ true → 1 ≤ rounds_due base past
has_due base past needs =
    due_where_needed (is_worn base past) (victim_of base past) (has_host_room base past)
    (is_full base past) needs

-- the victim that a round takes
pub has_victim : (base : ChannelBase) (past : List Entry) → needs_room base past ≡ true → may_pick base past ≡ false →
    is_some (victim_of base past) ≡ true
has_victim base past needs may =
    needs_victim (victim_of base past) (has_host_room base past) (later_worn base past)
    (count_of_free base past == 0)
    (nat_le 1 (count_of_free base past)) (count_of_garbage base past == 0)
    (nat_lt 0 (count_of_garbage base past)) (some_free (count_of_free base past))
    (some_garbage (count_of_garbage base past)) needs may
  where
    some_free : (n : ℕ) → (n == 0) ≡ false → nat_le 1 n ≡ true
    some_free n e = grind (arith, nat_tests)

    some_garbage : (n : ℕ) → (n == 0) ≡ false → nat_lt 0 n ≡ true
    some_garbage n e = grind (arith, nat_tests)

-- a channel where the host has room isn't worn
pub room_and_worn : (base : ChannelBase) (past : List Entry) → has_host_room base past ≡ true → is_worn base past ≡ true → ⊥
room_and_worn base past room worn =
    false≢true (sym (room_isnt_worn (is_some (Blocks.frontier_of (blocks_of base past))) (count_of_free base past) room)
    ∙ (and_parts (count_of_free base past == 0) (is_none (victim_of base past) || later_worn base past) worn).0)
