-- A write or a collect whose channel's history has no room for one entry more was cut, whatever was to be its next entry. A
-- write would be written where the host has room, and refused where the channel is worn or full; else it would pick a
-- superblock, or take the victim, and copy a page out of it or erase it. So would a collect, or it would note that there is
-- nothing to do.
use Rattle.std.proofs.Common.{ℕ, zero, suc, ◌≡◌, ◌+◌, ◌*◌, ◌<◌, ◌==◌, ◌&&◌, ◌||◌, nat_le, nat_lt, Bool, true, false, cond, not, List, [], ◌∷◌, ◌++◌, length, map, pos, Option, Some, None, refl, sym, ap, subst, ◌∙◌, append_assoc, arith, lt-ltb}
use Rattle.std.specs.Prelude.{count_by, filter_map, fold, is_none, is_some, min, option_map}
use Rattle.std.specs.List.{position_or_len, range_with_len}
use Rattle.std.proofs.lemmas.Bool.{false≢true, true≢false}
use Rattle.std.proofs.lemmas.Bool.Decides.{nat_tests}
use Rattle.std.proofs.lemmas.List.Sums.{sum_by-cons}
use Rattle.std.proofs.lemmas.Option.{none-some}
use Rattle.ssd_geo.specs.Ladder.{LadderState}
use Rattle.ssd_geo.specs.declared.base.BlockBase.{BlockBase}
use Rattle.ssd_geo.specs.declared.base.ChannelBase.{ChannelBase}
use Rattle.ssd_geo.specs.declared.entry.Entry.{Entry}
use Rattle.ssd_geo.specs.declared.kind.Kind.{Kind}
use Rattle.ssd_geo.specs.declared.row.Row.{Row}
use Rattle.ssd_geo.specs.declared.slot.Slot.{Slot}
use Rattle.ssd_geo.specs.declared.tag.Tag.{Tag}
use Rattle.ssd_histories.specs.Blocks.{is_free_block, is_victim_block}
use Rattle.ssd_histories.specs.CallSteps.{CallStep}
use Rattle.ssd_histories.specs.History.{open_looks}
use Rattle.ssd_histories.specs.HistoryRoom.{has_look_room, has_room_for, has_step_room}
use Rattle.ssd_histories.specs.PageMap.{first_live_in, index_in, least_of, live_in, names_superblock, slot_at}
use Rattle.ssd_histories.specs.PastBlocks.{block_of, blocks_of, is_bad_superblock, is_picked, slots_in, state_by, used_of}
use Rattle.ssd_histories.specs.PastRows.{rows_of}
use Rattle.ssd_histories.specs.Room.{count_of_free, count_of_garbage, has_host_room, is_full, is_worn, live_of, live_of_victim, victim_of}
use Rattle.ssd_histories.specs.Rounds.{first_live_of_victim, is_that_slot, needs_room}
use Rattle.ssd_histories.specs.SerialCalls.{SerialCollect, SerialCopies, SerialWrite, copy_faults, decides, entry_of, erase_faults, faulted, finds_none, is_idle, is_refused, may_pick, picks, round_faults, takes, writes}
use Rattle.ssd_histories.specs.States.{is_free, is_victim}
use Rattle.shared_lemmas.proofs.Tests.{same_number}

-- the first live slot of a superblock that has a live page
record HasFirst (rows : List Row) (sb : ℕ) : Type 0 where
  slot : Slot
  is_first : first_live_in rows sb ≡ Some slot

record IsNotEmpty (indices : List ℕ) : Type 0 where
  first : ℕ
  others : List ℕ
  are : indices ≡ first ∷ others

indices_of_live : (rows : List Row) (sb : ℕ) → 0 < live_in rows sb → IsNotEmpty (filter_map (index_in sb) rows)
indices_of_live [] sb some = absurd (omega arith)
indices_of_live (Row.Empty ∷ rows) sb some =
    let more = sum_by-cons (λ (row : Row). cond (names_superblock sb row) 1 0) Row.Empty rows in
    indices_of_live rows sb (omega (arith, more, some))
indices_of_live (Row.Lost ∷ rows) sb some =
    let more = sum_by-cons (λ (row : Row). cond (names_superblock sb row) 1 0) Row.Lost rows in
    indices_of_live rows sb (omega (arith, more, some))
indices_of_live (Row.Page slot serial ∷ rows) sb some = by_test (slot.sb == sb) refl (indices_of_live rows sb)
  where
    by_test : (b : Bool) → (slot.sb == sb) ≡ b → (0 < live_in rows sb → IsNotEmpty (filter_map (index_in sb) rows)) →
        IsNotEmpty (filter_map (index_in sb) (Row.Page slot serial ∷ rows))
    by_test true is rest =
        rw is (record { first = slot.index; others = filter_map (index_in sb) rows; are = refl })
    by_test false is rest =
        let more = sum_by-cons (λ (row : Row). cond (names_superblock sb row) 1 0) (Row.Page slot serial) rows in
        let own : ◌≡◌ {A = ℕ} (cond (names_superblock sb (Row.Page slot serial)) 1 0) 0 = ap {B = ℕ} (λ b. cond b 1 0) is in
        rw is (rest (omega (arith, more, own, some)))

has_first : (rows : List Row) (sb : ℕ) → 0 < live_in rows sb → HasFirst rows sb
has_first rows sb some = by_indices (filter_map (index_in sb) rows) refl (indices_of_live rows sb some)
  where
    by_indices : (indices : List ℕ) → filter_map (index_in sb) rows ≡ indices → IsNotEmpty indices → HasFirst rows sb
    by_indices [] is some = absurd (no_first some.first some.others some.are)
      where
        no_first : (n : ℕ) (ns : List ℕ) → ◌≡◌ {A = List ℕ} [] (n ∷ ns) → ⊥
        no_first n ns e = grind arith
    by_indices (n ∷ ns) is some =
        record { slot = slot_at sb (fold min n ns); is_first = ap (λ (found : List ℕ). option_map (slot_at sb) (least_of found)) is }

-- a past with a victim: an erase of it, or a copy of a page of it, may fail next
pub record MayFault (ladder : List Entry → ℕ → LadderState) (base : ChannelBase) (tag : Tag) (past : List Entry) : Type 0 where
  pub next : Kind
  pub later : List Entry
  pub asks_look : (limit : ℕ) → has_room_for limit past next ≡ has_look_room limit past
  pub copies : SerialCopies ladder base tag past (later ++ entry_of tag next ∷ past) faulted

module _ (ladder : List Entry → ℕ → LadderState) (base : ChannelBase) (tag : Tag) (past : List Entry) where
  module _ (sb : ℕ) (is : victim_of base past ≡ Some sb) where
    live_is : live_of_victim base past ≡ live_of base past sb
    live_is = rw (is, live_of_victim) refl

    copy_may_fault : 0 < live_of_victim base past → MayFault ladder base tag past
    copy_may_fault some =
        let first : HasFirst (rows_of base past) sb = has_first (rows_of base past) sb (subst (λ n. 0 < n) live_is some) in
        let named : first_live_of_victim base past ≡ Some first.slot = rw (is, first_live_of_victim) first.is_first in
        let look : Kind = Kind.Look 0 (Row.Page first.slot 0) false in
        let fault : Kind = Kind.FaultSense (length past) (record { die = 0; sb = 0; page = 0 }) (pos 0) in
        let leave : Kind = Kind.Leave (length past) in
        let look_step : CallStep = record { past = past; entry = entry_of tag look } in
        let fault_step : CallStep = record { past = entry_of tag look ∷ past; entry = entry_of tag fault } in
        let leave_step : CallStep = record { past = entry_of tag fault ∷ entry_of tag look ∷ past; entry = entry_of tag leave } in
        record {
          next = look;
          later = entry_of tag leave ∷ entry_of tag fault ∷ [];
          asks_look = λ limit. refl;
          copies = copy_faults (record {
            steps = look_step ∷ fault_step ∷ leave_step ∷ [];
            are_steps = (refl, refl, (refl, refl, (refl, refl, refl)));
            has_live = some;
            is_copy = record {
              look = look_step;
              is_copy = record {
                ending = fault_step;
                leave = leave_step;
                is_list = record {
                  senses = [];
                  are_steps = refl;
                  finds_page = refl;
                  are_senses = refl;
                  is_left = same_number (length past);
                };
                ends = rw (same_number (length past)) refl;
              };
              is_first =
                  subst (λ (option : Option Slot). is_that_slot option first.slot ≡ true) (sym named)
                  (rw (same_number first.slot.sb, same_number first.slot.index) refl);
            };
            ends_is = refl;
            fault_is = refl;
          });
        }

    erase_may_fault : live_of_victim base past ≡ 0 → MayFault ladder base tag past
    erase_may_fault none = record {
      next = Kind.BadErase sb 0 true;
      later = [];
      asks_look = λ limit. refl;
      copies = erase_faults is none;
    }

    pub may_fault : MayFault ladder base tag past
    may_fault = by_live (live_of_victim base past) refl
      where
        by_live : (n : ℕ) → live_of_victim base past ≡ n → MayFault ladder base tag past
        by_live zero e = erase_may_fault e
        by_live (suc n) e = copy_may_fault (omega (arith, e))

-- a superblock of a list that passes a test is found where it passes another
record Passes (numbers : List ℕ) (block : ℕ → BlockBase) (test : BlockBase → Bool) : Type 0 where
  number : ℕ
  passes : test (block number) ≡ true
  is_found : (other : ℕ → BlockBase) (next : BlockBase → Bool) → next (other number) ≡ true →
      position_or_len next (map other numbers) < length (map other numbers)

later_found : (next : BlockBase → Bool) (first : BlockBase) (blocks : List BlockBase) →
    position_or_len next blocks < length blocks → position_or_len next (first ∷ blocks) < length (first ∷ blocks)
later_found next first blocks low = by_test (next first)
  where
    by_test : (b : Bool) → cond (not b) (1 + position_or_len next blocks) 0 < length (first ∷ blocks)
    by_test true = omega arith
    by_test false = omega (arith, low)

passes_in : (numbers : List ℕ) (block : ℕ → BlockBase) (test : BlockBase → Bool) → 0 < count_by test (map block numbers) →
    Passes numbers block test
passes_in [] block test some = absurd (omega arith)
passes_in (n ∷ numbers) block test some = by_test (test (block n)) refl (passes_in numbers block test)
  where
    by_test : (b : Bool) → test (block n) ≡ b → (0 < count_by test (map block numbers) → Passes numbers block test) →
        Passes (n ∷ numbers) block test
    by_test true is rest = record {
      number = n;
      passes = is;
      is_found = λ other next holds. rw holds (omega arith);
    }
    by_test false is rest =
        let more = sum_by-cons (λ (one : BlockBase). cond (test one) 1 0) (block n) (map block numbers) in
        let own : ◌≡◌ {A = ℕ} (cond (test (block n)) 1 0) 0 = ap {B = ℕ} (λ b. cond b 1 0) is in
        let found : Passes numbers block test = rest (omega (arith, more, own, some)) in
        record {
          number = found.number;
          passes = found.passes;
          is_found = λ other next holds. later_found next (other n) (map other numbers) (found.is_found other next holds);
        }

picked_is_victim : (bad : Bool) (picked : Bool) (slots used : ℕ) → is_free (state_by bad picked slots used) ≡ true →
    is_victim (state_by bad true slots used) ≡ true
picked_is_victim true picked slots used free = absurd (false≢true free)
picked_is_victim false picked slots used free = refl

record HasVictim (victim : Option ℕ) : Type 0 where
  sb : ℕ
  is_there : victim ≡ Some sb

has_victim : (victim : Option ℕ) → is_some victim ≡ true → HasVictim victim
has_victim None e = absurd (false≢true e)
has_victim (Some sb) e = record { sb = sb; is_there = refl }

-- a free superblock may be picked, and is the victim then
record HasPick (base : ChannelBase) (tag : Tag) (past : List Entry) : Type 0 where
  sb : ℕ
  victim : HasVictim (victim_of base (entry_of tag (Kind.Pick sb) ∷ past))

has_pick : (base : ChannelBase) (tag : Tag) (past : List Entry) → 0 < count_of_free base past → HasPick base tag past
has_pick base tag past some =
    let numbers : List ℕ = range_with_len 0 base.shape.superblocks in
    let free : Passes numbers (block_of base past) is_free_block = passes_in numbers (block_of base past) is_free_block some in
    let after : List Entry = entry_of tag (Kind.Pick free.number) ∷ past in
    let picked : is_victim_block (block_of base after free.number) ≡ true =
    rw (same_number free.number)
    (picked_is_victim (is_bad_superblock base past free.number) (is_picked base past free.number) (slots_in base)
    (used_of base past free.number) free.passes) in
    let low = free.is_found (block_of base after) is_victim_block picked in
    record {
      sb = free.number;
      victim =
          has_victim (victim_of base after)
          (rw (lt-ltb (position_or_len is_victim_block (blocks_of base after)) (length (blocks_of base after)) low) refl);
    }

-- without a victim, a write that has to make room may pick
may_pick_by : (victim : Option ℕ) (free garbage : ℕ) (room more : Bool) → victim ≡ None → room ≡ false →
    (free == 0 && (is_none victim || more)) ≡ false →
    (nat_le 1 free && not room && is_none victim && garbage == 0) ≡ false →
    (0 < free) × ((is_none victim && nat_le 1 free && nat_lt 0 garbage) ≡ true)
may_pick_by (Some sb) free garbage room more is none worn full = absurd (none-some sb (sym is))
may_pick_by None free garbage true more is none worn full = absurd (true≢false none)
may_pick_by None zero garbage false more is none worn full = absurd (true≢false worn)
may_pick_by None (suc free) zero false more is none worn full = absurd (grind (arith, nat_tests))
may_pick_by None (suc free) (suc garbage) false more is none worn full = (omega arith, grind (arith, nat_tests))

-- no room for a step leaves none for a look
pub no_look_room : (limit : ℕ) (past : List Entry) → has_step_room limit past ≡ false → has_look_room limit past ≡ false
no_look_room limit past none =
    more_is_none (length past + 256 * length (open_looks past) + 1) (length past + 256 * (length (open_looks past) + 1)) limit
    (omega arith) none
  where
    more_is_none : (few many limit : ℕ) → few < many + 1 → nat_le few limit ≡ false → nat_le many limit ≡ false
    more_is_none few many limit less none = grind (arith, nat_tests)

none_of_three : (a b c : Bool) → a ≡ false → b ≡ false → c ≡ false → (not a && not b && not c) ≡ true
none_of_three a b c is_a is_b is_c = rw (is_a, is_b, is_c) refl

-- what a write would do next
pub record IsCutWrite (ladder : List Entry → ℕ → LadderState) (base : ChannelBase) (tag : Tag) (row limit : ℕ) (past : List Entry) : Type 0 where
  pub next : Kind
  pub later : List Entry
  pub no_room : has_room_for limit past next ≡ false
  pub whole : SerialWrite ladder base tag row past (later ++ entry_of tag next ∷ past)

module _ (ladder : List Entry → ℕ → LadderState) (base : ChannelBase) (tag : Tag) (row limit : ℕ) (past : List Entry)
    (full : has_step_room limit past ≡ false) where
  takes_victim : needs_room base past ≡ true → (sb : ℕ) → victim_of base past ≡ Some sb →
      IsCutWrite ladder base tag row limit past
  takes_victim needs sb is =
      let fault : MayFault ladder base tag past = may_fault ladder base tag past sb is in
      let none : may_pick base past ≡ false = rw (is, may_pick) refl in
      record {
        next = fault.next;
        later = fault.later;
        no_room = fault.asks_look limit ∙ no_look_room limit past full;
        whole = round_faults needs (takes none fault.copies);
      }

  picks_one : needs_room base past ≡ true → may_pick base past ≡ true → 0 < count_of_free base past →
      IsCutWrite ladder base tag row limit past
  picks_one needs may some =
      let pick : HasPick base tag past = has_pick base tag past some in
      let picked : Entry = entry_of tag (Kind.Pick pick.sb) in
      let fault : MayFault ladder base tag (picked ∷ past) =
      may_fault ladder base tag (picked ∷ past) pick.victim.sb pick.victim.is_there in
      record {
        next = Kind.Pick pick.sb;
        later = fault.later ++ entry_of tag fault.next ∷ [];
        no_room = full;
        whole =
            subst (λ (after : List Entry). SerialWrite ladder base tag row past after)
            (sym (append_assoc fault.later (entry_of tag fault.next ∷ []) (picked ∷ past)))
            (round_faults needs (picks may fault.copies));
      }

  makes_room_first : needs_room base past ≡ true → has_host_room base past ≡ false → is_worn base past ≡ false →
      is_full base past ≡ false → IsCutWrite ladder base tag row limit past
  makes_room_first needs room worn is_not_full = by_victim (victim_of base past) refl
    where
      by_victim : (victim : Option ℕ) → victim_of base past ≡ victim → IsCutWrite ladder base tag row limit past
      by_victim (Some sb) is = takes_victim needs sb is
      by_victim None is =
          let may = may_pick_by (victim_of base past) (count_of_free base past) (count_of_garbage base past)
          (has_host_room base past) _ is room worn is_not_full in
          picks_one needs may.1 may.0

  pub write_is_cut : IsCutWrite ladder base tag row limit past
  write_is_cut = by_room (has_host_room base past) refl (is_worn base past) refl (is_full base past) refl
    where
      refused : has_host_room base past ≡ false → (is_worn base past || is_full base past) ≡ true →
          IsCutWrite ladder base tag row limit past
      refused room cause = record {
        next = Kind.Refused row true;
        later = [];
        no_room = full;
        whole = is_refused room cause;
      }

      by_room : (room : Bool) → has_host_room base past ≡ room → (worn : Bool) → is_worn base past ≡ worn →
          (fully : Bool) → is_full base past ≡ fully → IsCutWrite ladder base tag row limit past
      by_room true is worn is_worn_so fully is_full_so = record {
        next = Kind.Write row (record { sb = 0; index = 0 });
        later = [];
        no_room = full;
        whole = writes is;
      }
      by_room false is true is_worn_so fully is_full_so = refused is (rw is_worn_so refl)
      by_room false is false is_worn_so true is_full_so = refused is (rw (is_worn_so, is_full_so) refl)
      by_room false is false is_worn_so false is_full_so =
          makes_room_first
          (none_of_three (has_host_room base past) (is_worn base past) (is_full base past) is is_worn_so is_full_so) is is_worn_so
          is_full_so

-- what a collect would do next
pub record IsCutCollect (ladder : List Entry → ℕ → LadderState) (base : ChannelBase) (tag : Tag) (limit : ℕ) (past : List Entry)
    : Type 0 where
  pub next : Kind
  pub later : List Entry
  pub no_room : has_room_for limit past next ≡ false
  pub whole : SerialCollect ladder base tag past (later ++ entry_of tag next ∷ past)

module _ (ladder : List Entry → ℕ → LadderState) (base : ChannelBase) (tag : Tag) (limit : ℕ) (past : List Entry)
    (full : has_step_room limit past ≡ false) where
  takes_it : (sb : ℕ) → victim_of base past ≡ Some sb → IsCutCollect ladder base tag limit past
  takes_it sb is =
      let fault : MayFault ladder base tag past = may_fault ladder base tag past sb is in
      let none : may_pick base past ≡ false = rw (is, may_pick) refl in
      record {
        next = fault.next;
        later = fault.later;
        no_room = fault.asks_look limit ∙ no_look_room limit past full;
        whole = decides (takes none fault.copies) refl;
      }

  picks_first : may_pick base past ≡ true → IsCutCollect ladder base tag limit past
  picks_first may =
      let some : 0 < count_of_free base past =
      free_by (is_none (victim_of base past)) (count_of_free base past) (nat_lt 0 (count_of_garbage base past)) may in
      let pick : HasPick base tag past = has_pick base tag past some in
      let picked : Entry = entry_of tag (Kind.Pick pick.sb) in
      let fault : MayFault ladder base tag (picked ∷ past) =
      may_fault ladder base tag (picked ∷ past) pick.victim.sb pick.victim.is_there in
      record {
        next = Kind.Pick pick.sb;
        later = fault.later ++ entry_of tag fault.next ∷ [];
        no_room = full;
        whole =
            subst (λ (after : List Entry). SerialCollect ladder base tag past after)
            (sym (append_assoc fault.later (entry_of tag fault.next ∷ []) (picked ∷ past)))
            (decides (picks may fault.copies) refl);
      }
    where
      free_by : (none : Bool) (free : ℕ) (some : Bool) → (none && nat_le 1 free && some) ≡ true → 0 < free
      free_by true zero some e = absurd (false≢true e)
      free_by true (suc free) some e = omega arith
      free_by false free some e = absurd (false≢true e)

  notes_idle : victim_of base past ≡ None → may_pick base past ≡ false → IsCutCollect ladder base tag limit past
  notes_idle none may_not = record {
    next = Kind.Note 0 None 0 0 0;
    later = [];
    no_room = full;
    whole = is_idle (takes may_not (finds_none none)) refl;
  }

  pub collect_is_cut : IsCutCollect ladder base tag limit past
  collect_is_cut = by_victim (victim_of base past) refl (may_pick base past) refl
    where
      by_victim : (victim : Option ℕ) → victim_of base past ≡ victim → (may : Bool) → may_pick base past ≡ may →
          IsCutCollect ladder base tag limit past
      by_victim (Some sb) is may is_may = takes_it sb is
      by_victim None is true is_may = picks_first is_may
      by_victim None is false is_may = notes_idle is is_may
