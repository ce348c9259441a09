-- One call empties a victim: the proofs of the laws of specs/Emptying.antt.
use Rattle.std.proofs.Common.{◌≡◌, ℕ, zero, suc, ◌+◌, ◌*◌, ◌<◌, ◌≤◌, ◌==◌, nat_lt, not, ◌&&◌, ◌||◌, Bool, true, false, List, [], ◌∷◌, ◌++◌, length, set, get_or, refl, ap, sym, ◌∙◌, subst, Option, Some, None, arith, append_assoc, length-append, All}
use Rattle.std.specs.Prelude.{IsSomeAnd, ℤ, option_map}
use Rattle.std.proofs.lemmas.Bool.{and_from, or_left, or_right}
use Rattle.std.proofs.lemmas.Bool.Decides.{nat_tests}
use Rattle.std.proofs.lemmas.List.Elements.{All-nil, All-cons, All-append}
use Rattle.std.proofs.lemmas.List.Folds.{list_all-append}
use Rattle.std.proofs.lemmas.List.FromFn.{length-map-range_with_len}
use Rattle.ssd_geo.specs.Cells.{sensed}
use Rattle.ssd_geo.specs.Coding.{coding_of}
use Rattle.ssd_geo.specs.Ladder.{LadderState, asks, has_answer, is_recovered, is_uncorrectable, ladder_over, recovered, uncorrectable}
use Rattle.ssd_geo.specs.LadderLaws.{AsksBelow}
use Rattle.ssd_geo.specs.Stripe.{place_of_slot}
use Rattle.ssd_geo.specs.declared.entry.Entry.{Entry}
use Rattle.ssd_geo.specs.declared.kind.Kind.{Kind}
use Rattle.ssd_geo.specs.declared.look.Look.{Look}
use Rattle.ssd_geo.specs.declared.place.Place.{Place}
use Rattle.ssd_geo.specs.declared.row.Row.{Row}
use Rattle.ssd_geo.specs.declared.slot.Slot.{Slot}
use Rattle.ssd_geo.specs.declared.tag.Tag.{Tag}
use Rattle.ssd_geo.proofs.LadderBound.{ladders_end}
use Rattle.ssd_histories.specs.Blocks as Blocks
use Rattle.ssd_histories.specs.History.{look_by, look_of, open_look, open_looks}
use Rattle.ssd_histories.specs.HistoryLaws.{rows_after}
use Rattle.ssd_histories.specs.Lawful.{IsLawful, IsLawfulCondemn, IsLawfulLeave, IsLawfulMove, IsLawfulSense, has_fault_sense, is_closed_page, page_looked_at}
use Rattle.ssd_histories.specs.LookLaws.{NamesUsed}
use Rattle.ssd_histories.specs.OpenLooks.{look_at, looks_in, without_look}
use Rattle.ssd_histories.specs.PageMap.{live_in, names_superblock}
use Rattle.ssd_histories.specs.PastBlocks.{blocks_of, is_bad_superblock, slots_in, used_of}
use Rattle.ssd_histories.specs.PastPages.{ladder_of, levels_in, page_of, senses_of}
use Rattle.ssd_histories.specs.PastRows.{row_of, rows_of}
use Rattle.ssd_histories.specs.Ranges.{has_slot}
use Rattle.ssd_histories.specs.Reserve.{has_no_bad_kind, has_reserve, is_bad_kind}
use Rattle.ssd_histories.specs.Room.{has_host_room, is_victim_now, live_of, victim_of}
use Rattle.ssd_histories.specs.Standing.{IsStart}
use Rattle.ssd_histories.specs.Start.{Start}
use Rattle.ssd_histories.specs.WeakDies.{dies_of_program}
use Rattle.ssd_histories.proofs.BlockSteps.{blocks_after_entry}
use Rattle.ssd_histories.proofs.FreshSlots.{slot_die}
use Rattle.ssd_histories.proofs.OneOfEach.{found_block}
use Rattle.ssd_histories.proofs.OpenLookLaws.{rows_name_used}
use Rattle.ssd_histories.proofs.PinnedWords.{next_sound}
use Rattle.ssd_histories.proofs.UsedSlots.{made}
use Rattle.recovery_laws.proofs.Pasts.{look_is_made_at, newest_look, older_look}
use Rattle.recovery_laws.proofs.StartPages.{starts_have_named_pages}
use Rattle.history_laws.specs.Emptying.{EmptiedVictimsMayBeErased, NoneIsWeak, PickedVictimsCanBeEmptied, VictimsCanBeEmptied}
use Rattle.history_laws.specs.LivePages.{FitsItsSlots}
use Rattle.history_laws.proofs.AskedPlaces.{asked_in_range}
use Rattle.history_laws.proofs.Counting.{count_set, one_true}
use Rattle.history_laws.proofs.EmptiedVictims.{IsNext, finds_next}
use Rattle.history_laws.proofs.FreshestBlocks.{Passes, some_counted}
use Rattle.history_laws.proofs.KeptReserve.{blocks_after_next, next_is_used, picks_are_reserved, reserve_kept}
use Rattle.history_laws.proofs.LivePages.{live_after, live_pages_fit}
use Rattle.history_laws.proofs.NewestLooks.{newest_is_left, newest_is_open, no_fault_later}
use Rattle.history_laws.proofs.NextSlots.{next_in_range}
use Rattle.history_laws.proofs.NoWeakBlocks.{none_is_weak}
use Rattle.history_laws.proofs.VictimPages.{copies_take_pages, row_is}

-- ---- longer pasts

-- a past goes on by newer entries of one call, of which none is of a bad kind
record GoesOn (tag : Tag) (past after : List Entry) : Type 0 where
  newer : List Entry
  is_after : newer ++ past ≡ after
  of_call : All (λ entry. entry.tag ≡ tag) newer
  none_bad : has_no_bad_kind newer ≡ true

-- by one entry, by none, and first by some and then by others
by_one : (tag : Tag) (kind : Kind) (past : List Entry) → is_bad_kind kind ≡ false → GoesOn tag past (made tag kind ∷ past)
by_one tag kind past good = record {
  newer = made tag kind ∷ [];
  is_after = refl;
  of_call = All-cons (λ (entry : Entry). entry.tag ≡ tag)
      (made tag kind) [] refl (All-nil (λ (entry : Entry). entry.tag ≡ tag));
  none_bad = ap {B = Bool} (λ (b : Bool). not b && true) good;
}

by_none : (tag : Tag) (past : List Entry) → GoesOn tag past past
by_none tag past = record {
  newer = [];
  is_after = refl;
  of_call = All-nil (λ (entry : Entry). entry.tag ≡ tag);
  none_bad = refl;
}

by_both : (tag : Tag) (past between after : List Entry) → GoesOn tag past between → GoesOn tag between after
    → GoesOn tag past after
by_both tag past between after first second = record {
  newer = second.newer ++ first.newer;
  is_after = append_assoc second.newer first.newer past
      ∙ ap {B = List Entry} (λ (p : List Entry). second.newer ++ p) first.is_after ∙ second.is_after;
  of_call = All-append (λ (entry : Entry). entry.tag ≡ tag) second.newer first.newer second.of_call first.of_call;
  none_bad =
      list_all-append (λ (entry : Entry). not (is_bad_kind entry.kind)) second.newer first.newer
      ∙ and_from (has_no_bad_kind second.newer) (has_no_bad_kind first.newer) second.none_bad first.none_bad;
}

-- ---- one page

module _ (start : Start) (contents : List (Tag × List ℕ)) (tag : Tag) (sb : ℕ) (is_start : IsStart start) where
  -- the ladders of looks
  abbrev ladder : List Entry → ℕ → LadderState
  ladder = ladder_of (coding_of start.base) start contents

  -- the limit of the senses of a look
  abbrev limit : ℕ
  limit = (length (coding_of start.base).levels + 5) * start.base.shape.dies

  -- a past of which one look of the call is open, whose row is as it was found
  record HasLook (past : List Entry) (look : Look) : Type 0 where
    is_lawful : IsLawful start contents past
    none_weak : NoneIsWeak start.base past
    is_open : open_look past tag look.at ≡ Some look
    is_made : look_of past look.at ≡ Some look
    in_range : has_slot start.base.shape look.slot ≡ true
    row_low : look.row < start.base.shape.rows
    is_unchanged : row_of start.base past look.row ≡ page_looked_at look

  -- it is sensed until its ladder has an answer
  record Climbed (past : List Entry) (look : Look) : Type 0 where
    after : List Entry
    goes_on : GoesOn tag past after
    has_look : HasLook after look
    has_answer_now : has_answer (ladder after look.at) ≡ true
    same_rows : rows_of start.base after ≡ rows_of start.base past
    same_blocks : blocks_of start.base after ≡ blocks_of start.base past
    same_looks : open_looks after ≡ open_looks past

  -- one more sense of a look
  more_senses : (past : List Entry) (at : ℕ) (place : Place) (level : ℤ)
      → length (senses_of (coding_of start.base) start contents (made tag (Kind.Sense at place level) ∷ past) at)
      ≡ length (senses_of (coding_of start.base) start contents past at) + 1
  more_senses past at place level = by_test (at == at) (itself at)
    where
      itself : (n : ℕ) → (n == n) ≡ true
      itself n = grind (arith, nat_tests)

      by_test : (b : Bool) → b ≡ true
          → length (elim (elim b as (λ (b : Bool). Option (Place × ℤ)) [ true ↦ Some (place, level) | false ↦ None ]) as
          (λ (o : Option (Place × ℤ)). List (List ℕ)) [
            | Some asked ↦ senses_of (coding_of start.base) start contents past at
                ++ sensed asked.1 (levels_in start.base (page_of (coding_of start.base) start contents past asked.0)) ∷ []
            | None ↦ senses_of (coding_of start.base) start contents past at
          ]) ≡ length (senses_of (coding_of start.base) start contents past at) + 1
      by_test true e = length-append (senses_of (coding_of start.base) start contents past at) _
      by_test false e = absurd (grind arith)

  -- a ladder that asks was given fewer senses than its limit
  few_senses : (past : List Entry) (look : Look) (place : Place) (level : ℤ) → HasLook past look
      → ladder past look.at ≡ asks place level
      → length (senses_of (coding_of start.base) start contents past look.at) < limit
  few_senses past look place level has asked =
      subst (AsksBelow limit (length (senses_of (coding_of start.base) start contents past look.at)))
      (sym (ap {B = LadderState} (λ (o : Option Look). ladder_over (coding_of start.base) start.base.shape.dies o
      (senses_of (coding_of start.base) start contents past look.at)) has.is_made) ∙ asked)
      (ladders_end (coding_of start.base)
      ((coding_of start.base).has_head look.serial look.row) start.base.shape.dies
      (place_of_slot start.base.shape.dies look.slot)
      look.closed (senses_of (coding_of start.base) start contents past look.at)
      (slot_die start.base.shape.dies look.slot.sb look.slot.index (omega (arith, start.base.shape.within.dies_low))))

  -- no more senses are wanted where the ladder has an answer
  answered : (past : List Entry) (look : Look) → HasLook past look → has_answer (ladder past look.at) ≡ true → Climbed past look
  answered past look has answer = record {
    after = past;
    goes_on = by_none tag past;
    has_look = has;
    has_answer_now = answer;
    same_rows = refl;
    same_blocks = refl;
    same_looks = refl;
  }

  -- a look is sensed once more
  sense_on : (past : List Entry) (look : Look) (place : Place) (level : ℤ) → HasLook past look
      → has_fault_sense past look.at ≡ false → ladder past look.at ≡ asks place level
      → HasLook (made tag (Kind.Sense look.at place level) ∷ past) look
  sense_on past look place level has no_fault asked = record {
    is_lawful = (
      has.is_lawful,
      record {
        in_range =
            asked_in_range start.base.shape (coding_of start.base) look
            (senses_of (coding_of start.base) start contents past look.at) place level has.in_range
            (sym (ap {B = LadderState} (λ (o : Option Look). ladder_over (coding_of start.base) start.base.shape.dies o
            (senses_of (coding_of start.base) start contents past look.at)) has.is_made) ∙ asked);
        meets = subst (λ (o : Option Look). IsSomeAnd o (λ l. IsLawfulSense (ladder past look.at) past look.at place level))
            (sym has.is_open)
            (record { no_fault = ap {B = Bool} not no_fault; is_asked = asked });
      },
    );
    none_weak = has.none_weak;
    is_open = has.is_open;
    is_made = older_look (made tag (Kind.Sense look.at place level)) past look.at
        (look_is_made_at past look.at look has.is_made).below ∙ has.is_made;
    in_range = has.in_range;
    row_low = has.row_low;
    is_unchanged = has.is_unchanged;
  }

  -- the ladder asks for one sense after the other, but not for more than its limit
  climb : (fuel : ℕ) (past : List Entry) (look : Look) → HasLook past look → has_fault_sense past look.at ≡ false
      → limit ≤ length (senses_of (coding_of start.base) start contents past look.at) + fuel → Climbed past look
  climb zero past look has no_fault enough = by_state (ladder past look.at) refl
    where
      by_state : (state : LadderState) → ladder past look.at ≡ state → Climbed past look
      by_state (recovered rung word) is = answered past look has (ap {B = Bool} has_answer is)
      by_state uncorrectable is = answered past look has (ap {B = Bool} has_answer is)
      by_state (asks place level) is = absurd (omega (arith, enough, few_senses past look place level has is))
  climb (suc fuel) past look has no_fault enough =
      by_state (ladder past look.at) refl
      (λ place level asked left. climb fuel (made tag (Kind.Sense look.at place level) ∷ past) look
      (sense_on past look place level has no_fault asked) no_fault left)
    where
      by_state : (state : LadderState) → ladder past look.at ≡ state
          → ((place : Place) (level : ℤ) → ladder past look.at ≡ asks place level
          → limit ≤ length (senses_of (coding_of start.base) start contents (made tag (Kind.Sense look.at place level) ∷ past)
          look.at) + fuel
          → Climbed (made tag (Kind.Sense look.at place level) ∷ past) look) → Climbed past look
      by_state (recovered rung word) is rest = answered past look has (ap {B = Bool} has_answer is)
      by_state uncorrectable is rest = answered past look has (ap {B = Bool} has_answer is)
      by_state (asks place level) is rest =
          let more : Climbed (made tag (Kind.Sense look.at place level) ∷ past) look =
          rest place level is (omega (arith, enough, more_senses past look.at place level)) in
          record {
            after = more.after;
            goes_on = by_both tag past (made tag (Kind.Sense look.at place level) ∷ past) more.after
                (by_one tag (Kind.Sense look.at place level) past refl) more.goes_on;
            has_look = more.has_look;
            has_answer_now = more.has_answer_now;
            same_rows = more.same_rows;
            same_blocks = more.same_blocks;
            same_looks = more.same_looks;
          }

  -- a past at which the superblock is the victim, under the reserve
  record HasVictim (past : List Entry) : Type 0 where
    is_lawful : IsLawful start contents past
    none_weak : NoneIsWeak start.base past
    reserve : has_reserve start.base past ≡ true
    is_victim : victim_of start.base past ≡ Some sb

  -- the reserve stays
  reserve_on : (past after : List Entry) → GoesOn tag past after → IsLawful start contents after
      → has_reserve start.base past ≡ true → has_reserve start.base after ≡ true
  reserve_on past after goes lawful reserve =
      subst (λ (p : List Entry). has_reserve start.base p ≡ true) goes.is_after
      (reserve_kept ladder start goes.newer past is_start (subst (IsLawful start contents) (sym goes.is_after) lawful)
      goes.none_bad reserve)

  -- a look's page was taken out of the victim: one live page fewer
  record Taken (past : List Entry) (look : Look) : Type 0 where
    kind : Kind
    good : is_bad_kind kind ≡ false
    has_victim : HasVictim (made tag kind ∷ past)
    one_fewer : live_of start.base (made tag kind ∷ past) sb + 1 ≡ live_of start.base past sb
    same_looks : open_looks (made tag kind ∷ past) ≡ open_looks past
    same_ladder : ladder (made tag kind ∷ past) look.at ≡ ladder past look.at

  -- the look at a position is the same after one more entry, so its ladder is
  ladder_on : (past : List Entry) (kind : Kind) (look : Look) → HasLook past look
      → senses_of (coding_of start.base) start contents (made tag kind ∷ past) look.at ≡ senses_of (coding_of start.base)
      start contents past look.at
      → ladder (made tag kind ∷ past) look.at ≡ ladder past look.at
  ladder_on past kind look has same =
      λ i. ladder_over (coding_of start.base) start.base.shape.dies
      (older_look (made tag kind) past look.at (look_is_made_at past look.at look has.is_made).below i) (same i)

  -- it is copied where the ladder recovered it
  copied : (past : List Entry) (look : Look) → HasLook past look → HasVictim past → look.slot.sb ≡ sb
      → is_recovered (ladder past look.at) ≡ true → Taken past look
  copied past look has victim inside recovered_now =
      record {
        kind = Kind.Move look.at next.slot;
        good = refl;
        has_victim = record {
          is_lawful = lawful;
          none_weak = victim.none_weak;
          reserve = reserve_on past (made tag (Kind.Move look.at next.slot) ∷ past)
              (by_one tag (Kind.Move look.at next.slot) past refl) lawful victim.reserve;
          is_victim = ap {B = Option ℕ} Blocks.victim_in after ∙ (next_is_used start.base past next.slot next.is_next).victim
              ∙ victim.is_victim;
        };
        one_fewer = copies_take_pages ladder start.base past tag look.at sb next.slot lawful victim.is_victim
            (subst (λ (o : Option Look). IsSomeAnd o (λ l. l.slot.sb ≡ sb)) (sym has.is_open) inside);
        same_looks = refl;
        same_ladder = ladder_on past (Kind.Move look.at next.slot) look has refl;
      }
    where
      same_number : (a : ℕ) → a ≡ sb → (sb == a) ≡ true
      same_number a e = grind (arith, nat_tests)

      here : is_victim_now start.base past look.slot.sb ≡ true
      here =
          subst (λ (o : Option ℕ). elim o as (λ _. Bool) [ Some victim ↦ victim == look.slot.sb | None ↦ false ] ≡ true)
          (sym victim.is_victim)
          (same_number look.slot.sb inside)

      next : IsNext start.base past
      next = finds_next start.base past look victim.reserve here has.row_low has.is_unchanged

      in_range : has_slot start.base.shape next.slot ≡ true
      in_range = next_in_range ladder start past next.slot is_start has.is_lawful next.is_next

      not_bad : is_bad_superblock start.base past next.slot.sb ≡ false
      not_bad = next_sound start.base past next.slot next.is_next in_range

      lawful : IsLawful start contents (made tag (Kind.Move look.at next.slot) ∷ past)
      lawful = (
        has.is_lawful,
        record {
          in_range = in_range;
          meets = subst (λ (o : Option Look). IsSomeAnd o
              (λ l. IsLawfulMove (ladder past look.at) start.base past l next.slot)) (sym has.is_open)
              (record {
                may_copy = record {
                  is_recovered = recovered_now;
                  is_unchanged = has.is_unchanged;
                  has_room = or_right (has_host_room start.base past) (is_victim_now start.base past look.slot.sb) here;
                };
                is_programmed = record {
                  is_next = next.is_next;
                  none_weak = none_is_weak start.base past next.slot.sb (λ die. victim.none_weak next.slot.sb die not_bad)
                      (dies_of_program start.base.shape.dies next.slot);
                };
              });
        },
      )

      after : blocks_of start.base (made tag (Kind.Move look.at next.slot) ∷ past)
          ≡ set (blocks_of start.base past) next.slot.sb
          (Blocks.with_slot_used (slots_in start.base) (Blocks.block_at (blocks_of start.base past) next.slot.sb))
      after =
          blocks_after_next start.base past (made tag (Kind.Move look.at next.slot)) next.slot next.is_next
          (blocks_after_entry ladder start.base (made tag (Kind.Move look.at next.slot)) past lawful)

  -- and condemned where it couldn't
  condemned : (past : List Entry) (look : Look) → HasLook past look → HasVictim past → look.slot.sb ≡ sb
      → is_uncorrectable (ladder past look.at) ≡ true → Taken past look
  condemned past look has victim inside lost =
      record {
        kind = Kind.Condemn look.at;
        good = refl;
        has_victim = record {
          is_lawful = lawful;
          none_weak = victim.none_weak;
          reserve = reserve_on past (made tag (Kind.Condemn look.at) ∷ past)
              (by_one tag (Kind.Condemn look.at) past refl) lawful victim.reserve;
          is_victim = victim.is_victim;
        };
        one_fewer =
            omega (
              arith,
              live_after start.base (made tag (Kind.Condemn look.at)) past sb,
              ap {B = ℕ} (λ (o : Option Look). live_in
                  (rows_after (option_map (λ (l : Look). (l.row, Row.Lost)) o) (rows_of start.base past)) sb) has.is_made,
              count_set (names_superblock sb) (rows_of start.base past) look.row Row.Lost Row.Empty
                  (omega (arith, has.row_low, length-map-range_with_len (row_of start.base past) 0 start.base.shape.rows)),
              one_true (names_superblock sb (get_or (rows_of start.base past) look.row Row.Empty)) named,
            );
        same_looks = refl;
        same_ladder = ladder_on past (Kind.Condemn look.at) look has refl;
      }
    where
      same_number : (a : ℕ) → a ≡ sb → (a == sb) ≡ true
      same_number a e = grind (arith, nat_tests)

      named : names_superblock sb (get_or (rows_of start.base past) look.row Row.Empty) ≡ true
      named =
          ap {B = Bool} (names_superblock sb) (row_is start.base past look.row has.row_low ∙ has.is_unchanged)
          ∙ same_number look.slot.sb inside

      lawful : IsLawful start contents (made tag (Kind.Condemn look.at) ∷ past)
      lawful = (
        has.is_lawful,
        record {
          in_range = refl;
          meets = subst (λ (o : Option Look). IsSomeAnd o (λ l. IsLawfulCondemn (ladder past look.at) start.base past l))
              (sym has.is_open)
              (record { is_uncorrectable = lost; is_unchanged = has.is_unchanged });
        },
      )

  -- one of the two can be done
  taken : (past : List Entry) (look : Look) → HasLook past look → HasVictim past → look.slot.sb ≡ sb
      → has_answer (ladder past look.at) ≡ true → Taken past look
  taken past look has victim inside answer = by_state (ladder past look.at) refl answer
    where
      by_state : (state : LadderState) → ladder past look.at ≡ state → has_answer state ≡ true → Taken past look
      by_state (asks place level) is answer = absurd (grind arith)
      by_state (recovered rung word) is answer = copied past look has victim inside (ap {B = Bool} is_recovered is)
      by_state uncorrectable is answer = condemned past look has victim inside (ap {B = Bool} is_uncorrectable is)

  -- a live page of the victim: a row that names one of its slots
  record LivePage (past : List Entry) : Type 0 where
    row : ℕ
    slot : Slot
    serial : ℕ
    row_low : row < start.base.shape.rows
    is_page : row_of start.base past row ≡ Row.Page slot serial
    inside : slot.sb ≡ sb
    in_range : has_slot start.base.shape slot ≡ true

  -- where the victim has a live page, a row names it
  live_page : (past : List Entry) → HasVictim past → 1 ≤ live_of start.base past sb → LivePage past
  live_page past victim some = by_row (row_of start.base past found.index) refl names
    where
      found : Passes (names_superblock sb) Row.Empty (rows_of start.base past)
      found = some_counted (names_superblock sb) Row.Empty (rows_of start.base past) some

      low : found.index < start.base.shape.rows
      low = omega (arith, found.within, length-map-range_with_len (row_of start.base past) 0 start.base.shape.rows)

      names : names_superblock sb (row_of start.base past found.index) ≡ true
      names = sym (ap {B = Bool} (names_superblock sb) (row_is start.base past found.index low)) ∙ found.passes

      same_number : (a : ℕ) → (a == sb) ≡ true → a ≡ sb
      same_number a e = grind (arith, nat_tests)

      within : (a b c d : ℕ) → a < b → c < d → (nat_lt a b && nat_lt c d) ≡ true
      within a b c d p q = grind (arith, nat_tests)

      victim_low : sb < start.base.shape.superblocks
      victim_low = (found_block start.base past Blocks.is_victim_block sb victim.is_victim).0

      fits : FitsItsSlots start.base past sb
      fits = live_pages_fit ladder start past sb is_start victim.is_lawful victim_low

      by_row : (row : Row) → row_of start.base past found.index ≡ row
          → names_superblock sb (row_of start.base past found.index) ≡ true → LivePage past
      by_row Row.Empty is h = absurd (apart (sym h ∙ ap {B = Bool} (names_superblock sb) is))
        where
          apart : true ≡ false → ⊥
          apart e = grind arith
      by_row Row.Lost is h = absurd (apart (sym h ∙ ap {B = Bool} (names_superblock sb) is))
        where
          apart : true ≡ false → ⊥
          apart e = grind arith
      by_row (Row.Page slot serial) is h =
          let same : slot.sb ≡ sb = same_number slot.sb (sym (ap {B = Bool} (names_superblock sb) is) ∙ h) in
          let used : slot.index < used_of start.base past slot.sb =
          subst (NamesUsed start.base past) is
          (rows_name_used ladder start.base past (starts_have_named_pages start is_start).rows_name_used victim.is_lawful
          found.index low) in
          record {
            row = found.index;
            slot = slot;
            serial = serial;
            row_low = low;
            is_page = is;
            inside = same;
            in_range = within slot.sb start.base.shape.superblocks slot.index (slots_in start.base)
                (omega (arith, same, victim_low))
                (omega (arith, used, fits.used, ap {B = ℕ} (used_of start.base past) same));
          }

  -- a past that goes on with the victim, and fewer of its pages are live
  record Fewer (past : List Entry) : Type 0 where
    after : List Entry
    goes_on : GoesOn tag past after
    has_victim : HasVictim after
    one_fewer : live_of start.base after sb + 1 ≡ live_of start.base past sb
    same_looks : open_looks after ≡ open_looks past

  -- so it goes on where a page is live: a look, its senses, a copy or a condemnation, and a leave
  fewer : (past : List Entry) → HasVictim past → 1 ≤ live_of start.base past sb → Fewer past
  fewer past victim some =
      record {
        after = left;
        goes_on =
            by_both tag past looked left (by_one tag looks past refl)
            (by_both tag looked climbed.after left climbed.goes_on
            (by_both tag climbed.after taken_out left (by_one tag take.kind climbed.after take.good)
            (by_one tag (Kind.Leave look.at) taken_out refl)));
        has_victim = record {
          is_lawful = lawful_left;
          none_weak = take.has_victim.none_weak;
          reserve = take.has_victim.reserve;
          is_victim = take.has_victim.is_victim;
        };
        one_fewer = take.one_fewer ∙ ap {B = ℕ} (λ (rows : List Row). live_in rows sb) climbed.same_rows;
        same_looks =
            ap {B = List (Tag × Look)} (λ (pins : List (Tag × Look)). without_look pins look.at)
            (take.same_looks ∙ climbed.same_looks)
            ∙ newest_is_left past tag look refl;
      }
    where
      page : LivePage past
      page = live_page past victim some

      closed : Bool
      closed = is_closed_page start.base past (Row.Page page.slot page.serial)

      look : Look
      look = record { at = length past; row = page.row; slot = page.slot; serial = page.serial; closed = closed }

      looks : Kind
      looks = Kind.Look page.row (Row.Page page.slot page.serial) closed

      looked : List Entry
      looked = made tag looks ∷ past

      is_row : (a b : ℕ) → a < b → nat_lt a b ≡ true
      is_row a b lt = grind (arith, nat_tests)

      has : HasLook looked look
      has = record {
        is_lawful = (
          victim.is_lawful,
          record {
            in_range = and_from (nat_lt page.row start.base.shape.rows) (has_slot start.base.shape page.slot)
                (is_row page.row start.base.shape.rows page.row_low) page.in_range;
            meets = record { is_found = sym page.is_page; is_said = refl };
          },
        );
        none_weak = victim.none_weak;
        is_open = newest_is_open past tag look refl;
        is_made = newest_look (made tag looks) past;
        in_range = page.in_range;
        row_low = page.row_low;
        is_unchanged = page.is_page;
      }

      climbed : Climbed looked look
      climbed = climb limit looked look has
          (no_fault_later ladder start.base past (length past) victim.is_lawful (omega arith)) (omega arith)

      still : HasVictim climbed.after
      still = record {
        is_lawful = climbed.has_look.is_lawful;
        none_weak = climbed.has_look.none_weak;
        reserve = reserve_on past climbed.after
            (by_both tag past looked climbed.after (by_one tag looks past refl) climbed.goes_on) climbed.has_look.is_lawful
            victim.reserve;
        is_victim = ap {B = Option ℕ} Blocks.victim_in climbed.same_blocks ∙ victim.is_victim;
      }

      take : Taken climbed.after look
      take = taken climbed.after look climbed.has_look still page.inside climbed.has_answer_now

      taken_out : List Entry
      taken_out = made tag take.kind ∷ climbed.after

      left : List Entry
      left = made tag (Kind.Leave look.at) ∷ taken_out

      settled : (has_answer (ladder taken_out look.at) || has_fault_sense taken_out look.at) ≡ true
      settled =
          or_left (has_answer (ladder taken_out look.at)) (has_fault_sense taken_out look.at)
          (ap {B = Bool} has_answer take.same_ladder ∙ climbed.has_answer_now)

      open_still : open_look taken_out tag look.at ≡ Some look
      open_still = ap {B = Option Look} (λ (pins : List (Tag × Look)). look_by tag (look_at pins look.at)) take.same_looks
          ∙ climbed.has_look.is_open

      lawful_left : IsLawful start contents left
      lawful_left = (
        take.has_victim.is_lawful,
        record {
          in_range = refl;
          meets = subst (λ (o : Option Look). IsSomeAnd o (λ l. IsLawfulLeave (ladder taken_out look.at) taken_out look.at))
              (sym open_still) settled;
        },
      )

  -- ---- all pages

  -- a past that goes on until none is live
  record Emptied (past : List Entry) : Type 0 where
    after : List Entry
    goes_on : GoesOn tag past after
    has_victim : HasVictim after
    none_live : live_of start.base after sb ≡ 0
    same_looks : open_looks after ≡ open_looks past

  -- so it goes on from page to page
  empty : (n : ℕ) (past : List Entry) → HasVictim past → live_of start.base past sb ≡ n → Emptied past
  empty zero past victim none = record
      { after = past; goes_on = by_none tag past; has_victim = victim; none_live = none; same_looks = refl }
  empty (suc n) past victim live =
      let less : Fewer past = fewer past victim (omega (arith, live)) in
      let rest : Emptied less.after = empty n less.after less.has_victim (omega (arith, live, less.one_fewer)) in
      record {
        after = rest.after;
        goes_on = by_both tag past less.after rest.after less.goes_on rest.goes_on;
        has_victim = rest.has_victim;
        none_live = rest.none_live;
        same_looks = rest.same_looks ∙ less.same_looks;
      }

-- one call empties the victim
pub victims_can_be_emptied : VictimsCanBeEmptied
victims_can_be_emptied start contents past tag sb is_start lawful sound reserve victim =
    let emptied : Emptied start contents tag sb is_start past =
    empty start contents tag sb is_start (live_of start.base past sb) past
    (record { is_lawful = lawful; none_weak = sound; reserve = reserve; is_victim = victim }) refl in
    let back : emptied.after ≡ emptied.goes_on.newer ++ past = sym emptied.goes_on.is_after in (
      emptied.goes_on.newer,
      record {
        is_lawful = subst (IsLawful start contents) back emptied.has_victim.is_lawful;
        of_call = emptied.goes_on.of_call;
        none_bad = emptied.goes_on.none_bad;
        is_victim = subst (λ (p : List Entry). victim_of start.base p ≡ Some sb) back emptied.has_victim.is_victim;
        none_live = subst (λ (p : List Entry). live_of start.base p sb ≡ 0) back emptied.none_live;
        same_looks = subst (λ (p : List Entry). open_looks p ≡ open_looks past) back emptied.same_looks;
      },
    )

-- a pick leaves the reserve, and it stays
pub picked_victims_can_be_emptied : PickedVictimsCanBeEmptied
picked_victims_can_be_emptied start contents since past by tag sb is_start lawful sound good victim =
    let picked : List Entry = made by (Kind.Pick sb) ∷ past in
    victims_can_be_emptied start contents (since ++ picked) tag sb is_start lawful sound
    (picks_are_reserved (ladder_of (coding_of start.base) start contents) start since past by sb is_start lawful good).reserve
    victim

-- an erase asks for no live page, no open look and no weak die
pub emptied_victims_may_be_erased : EmptiedVictimsMayBeErased
emptied_victims_may_be_erased start contents newer past tag sb empties no_pin none_weak = (
  empties.is_lawful,
  record {
    in_range = low sb start.base.shape.superblocks
        (found_block start.base (newer ++ past) Blocks.is_victim_block sb empties.is_victim).0;
    meets = record {
      may_erase = record {
        is_victim = empties.is_victim;
        no_live = empties.none_live;
        no_pin = ap {B = ℕ} (λ (pins : List (Tag × Look)). looks_in pins sb) empties.same_looks ∙ no_pin;
      };
      none_weak = none_weak;
    };
  },
)
  where
    low : (a b : ℕ) → a < b → nat_lt a b ≡ true
    low a b lt = grind (arith, nat_tests)
