-- What a channel's lawful past holds, each entry's numbers in the fields of its line: what an entry names is the channel's, a
-- serial is that of a write's call, and a look began before what names it.
use Rattle.std.proofs.Common.{ℕ, suc, ◌≡◌, ◌-◌, ◌*◌, ◌^◌, ◌<◌, ◌≤◌, ◌==◌, ◌&&◌, nat_le, nat_lt, Bool, true, false, cond, not, List, [], ◌∷◌, length, length-append, ℤ, Option, Some, None, refl, sym, ap, subst, arith, lt-ltb, ltb-true}
use Rattle.std.specs.Prelude.{IsSomeAnd, option_map, ⊤}
use Rattle.std.proofs.lemmas.List.Elements.{All-head, All-tail}
use Rattle.std.proofs.lemmas.List.FromFn.{length-map-range_with_len}
use Rattle.std.proofs.lemmas.List.Sums.{count_by-le-length}
use Rattle.std.proofs.lemmas.Bool.Decides.{nat_tests}
use Rattle.std.specs.List.{list_all}
use Rattle.std.proofs.Math.Nat.{mul-le-mul}
use Rattle.std.proofs.lemmas.Bool.{and_from, and_parts}
use Rattle.ssd_formats.specs.HistoryText.{is_closed_of_page, is_spelled_entry, is_spelled_kind, is_spelled_place, is_spelled_row, is_spelled_slot, is_spelled_victim}
use Rattle.ssd_formats.specs.ImageHead.{is_short}
use Rattle.ssd_geo.proofs.Payloads.{serials_name_their_calls}
use Rattle.ssd_geo.specs.Coding.{coding_of}
use Rattle.ssd_geo.specs.Ladder.{LadderState, asks}
use Rattle.ssd_geo.specs.Limits.{is_within}
use Rattle.ssd_geo.specs.Superblock.{slots_of}
use Rattle.ssd_geo.specs.declared.entry.Entry.{Entry}
use Rattle.ssd_geo.specs.declared.kind.Kind.{Kind}
use Rattle.ssd_geo.specs.declared.look.Look.{Look}
use Rattle.ssd_geo.specs.declared.place.Place.{Place}
use Rattle.ssd_geo.specs.declared.row.Row.{Row}
use Rattle.ssd_geo.specs.declared.shape.Shape.{Shape}
use Rattle.ssd_geo.specs.declared.slot.Slot.{Slot}
use Rattle.ssd_geo.specs.declared.tag.Tag.{Tag}
use Rattle.ssd_histories.specs.Blocks.{is_free_block}
use Rattle.ssd_histories.specs.History.{look_made, look_of, looks_after, open_look, open_looks, with_look}
use Rattle.ssd_histories.specs.Lawful.{IsLawfulBadCopy, IsLawfulChanged, IsLawfulCondemn, IsLawfulEntry, IsLawfulLeave, IsLawfulMove, IsLawfulSense, IsLawfulStay, is_closed_page}
use Rattle.ssd_histories.specs.OpenLooks.{began_at, stands_in, without_look}
use Rattle.ssd_histories.specs.PageMap.{names_superblock}
use Rattle.ssd_histories.specs.PastBlocks.{block_of, blocks_of, slots_in}
use Rattle.ssd_histories.specs.PastPages.{ladder_of, senses_of}
use Rattle.ssd_histories.specs.PastRows.{row_after, row_change, row_of, rows_of, serial_of}
use Rattle.ssd_histories.specs.Policies.{info_of, is_candidate}
use Rattle.ssd_histories.specs.Ranges.{has_place, has_row, has_slot, has_superblock}
use Rattle.ssd_histories.specs.Room.{count_of_free, count_of_garbage, live_of, live_of_victim, pins_of, pins_of_victim, table_of, victim_of}
use Rattle.ssd_histories.specs.SerialCalls.{entry_of}
use Rattle.ssd_histories.specs.Standing.{IsStart}
use Rattle.ssd_histories.specs.Start.{Start}
use Rattle.run_laws.specs.Serials.{HasSmallSerial, HasSmallSerials}
use Rattle.run_laws.specs.SpelledPasts.{IsSmallEntry, IsSmallKind, IsSmallTag, LawfulPastsAreSpelled}
use Rattle.run_laws.proofs.LookSenses.{found_below, open_looks_began}
use Rattle.run_laws.proofs.SpelledLadders.{AsksShort, ladder_asks_short}

pub three : (a b c : Bool) → a ≡ true → b ≡ true → c ≡ true → (a && b && c) ≡ true
three true true c is_a is_b is_c = is_c
three true false c is_a is_b is_c = absurd (cc)
three false b c is_a is_b is_c = absurd (cc)

five : (a b c d e : Bool) → a ≡ true → b ≡ true → c ≡ true → d ≡ true → e ≡ true → (a && b && c && d && e) ≡ true
five a b c d e is_a is_b is_c is_d is_e = rw (is_a, is_b, is_c, is_d) is_e

-- an entry opens one look at most
left_fewer : (at : ℕ) (looks : List (Tag × Look)) → length (without_look looks at) ≤ length looks
left_fewer at [] = omega arith
left_fewer at (pin ∷ pins) = by_test (began_at at pin) (left_fewer at pins)
  where
    by_test : (b : Bool) → length (without_look pins at) ≤ length pins →
        length {A = Tag × Look} (cond b pins (pin ∷ without_look pins at)) ≤ length (pin ∷ pins)
    by_test true few = omega arith
    by_test false few = omega (arith, few)

opened : (tag : Tag) (look : Option Look) (looks : List (Tag × Look)) (n : ℕ) → length looks ≤ n →
    length (with_look tag look looks) ≤ suc n
opened tag None looks n few = omega (arith, few)
opened tag (Some look) looks n few = let more = length-append looks ((tag, look) ∷ []) in omega (arith, few, more)

one_more_look : (at : ℕ) (tag : Tag) (kind : Kind) (looks : List (Tag × Look)) → length looks ≤ at →
    length (looks_after at tag kind looks) ≤ suc at
one_more_look at tag (Kind.Leave left) looks few = let fewer = left_fewer left looks in omega (arith, few, fewer)
one_more_look at tag kind looks few = opened tag (look_made at kind) looks at few

-- the parts of three tests
record AreThree (a b c : Bool) : Type 0 where
  first : a ≡ true
  second : b ≡ true
  third : c ≡ true

parts_of : (a b c : Bool) → (a && b && c) ≡ true → AreThree a b c
parts_of true true true e = record { first = refl; second = refl; third = refl }
parts_of true true false e = absurd (cc)
parts_of true false c e = absurd (cc)
parts_of false b c e = absurd (cc)

low : (a b c : ℕ) → nat_lt a b ≡ true → b ≤ c → nat_lt a c ≡ true
low a b c e le = let less : a < b = ltb-true a b e in lt-ltb a c (omega (arith, less, le))

-- a look that found a page has a serial of 64 bits
abbrev HasSmallLook : Option Look → Type 0
HasSmallLook None = ⊤
HasSmallLook (Some look) = look.serial < 2 ^ 64

tag_of : (entry : Entry) → is_spelled_entry entry ≡ true → IsSmallTag entry.tag
tag_of entry e =
    let parts = parts_of (nat_lt entry.tag.actor (2 ^ 8)) (nat_lt entry.tag.call (2 ^ 32)) (is_spelled_kind entry.kind) e in
    record { actor = ltb-true entry.tag.actor (2 ^ 8) parts.first; call = ltb-true entry.tag.call (2 ^ 32) parts.second }

module _ (start : Start) (is_start : IsStart start) where
  abbrev shape : Shape
  shape = start.base.shape

  few_superblocks : shape.superblocks ≤ 2 ^ 16
  few_superblocks = let high = shape.within.superblocks_high in omega (arith, high)

  few_slots : slots_of shape.pages shape.dies ≤ 2 ^ 32
  few_slots =
      let pages = shape.within.pages_high in
      let dies = shape.within.dies_high in
      let fewer : shape.dies - 1 ≤ 8 = omega (arith, dies) in
      let all : shape.pages * (shape.dies - 1) ≤ 256 * 8 = mul-le-mul pages fewer in
      omega (arith, all)

  few_rows : shape.rows ≤ 2 ^ 32
  few_rows =
      let high = shape.within.rows_high in
      let superblocks = shape.within.superblocks_high in
      let dies = shape.within.dies_high in
      let some : shape.superblocks - 2 ≤ 256 = omega (arith, superblocks) in
      let fewer : shape.dies - 1 ≤ 8 = omega (arith, dies) in
      let first : (shape.superblocks - 2) * (shape.dies - 1) ≤ 256 * 8 = mul-le-mul some fewer in
      let all : (shape.superblocks - 2) * (shape.dies - 1) * shape.pages ≤ 256 * 8 * 256 = mul-le-mul first shape.within.pages_high in
      omega (arith, high, all)

  slot_spelled : (slot : Slot) → has_slot shape slot ≡ true → is_spelled_slot slot ≡ true
  slot_spelled slot e =
      let parts = and_parts (nat_lt slot.sb shape.superblocks) (nat_lt slot.index (slots_of shape.pages shape.dies)) e in
      and_from (nat_lt slot.sb (2 ^ 16)) (nat_lt slot.index (2 ^ 32)) (low slot.sb shape.superblocks (2 ^ 16) parts.0 few_superblocks)
      (low slot.index (slots_of shape.pages shape.dies) (2 ^ 32) parts.1 few_slots)

  place_spelled : (place : Place) → has_place shape place ≡ true → is_spelled_place place ≡ true
  place_spelled place e =
      let parts = parts_of (nat_lt place.die shape.dies) (nat_lt place.sb shape.superblocks) (nat_lt place.page shape.pages) e in
      let dies = shape.within.dies_high in
      let pages = shape.within.pages_high in
      three (nat_lt place.die (2 ^ 8)) (nat_lt place.sb (2 ^ 16)) (nat_lt place.page (2 ^ 16))
      (low place.die shape.dies (2 ^ 8) parts.first (omega (arith, dies)))
      (low place.sb shape.superblocks (2 ^ 16) parts.second few_superblocks)
      (low place.page shape.pages (2 ^ 16) parts.third (omega (arith, pages)))

  row_spelled : (found : Row) → has_row shape found ≡ true → HasSmallSerial found → is_spelled_row found ≡ true
  row_spelled Row.Empty e serial = refl
  row_spelled Row.Lost e serial = refl
  row_spelled (Row.Page slot number) e serial =
      and_from (is_spelled_slot slot) (nat_lt number (2 ^ 64)) (slot_spelled slot e) (lt-ltb number (2 ^ 64) serial)

  session_low : start.base.session < 2 ^ 24
  session_low = is_start.fields.session

  changed : (b : Bool) (after before : Row) → HasSmallSerial after → HasSmallSerial before →
      HasSmallSerial (elim b [ true ↦ after | false ↦ before ])
  changed true after before is_after is_before = is_after
  changed false after before is_after is_before = is_before

  -- so has a look that found a page, where its entry is spelled
  look_made_small : (at : ℕ) (kind : Kind) → is_spelled_kind kind ≡ true → HasSmallLook (look_made at kind)
  look_made_small at (Kind.Look row (Row.Page slot serial) closed) e =
      let parts = parts_of (nat_lt row (2 ^ 32)) (is_spelled_row (Row.Page slot serial)) true e in
      ltb-true serial (2 ^ 64) (and_parts (is_spelled_slot slot) (nat_lt serial (2 ^ 64)) parts.second).1
  look_made_small at kind e = tt

  look_small : (past : List Entry) (at : ℕ) → list_all is_spelled_entry past ≡ true → HasSmallLook (look_of past at)
  look_small [] at spelled = tt
  look_small (entry ∷ past) at spelled =
      let parts = and_parts (is_spelled_entry entry) (list_all is_spelled_entry past) spelled in
      let own = parts_of (nat_lt entry.tag.actor (2 ^ 8)) (nat_lt entry.tag.call (2 ^ 32)) (is_spelled_kind entry.kind) parts.0 in
      by_test (length past == at) (look_made_small at entry.kind own.third) (look_small past at parts.1)
    where
      by_test : (b : Bool) → HasSmallLook (look_made at entry.kind) → HasSmallLook (look_of past at) →
          HasSmallLook (elim b [ true ↦ look_made at entry.kind | false ↦ look_of past at ])
      by_test true here before = here
      by_test false here before = before

  -- the pages of rows have such serials: those of the start, of writes, and of looks
  serial_step : (past : List Entry) → list_all is_spelled_entry past ≡ true → (tag : Tag) (kind : Kind) → IsSmallTag tag →
      (row : ℕ) (before : Row) → HasSmallSerial before →
      HasSmallSerial (row_after (row_change start.base.session past tag kind) row before)
  serial_step past spelled tag (Kind.Write named slot) small row before held =
      changed (named == row) (Row.Page slot (serial_of start.base.session tag)) before
      (serials_name_their_calls start.base.session tag.actor tag.call session_low small.actor small.call).fits held
  serial_step past spelled tag (Kind.Trim named) small row before held = changed (named == row) Row.Empty before tt held
  serial_step past spelled tag (Kind.Move at slot) small row before held =
      by_look (look_of past at) (look_small past at spelled)
    where
      by_look : (look : Option Look) → HasSmallLook look →
          HasSmallSerial (row_after (option_map (λ looked. (looked.row, Row.Page slot looked.serial)) look) row before)
      by_look None fine = held
      by_look (Some look) fine = changed (look.row == row) (Row.Page slot look.serial) before fine held
  serial_step past spelled tag (Kind.Condemn at) small row before held = by_look (look_of past at)
    where
      by_look : (look : Option Look) →
          HasSmallSerial (row_after (option_map (λ looked. (looked.row, Row.Lost)) look) row before)
      by_look None = held
      by_look (Some look) = changed (look.row == row) Row.Lost before tt held
  serial_step past spelled tag kind small row before held = held

  pub row_serial : HasSmallSerials start.base → (past : List Entry) → list_all is_spelled_entry past ≡ true → (row : ℕ) →
      HasSmallSerial (row_of start.base past row)
  row_serial serials [] spelled row = serials row
  row_serial serials (entry ∷ past) spelled row =
      let parts = and_parts (is_spelled_entry entry) (list_all is_spelled_entry past) spelled in
      serial_step past parts.1 entry.tag entry.kind (tag_of entry parts.0) row (row_of start.base past row)
      (row_serial serials past parts.1 row)

  -- the numbers of a note
  few_free : (past : List Entry) → count_of_free start.base past ≤ shape.superblocks
  few_free past =
      let most = count_by-le-length is_free_block (blocks_of start.base past) in
      let many : length (blocks_of start.base past) ≡ shape.superblocks =
      length-map-range_with_len (block_of start.base past) 0 shape.superblocks in
      omega (arith, most, many)

  few_live : (past : List Entry) (victim : Option ℕ) →
      elim victim as (λ o. ℕ) [ Some sb ↦ live_of start.base past sb | None ↦ 0 ] ≤ shape.rows
  few_live past None = omega arith
  few_live past (Some sb) =
      let most = count_by-le-length (names_superblock sb) (rows_of start.base past) in
      let many : length (rows_of start.base past) ≡ shape.rows =
      length-map-range_with_len (row_of start.base past) 0 shape.rows in
      omega (arith, most, many)

  few_looks : (past : List Entry) → length (open_looks past) ≤ length past
  few_looks [] = omega arith
  few_looks (entry ∷ past) = one_more_look (length past) entry.tag entry.kind (open_looks past) (few_looks past)

  few_pins : (past : List Entry) (victim : Option ℕ) →
      elim victim as (λ o. ℕ) [ Some sb ↦ pins_of past sb | None ↦ 0 ] ≤ length past
  few_pins past None = omega arith
  few_pins past (Some sb) =
      let most = count_by-le-length (stands_in sb) (open_looks past) in
      let few = few_looks past in
      omega (arith, most, few)

  few_garbage : (past : List Entry) → count_of_garbage start.base past ≤ shape.superblocks
  few_garbage past =
      let most = count_by-le-length is_candidate (table_of start.base past) in
      let many : length (table_of start.base past) ≡ length (blocks_of start.base past) =
      length-map-range_with_len (info_of (slots_in start.base) (blocks_of start.base past) (rows_of start.base past) (open_looks past)) 0
      (length (blocks_of start.base past)) in
      let blocks : length (blocks_of start.base past) ≡ shape.superblocks =
      length-map-range_with_len (block_of start.base past) 0 shape.superblocks in
      omega (arith, most, many, blocks)

  fewer_rows : shape.rows < 2 ^ 32
  fewer_rows =
      let high = shape.within.rows_high in
      let superblocks = shape.within.superblocks_high in
      let dies = shape.within.dies_high in
      let some : shape.superblocks - 2 ≤ 256 = omega (arith, superblocks) in
      let fewer : shape.dies - 1 ≤ 8 = omega (arith, dies) in
      let first : (shape.superblocks - 2) * (shape.dies - 1) ≤ 256 * 8 = mul-le-mul some fewer in
      let all : (shape.superblocks - 2) * (shape.dies - 1) * shape.pages ≤ 256 * 8 * 256 = mul-le-mul first shape.within.pages_high in
      omega (arith, high, all)

  victim_spelled : (victim : Option ℕ) → has_superblock shape victim ≡ true → is_spelled_victim victim ≡ true
  victim_spelled None e = refl
  victim_spelled (Some sb) e = low sb shape.superblocks (2 ^ 16) e few_superblocks

  module _ (contents : List (Tag × List ℕ)) where
    -- an entry of a call whose tag is small
    module _ (past : List Entry) (spelled : list_all is_spelled_entry past ≡ true)
        (short : length past < 2 ^ 32) (tag : Tag) (small : IsSmallTag tag) where
      abbrev IsLawfulHere : Kind → Type 0
      IsLawfulHere kind = IsLawfulEntry (ladder_of (coding_of start.base) start contents past) start.base past (entry_of tag kind)

      one : (kind : Kind) → is_spelled_kind kind ≡ true → list_all is_spelled_entry (entry_of tag kind ∷ past) ≡ true
      one kind e =
          and_from (is_spelled_entry (entry_of tag kind)) (list_all is_spelled_entry past)
          (three (nat_lt tag.actor (2 ^ 8)) (nat_lt tag.call (2 ^ 32)) (is_spelled_kind kind) (lt-ltb tag.actor (2 ^ 8) small.actor)
          (lt-ltb tag.call (2 ^ 32) small.call) e)
          spelled

      pub write_spelled : (row : ℕ) (slot : Slot) → IsLawfulHere (Kind.Write row slot) →
          list_all is_spelled_entry (entry_of tag (Kind.Write row slot) ∷ past) ≡ true
      write_spelled row slot lawful =
          let parts = and_parts (nat_lt row shape.rows) (has_slot shape slot) lawful.in_range in
          one (Kind.Write row slot)
          (and_from (nat_lt row (2 ^ 32)) (is_spelled_slot slot) (low row shape.rows (2 ^ 32) parts.0 few_rows) (slot_spelled slot parts.1))

      pub bad_write_spelled : (row : ℕ) (slot : Slot) (die : ℕ) (fault : Bool) → IsLawfulHere (Kind.BadWrite row slot die fault) →
          list_all is_spelled_entry (entry_of tag (Kind.BadWrite row slot die fault) ∷ past) ≡ true
      bad_write_spelled row slot die fault lawful =
          let parts = parts_of (nat_lt row shape.rows) (has_slot shape slot) (nat_lt die shape.dies) lawful.in_range in
          let dies = shape.within.dies_high in
          one (Kind.BadWrite row slot die fault)
          (three (nat_lt row (2 ^ 32)) (is_spelled_slot slot) (nat_lt die (2 ^ 8)) (low row shape.rows (2 ^ 32) parts.first few_rows)
          (slot_spelled slot parts.second) (low die shape.dies (2 ^ 8) parts.third (omega (arith, dies))))

      pub refused_spelled : (row : ℕ) (worn : Bool) → IsLawfulHere (Kind.Refused row worn) →
          list_all is_spelled_entry (entry_of tag (Kind.Refused row worn) ∷ past) ≡ true
      refused_spelled row worn lawful = one (Kind.Refused row worn) (low row shape.rows (2 ^ 32) lawful.in_range few_rows)

      pub trim_spelled : (row : ℕ) → IsLawfulHere (Kind.Trim row) → list_all is_spelled_entry (entry_of tag (Kind.Trim row) ∷ past) ≡ true
      trim_spelled row lawful = one (Kind.Trim row) (low row shape.rows (2 ^ 32) lawful.in_range few_rows)

      -- an ageing, done or failed
      block_spelled : (die sb amount : ℕ) → amount < 2 ^ 16 → (nat_lt die shape.dies && nat_lt sb shape.superblocks) ≡ true →
          (nat_lt die (2 ^ 8) && nat_lt sb (2 ^ 16) && nat_lt amount (2 ^ 16)) ≡ true
      block_spelled die sb amount less in_range =
          let parts = and_parts (nat_lt die shape.dies) (nat_lt sb shape.superblocks) in_range in
          let dies = shape.within.dies_high in
          three (nat_lt die (2 ^ 8)) (nat_lt sb (2 ^ 16)) (nat_lt amount (2 ^ 16)) (low die shape.dies (2 ^ 8) parts.0 (omega (arith, dies)))
          (low sb shape.superblocks (2 ^ 16) parts.1 few_superblocks) (lt-ltb amount (2 ^ 16) less)

      pub age_spelled : (die sb amount : ℕ) → amount < 2 ^ 16 → IsLawfulHere (Kind.Age die sb amount) →
          list_all is_spelled_entry (entry_of tag (Kind.Age die sb amount) ∷ past) ≡ true
      age_spelled die sb amount less lawful = one (Kind.Age die sb amount) (block_spelled die sb amount less lawful.in_range)

      pub fault_age_spelled : (die sb amount : ℕ) → amount < 2 ^ 16 → IsLawfulHere (Kind.FaultAge die sb amount) →
          list_all is_spelled_entry (entry_of tag (Kind.FaultAge die sb amount) ∷ past) ≡ true
      fault_age_spelled die sb amount less lawful = one (Kind.FaultAge die sb amount) (block_spelled die sb amount less lawful.in_range)

      closed_spelled : (found : Row) (closed : Bool) → closed ≡ is_closed_page start.base past found → is_closed_of_page found closed ≡ true
      closed_spelled Row.Empty closed is = ap not is
      closed_spelled Row.Lost closed is = ap not is
      closed_spelled (Row.Page slot serial) closed is = refl

      pub look_spelled : HasSmallSerials start.base → (row : ℕ) (found : Row) (closed : Bool) → IsLawfulHere (Kind.Look row found closed) →
          list_all is_spelled_entry (entry_of tag (Kind.Look row found closed) ∷ past) ≡ true
      look_spelled serials row found closed lawful =
          let parts = and_parts (nat_lt row shape.rows) (has_row shape found) lawful.in_range in
          one (Kind.Look row found closed)
          (three (nat_lt row (2 ^ 32)) (is_spelled_row found) (is_closed_of_page found closed) (low row shape.rows (2 ^ 32) parts.0 few_rows)
          (row_spelled found parts.1 (subst HasSmallSerial (sym lawful.meets.is_found) (row_serial serials past spelled row)))
          (closed_spelled found closed lawful.meets.is_said))

      -- the look that an entry names began before it
      at_is_low : (at : ℕ) (P : Look → Type 0) → IsSomeAnd (open_look past tag at) P → nat_lt at (2 ^ 32) ≡ true
      at_is_low at P some =
          let began = found_below (length past) at tag (open_looks past) P (open_looks_began past) some in
          lt-ltb at (2 ^ 32) (omega (arith, began, short))

      level_short : (state : LadderState) (place : Place) (level : ℤ) → AsksShort state → state ≡ asks place level → is_short level ≡ true
      level_short state place level short_asked is = subst AsksShort is short_asked

      pub some_sense : (found : Option Look) (at : ℕ) (place : Place) (level : ℤ) (state : LadderState) →
          IsSomeAnd found (λ look. IsLawfulSense state past at place level) → state ≡ asks place level
      some_sense None at place level state some = absurd some
      some_sense (Some look) at place level state some = some.is_asked

      -- a sense that is asked for, whether it fails or not
      asked_spelled : (at : ℕ) (place : Place) (level : ℤ) → has_place shape place ≡ true →
          IsSomeAnd (open_look past tag at)
          (λ look. IsLawfulSense (ladder_of (coding_of start.base) start contents past at) past at place level) →
          (nat_lt at (2 ^ 32) && is_spelled_place place && is_short level) ≡ true
      asked_spelled at place level in_range meets =
          let step = ltb_high start.base.step is_start.fields.step in
          three (nat_lt at (2 ^ 32)) (is_spelled_place place) (is_short level)
          (at_is_low at (λ look. IsLawfulSense (ladder_of (coding_of start.base) start contents past at) past at place level) meets)
          (place_spelled place in_range)
          (level_short (ladder_of (coding_of start.base) start contents past at) place level
          (ladder_asks_short (coding_of start.base) is_start.fields.levels step start.base.shape.dies (look_of past at)
          (senses_of (coding_of start.base) start contents past at))
          (some_sense (open_look past tag at) at place level (ladder_of (coding_of start.base) start contents past at) meets))
        where
          ltb_high : (n : ℕ) → is_within 1 2047 n ≡ true → n ≤ 2047
          ltb_high n e = let parts = and_parts (nat_le 1 n) (nat_le n 2047) e in let high = parts.1 in grind (arith, nat_tests)

      pub sense_spelled : (at : ℕ) (place : Place) (level : ℤ) → IsLawfulHere (Kind.Sense at place level) →
          list_all is_spelled_entry (entry_of tag (Kind.Sense at place level) ∷ past) ≡ true
      sense_spelled at place level lawful = one (Kind.Sense at place level) (asked_spelled at place level lawful.in_range lawful.meets)

      pub fault_sense_spelled : (at : ℕ) (place : Place) (level : ℤ) → IsLawfulHere (Kind.FaultSense at place level) →
          list_all is_spelled_entry (entry_of tag (Kind.FaultSense at place level) ∷ past) ≡ true
      fault_sense_spelled at place level lawful =
          one (Kind.FaultSense at place level) (asked_spelled at place level lawful.in_range lawful.meets)

      pub leave_spelled : (at : ℕ) → IsLawfulHere (Kind.Leave at) → list_all is_spelled_entry (entry_of tag (Kind.Leave at) ∷ past) ≡ true
      leave_spelled at lawful =
          one (Kind.Leave at) (at_is_low at (λ look. IsLawfulLeave (ladder_of (coding_of start.base) start contents past at) past at) lawful.meets)

      -- what came of a look
      move_spelled : (at : ℕ) (slot : Slot) → IsLawfulHere (Kind.Move at slot) →
          list_all is_spelled_entry (entry_of tag (Kind.Move at slot) ∷ past) ≡ true
      move_spelled at slot lawful =
          one (Kind.Move at slot)
          (and_from (nat_lt at (2 ^ 32)) (is_spelled_slot slot)
          (at_is_low at (λ look. IsLawfulMove (ladder_of (coding_of start.base) start contents past at) start.base past look slot) lawful.meets)
          (slot_spelled slot lawful.in_range))

      bad_copy_spelled : (at : ℕ) (slot : Slot) (die : ℕ) (fault : Bool) → IsLawfulHere (Kind.BadCopy at slot die fault) →
          list_all is_spelled_entry (entry_of tag (Kind.BadCopy at slot die fault) ∷ past) ≡ true
      bad_copy_spelled at slot die fault lawful =
          let parts = and_parts (has_slot shape slot) (nat_lt die shape.dies) lawful.in_range in
          let dies = shape.within.dies_high in
          one (Kind.BadCopy at slot die fault)
          (three (nat_lt at (2 ^ 32)) (is_spelled_slot slot) (nat_lt die (2 ^ 8))
          (at_is_low at
          (λ look. IsLawfulBadCopy (ladder_of (coding_of start.base) start contents past at) start.base past look slot die fault)
          lawful.meets) (slot_spelled slot parts.0) (low die shape.dies (2 ^ 8) parts.1 (omega (arith, dies))))

      condemn_spelled : (at : ℕ) → IsLawfulHere (Kind.Condemn at) →
          list_all is_spelled_entry (entry_of tag (Kind.Condemn at) ∷ past) ≡ true
      condemn_spelled at lawful =
          one (Kind.Condemn at)
          (at_is_low at (λ look. IsLawfulCondemn (ladder_of (coding_of start.base) start contents past at) start.base past look)
          lawful.meets)

      stay_spelled : (at : ℕ) (worn : Bool) → IsLawfulHere (Kind.Stay at worn) →
          list_all is_spelled_entry (entry_of tag (Kind.Stay at worn) ∷ past) ≡ true
      stay_spelled at worn lawful =
          one (Kind.Stay at worn)
          (at_is_low at (λ look. IsLawfulStay (ladder_of (coding_of start.base) start contents past at) start.base past look worn)
          lawful.meets)

      -- the row of the look is as it is now
      changed_found : (look : Option Look) (state : LadderState) (found : Row) → HasSmallSerials start.base →
          IsSomeAnd look (λ one. IsLawfulChanged state start.base past one found) → HasSmallSerial found
      changed_found None state found serials some = absurd some
      changed_found (Some look) state found serials some =
          subst HasSmallSerial (sym some.is_found) (row_serial serials past spelled look.row)

      changed_spelled : HasSmallSerials start.base → (at : ℕ) (found : Row) → IsLawfulHere (Kind.Changed at found) →
          list_all is_spelled_entry (entry_of tag (Kind.Changed at found) ∷ past) ≡ true
      changed_spelled serials at found lawful =
          one (Kind.Changed at found)
          (and_from (nat_lt at (2 ^ 32)) (is_spelled_row found)
          (at_is_low at (λ look. IsLawfulChanged (ladder_of (coding_of start.base) start contents past at) start.base past look found)
          lawful.meets)
          (row_spelled found lawful.in_range
          (changed_found (open_look past tag at) (ladder_of (coding_of start.base) start contents past at) found serials lawful.meets)))

      -- steps outside a look
      pick_spelled : (sb : ℕ) → IsLawfulHere (Kind.Pick sb) → list_all is_spelled_entry (entry_of tag (Kind.Pick sb) ∷ past) ≡ true
      pick_spelled sb lawful = one (Kind.Pick sb) (low sb shape.superblocks (2 ^ 16) lawful.in_range few_superblocks)

      erase_spelled : (sb : ℕ) → IsLawfulHere (Kind.Erase sb) → list_all is_spelled_entry (entry_of tag (Kind.Erase sb) ∷ past) ≡ true
      erase_spelled sb lawful = one (Kind.Erase sb) (low sb shape.superblocks (2 ^ 16) lawful.in_range few_superblocks)

      bad_erase_spelled : (sb die : ℕ) (fault : Bool) → IsLawfulHere (Kind.BadErase sb die fault) →
          list_all is_spelled_entry (entry_of tag (Kind.BadErase sb die fault) ∷ past) ≡ true
      bad_erase_spelled sb die fault lawful =
          let parts = and_parts (nat_lt sb shape.superblocks) (nat_lt die shape.dies) lawful.in_range in
          let dies = shape.within.dies_high in
          one (Kind.BadErase sb die fault)
          (and_from (nat_lt sb (2 ^ 16)) (nat_lt die (2 ^ 8)) (low sb shape.superblocks (2 ^ 16) parts.0 few_superblocks)
          (low die shape.dies (2 ^ 8) parts.1 (omega (arith, dies))))

      note_spelled : (free : ℕ) (victim : Option ℕ) (live pins garbage : ℕ) → IsLawfulHere (Kind.Note free victim live pins garbage) →
          list_all is_spelled_entry (entry_of tag (Kind.Note free victim live pins garbage) ∷ past) ≡ true
      note_spelled free victim live pins garbage lawful =
          let meets = lawful.meets in
          let free_high : count_of_free start.base past ≤ shape.superblocks = few_free past in
          let live_high : live_of_victim start.base past ≤ shape.rows = few_live past (victim_of start.base past) in
          let rows = few_rows in
          let superblocks = few_superblocks in
          let rows_high : shape.rows < 2 ^ 32 = fewer_rows in
          let pins_high : pins_of_victim start.base past ≤ length past = few_pins past (victim_of start.base past) in
          let garbage_high : count_of_garbage start.base past ≤ shape.superblocks = few_garbage past in
          let high = shape.within.superblocks_high in
          one (Kind.Note free victim live pins garbage)
          (five (nat_lt free (2 ^ 16)) (is_spelled_victim victim) (nat_lt live (2 ^ 32)) (nat_lt pins (2 ^ 32)) (nat_lt garbage (2 ^ 16))
          (lt-ltb free (2 ^ 16) (omega (arith, meets.free_is, free_high, high)))
          (victim_spelled victim lawful.in_range)
          (lt-ltb live (2 ^ 32) (omega (arith, meets.live_is, live_high, rows_high)))
          (lt-ltb pins (2 ^ 32) (omega (arith, meets.pins_is, pins_high, short)))
          (lt-ltb garbage (2 ^ 16) (omega (arith, meets.garbage_is, garbage_high, high))))

      -- any entry
      entry_spelled : HasSmallSerials start.base → (kind : Kind) → IsSmallKind kind → IsLawfulHere kind →
          list_all is_spelled_entry (entry_of tag kind ∷ past) ≡ true
      entry_spelled serials (Kind.Look row found closed) fine lawful = look_spelled serials row found closed lawful
      entry_spelled serials (Kind.Sense at place level) fine lawful = sense_spelled at place level lawful
      entry_spelled serials (Kind.Leave at) fine lawful = leave_spelled at lawful
      entry_spelled serials (Kind.Write row slot) fine lawful = write_spelled row slot lawful
      entry_spelled serials (Kind.Trim row) fine lawful = trim_spelled row lawful
      entry_spelled serials (Kind.Move at slot) fine lawful = move_spelled at slot lawful
      entry_spelled serials (Kind.Changed at found) fine lawful = changed_spelled serials at found lawful
      entry_spelled serials (Kind.Condemn at) fine lawful = condemn_spelled at lawful
      entry_spelled serials (Kind.Stay at worn) fine lawful = stay_spelled at worn lawful
      entry_spelled serials (Kind.Pick sb) fine lawful = pick_spelled sb lawful
      entry_spelled serials (Kind.Erase sb) fine lawful = erase_spelled sb lawful
      entry_spelled serials (Kind.BadWrite row slot die fault) fine lawful = bad_write_spelled row slot die fault lawful
      entry_spelled serials (Kind.BadCopy at slot die fault) fine lawful = bad_copy_spelled at slot die fault lawful
      entry_spelled serials (Kind.BadErase sb die fault) fine lawful = bad_erase_spelled sb die fault lawful
      entry_spelled serials (Kind.Age die sb amount) fine lawful = age_spelled die sb amount fine lawful
      entry_spelled serials (Kind.Refused row worn) fine lawful = refused_spelled row worn lawful
      entry_spelled serials (Kind.FaultSense at place level) fine lawful = fault_sense_spelled at place level lawful
      entry_spelled serials (Kind.FaultAge die sb amount) fine lawful = fault_age_spelled die sb amount fine lawful
      entry_spelled serials (Kind.Note free victim live pins garbage) fine lawful = note_spelled free victim live pins garbage lawful

pub lawful_pasts_are_spelled : LawfulPastsAreSpelled
lawful_pasts_are_spelled start contents [] is_start serials lawful short small = refl
lawful_pasts_are_spelled start contents (entry ∷ past) is_start serials lawful short small =
    let own : IsSmallEntry entry = All-head IsSmallEntry entry past small in
    entry_spelled start is_start contents past
    (lawful_pasts_are_spelled start contents past is_start serials lawful.0 (omega (arith, short)) (All-tail IsSmallEntry entry past small))
    (omega (arith, short)) entry.tag own.small_tag serials entry.kind own.small_kind lawful.1
