-- The live pages of a superblock are at most its used slots: the proof of the law of specs/LivePages.antt.
use Rattle.std.proofs.Common.{◌≡◌, ℕ, zero, suc, ◌+◌, ◌<◌, ◌≤◌, ◌==◌, nat_lt, ◌&&◌, Bool, true, false, List, [], ◌∷◌, set, refl, ap, sym, ◌∙◌, subst, Option, Some, None, arith}
use Rattle.std.specs.Prelude.{All, IsTrue, count_by, if◌then◌else◌, option_map}
use Rattle.std.proofs.lemmas.Bool.Decides.{nat_tests}
use Rattle.std.proofs.lemmas.List.{ext_get_or}
use Rattle.std.proofs.lemmas.List.Elements.{All-head, All-tail}
use Rattle.std.proofs.lemmas.List.FromFn.{get_or-map-range_with_len, length-map-range_with_len}
use Rattle.std.proofs.lemmas.List.Sums.{AllPass-from_list_all, sum_by-cons}
use Rattle.ssd_geo.specs.Ladder.{LadderState}
use Rattle.ssd_geo.specs.declared.base.BlockBase.{BlockBase}
use Rattle.ssd_geo.specs.declared.base.ChannelBase.{ChannelBase}
use Rattle.ssd_geo.specs.declared.entry.Entry.{Entry}
use Rattle.ssd_geo.specs.declared.kind.Kind.{Kind}
use Rattle.ssd_geo.specs.declared.look.Look.{Look}
use Rattle.ssd_geo.specs.declared.row.Row.{Row}
use Rattle.ssd_geo.specs.declared.slot.Slot.{Slot}
use Rattle.ssd_geo.specs.declared.superblock.SbState.{SbState}
use Rattle.ssd_geo.specs.declared.tag.Tag.{Tag}
use Rattle.ssd_histories.specs.Blocks.{blank_block, block_at, has_due_used, is_due_block}
use Rattle.ssd_histories.specs.History.{look_of, open_look}
use Rattle.ssd_histories.specs.HistoryLaws.{rows_after}
use Rattle.ssd_histories.specs.Lawful.{IsLawfulKind, IsLawfulMove}
use Rattle.ssd_histories.specs.PageMap.{NameApart, live_in, names_slot, names_superblock, slot_at}
use Rattle.ssd_histories.specs.PastBlocks.{slots_in, used_of}
use Rattle.ssd_histories.specs.PastRows.{row_change, row_of, rows_of, serial_of}
use Rattle.ssd_histories.specs.Ranges.{has_slot, is_in_range}
use Rattle.ssd_histories.specs.Room.{live_of, next_slot}
use Rattle.ssd_histories.specs.Standing.{IsStart, names_used}
use Rattle.ssd_histories.specs.Start.{Start}
use Rattle.ssd_histories.proofs.MapRows.{rows_after_entry}
use Rattle.ssd_histories.proofs.UsedSlots.{made, next_is_used, of_some, second_holds, slot_in_range, due_used}
use Rattle.history_laws.specs.LivePages.{FitsItsSlots, LivePagesFit}
use Rattle.history_laws.proofs.Counting.{at_most_one, count_set_most, counts_add, one, one_false}
use Rattle.ssd_histories.proofs.StartRows.{rows_at_start}

-- ---- the page map at the start

-- whether a row names one of the first slots of a superblock
abbrev names_under : ℕ → ℕ → Row → Bool
names_under sb n Row.Empty = false
names_under sb n Row.Lost = false
names_under sb n (Row.Page slot serial) = slot.sb == sb && nat_lt slot.index n

-- it names one slot more where it names the next
one_more : (sb n : ℕ) (row : Row)
    → one (names_under sb (suc n) row) ≡ one (names_under sb n row) + one (names_slot (slot_at sb n) row)
one_more sb n Row.Empty = refl
one_more sb n Row.Lost = refl
one_more sb n (Row.Page slot serial) = numbers slot.sb slot.index
  where
    numbers : (a i : ℕ) → one (a == sb && nat_lt i (suc n)) ≡ one (a == sb && nat_lt i n) + one (sb == a && n == i)
    numbers a i = grind (arith, nat_tests)

-- no row names one of no slots
none_under : (sb : ℕ) (rows : List Row) → count_by (names_under sb zero) rows ≤ zero
none_under sb [] = omega arith
none_under sb (row ∷ rows) =
    omega (arith, nothing row, sum_by-cons (λ (r : Row). one (names_under sb zero r)) row rows, none_under sb rows)
  where
    nothing : (row : Row) → one (names_under sb zero row) ≡ 0
    nothing Row.Empty = refl
    nothing Row.Lost = refl
    nothing (Row.Page slot serial) = numbers slot.sb slot.index
      where
        numbers : (a i : ℕ) → one (a == sb && nat_lt i zero) ≡ 0
        numbers a i = grind (arith, nat_tests)

-- so the rows that name the first slots are no more than these, where no two name one slot
few_under : (rows : List Row) (sb n : ℕ) → NameApart rows → count_by (names_under sb n) rows ≤ n
few_under rows sb zero apart = none_under sb rows
few_under rows sb (suc n) apart =
    omega (
      arith,
      counts_add (names_under sb (suc n)) (names_under sb n) (names_slot (slot_at sb n)) (one_more sb n) rows,
      few_under rows sb n apart,
      at_most_one (names_slot (slot_at sb n)) Row.Empty rows (apart (slot_at sb n)),
    )

-- a row that names a used slot of a superblock names one of its first
used_under : (base : ChannelBase) (sb : ℕ) (row : Row) → names_used base row ≡ true
    → one (names_superblock sb row) ≤ one (names_under sb (block_at base.blocks sb).used row)
used_under base sb Row.Empty e = omega arith
used_under base sb Row.Lost e = omega arith
used_under base sb (Row.Page slot serial) e = by_test slot.sb (slot.sb == sb) refl e
  where
    same_number : (a : ℕ) → (a == sb) ≡ true → a ≡ sb
    same_number a e = grind (arith, nat_tests)

    both : (b : Bool) → b ≡ true → one true ≤ one (true && b)
    both true e = omega arith
    both false e = absurd (grind arith)

    by_test : (a : ℕ) (b : Bool) → (a == sb) ≡ b → nat_lt slot.index (block_at base.blocks a).used ≡ true
        → one b ≤ one (b && nat_lt slot.index (block_at base.blocks sb).used)
    by_test a true here used =
        both (nat_lt slot.index (block_at base.blocks sb).used)
        (subst (λ (k : ℕ). nat_lt slot.index (block_at base.blocks k).used ≡ true) (same_number a here) used)
    by_test a false there used = omega arith

-- so the live pages of a superblock are among the rows that name its first slots
live_under : (base : ChannelBase) (sb : ℕ) (rows : List Row) → All (λ row. IsTrue (names_used base row)) rows
    → live_in rows sb ≤ count_by (names_under sb (block_at base.blocks sb).used) rows
live_under base sb [] used = omega arith
live_under base sb (row ∷ rows) used =
    omega (
      arith,
      used_under base sb row (All-head (λ (r : Row). IsTrue (names_used base r)) row rows used),
      sum_by-cons (λ (r : Row). one (names_superblock sb r)) row rows,
      sum_by-cons (λ (r : Row). one (names_under sb (block_at base.blocks sb).used r)) row rows,
      live_under base sb rows (All-tail (λ (r : Row). IsTrue (names_used base r)) row rows used),
    )

-- they are no more than the used slots at the start
live_at_start : (start : Start) (sb : ℕ) → IsStart start → live_of start.base [] sb ≤ used_of start.base [] sb
live_at_start start sb is_start =
    let same : live_in start.base.rows sb ≡ live_of start.base [] sb = ap {B = ℕ} (λ (rows : List Row). live_in rows sb)
    (rows_at_start start is_start) in
    omega (
      arith,
      same,
      live_under start.base sb start.base.rows is_start.rows_used,
      few_under start.base.rows sb (block_at start.base.blocks sb).used is_start.rows_apart,
    )

used_at_start : (start : Start) (sb : ℕ) → IsStart start → sb < start.base.shape.superblocks
    → used_of start.base [] sb ≤ slots_in start.base
used_at_start start sb is_start lt =
    let block : BlockBase = block_at start.base.blocks sb in
    let due : is_due_block (slots_in start.base) block ≡ true =
    AllPass-from_list_all (is_due_block (slots_in start.base)) start.base.blocks is_start.blocks_sound.due sb blank_block
    (omega (arith, is_start.blocks_count)) in
    due_used (slots_in start.base) block.state block.used due

-- ---- one more entry

-- the live pages after one more entry
pub live_after : (base : ChannelBase) (entry : Entry) (past : List Entry) (sb : ℕ)
    → live_of base (entry ∷ past) sb ≡ live_in
    (rows_after (row_change base.session past entry.tag entry.kind) (rows_of base past)) sb
live_after base entry past sb = ap {B = ℕ} (λ (rows : List Row). live_in rows sb) (rows_after_entry base entry past)

-- a row that comes to name a slot gives at most its superblock a live page
pub live_named : (rows : List Row) (row sb serial : ℕ) (slot : Slot)
    → live_in (set rows row (Row.Page slot serial)) sb ≤ live_in rows sb + one (slot.sb == sb)
live_named rows row sb serial slot = count_set_most (names_superblock sb) rows row (Row.Page slot serial)

-- a row that comes to name none gives none a live page
pub live_cleared : (rows : List Row) (row sb : ℕ) (to : Row) → names_superblock sb to ≡ false
    → live_in (set rows row to) sb ≤ live_in rows sb
live_cleared rows row sb to e = omega
    (arith, one_false (names_superblock sb to) e, count_set_most (names_superblock sb) rows row to)

-- the rows that a copy leaves
pub live_copied : (o : Option Look) (rows : List Row) (sb : ℕ) (slot : Slot)
    → live_in (rows_after (option_map (λ look. (look.row, Row.Page slot look.serial)) o) rows) sb ≤ live_in rows sb + one
    (slot.sb == sb)
live_copied None rows sb slot = omega arith
live_copied (Some look) rows sb slot = live_named rows look.row sb look.serial slot

-- the rows that a condemnation leaves
pub live_lost : (o : Option Look) (rows : List Row) (sb : ℕ)
    → live_in (rows_after (option_map (λ look. (look.row, Row.Lost)) o) rows) sb ≤ live_in rows sb
live_lost None rows sb = omega arith
live_lost (Some look) rows sb = live_cleared rows look.row sb Row.Lost refl

-- one more slot is used where a test holds
one_more_used : (b : Bool) (used : ℕ) → (if b then used + 1 else used) ≡ used + one b
one_more_used true used = refl
one_more_used false used = omega arith

-- after an erase of a superblock without live pages none is left
none_left : (base : ChannelBase) (past : List Entry) (named sb : ℕ) (b : Bool) → (named == sb) ≡ b
    → live_of base past named ≡ 0 → live_of base past sb ≤ used_of base past sb
    → live_of base past sb ≤ (if b then 0 else used_of base past sb)
none_left base past named sb true here none h = omega (arith, none, ap {B = ℕ} (live_of base past) (same_number named here))
  where
    same_number : (a : ℕ) → (a == sb) ≡ true → a ≡ sb
    same_number a e = grind (arith, nat_tests)
none_left base past named sb false there none h = h

-- the live pages are at most the used slots after one more entry
live_step : (state : ℕ → LadderState) (base : ChannelBase) (past : List Entry) (tag : Tag) (kind : Kind) (sb : ℕ)
    → IsLawfulKind state base past tag kind
    → live_of base past sb ≤ used_of base past sb
    → live_of base (made tag kind ∷ past) sb ≤ used_of base (made tag kind ∷ past) sb
live_step state base past tag (Kind.Write row slot) sb c h =
    omega (
      arith,
      live_after base (made tag (Kind.Write row slot)) past sb,
      live_named (rows_of base past) row sb (serial_of base.session tag) slot,
      one_more_used (slot.sb == sb) (used_of base past sb),
    )
live_step state base past tag (Kind.Move at slot) sb c h =
    omega (
      arith,
      live_after base (made tag (Kind.Move at slot)) past sb,
      live_copied (look_of past at) (rows_of base past) sb slot,
      one_more_used (slot.sb == sb) (used_of base past sb),
    )
live_step state base past tag (Kind.Trim row) sb c h =
    omega (arith, live_after base (made tag (Kind.Trim row)) past sb, live_cleared (rows_of base past) row sb Row.Empty refl)
live_step state base past tag (Kind.Condemn at) sb c h =
    omega (arith, live_after base (made tag (Kind.Condemn at)) past sb, live_lost (look_of past at) (rows_of base past) sb)
live_step state base past tag (Kind.Erase named) sb c h = none_left base past named sb (named == sb) refl c.may_erase.no_live h
live_step state base past tag (Kind.BadErase named die fault) sb c h = none_left base past named sb (named == sb) refl
    c.may_erase.no_live h
live_step state base past tag kind sb c h = h

-- so are the used slots at most the slots
programmed_few : (base : ChannelBase) (past : List Entry) (slot : Slot) (sb : ℕ) → next_slot base past ≡ Some slot
    → has_slot base.shape slot ≡ true
    → used_of base past sb ≤ slots_in base
    → (if slot.sb == sb then used_of base past sb + 1 else used_of base past sb) ≤ slots_in base
programmed_few base past slot sb next range h = by_test (slot.sb == sb) refl
  where
    same_number : (a : ℕ) → (a == sb) ≡ true → a ≡ sb
    same_number a e = grind (arith, nat_tests)

    index_few : (a b i n : ℕ) → (nat_lt a b && nat_lt i n) ≡ true → i < n
    index_few a b i n e = grind (arith, nat_tests)

    by_test : (b : Bool) → (slot.sb == sb) ≡ b → (if b then used_of base past sb + 1 else used_of base past sb) ≤ slots_in base
    by_test true here =
        omega (
          arith,
          next_is_used base past slot next (slot_in_range base.shape slot range),
          ap {B = ℕ} (used_of base past) (same_number slot.sb here),
          index_few slot.sb base.shape.superblocks slot.index (slots_in base) range,
        )
    by_test false there = h

-- no more are used after an erase
cleared_few : (b : Bool) (used slots : ℕ) → used ≤ slots → (if b then 0 else used) ≤ slots
cleared_few true used slots h = omega arith
cleared_few false used slots h = h

used_step : (state : ℕ → LadderState) (base : ChannelBase) (past : List Entry) (tag : Tag) (kind : Kind) (sb : ℕ)
    → is_in_range base.shape kind ≡ true
    → IsLawfulKind state base past tag kind → used_of base past sb ≤ slots_in base
    → used_of base (made tag kind ∷ past) sb ≤ slots_in base
used_step state base past tag (Kind.Write row slot) sb range c h =
    programmed_few base past slot sb c.is_programmed.is_next
    (second_holds (nat_lt row base.shape.rows) (has_slot base.shape slot) range) h
used_step state base past tag (Kind.Move at slot) sb range c h =
    programmed_few base past slot sb
    (of_some (open_look past tag at) (λ look. IsLawfulMove (state at) base past look slot)
    (λ look move. move.is_programmed.is_next) c) range h
used_step state base past tag (Kind.Erase named) sb range c h = cleared_few (named == sb) (used_of base past sb)
    (slots_in base) h
used_step state base past tag (Kind.BadErase named die fault) sb range c h = cleared_few (named == sb) (used_of base past sb)
    (slots_in base) h
used_step state base past tag kind sb range c h = h

-- so it is after each lawful past
pub live_pages_fit : LivePagesFit
live_pages_fit ladder start [] sb is_start lawful lt = record
    { live = live_at_start start sb is_start; used = used_at_start start sb is_start lt }
live_pages_fit ladder start (entry ∷ past) sb is_start lawful lt =
    let before : FitsItsSlots start.base past sb = live_pages_fit ladder start past sb is_start lawful.0 lt in
    record {
      live = live_step (ladder past) start.base past entry.tag entry.kind sb lawful.1.meets before.live;
      used = used_step (ladder past) start.base past entry.tag entry.kind sb lawful.1.in_range lawful.1.meets before.used;
    }
