-- The entry of each step is lawful over the past of a channel that stands for a start.
use Rattle.std.proofs.Common.{◌≡◌, ℕ, ◌<◌, nat_lt, ◌&&◌, ◌||◌, not, Bool, true, false, List, ap, Option, Some, None, refl, arith}
use Rattle.std.specs.Prelude.{IsTrue, IsFalse, IsSome, IsSomeAnd, ℤ}
use Rattle.std.proofs.lemmas.Bool.Decides.{nat_tests}
use Rattle.std.proofs.lemmas.List.FromFn.{get_or-map-range_with_len}
use Rattle.ssd_histories.specs.Blocks as Blocks
use Rattle.ssd_histories.specs.History.{open_look}
use Rattle.ssd_geo.specs.Ladder.{LadderState, asks, has_answer}
use Rattle.ssd_histories.specs.Lawful.{IsLawfulEntry, IsLawfulLeave, IsLawfulRefused, IsLawfulSense, has_fault_sense, is_closed_page}
use Rattle.ssd_histories.specs.PageMap.{row_at}
use Rattle.ssd_histories.specs.PastBlocks.{blocks_of}
use Rattle.ssd_histories.specs.PastRows.{row_of, rows_of}
use Rattle.ssd_histories.specs.Ranges.{has_place, has_row, has_slot}
use Rattle.ssd_histories.specs.SerialCalls.{entry_of}
use Rattle.ssd_geo.specs.Stripe.{is_closed, stripe_of_index}
use Rattle.ssd_geo.specs.declared.base.BlockBase.{BlockBase}
use Rattle.ssd_geo.specs.declared.base.ChannelBase.{ChannelBase}
use Rattle.ssd_geo.specs.declared.entry.Entry.{Entry}
use Rattle.ssd_geo.specs.declared.kind.Kind.{Kind}
use Rattle.ssd_geo.specs.declared.place.Place.{Place}
use Rattle.ssd_geo.specs.declared.row.Row.{Row}
use Rattle.ssd_geo.specs.declared.shape.Shape.{Shape}
use Rattle.ssd_geo.specs.declared.slot.Slot.{Slot}
use Rattle.ssd_geo.specs.declared.tag.Tag.{Tag}
use Rattle.ssd_histories.proofs.UsedSlots.{block_is, slot_in_range}
use Rattle.chan_dies.specs.declared.ends.ProgramEnd.{ProgramEnd}
use Rattle.chan_fits.proofs.EndedPrograms.{IsLawfulProgram}
use Rattle.chan_state.specs.Kept.{kind_of_write}
use Rattle.chan_tables.specs.TablesState.{is_closed_row}
use Rattle.std.proofs.lemmas.Bool.{lt-ltb, and_from}

pub some_and : {A : Type 0} (P : A → Type 0) (o : Option A) → IsSome o → ((x : A) → P x) → IsSomeAnd o P
some_and P None some h = cc
some_and P (Some x) some h = h x

pub lawful_trim : (state : ℕ → LadderState) (base : ChannelBase) (past : List Entry) (tag : Tag) (row : ℕ) → row < base.shape.rows
    → IsLawfulEntry state base past (entry_of tag (Kind.Trim row))
lawful_trim state base past tag row lt = record { in_range = lt-ltb row base.shape.rows lt; meets = tt }

pub lawful_age : (state : ℕ → LadderState) (base : ChannelBase) (past : List Entry) (tag : Tag) (die sb amount : ℕ) → die < base.shape.dies → sb < base.shape.superblocks
    → IsLawfulEntry state base past (entry_of tag (Kind.Age die sb amount))
lawful_age state base past tag die sb amount low within = record {
  in_range = and_from (nat_lt die base.shape.dies) (nat_lt sb base.shape.superblocks) (lt-ltb die base.shape.dies low) (lt-ltb sb base.shape.superblocks within);
  meets = tt;
}

pub lawful_leave : (state : ℕ → LadderState) (base : ChannelBase) (past : List Entry) (tag : Tag) (at : ℕ) → IsSome (open_look past tag at)
    → IsTrue (has_answer (state at) || has_fault_sense past at) → IsLawfulEntry state base past (entry_of tag (Kind.Leave at))
lawful_leave state base past tag at some answered = record {
  in_range = refl;
  meets = some_and (λ look. IsLawfulLeave (state at) past at) (open_look past tag at) some (λ look. answered);
}

pub lawful_sense : (state : ℕ → LadderState) (base : ChannelBase) (past : List Entry) (tag : Tag) (at : ℕ) (place : Place) (level : ℤ) → IsTrue (has_place base.shape place)
    → IsSome (open_look past tag at) → IsFalse (has_fault_sense past at) → state at ≡ asks place level
    → IsLawfulEntry state base past (entry_of tag (Kind.Sense at place level))
lawful_sense state base past tag at place level range some none asked = record {
  in_range = range;
  meets = some_and (λ look. IsLawfulSense (state at) past at place level) (open_look past tag at) some
      (λ look. record { no_fault = ap {B = Bool} (λ (b : Bool). not b) none; is_asked = asked });
}

pub lawful_fault_sense : (state : ℕ → LadderState) (base : ChannelBase) (past : List Entry) (tag : Tag) (at : ℕ) (place : Place) (level : ℤ) → IsTrue (has_place base.shape place)
    → IsSome (open_look past tag at) → IsFalse (has_fault_sense past at) → state at ≡ asks place level
    → IsLawfulEntry state base past (entry_of tag (Kind.FaultSense at place level))
lawful_fault_sense state base past tag at place level range some none asked = record {
  in_range = range;
  meets = some_and (λ look. IsLawfulSense (state at) past at place level) (open_look past tag at) some
      (λ look. record { no_fault = ap {B = Bool} (λ (b : Bool). not b) none; is_asked = asked });
}

pub lawful_fault_age : (state : ℕ → LadderState) (base : ChannelBase) (past : List Entry) (tag : Tag) (die sb amount : ℕ) → die < base.shape.dies → sb < base.shape.superblocks
    → IsLawfulEntry state base past (entry_of tag (Kind.FaultAge die sb amount))
lawful_fault_age state base past tag die sb amount low within = record {
  in_range = and_from (nat_lt die base.shape.dies) (nat_lt sb base.shape.superblocks) (lt-ltb die base.shape.dies low) (lt-ltb sb base.shape.superblocks within);
  meets = tt;
}

-- a row of the page map
pub row_is : (base : ChannelBase) (past : List Entry) (row : ℕ) → row < base.shape.rows → row_at (rows_of base past) row ≡ row_of base past row
row_is base past row lt = get_or-map-range_with_len (row_of base past) 0 base.shape.rows row row Row.Empty lt (omega arith)

-- what a look says of a row's stripe is what it is to say
closed_is : (base : ChannelBase) (past : List Entry) (found : Row) → has_row base.shape found ≡ true
    → is_closed_row base.shape (blocks_of base past) found ≡ is_closed_page base past found
closed_is base past Row.Empty range = refl
closed_is base past Row.Lost range = refl
closed_is base past (Row.Page slot serial) range =
    ap {B = Bool} (λ (block : BlockBase). is_closed base.shape.dies block.used (stripe_of_index base.shape.dies slot.index))
    (block_is base past slot.sb (slot_in_range base.shape slot range))

pub lawful_look : (state : ℕ → LadderState) (base : ChannelBase) (past : List Entry) (tag : Tag) (row : ℕ) (found : Row) → row < base.shape.rows → found ≡ row_of base past row
    → has_row base.shape found ≡ true
    → IsLawfulEntry state base past (entry_of tag (Kind.Look row found (is_closed_row base.shape (blocks_of base past) found)))
lawful_look state base past tag row found lt is range = record {
  in_range = and_from (nat_lt row base.shape.rows) (has_row base.shape found) (lt-ltb row base.shape.rows lt) range;
  meets = record { is_found = is; is_said = closed_is base past found range };
}

-- ---- writes

pub lawful_refused : (state : ℕ → LadderState) (base : ChannelBase) (past : List Entry) (tag : Tag) (row : ℕ) (worn : Bool) → row < base.shape.rows
    → IsLawfulRefused base past worn → IsLawfulEntry state base past (entry_of tag (Kind.Refused row worn))
lawful_refused state base past tag row worn lt is = record { in_range = lt-ltb row base.shape.rows lt; meets = is }

-- the die that a program of a slot stopped at, if it stopped, is one of the channel's
abbrev pub StopsInRange : ChannelBase → ProgramEnd → Type 0
StopsInRange base ProgramEnd.Programmed = Unit {0}
StopsInRange base (ProgramEnd.Failed die) = die < base.shape.dies
StopsInRange base (ProgramEnd.Fault die) = die < base.shape.dies

pub lawful_write : (state : ℕ → LadderState) (base : ChannelBase) (past : List Entry) (tag : Tag) (row : ℕ) (slot : Slot) (end : ProgramEnd) → row < base.shape.rows
    → IsTrue (has_slot base.shape slot) → IsTrue (Blocks.blocks_have_room (blocks_of base past)) → IsLawfulProgram base past slot end → StopsInRange base end
    → IsLawfulEntry state base past (entry_of tag (kind_of_write row slot end))
lawful_write state base past tag row slot ProgramEnd.Programmed lt range room programmed stops = record {
  in_range = and_from (nat_lt row base.shape.rows) (has_slot base.shape slot) (lt-ltb row base.shape.rows lt) range;
  meets = record { has_room = room; is_programmed = programmed };
}
lawful_write state base past tag row slot (ProgramEnd.Failed die) lt range room failed stops = record {
  in_range =
      and_from (nat_lt row base.shape.rows && has_slot base.shape slot) (nat_lt die base.shape.dies)
      (and_from (nat_lt row base.shape.rows) (has_slot base.shape slot) (lt-ltb row base.shape.rows lt) range) (lt-ltb die base.shape.dies stops);
  meets = record { has_room = room; is_failed = failed };
}
lawful_write state base past tag row slot (ProgramEnd.Fault die) lt range room failed stops = record {
  in_range =
      and_from (nat_lt row base.shape.rows && has_slot base.shape slot) (nat_lt die base.shape.dies)
      (and_from (nat_lt row base.shape.rows) (has_slot base.shape slot) (lt-ltb row base.shape.rows lt) range) (lt-ltb die base.shape.dies stops);
  meets = record { has_room = room; is_failed = failed };
}
