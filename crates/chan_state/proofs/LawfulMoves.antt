-- The entry of each answer to a move is lawful over the past of a channel that stands for a start.
use Rattle.std.proofs.Common.{◌≡◌, ℕ, ◌<◌, nat_lt, ◌||◌, not, Bool, true, false, List, sym, ◌∙◌, ap, subst, Option, Some, None, refl}
use Rattle.std.specs.Prelude.{IsTrue, IsSomeAnd, if◌then◌else◌, is_none}
use Rattle.ssd_histories.specs.Blocks as Blocks
use Rattle.ssd_histories.specs.History.{open_look}
use Rattle.ssd_geo.specs.Ladder.{LadderState, has_answer, is_recovered}
use Rattle.ssd_histories.specs.Lawful as Lawful
use Rattle.ssd_histories.specs.Lawful.{IsLawfulBadCopy, IsLawfulChanged, IsLawfulEntry, IsLawfulMove, IsLawfulStay, IsUnchanged, lacks_room}
use Rattle.ssd_histories.specs.PastBlocks.{blocks_of, slots_in}
use Rattle.ssd_histories.specs.PastRows.{rows_of}
use Rattle.ssd_histories.specs.Ranges.{has_row, has_slot}
use Rattle.ssd_histories.specs.SerialCalls.{entry_of}
use Rattle.ssd_histories.specs.Room.{is_worn}
use Rattle.ssd_geo.specs.declared.kind.Kind.{Kind}
use Rattle.ssd_geo.specs.declared.row.Row.{Row}
use Rattle.ssd_geo.specs.declared.base.BlockBase.{BlockBase}
use Rattle.ssd_geo.specs.declared.base.ChannelBase.{ChannelBase}
use Rattle.ssd_geo.specs.declared.entry.Entry.{Entry}
use Rattle.ssd_geo.specs.declared.look.Look.{Look}
use Rattle.ssd_geo.specs.declared.slot.Slot.{Slot}
use Rattle.ssd_geo.specs.declared.tag.Tag.{Tag}
use Rattle.chan_dies.specs.declared.ends.ProgramEnd.{ProgramEnd}
use Rattle.chan_fits.proofs.EndedPrograms.{IsLawfulProgram}
use Rattle.chan_tables.specs.Copying.{IsMoveRoom, KeepsPage, MayCopy, copy_slot_of, is_in_victim}
use Rattle.chan_tables.specs.declared.rooms.MoveRoom.TheVariants as room
use Rattle.chan_state.specs.Kept.{kind_of_copy}
use Rattle.chan_state.proofs.LawfulSteps.{StopsInRange, row_is}
use Rattle.std.proofs.lemmas.Bool.{lt-ltb, and_from}
use Rattle.ssd_histories.proofs.FreeBlocks.{no_next_no_room}

-- the slot for a copy is the next one
pub copy_is_next : (blocks : List BlockBase) (look : Look) (slot : Slot) → copy_slot_of blocks look ≡ Some slot → Blocks.next_slot_of blocks ≡ Some slot
copy_is_next blocks look slot e = by_room (Blocks.blocks_have_room blocks || is_in_victim blocks look) e
  where
    by_room : (b : Bool) → (if b then Blocks.next_slot_of blocks else None) ≡ Some slot → Blocks.next_slot_of blocks ≡ Some slot
    by_room true e = e
    by_room false e = cc

-- what holds of an open look holds of the one that there is
pub of_look : (P : Look → Type 0) (o : Option Look) (look : Look) → o ≡ Some look → P look → IsSomeAnd o P
of_look P o look e h = subst (λ (x : Option Look). IsSomeAnd x P) (sym e) h

-- a look whose copy has no slot lacks room
no_room : (host victim : Bool) (next : Option Slot) → (next ≡ None → host ≡ false) → (if host || victim then next else None) ≡ None
    → (if victim then is_none next else not host) ≡ true
no_room true true next has e = ap {B = Bool} (λ (o : Option Slot). is_none o) e
no_room true false next has e = apart (has e)
  where
    apart : true ≡ false → false ≡ true
    apart e = cc
no_room false true next has e = ap {B = Bool} (λ (o : Option Slot). is_none o) e
no_room false false next has e = refl

copy_lacks_room : (base : ChannelBase) (past : List Entry) (look : Look) → copy_slot_of (blocks_of base past) look ≡ None → IsTrue (lacks_room base past look)
copy_lacks_room base past look e =
    no_room (Blocks.blocks_have_room (blocks_of base past)) (is_in_victim (blocks_of base past) look) (Blocks.next_slot_of (blocks_of base past))
    (no_next_no_room (blocks_of base past)) e

-- and one whose copy has a slot has room
copy_has_room : (blocks : List BlockBase) (look : Look) (slot : Slot) → copy_slot_of blocks look ≡ Some slot → (Blocks.blocks_have_room blocks || is_in_victim blocks look) ≡ true
copy_has_room blocks look slot e = by_room (Blocks.blocks_have_room blocks || is_in_victim blocks look) e
  where
    by_room : (b : Bool) → (if b then Blocks.next_slot_of blocks else None) ≡ Some slot → b ≡ true
    by_room true e = refl
    by_room false e = cc

pub unchanged_row : (base : ChannelBase) (past : List Entry) (look : Look) → look.row < base.shape.rows → KeepsPage (rows_of base past) look → IsUnchanged base past look
unchanged_row base past look low keeps = sym (row_is base past look.row low) ∙ keeps

-- ---- the entries of a move

pub lawful_changed : (state : ℕ → LadderState) (base : ChannelBase) (past : List Entry) (tag : Tag) (at : ℕ) (look : Look) (row : Row) → open_look past tag at ≡ Some look
    → has_answer (state at) ≡ true → look.row < base.shape.rows → IsTrue (has_row base.shape row)
    → IsMoveRoom (slots_in base) (blocks_of base past) (rows_of base past) look (room.Changed row) → IsLawfulEntry state base past (entry_of tag (Kind.Changed at row))
lawful_changed state base past tag at look row found answered low range is = record {
  in_range = range;
  meets = of_look (λ l. IsLawfulChanged (state at) base past l row) (open_look past tag at) look found
      (record { has_answer = answered; is_found = is.0 ∙ row_is base past look.row low; is_other = is.1 });
}

pub lawful_stay : (state : ℕ → LadderState) (base : ChannelBase) (past : List Entry) (tag : Tag) (at : ℕ) (look : Look) (worn : Bool) → open_look past tag at ≡ Some look
    → is_recovered (state at) ≡ true → look.row < base.shape.rows → KeepsPage (rows_of base past) look
    → copy_slot_of (blocks_of base past) look ≡ None → is_worn base past ≡ worn → IsLawfulEntry state base past (entry_of tag (Kind.Stay at worn))
lawful_stay state base past tag at look worn found rec low keeps none flag = record {
  in_range = refl;
  meets = of_look (λ l. IsLawfulStay (state at) base past l worn) (open_look past tag at) look found
      (record { is_recovered = rec; is_unchanged = unchanged_row base past look low keeps; no_room = copy_lacks_room base past look none; flag = sym flag });
}

may_copy : (state : ℕ → LadderState) (base : ChannelBase) (past : List Entry) (at : ℕ) (look : Look) (slot : Slot) → is_recovered (state at) ≡ true → look.row < base.shape.rows
    → MayCopy (blocks_of base past) (rows_of base past) look slot → Lawful.MayCopy (state at) base past look
may_copy state base past at look slot rec low may = record {
  is_recovered = rec;
  is_unchanged = unchanged_row base past look low may.keeps_page;
  has_room = copy_has_room (blocks_of base past) look slot may.is_copy_slot;
}

pub lawful_copy : (state : ℕ → LadderState) (base : ChannelBase) (past : List Entry) (tag : Tag) (at : ℕ) (look : Look) (slot : Slot) (end : ProgramEnd) → open_look past tag at ≡ Some look
    → is_recovered (state at) ≡ true → look.row < base.shape.rows → IsTrue (has_slot base.shape slot) → MayCopy (blocks_of base past) (rows_of base past) look slot
    → IsLawfulProgram base past slot end → StopsInRange base end → IsLawfulEntry state base past (entry_of tag (kind_of_copy at slot end))
lawful_copy state base past tag at look slot ProgramEnd.Programmed found rec low range may programmed stops = record {
  in_range = range;
  meets = of_look (λ l. IsLawfulMove (state at) base past l slot) (open_look past tag at) look found
      (record { may_copy = may_copy state base past at look slot rec low may; is_programmed = programmed });
}
lawful_copy state base past tag at look slot (ProgramEnd.Failed die) found rec low range may failed stops = record {
  in_range = and_from (has_slot base.shape slot) (nat_lt die base.shape.dies) range (lt-ltb die base.shape.dies stops);
  meets = of_look (λ l. IsLawfulBadCopy (state at) base past l slot die false) (open_look past tag at) look found
      (record { may_copy = may_copy state base past at look slot rec low may; is_failed = failed });
}
lawful_copy state base past tag at look slot (ProgramEnd.Fault die) found rec low range may failed stops = record {
  in_range = and_from (has_slot base.shape slot) (nat_lt die base.shape.dies) range (lt-ltb die base.shape.dies stops);
  meets = of_look (λ l. IsLawfulBadCopy (state at) base past l slot die true) (open_look past tag at) look found
      (record { may_copy = may_copy state base past at look slot rec low may; is_failed = failed });
}
