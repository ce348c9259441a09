-- Writes: what each answer adds and keeps, and which die counted a fault.
use Rattle.std.proofs.Common.{◌≡◌, ℕ, ◌+◌, ◌<◌, ◌≤◌, ◌==◌, ◌||◌, Bool, true, false, List, [], ◌∷◌, length, sym, ◌∙◌, ap, subst, Option, Some, None, Result, Ok, Err, refl, inl, inr, arith}
use Rattle.std.specs.Prelude.{IfOk, IsFalse, IsTrue, if◌then◌else◌, pos}
use Rattle.std.specs.List.{list_any}
use Rattle.std.proofs.lemmas.Bool.Decides.{nat_tests}
use Rattle.onfi_cmd.specs.DieState.{DieState}
use Rattle.chan_dies.specs.DiesState.{DiesState}
use Rattle.chan_dies.specs.OneDie.{FaultsDie, RefusesBlock}
use Rattle.chan_dies.specs.Programming.{EndsProgram, Programs, StopsProgram, page_of_slot, parity_of_slot, sum_after}
use Rattle.chan_dies.specs.declared.ends.ProgramEnd.{ProgramEnd}
use Rattle.chan_fits.specs.FitLaws.{DiesChange, IsNextSlot, TableAllows}
use Rattle.chan_fits.proofs.EndedPrograms.{IsLawfulProgram, fault_of_program, program_counts, program_is_lawful, stopped_in_range}
use Rattle.chan_tables.specs.TablesState.{IsStopped, TablesState, room_of_step, tables_after}
use Rattle.chan_tables.specs.Writing.{is_full, is_worn}
use Rattle.ssd_geo.specs.Bits.{bytes_sum}
use Rattle.ssd_geo.specs.Coding.{coding_of}
use Rattle.ssd_histories.specs.Blocks as Blocks
use Rattle.ssd_histories.specs.PastBlocks.{blocks_of}
use Rattle.ssd_histories.specs.PastPages.{ladder_of, senses_of, word_programmed}
use Rattle.ssd_histories.specs.Ranges.{has_slot}
use Rattle.ssd_histories.specs.Room as Room
use Rattle.ssd_histories.specs.Start.{Start}
use Rattle.ssd_geo.specs.Stripe.{is_last_of_stripe}
use Rattle.ssd_geo.specs.declared.base.BlockBase.{BlockBase}
use Rattle.ssd_geo.specs.declared.base.ChannelBase.{ChannelBase}
use Rattle.ssd_geo.specs.declared.entry.Entry.{Entry}
use Rattle.ssd_geo.specs.declared.kind.Kind.{Kind}
use Rattle.ssd_geo.specs.declared.policy_view.PolicyView.{PolicyView}
use Rattle.ssd_geo.specs.declared.shape.Shape.{Shape}
use Rattle.ssd_geo.specs.declared.slot.Slot.{Slot}
use Rattle.ssd_geo.specs.declared.stop.StepStop.{StepStop}
use Rattle.ssd_geo.specs.declared.tag.Tag.{Tag}
use Rattle.chan_state.specs.ChannelState.{ChannelState, Count, StandsFor}
use Rattle.chan_state.specs.Kept.{AreFitting, answer_of_write, channel_of, kind_of_write}
use Rattle.chan_state.specs.Steps.{AddsEntry, CountAt, HasStepRoom, IsRefused, IsWordOf}
use Rattle.chan_state.specs.Writing.{Writes, WritesFor, fault_of_write, uses_die}
use Rattle.chan_state.specs.declared.answers.WriteAnswer.{WriteAnswer}
use Rattle.chan_state.specs.declared.answers.WriteAnswer.TheVariants as write
use Rattle.chan_state.proofs.DieSteps.{both_after, counts}
use Rattle.chan_state.proofs.LawfulSteps.{StopsInRange, lawful_refused, lawful_write}
use Rattle.chan_state.proofs.LookSteps.{same_stands}
use Rattle.chan_state.proofs.Standing.{LeavesView, same_channel, stands_after}
use Rattle.chan_state.proofs.Taken.{Taken, adds, fitting}
use Rattle.chan_state.proofs.Told.{told_adds, told_fitting, told_stands}

pub record WriteClauses (old new : ChannelState) (tag : Tag) (row : ℕ) (word : List ℕ) (result : Result WriteAnswer StepStop) : Type 0 where
  pub room : IsRefused (HasStepRoom old) old result
  pub ok : IfOk result (λ answer. Writes old new tag row answer)
  pub faults : CountAt fault_of_write old new result
  pub stands : WritesFor old new tag row word

-- ---- where the host has no room

pub stopped_clauses : (old : TablesState) (dies : DiesState) (new : TablesState) (tag : Tag) (row : ℕ) (word : List ℕ) (stop : StepStop)
    → IsStopped {A = WriteAnswer} (length old.past + room_of_step old.looks ≤ old.limit) (length old.past) (Err stop) → new ≡ record old { room = new.room }
    → WriteClauses (channel_of old dies) (channel_of new dies) tag row word (Err stop)
stopped_clauses old dies new tag row word stop room same = record {
  room = room;
  ok = tt;
  faults = same_channel old dies new same;
  stands = λ view start contents stands is. same_stands old dies new same view start contents stands;
}

pub need_clauses : (old : TablesState) (dies : DiesState) (new : TablesState) (tag : Tag) (row : ℕ) (word : List ℕ)
    → length old.past + room_of_step old.looks ≤ old.limit → new ≡ record old { room = new.room }
    → IsFalse (Blocks.blocks_have_room new.blocks) × IsFalse (is_worn new) × IsFalse (is_full new)
    → WriteClauses (channel_of old dies) (channel_of new dies) tag row word (Ok write.NeedRoom)
need_clauses old dies new tag row word room same is =
    let was : IsFalse (Blocks.blocks_have_room old.blocks) × IsFalse (is_worn old) × IsFalse (is_full old) =
    subst (λ (t : TablesState). IsFalse (Blocks.blocks_have_room t.blocks) × IsFalse (is_worn t) × IsFalse (is_full t)) same is in
    record {
      room = room;
      ok = (was.0, was.1, was.2, same_channel old dies new same);
      faults = subst (λ (c : ChannelState). Count None (channel_of old dies) c) (sym (same_channel old dies new same)) (record { works_stay = λ die. refl; loads_stay = λ die. refl });
      stands = λ view start contents stands is_word. same_stands old dies new same view start contents stands;
    }

pub no_counts : (old : TablesState) (dies : DiesState) (new : TablesState) → Count None (channel_of old dies) (channel_of new dies)
no_counts old dies new = record { works_stay = λ die. refl; loads_stay = λ die. refl }

refused_stands : (old : TablesState) (dies : DiesState) (new : TablesState) (tag : Tag) (row : ℕ) (word : List ℕ) (worn : Bool) (items : ℕ) → AreFitting old dies items → row < old.shape.rows
    → new ≡ tables_after (record old { room = new.room }) tag (Kind.Refused row worn) → (if worn then is_worn old else is_full old) ≡ true
    → WritesFor (channel_of old dies) (channel_of new dies) tag row word
refused_stands old dies new tag row word worn items fit lt e is view start contents stands is_word =
    told_stands old dies new tag (Kind.Refused row worn) items view start contents fit tt e stands
    (lawful_refused (ladder_of (coding_of start.base) start contents old.past) start.base old.past tag row worn
    (subst (λ (shape : Shape). row < shape.rows) stands.shape_is lt) (by_flag worn is))
  where
    by_flag : (b : Bool) → (if b then is_worn old else is_full old) ≡ true → (if b then Room.is_worn start.base old.past else Room.is_full start.base old.past) ≡ true
    by_flag true h =
        subst (λ (b : Bool). b ≡ true)
        (λ i. is_worn (record old { shape = stands.shape_is i; blocks = stands.blocks_are i; rows = stands.rows_are i })) h
    by_flag false h =
        subst (λ (b : Bool). b ≡ true)
        (λ i. is_full (record old { shape = stands.shape_is i; blocks = stands.blocks_are i; rows = stands.rows_are i; looks = stands.looks_are i })) h

pub read_only_clauses : (old : TablesState) (dies : DiesState) (roomy new : TablesState) (tag : Tag) (row : ℕ) (word : List ℕ) (items : ℕ) → AreFitting old dies items → row < old.shape.rows
    → length old.past + room_of_step old.looks ≤ old.limit → roomy ≡ record old { room = roomy.room } → new ≡ tables_after roomy tag (Kind.Refused row true)
    → IsFalse (Blocks.blocks_have_room roomy.blocks) × IsTrue (is_worn roomy)
    → WriteClauses (channel_of old dies) (channel_of new dies) tag row word (Ok write.ReadOnly)
read_only_clauses old dies roomy new tag row word items fit lt room same e is =
    let was : IsFalse (Blocks.blocks_have_room old.blocks) × IsTrue (is_worn old) =
    subst (λ (t : TablesState). IsFalse (Blocks.blocks_have_room t.blocks) × IsTrue (is_worn t)) same is in
    let after : new ≡ tables_after (record old { room = new.room }) tag (Kind.Refused row true) = both_after old roomy new tag (Kind.Refused row true) same e in
    record {
      room = room;
      ok = (was.0, was.1, told_adds old dies new tag (Kind.Refused row true) tt after);
      faults = no_counts old dies new;
      stands = refused_stands old dies new tag row word true items fit lt after was.1;
    }

pub full_clauses : (old : TablesState) (dies : DiesState) (roomy new : TablesState) (tag : Tag) (row : ℕ) (word : List ℕ) (items : ℕ) → AreFitting old dies items → row < old.shape.rows
    → length old.past + room_of_step old.looks ≤ old.limit → roomy ≡ record old { room = roomy.room } → new ≡ tables_after roomy tag (Kind.Refused row false)
    → IsFalse (Blocks.blocks_have_room roomy.blocks) × IsFalse (is_worn roomy) × IsTrue (is_full roomy)
    → WriteClauses (channel_of old dies) (channel_of new dies) tag row word (Ok write.Full)
full_clauses old dies roomy new tag row word items fit lt room same e is =
    let was : IsFalse (Blocks.blocks_have_room old.blocks) × IsFalse (is_worn old) × IsTrue (is_full old) =
    subst (λ (t : TablesState). IsFalse (Blocks.blocks_have_room t.blocks) × IsFalse (is_worn t) × IsTrue (is_full t)) same is in
    let after : new ≡ tables_after (record old { room = new.room }) tag (Kind.Refused row false) = both_after old roomy new tag (Kind.Refused row false) same e in
    record {
      room = room;
      ok = (was.0, was.1, was.2, told_adds old dies new tag (Kind.Refused row false) tt after);
      faults = no_counts old dies new;
      stands = refused_stands old dies new tag row word false items fit lt after was.2;
    }

pub refused_fitting : (old : TablesState) (dies : DiesState) (roomy new : TablesState) (tag : Tag) (row : ℕ) (worn : Bool) (items : ℕ) → AreFitting old dies items
    → roomy ≡ record old { room = roomy.room } → new ≡ tables_after roomy tag (Kind.Refused row worn) → AreFitting new dies items
refused_fitting old dies roomy new tag row worn items fit same e =
    told_fitting old dies new tag (Kind.Refused row worn) items fit tt (both_after old roomy new tag (Kind.Refused row worn) same e)

-- ---- programs

-- a program that stopped, stopped at a die that it uses
pub uses_stopped : (shape : Shape) (slot : Slot) (word : List ℕ) (die : ℕ) (P : DieState → DieState → Type 0) (old new : List DieState) → StopsProgram shape slot word die P old new → IsTrue (uses_die shape slot die)
uses_stopped shape slot word die P old new stops = elim (stops.stops) [
  | inl first ↦ is_first (page_of_slot shape slot).die die (if is_last_of_stripe shape.dies slot.index then (parity_of_slot shape slot).die ∷ [] else []) first.is_slot
  | inr second ↦ is_second (page_of_slot shape slot).die die (parity_of_slot shape slot).die (is_last_of_stripe shape.dies slot.index) second.is_last second.is_parity
]
  where
    same_is : (a b : ℕ) → a ≡ b → (b == a) ≡ true
    same_is a b e = grind (arith, nat_tests)

    either : (a b : Bool) → b ≡ true → (a || b) ≡ true
    either true b e = refl
    either false b e = e

    is_first : (first d : ℕ) (rest : List ℕ) → d ≡ first → list_any (λ used. used == d) (first ∷ rest) ≡ true
    is_first first d rest e = ap {B = Bool} (λ (b : Bool). b || list_any (λ used. used == d) rest) (same_is d first e)

    is_second : (first d second : ℕ) (last : Bool) → last ≡ true → d ≡ second → list_any (λ used. used == d) (first ∷ (if last then second ∷ [] else [])) ≡ true
    is_second first d second true e is = either (first == d) (list_any (λ used. used == d) (second ∷ [])) (is_first second d [] is)
    is_second first d second false e is = cc

-- the die of a program that stopped is one of the channel's
stops_low : (base : ChannelBase) (slot : Slot) (word total : List ℕ) (old new : List DieState) (end : ProgramEnd) → IsTrue (has_slot base.shape slot)
    → EndsProgram base.shape slot word total old new end → StopsInRange base end
stops_low base slot word total old new ProgramEnd.Programmed range ends = tt
stops_low base slot word total old new (ProgramEnd.Failed die) range ends = stopped_in_range base.shape slot word die (RefusesBlock slot.sb) old new range ends
stops_low base slot word total old new (ProgramEnd.Fault die) range ends = stopped_in_range base.shape slot word die FaultsDie old new range ends

-- what a program of a word into the next slot makes of a past, over a start for which the channel stood
pub record ProgramOver (start : Start) (old : TablesState) (slot : Slot) (end : ProgramEnd) : Type 0 where
  pub in_range : IsTrue (has_slot start.base.shape slot)
  pub lawful : IsLawfulProgram start.base old.past slot end
  pub low : StopsInRange start.base end

pub program_over : (old : TablesState) (dies after : DiesState) (slot : Slot) (word : List ℕ) (end : ProgramEnd) (items : ℕ) (view : Option PolicyView) (start : Start) (contents : List (Tag × List ℕ))
    → AreFitting old dies items → IsNextSlot old.shape old.blocks slot → Programs dies after slot word end → StandsFor (channel_of old dies) view start contents
    → ProgramOver start old slot end
program_over old dies after slot word end items view start contents fit next programs stands =
    let sizes : dies.shape ≡ start.base.shape = fit.same_shape ∙ stands.shape_is in
    let range : IsTrue (has_slot start.base.shape slot) = subst (λ (shape : Shape). IsTrue (has_slot shape slot)) stands.shape_is next.in_range in
    let ends : EndsProgram start.base.shape slot word (bytes_sum word dies.sum) dies.dies after.dies end =
    subst (λ (shape : Shape). EndsProgram shape slot word (bytes_sum word dies.sum) dies.dies after.dies end) sizes programs.dies in
    let is_next : Blocks.next_slot_of (blocks_of start.base old.past) ≡ Some slot =
    subst (λ (list : List BlockBase). Blocks.next_slot_of list ≡ Some slot) stands.blocks_are next.is_next in
    record {
      in_range = range;
      lawful = program_is_lawful start contents old.past slot word (bytes_sum word dies.sum) dies.sum dies.dies after.dies end stands.dies_fit is_next range ends;
      low = stops_low start.base slot word (bytes_sum word dies.sum) dies.dies after.dies end range ends;
    }

-- a start of a channel with these sizes
start_of_shape : Shape → Start
start_of_shape shape = record {
  base = record {
    shape = shape;
    session = 0;
    blocks = [];
    rows = [];
    sum = [];
    channel = 0;
    entries = [];
    read_levels = [];
    iterations = 0;
    step = 0;
    law = record { seed = 0; erased = pos 0; programmed = pos 0; spread = 0 };
    weak = [];
  };
  limit = 0;
  cells = [];
  work_faults = [];
  load_faults = [];
  view = None;
}

-- the counts of faults of a program
pub program_faults : (old new : ChannelState) (shape : Shape) (slot : Slot) (word total : List ℕ) (end : ProgramEnd) → EndsProgram shape slot word total old.dies new.dies end
    → Count (fault_of_program end) old new
unfolding start_of_shape
program_faults old new shape slot word total end ends = counts (fault_of_program end) old new (program_counts (start_of_shape shape) slot word total old.dies new.dies end ends)

-- a program changed the dies as its entry says
write_change : (shape : Shape) (row : ℕ) (slot : Slot) (word : List ℕ) (end : ProgramEnd) (old new : List DieState) (sum after : List ℕ) → EndsProgram shape slot word (bytes_sum word sum) old new end
    → after ≡ sum_after shape slot (bytes_sum word sum) end → DiesChange shape (kind_of_write row slot end) word old new sum after
write_change shape row slot word ProgramEnd.Programmed old new sum after ends e = record { dies = ends; sum_is = e }
write_change shape row slot word (ProgramEnd.Failed die) old new sum after ends e = record { dies = ends; sum_is = e }
write_change shape row slot word (ProgramEnd.Fault die) old new sum after ends e = record { dies = ends; sum_is = e }

write_allows : (shape : Shape) (blocks : List BlockBase) (row : ℕ) (slot : Slot) (end : ProgramEnd) → IsNextSlot shape blocks slot → TableAllows shape blocks (kind_of_write row slot end)
write_allows shape blocks row slot ProgramEnd.Programmed next = next
write_allows shape blocks row slot (ProgramEnd.Failed die) next = next
write_allows shape blocks row slot (ProgramEnd.Fault die) next = next

write_leaves : (row : ℕ) (slot : Slot) (end : ProgramEnd) → LeavesView (kind_of_write row slot end)
write_leaves row slot ProgramEnd.Programmed = tt
write_leaves row slot (ProgramEnd.Failed die) = tt
write_leaves row slot (ProgramEnd.Fault die) = tt

write_taken : (old : TablesState) (dies : DiesState) (new : TablesState) (after : DiesState) (tag : Tag) (row : ℕ) (slot : Slot) (word : List ℕ) (end : ProgramEnd) (items : ℕ) → AreFitting old dies items
    → IsNextSlot old.shape old.blocks slot → new ≡ tables_after (record old { room = new.room }) tag (kind_of_write row slot end) → Programs dies after slot word end
    → Taken old dies new after tag (kind_of_write row slot end) word
write_taken old dies new after tag row slot word end items fit next e programs = record {
  tables_are = e;
  shape_stays = programs.shape_stays;
  change =
      write_change old.shape row slot word end dies.dies after.dies dies.sum after.sum
      (subst (λ (shape : Shape). EndsProgram shape slot word (bytes_sum word dies.sum) dies.dies after.dies end) fit.same_shape programs.dies)
      (subst (λ (shape : Shape). after.sum ≡ sum_after shape slot (bytes_sum word dies.sum) end) fit.same_shape programs.sum_is);
  allows = write_allows old.shape old.blocks row slot end next;
}

write_word : (start : Start) (contents : List (Tag × List ℕ)) (past : List Entry) (tag : Tag) (row : ℕ) (slot : Slot) (word : List ℕ) (end : ProgramEnd) → IsWordOf start contents tag row word
    → word ≡ word_programmed (coding_of start.base) start contents (senses_of (coding_of start.base) start contents past) past tag (kind_of_write row slot end)
write_word start contents past tag row slot word ProgramEnd.Programmed is = is
write_word start contents past tag row slot word (ProgramEnd.Failed die) is = is
write_word start contents past tag row slot word (ProgramEnd.Fault die) is = is

write_answers : (old new : ChannelState) (tag : Tag) (row : ℕ) (slot : Slot) (word total : List ℕ) (end : ProgramEnd) → IsTrue (Blocks.blocks_have_room old.blocks)
    → Blocks.next_slot_of old.blocks ≡ Some slot → EndsProgram old.shape slot word total old.dies new.dies end
    → AddsEntry old new tag (kind_of_write row slot end) → Writes old new tag row (answer_of_write slot end)
write_answers old new tag row slot word total ProgramEnd.Programmed room next ends entry = (room, next, entry)
write_answers old new tag row slot word total (ProgramEnd.Failed die) room next ends entry = (
  room,
  record {
    slot = slot;
    die = die;
    sb_is = refl;
    fails = record { is_next = next; is_used = uses_stopped old.shape slot word die (RefusesBlock slot.sb) old.dies new.dies ends; entry = entry };
  },
)
write_answers old new tag row slot word total (ProgramEnd.Fault die) room next ends entry = (
  room,
  record {
    slot = slot;
    fails = record { is_next = next; is_used = uses_stopped old.shape slot word die FaultsDie old.dies new.dies ends; entry = entry };
  },
)

write_faults : (slot : Slot) (end : ProgramEnd) → fault_of_write (answer_of_write slot end) ≡ fault_of_program end
write_faults slot ProgramEnd.Programmed = refl
write_faults slot (ProgramEnd.Failed die) = refl
write_faults slot (ProgramEnd.Fault die) = refl

pub write_clauses : (old : TablesState) (dies : DiesState) (roomy new : TablesState) (after : DiesState) (tag : Tag) (row : ℕ) (slot : Slot) (word : List ℕ) (end : ProgramEnd) (answer : WriteAnswer) (items : ℕ)
    → AreFitting old dies items → row < old.shape.rows → length old.past + room_of_step old.looks ≤ old.limit → roomy ≡ record old { room = roomy.room }
    → IsTrue (Blocks.blocks_have_room roomy.blocks) × (Blocks.next_slot_of roomy.blocks ≡ Some slot) × IsTrue (has_slot roomy.shape slot)
    → new ≡ tables_after roomy tag (kind_of_write row slot end) → Programs dies after slot word end → answer ≡ answer_of_write slot end
    → WriteClauses (channel_of old dies) (channel_of new after) tag row word (Ok answer)
write_clauses old dies roomy new after tag row slot word end answer items fit lt room same is e programs answer_is =
    let was : IsTrue (Blocks.blocks_have_room old.blocks) × (Blocks.next_slot_of old.blocks ≡ Some slot) × IsTrue (has_slot old.shape slot) =
    subst (λ (t : TablesState). IsTrue (Blocks.blocks_have_room t.blocks) × (Blocks.next_slot_of t.blocks ≡ Some slot) × IsTrue (has_slot t.shape slot)) same is in
    let next : IsNextSlot old.shape old.blocks slot = record { is_next = was.1; in_range = was.2 } in
    let taken : Taken old dies new after tag (kind_of_write row slot end) word =
    write_taken old dies new after tag row slot word end items fit next (both_after old roomy new tag (kind_of_write row slot end) same e) programs in
    let ends : EndsProgram old.shape slot word (bytes_sum word dies.sum) dies.dies after.dies end =
    subst (λ (shape : Shape). EndsProgram shape slot word (bytes_sum word dies.sum) dies.dies after.dies end) fit.same_shape programs.dies in
    record {
      room = room;
      ok =
          subst (Writes (channel_of old dies) (channel_of new after) tag row) (sym answer_is)
          (write_answers (channel_of old dies) (channel_of new after) tag row slot word (bytes_sum word dies.sum) end was.0 was.1 ends
          (adds old dies new after tag (kind_of_write row slot end) word taken));
      faults =
          subst (λ (named : Option ℕ). Count named (channel_of old dies) (channel_of new after)) (sym (ap {B = Option ℕ} fault_of_write answer_is ∙ write_faults slot end))
          (program_faults (channel_of old dies) (channel_of new after) old.shape slot word (bytes_sum word dies.sum) end ends);
      stands = λ view start contents stands is_word.
          let over : ProgramOver start old slot end = program_over old dies after slot word end items view start contents fit next programs stands in
          stands_after old dies new after tag (kind_of_write row slot end) word items view start contents fit taken (write_leaves row slot end) stands (record {
            lawful =
                lawful_write (ladder_of (coding_of start.base) start contents old.past) start.base old.past tag row slot end
                (subst (λ (shape : Shape). row < shape.rows) stands.shape_is lt) over.in_range
                (subst (λ (list : List BlockBase). IsTrue (Blocks.blocks_have_room list)) stands.blocks_are was.0) over.lawful over.low;
            word_is = write_word start contents old.past tag row slot word end is_word;
          });
    }

pub write_fitting : (old : TablesState) (dies : DiesState) (roomy new : TablesState) (after : DiesState) (tag : Tag) (row : ℕ) (slot : Slot) (word : List ℕ) (end : ProgramEnd) (items : ℕ)
    → AreFitting old dies items → roomy ≡ record old { room = roomy.room }
    → (Blocks.next_slot_of roomy.blocks ≡ Some slot) × IsTrue (has_slot roomy.shape slot)
    → new ≡ tables_after roomy tag (kind_of_write row slot end) → Programs dies after slot word end → AreFitting new after items
write_fitting old dies roomy new after tag row slot word end items fit same is e programs =
    let was : (Blocks.next_slot_of old.blocks ≡ Some slot) × IsTrue (has_slot old.shape slot) =
    subst (λ (t : TablesState). (Blocks.next_slot_of t.blocks ≡ Some slot) × IsTrue (has_slot t.shape slot)) same is in
    fitting old dies new after tag (kind_of_write row slot end) word items fit
    (write_taken old dies new after tag row slot word end items fit (record { is_next = was.0; in_range = was.1 }) (both_after old roomy new tag (kind_of_write row slot end) same e) programs)
