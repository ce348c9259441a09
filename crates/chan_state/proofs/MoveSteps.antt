-- Moves of a look's page: what each answer adds and keeps, and which die counted a fault.
use Rattle.std.proofs.Common.{◌≡◌, ℕ, ◌<◌, Bool, true, false, List, length, sym, ◌∙◌, ap, subst, Option, Some, None, refl}
use Rattle.std.specs.Prelude.{IfSome, IsSome, IsSomeAnd, IsTrue}
use Rattle.chan_dies.specs.DiesState.{DiesState}
use Rattle.chan_dies.specs.OneDie.{FaultsDie, RefusesBlock}
use Rattle.chan_dies.specs.Programming.{EndsProgram, Programs, sum_after}
use Rattle.chan_dies.specs.declared.ends.ProgramEnd.{ProgramEnd}
use Rattle.chan_fits.specs.FitLaws.{DiesChange, IsNextSlot, TableAllows}
use Rattle.chan_fits.proofs.EndedPrograms.{fault_of_program}
use Rattle.chan_fits.proofs.PlacesInRange.{slot_has_range}
use Rattle.chan_tables.specs.Copying.{IsMoveRoom, MayCopy, NamesInRange, copy_slot_of}
use Rattle.chan_tables.specs.TablesState.{TablesState, tables_after}
use Rattle.chan_tables.specs.declared.rooms.MoveRoom.{MoveRoom}
use Rattle.chan_tables.specs.declared.rooms.MoveRoom.TheVariants as room
use Rattle.onfi_cmd.specs.DieState.{DieState}
use Rattle.ssd_geo.specs.Bits.{bytes_sum}
use Rattle.ssd_geo.specs.Coding.{coding_of}
use Rattle.ssd_geo.specs.Ladder.{has_answer, is_recovered, recovered, word_recovered}
use Rattle.ssd_histories.specs.Blocks as Blocks
use Rattle.ssd_histories.specs.History.{look_by, looks_after, open_look}
use Rattle.ssd_histories.specs.OpenLooks.{look_at}
use Rattle.ssd_histories.specs.PageMap.{names_within}
use Rattle.ssd_histories.specs.PastBlocks.{blocks_of, slots_in}
use Rattle.ssd_histories.specs.PastPages.{ladder_of, senses_of, word_programmed}
use Rattle.ssd_histories.specs.PastRows.{rows_of}
use Rattle.ssd_histories.specs.Ranges.{has_row}
use Rattle.ssd_histories.specs.Start.{Start}
use Rattle.ssd_geo.specs.Superblock.{slots_of}
use Rattle.ssd_geo.specs.declared.base.BlockBase.{BlockBase}
use Rattle.ssd_geo.specs.declared.entry.Entry.{Entry}
use Rattle.ssd_geo.specs.declared.kind.Kind.{Kind}
use Rattle.ssd_geo.specs.declared.look.Look.{Look}
use Rattle.ssd_geo.specs.declared.policy_view.PolicyView.{PolicyView}
use Rattle.ssd_geo.specs.declared.row.Row.{Row}
use Rattle.ssd_geo.specs.declared.shape.Shape.{Shape}
use Rattle.ssd_geo.specs.declared.slot.Slot.{Slot}
use Rattle.ssd_geo.specs.declared.tag.Tag.{Tag}
use Rattle.chan_state.specs.ChannelState.{ChannelState, Count, StandsFor}
use Rattle.chan_state.specs.Copying.{IsMoveAnswer, Moves, MovesFor, fault_of_move}
use Rattle.chan_state.specs.Writing.{uses_die}
use Rattle.chan_state.specs.Kept.{AreFitting, answer_of_copy, channel_of, kind_of_copy}
use Rattle.chan_state.specs.Steps.{AddsEntry}
use Rattle.chan_state.specs.declared.answers.MoveAnswer.{MoveAnswer}
use Rattle.chan_state.specs.declared.answers.MoveAnswer.TheVariants as move
use Rattle.chan_state.proofs.LawfulMoves.{copy_is_next, lawful_changed, lawful_copy, lawful_stay}
use Rattle.chan_state.proofs.LookSteps.{exactly}
use Rattle.chan_state.proofs.OpenLooks.{IsLookOf, by_call, found_in_past, look_of_call, some_same}
use Rattle.chan_state.proofs.Standing.{LeavesView, stands_after}
use Rattle.chan_state.proofs.Taken.{Taken, adds, fitting}
use Rattle.chan_state.proofs.Told.{told_adds, told_fitting, told_stands}
use Rattle.chan_state.proofs.WriteSteps.{ProgramOver, no_counts, program_faults, program_over, uses_stopped}

pub record MoveClauses (old new : ChannelState) (tag : Tag) (at : ℕ) (word : List ℕ) (answer : MoveAnswer) : Type 0 where
  pub answer_is : IfSome (look_by tag (look_at old.looks at)) (λ look. IsMoveAnswer old look answer)
  pub entry : Moves old new tag at answer
  pub looks : new.looks ≡ old.looks
  pub faults : Count (fault_of_move answer) old new
  pub stands : MovesFor old new at word

-- ---- the look of the move

-- what the tables tell of a look of the call
pub record AsksMove (old : TablesState) (tag : Tag) (at : ℕ) (answer : MoveRoom) : Type 0 where
  pub some : IsSome (look_by tag (look_at old.looks at))
  pub is : IfSome (look_at old.looks at) (λ pin. IsMoveRoom (slots_of old.shape.pages old.shape.dies) old.blocks old.rows pin.1 answer)
  pub low : IfSome (look_at old.looks at) (λ pin. pin.1.row < old.shape.rows)
  pub within : NamesInRange old.shape.superblocks (slots_of old.shape.pages old.shape.dies) answer

-- the same over a start for which the channel stands
pub record AsksOver (start : Start) (old : TablesState) (tag : Tag) (at : ℕ) (answer : MoveRoom) : Type 0 where
  pub look : Look
  pub found : open_look old.past tag at ≡ Some look
  pub is : IsMoveRoom (slots_in start.base) (blocks_of start.base old.past) (rows_of start.base old.past) look answer
  pub low : look.row < start.base.shape.rows

pub asks_over : (old : TablesState) (dies : DiesState) (tag : Tag) (at : ℕ) (answer : MoveRoom) (view : Option PolicyView) (start : Start) (contents : List (Tag × List ℕ)) → AsksMove old tag at answer
    → StandsFor (channel_of old dies) view start contents → AsksOver start old tag at answer
asks_over old dies tag at answer view start contents asks stands =
    let P : Look → Type 0 = λ look. IsMoveRoom (slots_of old.shape.pages old.shape.dies) old.blocks old.rows look answer in
    let asked : IsLookOf old.looks tag at P = look_of_call old.looks tag at P asks.some asks.is in
    let rows : IsLookOf old.looks tag at (λ look. look.row < old.shape.rows) = look_of_call old.looks tag at (λ look. look.row < old.shape.rows) asks.some asks.low in
    let same : rows.look ≡ asked.look = some_same rows.look asked.look (sym rows.found ∙ asked.found) in
    record {
      look = asked.look;
      found = found_in_past old dies view start contents tag at asked.look stands asked.found;
      is =
          subst (λ (shape : Shape). IsMoveRoom (slots_of shape.pages shape.dies) (blocks_of start.base old.past) (rows_of start.base old.past) asked.look answer) stands.shape_is
          (subst (λ (list : List BlockBase). IsMoveRoom (slots_of old.shape.pages old.shape.dies) list (rows_of start.base old.past) asked.look answer) stands.blocks_are
          (subst (λ (list : List Row). IsMoveRoom (slots_of old.shape.pages old.shape.dies) old.blocks list asked.look answer) stands.rows_are asked.holds));
      low = subst (λ (shape : Shape). asked.look.row < shape.rows) stands.shape_is (subst (λ (look : Look). look.row < old.shape.rows) same rows.holds);
    }

-- what holds of the look that the tables found holds of the call's
of_call : (old : TablesState) (tag : Tag) (at : ℕ) (P Q : Look → Type 0) → ((look : Look) → P look → Q look) → IfSome (look_at old.looks at) (λ pin. P pin.1)
    → IfSome (look_by tag (look_at old.looks at)) Q
of_call old tag at P Q step h = by_call Q tag (look_at old.looks at) (each (look_at old.looks at) h)
  where
    each : (o : Option (Tag × Look)) → IfSome o (λ pin. P pin.1) → IfSome o (λ pin. Q pin.1)
    each None h = tt
    each (Some pin) h = step pin.1 h

-- ---- without a copy

row_in_range : (shape : Shape) (row : Row) → IsTrue (names_within shape.superblocks (slots_of shape.pages shape.dies) row) → IsTrue (has_row shape row)
row_in_range shape (Row.Page slot serial) h = h
row_in_range shape Row.Empty h = refl
row_in_range shape Row.Lost h = refl

pub changed_clauses : (old : TablesState) (dies : DiesState) (new : TablesState) (tag : Tag) (at : ℕ) (word : List ℕ) (row : Row) (items : ℕ) → AreFitting old dies items
    → AsksMove old tag at (room.Changed row) → new ≡ tables_after old tag (Kind.Changed at row)
    → MoveClauses (channel_of old dies) (channel_of new dies) tag at word (move.Changed row)
changed_clauses old dies new tag at word row items fit asks e =
    let after : new ≡ tables_after (record old { room = new.room }) tag (Kind.Changed at row) = exactly old new tag (Kind.Changed at row) e in
    record {
      answer_is = of_call old tag at (λ look. IsMoveRoom (slots_of old.shape.pages old.shape.dies) old.blocks old.rows look (room.Changed row)) (λ look. IsMoveAnswer (channel_of old dies) look (move.Changed row)) (λ look h. h) asks.is;
      entry = told_adds old dies new tag (Kind.Changed at row) tt after;
      looks = ap {B = List (Tag × Look)} (λ (t : TablesState). t.looks) e;
      faults = no_counts old dies new;
      stands = λ view start contents stands rung came.
          let over : AsksOver start old tag at (room.Changed row) = asks_over old dies tag at (room.Changed row) view start contents asks stands in
          told_stands old dies new tag (Kind.Changed at row) items view start contents fit tt after stands
          (lawful_changed (ladder_of (coding_of start.base) start contents old.past) start.base old.past tag at over.look row over.found (ap {B = Bool} has_answer came) over.low
          (subst (λ (shape : Shape). IsTrue (has_row shape row)) stands.shape_is (row_in_range old.shape row asks.within)) over.is);
    }

pub worn_stay_clauses : (old : TablesState) (dies : DiesState) (new : TablesState) (tag : Tag) (at : ℕ) (word : List ℕ) (items : ℕ) → AreFitting old dies items
    → AsksMove old tag at room.ReadOnly → new ≡ tables_after old tag (Kind.Stay at true)
    → MoveClauses (channel_of old dies) (channel_of new dies) tag at word move.ReadOnly
worn_stay_clauses old dies new tag at word items fit asks e =
    let after : new ≡ tables_after (record old { room = new.room }) tag (Kind.Stay at true) = exactly old new tag (Kind.Stay at true) e in
    record {
      answer_is = of_call old tag at (λ look. IsMoveRoom (slots_of old.shape.pages old.shape.dies) old.blocks old.rows look room.ReadOnly) (λ look. IsMoveAnswer (channel_of old dies) look move.ReadOnly) (λ look h. h) asks.is;
      entry = told_adds old dies new tag (Kind.Stay at true) tt after;
      looks = ap {B = List (Tag × Look)} (λ (t : TablesState). t.looks) e;
      faults = no_counts old dies new;
      stands = λ view start contents stands rung came.
          let over : AsksOver start old tag at room.ReadOnly = asks_over old dies tag at room.ReadOnly view start contents asks stands in
          told_stands old dies new tag (Kind.Stay at true) items view start contents fit tt after stands
          (lawful_stay (ladder_of (coding_of start.base) start contents old.past) start.base old.past tag at over.look true over.found (ap {B = Bool} is_recovered came) over.low
          over.is.0 over.is.1 over.is.2);
    }

pub stay_clauses : (old : TablesState) (dies : DiesState) (new : TablesState) (tag : Tag) (at : ℕ) (word : List ℕ) (items : ℕ) → AreFitting old dies items
    → AsksMove old tag at room.NoRoom → new ≡ tables_after old tag (Kind.Stay at false)
    → MoveClauses (channel_of old dies) (channel_of new dies) tag at word move.NoRoom
stay_clauses old dies new tag at word items fit asks e =
    let after : new ≡ tables_after (record old { room = new.room }) tag (Kind.Stay at false) = exactly old new tag (Kind.Stay at false) e in
    record {
      answer_is = of_call old tag at (λ look. IsMoveRoom (slots_of old.shape.pages old.shape.dies) old.blocks old.rows look room.NoRoom) (λ look. IsMoveAnswer (channel_of old dies) look move.NoRoom) (λ look h. h) asks.is;
      entry = told_adds old dies new tag (Kind.Stay at false) tt after;
      looks = ap {B = List (Tag × Look)} (λ (t : TablesState). t.looks) e;
      faults = no_counts old dies new;
      stands = λ view start contents stands rung came.
          let over : AsksOver start old tag at room.NoRoom = asks_over old dies tag at room.NoRoom view start contents asks stands in
          told_stands old dies new tag (Kind.Stay at false) items view start contents fit tt after stands
          (lawful_stay (ladder_of (coding_of start.base) start contents old.past) start.base old.past tag at over.look false over.found (ap {B = Bool} is_recovered came) over.low
          over.is.0 over.is.1 over.is.2);
    }

-- ---- copies

copy_change : (shape : Shape) (at : ℕ) (slot : Slot) (word : List ℕ) (end : ProgramEnd) (old new : List DieState) (sum after : List ℕ) → EndsProgram shape slot word (bytes_sum word sum) old new end
    → after ≡ sum_after shape slot (bytes_sum word sum) end → DiesChange shape (kind_of_copy at slot end) word old new sum after
copy_change shape at slot word ProgramEnd.Programmed old new sum after ends e = record { dies = ends; sum_is = e }
copy_change shape at slot word (ProgramEnd.Failed die) old new sum after ends e = record { dies = ends; sum_is = e }
copy_change shape at slot word (ProgramEnd.Fault die) old new sum after ends e = record { dies = ends; sum_is = e }

copy_allows : (shape : Shape) (blocks : List BlockBase) (at : ℕ) (slot : Slot) (end : ProgramEnd) → IsNextSlot shape blocks slot → TableAllows shape blocks (kind_of_copy at slot end)
copy_allows shape blocks at slot ProgramEnd.Programmed next = next
copy_allows shape blocks at slot (ProgramEnd.Failed die) next = next
copy_allows shape blocks at slot (ProgramEnd.Fault die) next = next

copy_leaves : (at : ℕ) (slot : Slot) (end : ProgramEnd) → LeavesView (kind_of_copy at slot end)
copy_leaves at slot ProgramEnd.Programmed = tt
copy_leaves at slot (ProgramEnd.Failed die) = tt
copy_leaves at slot (ProgramEnd.Fault die) = tt

copy_looks : (at : ℕ) (slot : Slot) (end : ProgramEnd) (tag : Tag) (n : ℕ) (list : List (Tag × Look)) → looks_after n tag (kind_of_copy at slot end) list ≡ list
copy_looks at slot ProgramEnd.Programmed tag n list = refl
copy_looks at slot (ProgramEnd.Failed die) tag n list = refl
copy_looks at slot (ProgramEnd.Fault die) tag n list = refl

copy_word : (start : Start) (contents : List (Tag × List ℕ)) (past : List Entry) (tag : Tag) (at : ℕ) (slot : Slot) (word : List ℕ) (rung : ℕ) (end : ProgramEnd)
    → ladder_of (coding_of start.base) start contents past at ≡ recovered rung word
    → word ≡ word_programmed (coding_of start.base) start contents (senses_of (coding_of start.base) start contents past) past tag (kind_of_copy at slot end)
copy_word start contents past tag at slot word rung ProgramEnd.Programmed came = sym (ap {B = List ℕ} word_recovered came)
copy_word start contents past tag at slot word rung (ProgramEnd.Failed die) came = sym (ap {B = List ℕ} word_recovered came)
copy_word start contents past tag at slot word rung (ProgramEnd.Fault die) came = sym (ap {B = List ℕ} word_recovered came)

copy_taken : (old : TablesState) (dies : DiesState) (new : TablesState) (after : DiesState) (tag : Tag) (at : ℕ) (slot : Slot) (word : List ℕ) (end : ProgramEnd) (items : ℕ) → AreFitting old dies items
    → IsNextSlot old.shape old.blocks slot → new ≡ tables_after old tag (kind_of_copy at slot end) → Programs dies after slot word end
    → Taken old dies new after tag (kind_of_copy at slot end) word
copy_taken old dies new after tag at slot word end items fit next e programs = record {
  tables_are = exactly old new tag (kind_of_copy at slot end) e;
  shape_stays = programs.shape_stays;
  change =
      copy_change old.shape at slot word end dies.dies after.dies dies.sum after.sum
      (subst (λ (shape : Shape). EndsProgram shape slot word (bytes_sum word dies.sum) dies.dies after.dies end) fit.same_shape programs.dies)
      (subst (λ (shape : Shape). after.sum ≡ sum_after shape slot (bytes_sum word dies.sum) end) fit.same_shape programs.sum_is);
  allows = copy_allows old.shape old.blocks at slot end next;
}

some_slot : (P : Slot → Type 0) (o : Option Slot) (slot : Slot) → o ≡ Some slot → P slot → IsSomeAnd o P
some_slot P o slot e h = subst (λ (x : Option Slot). IsSomeAnd x P) (sym e) h

copy_answer : (old : ChannelState) (look : Look) (slot : Slot) (word total : List ℕ) (new : List DieState) (end : ProgramEnd) → MayCopy old.blocks old.rows look slot
    → EndsProgram old.shape slot word total old.dies new end → IsMoveAnswer old look (answer_of_copy slot end)
copy_answer old look slot word total new ProgramEnd.Programmed may ends = (may.keeps_page, may.is_copy_slot)
copy_answer old look slot word total new (ProgramEnd.Failed die) may ends =
    (may.keeps_page, some_slot (λ s. s.sb ≡ slot.sb) (copy_slot_of old.blocks look) slot may.is_copy_slot refl)
copy_answer old look slot word total new (ProgramEnd.Fault die) may ends =
    (may.keeps_page, some_slot (λ s. IsTrue (uses_die old.shape s die)) (copy_slot_of old.blocks look) slot may.is_copy_slot (uses_stopped old.shape slot word die FaultsDie old.dies new ends))

copy_moves : (old new : ChannelState) (tag : Tag) (at : ℕ) (slot : Slot) (word total : List ℕ) (end : ProgramEnd) → Blocks.next_slot_of old.blocks ≡ Some slot
    → EndsProgram old.shape slot word total old.dies new.dies end → AddsEntry old new tag (kind_of_copy at slot end) → Moves old new tag at (answer_of_copy slot end)
copy_moves old new tag at slot word total ProgramEnd.Programmed next ends entry = entry
copy_moves old new tag at slot word total (ProgramEnd.Failed die) next ends entry = record {
  slot = slot;
  die = die;
  sb_is = refl;
  fails = record { is_next = next; is_used = uses_stopped old.shape slot word die (RefusesBlock slot.sb) old.dies new.dies ends; entry = entry };
}
copy_moves old new tag at slot word total (ProgramEnd.Fault die) next ends entry = record {
  slot = slot;
  fails = record { is_next = next; is_used = uses_stopped old.shape slot word die FaultsDie old.dies new.dies ends; entry = entry };
}

copy_fault : (slot : Slot) (end : ProgramEnd) → fault_of_move (answer_of_copy slot end) ≡ fault_of_program end
copy_fault slot ProgramEnd.Programmed = refl
copy_fault slot (ProgramEnd.Failed die) = refl
copy_fault slot (ProgramEnd.Fault die) = refl

-- the slot for a copy is the next one
pub next_of_copy : (old : TablesState) (tag : Tag) (at : ℕ) (slot : Slot) → AsksMove old tag at (room.Slot slot) → IsNextSlot old.shape old.blocks slot
next_of_copy old tag at slot asks =
    let P : Look → Type 0 = λ look. IsMoveRoom (slots_of old.shape.pages old.shape.dies) old.blocks old.rows look (room.Slot slot) in
    let asked : IsLookOf old.looks tag at P = look_of_call old.looks tag at P asks.some asks.is in
    record { is_next = copy_is_next old.blocks asked.look slot asked.holds.is_copy_slot; in_range = slot_has_range old.shape slot asks.within.0 asks.within.1 }

pub copy_clauses : (old : TablesState) (dies : DiesState) (new : TablesState) (after : DiesState) (tag : Tag) (at : ℕ) (slot : Slot) (word : List ℕ) (end : ProgramEnd) (answer : MoveAnswer) (items : ℕ)
    → AreFitting old dies items → AsksMove old tag at (room.Slot slot) → new ≡ tables_after old tag (kind_of_copy at slot end) → Programs dies after slot word end
    → answer ≡ answer_of_copy slot end → MoveClauses (channel_of old dies) (channel_of new after) tag at word answer
copy_clauses old dies new after tag at slot word end answer items fit asks e programs answer_is =
    let next : IsNextSlot old.shape old.blocks slot = next_of_copy old tag at slot asks in
    let taken : Taken old dies new after tag (kind_of_copy at slot end) word = copy_taken old dies new after tag at slot word end items fit next e programs in
    let ends : EndsProgram old.shape slot word (bytes_sum word dies.sum) dies.dies after.dies end =
    subst (λ (shape : Shape). EndsProgram shape slot word (bytes_sum word dies.sum) dies.dies after.dies end) fit.same_shape programs.dies in
    record {
      answer_is =
          subst (λ (a : MoveAnswer). IfSome (look_by tag (look_at old.looks at)) (λ look. IsMoveAnswer (channel_of old dies) look a)) (sym answer_is)
          (of_call old tag at (λ look. MayCopy old.blocks old.rows look slot) (λ look. IsMoveAnswer (channel_of old dies) look (answer_of_copy slot end))
          (λ look may. copy_answer (channel_of old dies) look slot word (bytes_sum word dies.sum) after.dies end may ends) asks.is);
      entry =
          subst (Moves (channel_of old dies) (channel_of new after) tag at) (sym answer_is)
          (copy_moves (channel_of old dies) (channel_of new after) tag at slot word (bytes_sum word dies.sum) end next.is_next ends
          (adds old dies new after tag (kind_of_copy at slot end) word taken));
      looks = ap {B = List (Tag × Look)} (λ (t : TablesState). t.looks) e ∙ copy_looks at slot end tag (length old.past) old.looks;
      faults =
          subst (λ (named : Option ℕ). Count named (channel_of old dies) (channel_of new after)) (sym (ap {B = Option ℕ} fault_of_move answer_is ∙ copy_fault slot end))
          (program_faults (channel_of old dies) (channel_of new after) old.shape slot word (bytes_sum word dies.sum) end ends);
      stands = λ view start contents stands rung came.
          let over : ProgramOver start old slot end = program_over old dies after slot word end items view start contents fit next programs stands in
          let asked : AsksOver start old tag at (room.Slot slot) = asks_over old dies tag at (room.Slot slot) view start contents asks stands in
          stands_after old dies new after tag (kind_of_copy at slot end) word items view start contents fit taken (copy_leaves at slot end) stands (record {
            lawful =
                lawful_copy (ladder_of (coding_of start.base) start contents old.past) start.base old.past tag at asked.look slot end asked.found
                (ap {B = Bool} is_recovered came) asked.low over.in_range asked.is over.lawful over.low;
            word_is = copy_word start contents old.past tag at slot word rung end came;
          });
    }

pub told_move_fitting : (old : TablesState) (dies : DiesState) (new : TablesState) (tag : Tag) (at : ℕ) (row : Row) (items : ℕ) → AreFitting old dies items
    → new ≡ tables_after old tag (Kind.Changed at row) → AreFitting new dies items
told_move_fitting old dies new tag at row items fit e = told_fitting old dies new tag (Kind.Changed at row) items fit tt (exactly old new tag (Kind.Changed at row) e)

pub stay_fitting : (old : TablesState) (dies : DiesState) (new : TablesState) (tag : Tag) (at : ℕ) (worn : Bool) (items : ℕ) → AreFitting old dies items
    → new ≡ tables_after old tag (Kind.Stay at worn) → AreFitting new dies items
stay_fitting old dies new tag at worn items fit e = told_fitting old dies new tag (Kind.Stay at worn) items fit tt (exactly old new tag (Kind.Stay at worn) e)

pub copy_fitting : (old : TablesState) (dies : DiesState) (new : TablesState) (after : DiesState) (tag : Tag) (at : ℕ) (slot : Slot) (word : List ℕ) (end : ProgramEnd) (items : ℕ) → AreFitting old dies items
    → AsksMove old tag at (room.Slot slot) → new ≡ tables_after old tag (kind_of_copy at slot end) → Programs dies after slot word end → AreFitting new after items
copy_fitting old dies new after tag at slot word end items fit asks e programs =
    fitting old dies new after tag (kind_of_copy at slot end) word items fit (copy_taken old dies new after tag at slot word end items fit (next_of_copy old tag at slot asks) e programs)

-- the slot that a look's copy may go to is the next one
pub next_of_may : (blocks : List BlockBase) (rows : List Row) (slot : Slot) (o : Option (Tag × Look)) → IsSome o → IfSome o (λ pin. MayCopy blocks rows pin.1 slot) → Blocks.next_slot_of blocks ≡ Some slot
next_of_may blocks rows slot None some may = cc
next_of_may blocks rows slot (Some pin) some may = copy_is_next blocks pin.1 slot may.is_copy_slot
