-- Looks, their ends, trims and notes: what each answers, adds and keeps.
use Rattle.std.proofs.Common.{◌≡◌, ℕ, ◌+◌, ◌<◌, ◌≤◌, Bool, true, false, List, length, sym, ◌∙◌, ap, subst, Option, Some, None, Result, Ok, Err, refl}
use Rattle.std.specs.Prelude.{IfOk, IfSome, IsSome, IsTrue, OnErr, OnOk}
use Rattle.chan_dies.specs.DiesState.{DiesState}
use Rattle.chan_tables.specs.Collecting.{LooksLiveIn}
use Rattle.chan_tables.specs.Condemning.{IsCondemnAnswer, kind_of_condemn}
use Rattle.chan_tables.specs.Noting.{kind_of_note, note_of}
use Rattle.chan_tables.specs.TablesState.{IsStopped, LooksIn, TablesState, answer_of_look, is_closed_row, kind_of_look, room_of_look, room_of_step, tables_after}
use Rattle.chan_tables.specs.declared.answers.CondemnAnswer.{CondemnAnswer}
use Rattle.chan_tables.specs.declared.answers.CondemnAnswer.TheVariants as condemn
use Rattle.chan_tables.specs.declared.answers.LiveAnswer.{LiveAnswer}
use Rattle.chan_tables.specs.declared.answers.LiveAnswer.TheVariants as live
use Rattle.chan_tables.specs.declared.answers.LookAnswer.{LookAnswer}
use Rattle.chan_tables.specs.declared.answers.LookAnswer.TheVariants as row_looks
use Rattle.chan_tables.specs.declared.answers.Note.{Note}
use Rattle.ssd_geo.specs.Coding.{coding_of}
use Rattle.ssd_geo.specs.Ladder.{LadderState, has_answer, is_uncorrectable}
use Rattle.ssd_histories.specs.History.{look_by, looks_after, open_look, open_looks}
use Rattle.ssd_histories.specs.Lawful.{IsLawfulChanged, IsLawfulCondemn, IsLawfulEntry, IsLawfulKind}
use Rattle.ssd_histories.specs.OpenLooks.{look_at, without_look}
use Rattle.ssd_histories.specs.PageMap.{row_at}
use Rattle.ssd_histories.specs.PastBlocks.{blocks_of, slots_in}
use Rattle.ssd_histories.specs.PastPages.{ladder_of}
use Rattle.ssd_histories.specs.PastRows.{row_of, rows_of}
use Rattle.ssd_histories.specs.Ranges.{has_row, has_superblock, is_in_range}
use Rattle.ssd_histories.specs.SerialCalls.{entry_of}
use Rattle.ssd_geo.specs.Superblock.{slots_of}
use Rattle.ssd_geo.specs.declared.base.ChannelBase.{ChannelBase}
use Rattle.ssd_geo.specs.declared.entry.Entry.{Entry}
use Rattle.ssd_geo.specs.declared.kind.Kind.{Kind}
use Rattle.ssd_geo.specs.declared.look.Look.{Look}
use Rattle.ssd_geo.specs.declared.row.Row.{Row}
use Rattle.ssd_geo.specs.declared.shape.Shape.{Shape}
use Rattle.ssd_geo.specs.declared.stop.StepStop.{StepStop}
use Rattle.ssd_geo.specs.declared.tag.Tag.{Tag}
use Rattle.chan_state.specs.ChannelState.{ChannelState, DiesStay, KeepsStanding, StandsFor}
use Rattle.chan_state.specs.Collecting.{LooksLive}
use Rattle.chan_state.specs.Condemning.{CondemnsFor}
use Rattle.chan_state.specs.Kept.{AreFitting, channel_of}
use Rattle.chan_state.specs.Noting.{Notes}
use Rattle.chan_state.specs.Steps.{AddsEntry, HasLookRoom, HasStepRoom, IsRefused, LeavesFor, LooksAt}
use Rattle.chan_state.proofs.LawfulMoves.{of_look, unchanged_row}
use Rattle.chan_state.proofs.LawfulSteps.{lawful_leave, lawful_look, lawful_trim, row_is}
use Rattle.chan_state.proofs.OpenLooks.{IsLookOf, by_call, found_in_past, look_of_call, open_in_past, some_same}
use Rattle.chan_state.proofs.Standing.{same_channel}
use Rattle.chan_state.proofs.Taken.{roomier}
use Rattle.chan_state.proofs.Told.{IsTold, told_adds, told_fitting, told_stands}
use Rattle.std.proofs.lemmas.Bool.{lt-ltb}
use Rattle.chan_tables.proofs.EarlierLooks.{found_new}

-- the dies stay
pub dies_stay : (old : TablesState) (dies : DiesState) (new : TablesState) → DiesStay (channel_of old dies) (channel_of new dies)
dies_stay old dies new = record { dies_stay = refl; sum_stays = refl }

-- where the tables only took memory, the channel stands for what it did
pub same_stands : (old : TablesState) (dies : DiesState) (new : TablesState) → new ≡ record old { room = new.room } → KeepsStanding (channel_of old dies) (channel_of new dies)
same_stands old dies new e view start contents stands = subst (λ (c : ChannelState). StandsFor c view start contents) (sym (same_channel old dies new e)) stands

-- ---- looks

looks_by : (old : TablesState) (dies : DiesState) (new : TablesState) (tag : Tag) (row : ℕ) (found : Row) → row_at old.rows row ≡ found → look_at old.looks (length old.past) ≡ None → IsTrue (has_row old.shape found)
    → new ≡ tables_after (record old { room = new.room }) tag (Kind.Look row found (is_closed_row old.shape old.blocks found))
    → LooksAt (channel_of old dies) (channel_of new dies) tag row (answer_of_look (length old.past) row (is_closed_row old.shape old.blocks found) found)
looks_by old dies new tag row Row.Empty is none within e = (is, told_adds old dies new tag (Kind.Look row Row.Empty false) tt e)
looks_by old dies new tag row Row.Lost is none within e = (is, told_adds old dies new tag (Kind.Look row Row.Lost false) tt e)
looks_by old dies new tag row (Row.Page slot serial) is none within e =
    let closed : Bool = is_closed_row old.shape old.blocks (Row.Page slot serial) in
    let look : Look = record { at = length old.past; row = row; slot = slot; serial = serial; closed = closed } in (
      is,
      refl,
      refl,
      told_adds old dies new tag (Kind.Look row (Row.Page slot serial) closed) tt e,
      ap {B = Option Look} (λ (t : TablesState). look_by tag (look_at t.looks (length old.past))) e ∙ found_new old.looks tag look none,
      refl,
      within,
    )

looks_at : (old : TablesState) (dies : DiesState) (new : TablesState) (tag : Tag) (row : ℕ) (answer : LookAnswer) → LooksIn old new tag row answer
    → look_at old.looks (length old.past) ≡ None → IsTrue (has_row old.shape (row_at old.rows row)) → LooksAt (channel_of old dies) (channel_of new dies) tag row answer
looks_at old dies new tag row answer looks none within =
    subst (LooksAt (channel_of old dies) (channel_of new dies) tag row) (sym looks.answer_is)
    (looks_by old dies new tag row (row_at old.rows row) refl none within looks.new_is)

look_stands : (old : TablesState) (dies : DiesState) (new : TablesState) (tag : Tag) (row items : ℕ) → AreFitting old dies items → row < old.shape.rows → IsTrue (has_row old.shape (row_at old.rows row))
    → new ≡ tables_after (record old { room = new.room }) tag (kind_of_look old row) → KeepsStanding (channel_of old dies) (channel_of new dies)
look_stands old dies new tag row items fit lt within e view start contents stands =
    let state : ℕ → LadderState = ladder_of (coding_of start.base) start contents old.past in
    let found : Row = row_at old.rows row in
    let low : row < start.base.shape.rows = subst (λ (shape : Shape). row < shape.rows) stands.shape_is lt in
    let is : found ≡ row_of start.base old.past row =
    ap {B = Row} (λ (rows : List Row). row_at rows row) stands.rows_are ∙ row_is start.base old.past row low in
    let range : has_row start.base.shape found ≡ true = subst (λ (shape : Shape). has_row shape found ≡ true) stands.shape_is within in
    let closed : is_closed_row start.base.shape (blocks_of start.base old.past) found ≡ is_closed_row old.shape old.blocks found =
    λ i. is_closed_row (sym stands.shape_is i) (sym stands.blocks_are i) found in
    told_stands old dies new tag (kind_of_look old row) items view start contents fit tt e stands
    (subst (λ (b : Bool). IsLawfulEntry state start.base old.past (entry_of tag (Kind.Look row found b))) closed
    (lawful_look state start.base old.past tag row found low is range))

pub record LookClauses (old new : ChannelState) (tag : Tag) (row : ℕ) (result : Result LookAnswer StepStop) : Type 0 where
  pub room : IsRefused (HasLookRoom old) old result
  pub ok : IfOk result (λ answer. LooksAt old new tag row answer)
  pub err : OnErr result (new ≡ old)
  pub dies : DiesStay old new
  pub stands : KeepsStanding old new

pub look_clauses : (old : TablesState) (dies : DiesState) (new : TablesState) (tag : Tag) (row items : ℕ) (result : Result LookAnswer StepStop) → AreFitting old dies items → row < old.shape.rows
    → IsStopped (length old.past + room_of_look old.looks ≤ old.limit) (length old.past) result
    → IfOk result (λ answer. LooksIn old new tag row answer) → OnOk result (IsTrue (has_row old.shape (row_at old.rows row)))
    → OnOk result (look_at old.looks (length old.past) ≡ None) → OnErr result (new ≡ record old { room = new.room })
    → LookClauses (channel_of old dies) (channel_of new dies) tag row result
look_clauses old dies new tag row items (Ok answer) fit lt room looks within first err = record {
  room = room;
  ok = looks_at old dies new tag row answer looks first within;
  err = tt;
  dies = dies_stay old dies new;
  stands = look_stands old dies new tag row items fit lt within looks.new_is;
}
look_clauses old dies new tag row items (Err stop) fit lt room looks within first err = record {
  room = room;
  ok = tt;
  err = same_channel old dies new err;
  dies = dies_stay old dies new;
  stands = same_stands old dies new err;
}

pub look_fitting : (old : TablesState) (dies : DiesState) (new : TablesState) (tag : Tag) (row items : ℕ) (result : Result LookAnswer StepStop) → AreFitting old dies items
    → IfOk result (λ answer. LooksIn old new tag row answer) → OnErr result (new ≡ record old { room = new.room }) → AreFitting new dies items
look_fitting old dies new tag row items (Ok answer) fit looks err = told_fitting old dies new tag (kind_of_look old row) items fit tt looks.new_is
look_fitting old dies new tag row items (Err stop) fit looks err = roomier old dies new items fit err

-- ---- looks at the victim's first live page

pub record LiveClauses (old new : ChannelState) (tag : Tag) (sb : ℕ) (result : Result LiveAnswer StepStop) : Type 0 where
  pub room : IsRefused (HasLookRoom old) old result
  pub ok : IfOk result (λ answer. LooksLive old new tag sb answer)
  pub err : OnErr result (new ≡ old)
  pub dies : DiesStay old new
  pub stands : KeepsStanding old new

is_same : (old new : TablesState) → new ≡ old → new ≡ record old { room = new.room }
is_same old new e = subst (λ (t : TablesState). t ≡ record old { room = t.room }) (sym e) refl

pub live_clauses : (old : TablesState) (dies : DiesState) (new : TablesState) (tag : Tag) (sb items : ℕ) (result : Result LiveAnswer StepStop) → AreFitting old dies items
    → IsStopped (length old.past + room_of_look old.looks ≤ old.limit) (length old.past) result
    → IfOk result (λ answer. LooksLiveIn old new tag sb answer)
    → look_at old.looks (length old.past) ≡ None → OnErr result (new ≡ record old { room = new.room })
    → LiveClauses (channel_of old dies) (channel_of new dies) tag sb result
live_clauses old dies new tag sb items (Ok live.NotVictim) fit room looks first err = record {
  room = room;
  ok = (looks.0, same_channel old dies new (is_same old new looks.1));
  err = tt;
  dies = dies_stay old dies new;
  stands = same_stands old dies new (is_same old new looks.1);
}
live_clauses old dies new tag sb items (Ok live.NoneLive) fit room looks first err = record {
  room = room;
  ok = (looks.0, looks.1, same_channel old dies new (is_same old new looks.2));
  err = tt;
  dies = dies_stay old dies new;
  stands = same_stands old dies new (is_same old new looks.2);
}
live_clauses old dies new tag sb items (Ok (live.Found look)) fit room looks first err = record {
  room = room;
  ok = (looks.0, looks.1, looks_at old dies new tag look.row (row_looks.Found look) looks.4 first looks.3);
  err = tt;
  dies = dies_stay old dies new;
  stands = look_stands old dies new tag look.row items fit looks.2 looks.3 looks.4.new_is;
}
live_clauses old dies new tag sb items (Err stop) fit room looks first err = record {
  room = room;
  ok = tt;
  err = same_channel old dies new err;
  dies = dies_stay old dies new;
  stands = same_stands old dies new err;
}

pub live_fitting : (old : TablesState) (dies : DiesState) (new : TablesState) (tag : Tag) (sb items : ℕ) (result : Result LiveAnswer StepStop) → AreFitting old dies items
    → IfOk result (λ answer. LooksLiveIn old new tag sb answer) → OnErr result (new ≡ record old { room = new.room }) → AreFitting new dies items
live_fitting old dies new tag sb items (Ok live.NotVictim) fit looks err = roomier old dies new items fit (is_same old new looks.1)
live_fitting old dies new tag sb items (Ok live.NoneLive) fit looks err = roomier old dies new items fit (is_same old new looks.2)
live_fitting old dies new tag sb items (Ok (live.Found look)) fit looks err =
    told_fitting old dies new tag (kind_of_look old look.row) items fit tt looks.4.new_is
live_fitting old dies new tag sb items (Err stop) fit looks err = roomier old dies new items fit err

-- ---- the end of a look

pub record LeaveClauses (old new : ChannelState) (tag : Tag) (at : ℕ) : Type 0 where
  pub entry : AddsEntry old new tag (Kind.Leave at)
  pub looks : new.looks ≡ without_look old.looks at
  pub dies : DiesStay old new
  pub stands : LeavesFor old new at

-- where the tables took no memory
pub exactly : (old new : TablesState) (tag : Tag) (kind : Kind) → new ≡ tables_after old tag kind → new ≡ tables_after (record old { room = new.room }) tag kind
exactly old new tag kind e = subst (λ (t : TablesState). t ≡ tables_after (record old { room = t.room }) tag kind) (sym e) refl

pub leave_clauses : (old : TablesState) (dies : DiesState) (new : TablesState) (tag : Tag) (at items : ℕ) → AreFitting old dies items → IsSome (look_by tag (look_at old.looks at))
    → new ≡ tables_after old tag (Kind.Leave at) → LeaveClauses (channel_of old dies) (channel_of new dies) tag at
leave_clauses old dies new tag at items fit some e = record {
  entry = told_adds old dies new tag (Kind.Leave at) tt (exactly old new tag (Kind.Leave at) e);
  looks = ap {B = List (Tag × Look)} (λ (t : TablesState). t.looks) e;
  dies = dies_stay old dies new;
  stands = λ view start contents stands answered.
      told_stands old dies new tag (Kind.Leave at) items view start contents fit tt (exactly old new tag (Kind.Leave at) e) stands
      (lawful_leave (ladder_of (coding_of start.base) start contents old.past) start.base old.past tag at
      (open_in_past old dies view start contents tag at stands some) answered);
}

-- ---- trims

pub record TrimClauses (old new : ChannelState) (tag : Tag) (row : ℕ) (result : Result (Unit {0}) StepStop) : Type 0 where
  pub room : IsRefused (HasStepRoom old) old result
  pub ok : OnOk result (AddsEntry old new tag (Kind.Trim row))
  pub err : OnErr result (new ≡ old)
  pub dies : DiesStay old new
  pub stands : KeepsStanding old new

pub trim_clauses : (old : TablesState) (dies : DiesState) (new : TablesState) (tag : Tag) (row items : ℕ) (result : Result (Unit {0}) StepStop) → AreFitting old dies items → row < old.shape.rows
    → IsStopped (length old.past + room_of_step old.looks ≤ old.limit) (length old.past) result
    → OnOk result (new ≡ tables_after (record old { room = new.room }) tag (Kind.Trim row)) → OnErr result (new ≡ record old { room = new.room })
    → TrimClauses (channel_of old dies) (channel_of new dies) tag row result
trim_clauses old dies new tag row items (Ok done) fit lt room e err = record {
  room = room;
  ok = told_adds old dies new tag (Kind.Trim row) tt e;
  err = tt;
  dies = dies_stay old dies new;
  stands = λ view start contents stands.
      told_stands old dies new tag (Kind.Trim row) items view start contents fit tt e stands
      (lawful_trim (ladder_of (coding_of start.base) start contents old.past) start.base old.past tag row
      (subst (λ (shape : Shape). row < shape.rows) stands.shape_is lt));
}
trim_clauses old dies new tag row items (Err stop) fit lt room e err = record {
  room = room;
  ok = tt;
  err = same_channel old dies new err;
  dies = dies_stay old dies new;
  stands = same_stands old dies new err;
}

pub trim_fitting : {A : Type 0} (old : TablesState) (dies : DiesState) (new : TablesState) (tag : Tag) (row items : ℕ) (result : Result A StepStop) → AreFitting old dies items
    → OnOk result (new ≡ tables_after (record old { room = new.room }) tag (Kind.Trim row)) → OnErr result (new ≡ record old { room = new.room }) → AreFitting new dies items
trim_fitting old dies new tag row items (Ok done) fit e err = told_fitting old dies new tag (Kind.Trim row) items fit tt e
trim_fitting old dies new tag row items (Err stop) fit e err = roomier old dies new items fit err

-- ---- notes

victim_in_range : (shape : Shape) (victim : Option ℕ) → IfSome victim (λ sb. sb < shape.superblocks) → IsTrue (has_superblock shape victim)
victim_in_range shape None lt = refl
victim_in_range shape (Some sb) lt = lt-ltb sb shape.superblocks lt

lawful_note : (state : ℕ → LadderState) (base : ChannelBase) (past : List Entry) (tag : Tag) (note : Note) → IfSome note.victim (λ sb. sb < base.shape.superblocks)
    → note ≡ note_of (slots_in base) (blocks_of base past) (rows_of base past) (open_looks past) → IsLawfulEntry state base past (entry_of tag (kind_of_note note))
lawful_note state base past tag note range is = record {
  in_range = victim_in_range base.shape note.victim range;
  meets = record {
    free_is = ap {B = ℕ} (λ (n : Note). n.free) is;
    victim_is = ap {B = Option ℕ} (λ (n : Note). n.victim) is;
    live_is = ap {B = ℕ} (λ (n : Note). n.live) is;
    pins_is = ap {B = ℕ} (λ (n : Note). n.pins) is;
    garbage_is = ap {B = ℕ} (λ (n : Note). n.garbage) is;
  };
}

pub record NoteClauses (old new : ChannelState) (tag : Tag) (result : Result Note StepStop) : Type 0 where
  pub room : IsRefused (HasStepRoom old) old result
  pub ok : IfOk result (λ note. Notes old new tag note)
  pub err : OnErr result (new ≡ old)
  pub dies : DiesStay old new
  pub stands : KeepsStanding old new

pub note_clauses : (old : TablesState) (dies : DiesState) (new : TablesState) (tag : Tag) (items : ℕ) (result : Result Note StepStop) → AreFitting old dies items
    → IsStopped (length old.past + room_of_step old.looks ≤ old.limit) (length old.past) result
    → IfOk result (λ note. note ≡ note_of (slots_of old.shape.pages old.shape.dies) old.blocks old.rows old.looks)
    → IfOk result (λ note. IfSome note.victim (λ sb. sb < old.shape.superblocks))
    → IfOk result (λ note. new ≡ tables_after (record old { room = new.room }) tag (kind_of_note note)) → OnErr result (new ≡ record old { room = new.room })
    → NoteClauses (channel_of old dies) (channel_of new dies) tag result
note_clauses old dies new tag items (Ok note) fit room is range e err = record {
  room = room;
  ok = (is, told_adds old dies new tag (kind_of_note note) tt e);
  err = tt;
  dies = dies_stay old dies new;
  stands = λ view start contents stands.
      told_stands old dies new tag (kind_of_note note) items view start contents fit tt e stands
      (lawful_note (ladder_of (coding_of start.base) start contents old.past) start.base old.past tag note
      (subst (λ (shape : Shape). IfSome note.victim (λ sb. sb < shape.superblocks)) stands.shape_is range)
      (is ∙ (λ i. note_of (slots_of (stands.shape_is i).pages (stands.shape_is i).dies) (stands.blocks_are i) (stands.rows_are i) (stands.looks_are i))));
}
note_clauses old dies new tag items (Err stop) fit room is range e err = record {
  room = room;
  ok = tt;
  err = same_channel old dies new err;
  dies = dies_stay old dies new;
  stands = same_stands old dies new err;
}

pub note_fitting : (old : TablesState) (dies : DiesState) (new : TablesState) (tag : Tag) (items : ℕ) (result : Result Note StepStop) → AreFitting old dies items
    → IfOk result (λ note. new ≡ tables_after (record old { room = new.room }) tag (kind_of_note note)) → OnErr result (new ≡ record old { room = new.room }) → AreFitting new dies items
note_fitting old dies new tag items (Ok note) fit e err = told_fitting old dies new tag (kind_of_note note) items fit tt e
note_fitting old dies new tag items (Err stop) fit e err = roomier old dies new items fit err

-- ---- the loss of a row

-- the condition of a condemnation's entry, by its answer
condemn_meets : (state : ℕ → LadderState) (base : ChannelBase) (past : List Entry) (tag : Tag) (at : ℕ) (look : Look) (answer : CondemnAnswer) → open_look past tag at ≡ Some look
    → IsTrue (is_uncorrectable (state at)) → IsTrue (has_answer (state at)) → look.row < base.shape.rows
    → IsCondemnAnswer (rows_of base past) look answer → IsLawfulKind state base past tag (kind_of_condemn at answer)
condemn_meets state base past tag at look (condemn.Changed row) found none answered low is =
    of_look (λ l. IsLawfulChanged (state at) base past l row) (open_look past tag at) look found
    (record { has_answer = answered; is_found = is.0 ∙ row_is base past look.row low; is_other = is.1 })
condemn_meets state base past tag at look condemn.Condemned found none answered low is =
    of_look (λ l. IsLawfulCondemn (state at) base past l) (open_look past tag at) look found
    (record { is_uncorrectable = none; is_unchanged = unchanged_row base past look low is })

condemn_told : (at : ℕ) (answer : CondemnAnswer) → IsTold (kind_of_condemn at answer)
condemn_told at (condemn.Changed row) = tt
condemn_told at condemn.Condemned = tt

condemn_keeps_looks : (at : ℕ) (answer : CondemnAnswer) (tag : Tag) (n : ℕ) (list : List (Tag × Look)) → looks_after n tag (kind_of_condemn at answer) list ≡ list
condemn_keeps_looks at (condemn.Changed row) tag n list = refl
condemn_keeps_looks at condemn.Condemned tag n list = refl

condemn_stands : (old : TablesState) (dies : DiesState) (new : TablesState) (tag : Tag) (at items : ℕ) (answer : CondemnAnswer) → AreFitting old dies items → IsSome (look_by tag (look_at old.looks at))
    → IfSome (look_at old.looks at) (λ pin. IsCondemnAnswer old.rows pin.1 answer) → IfSome (look_at old.looks at) (λ pin. pin.1.row < old.shape.rows)
    → IsTrue (is_in_range old.shape (kind_of_condemn at answer)) → new ≡ tables_after old tag (kind_of_condemn at answer)
    → CondemnsFor (channel_of old dies) (channel_of new dies) at
condemn_stands old dies new tag at items answer fit some is low range e view start contents stands lost =
    let state : ℕ → LadderState = ladder_of (coding_of start.base) start contents old.past in
    let asked : IsLookOf old.looks tag at (λ look. IsCondemnAnswer old.rows look answer) = look_of_call old.looks tag at (λ look. IsCondemnAnswer old.rows look answer) some is in
    let rows : IsLookOf old.looks tag at (λ look. look.row < old.shape.rows) = look_of_call old.looks tag at (λ look. look.row < old.shape.rows) some low in
    let same : rows.look ≡ asked.look = some_same rows.look asked.look (sym rows.found ∙ asked.found) in
    let found : open_look old.past tag at ≡ Some asked.look = found_in_past old dies view start contents tag at asked.look stands asked.found in
    let answers : IsCondemnAnswer (rows_of start.base old.past) asked.look answer = subst (λ (list : List Row). IsCondemnAnswer list asked.look answer) stands.rows_are asked.holds in
    let row_low : asked.look.row < start.base.shape.rows =
    subst (λ (shape : Shape). asked.look.row < shape.rows) stands.shape_is (subst (λ (look : Look). look.row < old.shape.rows) same rows.holds) in
    told_stands old dies new tag (kind_of_condemn at answer) items view start contents fit (condemn_told at answer) (exactly old new tag (kind_of_condemn at answer) e) stands (record {
      in_range = subst (λ (shape : Shape). IsTrue (is_in_range shape (kind_of_condemn at answer))) stands.shape_is range;
      meets = condemn_meets state start.base old.past tag at asked.look answer found (ap {B = Bool} is_uncorrectable lost) (ap {B = Bool} has_answer lost) row_low answers;
    })

pub record CondemnClauses (old new : ChannelState) (tag : Tag) (at : ℕ) (answer : CondemnAnswer) : Type 0 where
  pub answer_is : IfSome (look_by tag (look_at old.looks at)) (λ look. IsCondemnAnswer old.rows look answer)
  pub entry : AddsEntry old new tag (kind_of_condemn at answer)
  pub looks : new.looks ≡ old.looks
  pub dies : DiesStay old new
  pub stands : CondemnsFor old new at

pub condemn_clauses : (old : TablesState) (dies : DiesState) (new : TablesState) (tag : Tag) (at items : ℕ) (answer : CondemnAnswer) → AreFitting old dies items → IsSome (look_by tag (look_at old.looks at))
    → IfSome (look_at old.looks at) (λ pin. IsCondemnAnswer old.rows pin.1 answer) → IfSome (look_at old.looks at) (λ pin. pin.1.row < old.shape.rows)
    → IsTrue (is_in_range old.shape (kind_of_condemn at answer)) → new ≡ tables_after old tag (kind_of_condemn at answer)
    → CondemnClauses (channel_of old dies) (channel_of new dies) tag at answer
condemn_clauses old dies new tag at items answer fit some is low range e = record {
  answer_is = by_call (λ look. IsCondemnAnswer old.rows look answer) tag (look_at old.looks at) is;
  entry = told_adds old dies new tag (kind_of_condemn at answer) (condemn_told at answer) (exactly old new tag (kind_of_condemn at answer) e);
  looks = ap {B = List (Tag × Look)} (λ (t : TablesState). t.looks) e ∙ condemn_keeps_looks at answer tag (length old.past) old.looks;
  dies = dies_stay old dies new;
  stands = condemn_stands old dies new tag at items answer fit some is low range e;
}

pub condemn_fitting : (old : TablesState) (dies : DiesState) (new : TablesState) (tag : Tag) (at items : ℕ) (answer : CondemnAnswer) → AreFitting old dies items
    → new ≡ tables_after old tag (kind_of_condemn at answer) → AreFitting new dies items
condemn_fitting old dies new tag at items answer fit e =
    told_fitting old dies new tag (kind_of_condemn at answer) items fit (condemn_told at answer) (exactly old new tag (kind_of_condemn at answer) e)
