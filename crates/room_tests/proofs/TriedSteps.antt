-- What steps leave of a channel on which steps are tried, and of a look that is open meanwhile.
use Rattle.std.proofs.Common.{◌≡◌, ℕ, ◌<◌, ◌≤◌, ◌==◌, ◌||◌, cond, Bool, true, false, List, ◌∷◌, length, refl, sym, ◌∙◌, ap}
use Rattle.std.proofs.Common.{subst, arith, Result, Ok, Err, Option, ◌⊎◌, inl, inr}
use Rattle.std.specs.Prelude.{IfOk, OnOk, OnErr, is_some, IsSome, ℤ, ⊤}
use Rattle.std.proofs.lemmas.Bool.Decides.{nat_tests}
use Rattle.std.proofs.lemmas.List.Sums.{sum_by-cons}
use Rattle.ssd_histories.specs.CallSteps.{is_sense_of}
use Rattle.ssd_histories.specs.Copies.{is_after_recovered, is_after_uncorrectable}
use Rattle.ssd_histories.specs.History.{look_by, looks_after}
use Rattle.ssd_histories.specs.Lawful.{has_fault_sense, is_fault_sense_of}
use Rattle.ssd_histories.specs.OpenLooks.{look_at}
use Rattle.ssd_histories.specs.SerialCalls.{entry_of}
use Rattle.ssd_geo.specs.declared.entry.Entry.{Entry}
use Rattle.ssd_geo.specs.declared.kind.Kind.{Kind}
use Rattle.ssd_geo.specs.declared.look.Look.{Look}
use Rattle.ssd_geo.specs.declared.place.Place.{Place}
use Rattle.ssd_geo.specs.declared.row.Row.{Row}
use Rattle.ssd_geo.specs.declared.shape.Shape.{Shape}
use Rattle.ssd_geo.specs.declared.stop.StepStop.{StepStop}
use Rattle.ssd_geo.specs.declared.tag.Tag.{Tag}
use Rattle.chan_tables.specs.Condemning.{kind_of_condemn}
use Rattle.chan_tables.specs.Noting.{kind_of_note}
use Rattle.chan_tables.specs.TablesState.{ends_recovered, ends_uncorrectable, senses_had}
use Rattle.chan_tables.specs.declared.answers.CondemnAnswer.{CondemnAnswer}
use Rattle.chan_tables.specs.declared.answers.CondemnAnswer.TheVariants as condemned
use Rattle.chan_tables.specs.declared.answers.LiveAnswer.{LiveAnswer}
use Rattle.chan_tables.specs.declared.answers.LiveAnswer.TheVariants as live
use Rattle.chan_tables.specs.declared.answers.LookAnswer.{LookAnswer}
use Rattle.chan_tables.specs.declared.answers.LookAnswer.TheVariants.{Empty, Lost, Found}
use Rattle.chan_tables.specs.declared.answers.Note.{Note}
use Rattle.chan_state.specs.ChannelState.{ChannelState}
use Rattle.chan_state.specs.Collecting.{Erases, LooksLive, Picks, fault_of_erase}
use Rattle.chan_state.specs.Condemning.{MayCondemn}
use Rattle.chan_state.specs.Copying.{MayMove, Moves}
use Rattle.chan_state.specs.Noting.{Notes}
use Rattle.chan_state.specs.Steps.{AddsEntry, Ages, CountAt, IsOpen, LooksAt, Senses, fault_of_age}
use Rattle.chan_state.specs.Writing.{Writes, fault_of_write}
use Rattle.chan_state.specs.declared.answers.AgeAnswer.{AgeAnswer}
use Rattle.chan_state.specs.declared.answers.AgeAnswer.TheVariants as age
use Rattle.chan_state.specs.declared.answers.EraseAnswer.{EraseAnswer}
use Rattle.chan_state.specs.declared.answers.EraseAnswer.TheVariants as erase
use Rattle.chan_state.specs.declared.answers.MoveAnswer.{MoveAnswer}
use Rattle.chan_state.specs.declared.answers.MoveAnswer.TheVariants as move
use Rattle.chan_state.specs.declared.answers.PickAnswer.{PickAnswer}
use Rattle.chan_state.specs.declared.answers.PickAnswer.TheVariants as pick
use Rattle.chan_state.specs.declared.answers.SenseAnswer.{SenseAnswer}
use Rattle.chan_state.specs.declared.answers.SenseAnswer.TheVariants as sense
use Rattle.chan_state.specs.declared.answers.WriteAnswer.{WriteAnswer}
use Rattle.chan_state.specs.declared.answers.WriteAnswer.TheVariants as write
use Rattle.room_tests.specs.OpenLooks.{IsFresh, IsFreshIfFound, IsFreshIfLive, IsLooked, KeepsLooks}
use Rattle.room_tests.specs.SmallChannel.{IsTried}
use Rattle.shared_lemmas.proofs.Tests.{is_other}

-- an entry that is of no look that is to come
abbrev pub IsTame : ℕ → Kind → Type 0
IsTame now (Kind.Sense at place level) = at < now
IsTame now (Kind.FaultSense at place level) = at < now
IsTame now (Kind.Move at slot) = at < now
IsTame now (Kind.Changed at found) = at < now
IsTame now (Kind.Condemn at) = at < now
IsTame now (Kind.Stay at worn) = at < now
IsTame now (Kind.BadCopy at slot die fault) = at < now
IsTame now _ = ⊤

-- one that moreover neither begins nor ends a look, nor ends the copy of one
abbrev pub IsPlain : ℕ → Kind → Type 0
IsPlain now (Kind.Look row found closed) = ⊥
IsPlain now (Kind.Leave at) = ⊥
IsPlain now (Kind.Move at slot) = ⊥
IsPlain now (Kind.Changed at found) = ⊥
IsPlain now (Kind.Condemn at) = ⊥
IsPlain now (Kind.Stay at worn) = ⊥
IsPlain now (Kind.BadCopy at slot die fault) = ⊥
IsPlain now kind = IsTame now kind

-- a step adds such an entry, or leaves everything as it was
abbrev pub StaysOrAdds : ChannelState → ChannelState → Type 0
StaysOrAdds old new =
    (new ≡ old) ⊎ ((tag : Tag) × (kind : Kind) × IsPlain (length old.past) kind × AddsEntry old new tag kind)

not_ahead : (now at : ℕ) (kind : Kind) → now ≤ at → IsTame now kind → is_sense_of at kind ≡ false
not_ahead now at (Kind.Sense named place level) le tame = is_other named at (omega arith)
not_ahead now at kind le tame = refl

no_fault_ahead : (now at : ℕ) (kind : Kind) → now ≤ at → IsTame now kind → is_fault_sense_of at kind ≡ false
no_fault_ahead now at (Kind.FaultSense named place level) le tame = is_other named at (omega arith)
no_fault_ahead now at kind le tame = refl

not_recovered_ahead : (now at : ℕ) (kind : Kind) → now ≤ at → IsTame now kind → is_after_recovered at kind ≡ false
not_recovered_ahead now at (Kind.Move named slot) le tame = is_other named at (omega arith)
not_recovered_ahead now at (Kind.Changed named found) le tame = is_other named at (omega arith)
not_recovered_ahead now at (Kind.Stay named worn) le tame = is_other named at (omega arith)
not_recovered_ahead now at (Kind.BadCopy named slot die fault) le tame = is_other named at (omega arith)
not_recovered_ahead now at kind le tame = refl

not_uncorrectable_ahead : (now at : ℕ) (kind : Kind) → now ≤ at → IsTame now kind → is_after_uncorrectable at kind ≡ false
not_uncorrectable_ahead now at (Kind.Condemn named) le tame = is_other named at (omega arith)
not_uncorrectable_ahead now at (Kind.Changed named found) le tame = is_other named at (omega arith)
not_uncorrectable_ahead now at kind le tame = refl

none_more : (past : List Entry) (entry : Entry) (at : ℕ) → is_sense_of at entry.kind ≡ false → senses_had past at ≡ 0
    → senses_had (entry ∷ past) at ≡ 0
none_more past entry at no_sense none =
    let zero_here : ◌≡◌ {A = ℕ} (cond (is_sense_of at entry.kind) 1 0) 0 = ap {B = ℕ} (λ (b : Bool). cond b 1 0) no_sense in
    omega (arith, zero_here, none, sum_by-cons (λ (e : Entry). cond (is_sense_of at e.kind) 1 0) entry past)

-- a step's entry leaves a channel on which steps are tried
pub tried_after : (old new : ChannelState) (tag : Tag) (kind : Kind) → IsTame (length old.past) kind
    → AddsEntry old new tag kind → IsTried old → IsTried new
tried_after old new tag kind tame adds tried = record {
  rows = ap {B = ℕ} (λ (s : Shape). s.rows) adds.same_drive.shape_stays ∙ tried.rows;
  dies = ap {B = ℕ} (λ (s : Shape). s.dies) adds.same_drive.shape_stays ∙ tried.dies;
  superblocks = ap {B = ℕ} (λ (s : Shape). s.superblocks) adds.same_drive.shape_stays ∙ tried.superblocks;
  pages = ap {B = ℕ} (λ (s : Shape). s.pages) adds.same_drive.shape_stays ∙ tried.pages;
  words = ap {B = ℕ} (λ (s : Shape). s.words) adds.same_drive.shape_stays ∙ tried.words;
  columns = ap {B = ℕ} (λ (s : Shape). s.nb) adds.same_drive.shape_stays ∙ tried.columns;
  lifting = ap {B = ℕ} (λ (s : Shape). s.z) adds.same_drive.shape_stays ∙ tried.lifting;
  none_sensed = λ at le.
      let longer : length (entry_of tag kind ∷ old.past) ≤ at =
      subst (λ (past : List Entry). length past ≤ at) adds.past_is le in
      ap {B = ℕ} (λ (past : List Entry). senses_had past at) adds.past_is
      ∙ none_more old.past (entry_of tag kind) at (not_ahead (length old.past) at kind (omega arith) tame)
      (tried.none_sensed at (omega arith));
  none_recovered = λ at le.
      let longer : length (entry_of tag kind ∷ old.past) ≤ at =
      subst (λ (past : List Entry). length past ≤ at) adds.past_is le in
      ap {B = Bool} (λ (past : List Entry). ends_recovered past at) adds.past_is
      ∙ ap {B = Bool} (λ (b : Bool). b || ends_recovered old.past at)
      (not_recovered_ahead (length old.past) at kind (omega arith) tame)
      ∙ tried.none_recovered at (omega arith);
  none_uncorrectable = λ at le.
      let longer : length (entry_of tag kind ∷ old.past) ≤ at =
      subst (λ (past : List Entry). length past ≤ at) adds.past_is le in
      ap {B = Bool} (λ (past : List Entry). ends_uncorrectable past at) adds.past_is
      ∙ ap {B = Bool} (λ (b : Bool). b || ends_uncorrectable old.past at)
      (not_uncorrectable_ahead (length old.past) at kind (omega arith) tame)
      ∙ tried.none_uncorrectable at (omega arith);
  none_failed = λ at le.
      let longer : length (entry_of tag kind ∷ old.past) ≤ at =
      subst (λ (past : List Entry). length past ≤ at) adds.past_is le in
      ap {B = Bool} (λ (past : List Entry). has_fault_sense past at) adds.past_is
      ∙ ap {B = Bool} (λ (b : Bool). b || has_fault_sense old.past at)
      (no_fault_ahead (length old.past) at kind (omega arith) tame)
      ∙ tried.none_failed at (omega arith);
}

plain_is_tame : (now : ℕ) (kind : Kind) → IsPlain now kind → IsTame now kind
plain_is_tame now (Kind.Look row found closed) plain = tt
plain_is_tame now (Kind.Leave at) plain = tt
plain_is_tame now (Kind.Move at slot) plain = absurd plain
plain_is_tame now (Kind.Changed at found) plain = absurd plain
plain_is_tame now (Kind.Condemn at) plain = absurd plain
plain_is_tame now (Kind.Stay at worn) plain = absurd plain
plain_is_tame now (Kind.BadCopy at slot die fault) plain = absurd plain
plain_is_tame now kind plain = plain

plain_keeps_looks : (now : ℕ) (tag : Tag) (kind : Kind) (looks : List (Tag × Look)) → IsPlain now kind
    → looks_after now tag kind looks ≡ looks
plain_keeps_looks now tag (Kind.Look row found closed) looks plain = absurd plain
plain_keeps_looks now tag (Kind.Leave at) looks plain = absurd plain
plain_keeps_looks now tag kind looks plain = refl

plain_ends_none : (now at : ℕ) (kind : Kind) → IsPlain now kind → is_after_recovered at kind ≡ false
plain_ends_none now at (Kind.Move named slot) plain = absurd plain
plain_ends_none now at (Kind.Changed named found) plain = absurd plain
plain_ends_none now at (Kind.Stay named worn) plain = absurd plain
plain_ends_none now at (Kind.BadCopy named slot die fault) plain = absurd plain
plain_ends_none now at kind plain = refl

plain_loses_none : (now at : ℕ) (kind : Kind) → IsPlain now kind → is_after_uncorrectable at kind ≡ false
plain_loses_none now at (Kind.Condemn named) plain = absurd plain
plain_loses_none now at (Kind.Changed named found) plain = absurd plain
plain_loses_none now at kind plain = refl

-- such a step leaves a channel on which steps are tried
pub tried_plain : (old new : ChannelState) → StaysOrAdds old new → IsTried old → IsTried new
tried_plain old new (inl same) tried = subst IsTried (sym same) tried
tried_plain old new (inr adds) tried =
    tried_after old new adds.0 adds.1 (plain_is_tame (length old.past) adds.1 adds.2) adds.3 tried

-- and the page of an open look may still be moved
move_plain : (old new : ChannelState) (by : Tag) (at : ℕ) → StaysOrAdds old new → MayMove old by at → MayMove new by at
move_plain old new by at (inl same) may = subst (λ (s : ChannelState). MayMove s by at) (sym same) may
move_plain old new by at (inr adds) may = record {
  is_open =
      subst (λ (looks : List (Tag × Look)). IsSome (look_by by (look_at looks at)))
      (sym (adds.3.looks_are ∙ plain_keeps_looks (length old.past) adds.0 adds.1 old.looks adds.2)) may.is_open;
  not_recovered =
      ap {B = Bool} (λ (past : List Entry). ends_recovered past at) adds.3.past_is
      ∙ ap {B = Bool} (λ (b : Bool). b || ends_recovered old.past at) (plain_ends_none (length old.past) at adds.1 adds.2)
      ∙ may.not_recovered;
  not_uncorrectable =
      ap {B = Bool} (λ (past : List Entry). ends_uncorrectable past at) adds.3.past_is
      ∙ ap {B = Bool} (λ (b : Bool). b || ends_uncorrectable old.past at) (plain_loses_none (length old.past) at adds.1 adds.2)
      ∙ may.not_uncorrectable;
}

-- the past doesn't get shorter
past_plain : (old new : ChannelState) → StaysOrAdds old new → length old.past ≤ length new.past
past_plain old new (inl same) =
    let equal : length new.past ≡ length old.past = ap {B = ℕ} (λ (s : ChannelState). length s.past) same in
    omega (arith, equal)
past_plain old new (inr adds) =
    let longer : length new.past ≡ length (entry_of adds.0 adds.1 ∷ old.past) =
    ap {B = ℕ} (λ (past : List Entry). length past) adds.3.past_is in
    omega (arith, longer)

pub keeps_plain : (old new : ChannelState) → StaysOrAdds old new → KeepsLooks old new
keeps_plain old new step = λ tag at looked.
    let longer : length old.past ≤ length new.past = past_plain old new step in
    let before : at < length old.past = looked.is_past in
    record {
      tried = tried_plain old new step looked.tried;
      may_move = move_plain old new tag at step looked.may_move;
      is_past = omega (arith, longer, before);
    }

-- each of these steps is one
pub writes_plainly : (old new : ChannelState) (tag : Tag) (row : ℕ) (result : Result WriteAnswer StepStop)
    → IfOk result (λ answer. Writes old new tag row answer) → CountAt fault_of_write old new result → StaysOrAdds old new
writes_plainly old new tag row (Ok (write.Written slot)) ok faults = inr (tag, Kind.Write row slot, tt, ok.2)
writes_plainly old new tag row (Ok (write.Failed sb)) ok faults =
    inr (tag, Kind.BadWrite row ok.1.slot ok.1.die false, tt, ok.1.fails.entry)
writes_plainly old new tag row (Ok (write.DieFault die)) ok faults =
    inr (tag, Kind.BadWrite row ok.1.slot die true, tt, ok.1.fails.entry)
writes_plainly old new tag row (Ok write.ReadOnly) ok faults = inr (tag, Kind.Refused row true, tt, ok.2)
writes_plainly old new tag row (Ok write.Full) ok faults = inr (tag, Kind.Refused row false, tt, ok.3)
writes_plainly old new tag row (Ok write.NeedRoom) ok faults = inl ok.3
writes_plainly old new tag row (Err stop) ok faults = inl faults

pub trims_plainly : (old new : ChannelState) (tag : Tag) (row : ℕ) (result : Result (Unit {0}) StepStop)
    → OnOk result (AddsEntry old new tag (Kind.Trim row)) → OnErr result (new ≡ old) → StaysOrAdds old new
trims_plainly old new tag row (Ok done) ok err = inr (tag, Kind.Trim row, tt, ok)
trims_plainly old new tag row (Err stop) ok err = inl err

pub ages_plainly : (old new : ChannelState) (tag : Tag) (die sb amount : ℕ) (result : Result AgeAnswer StepStop)
    → IfOk result (λ answer. Ages old new tag die sb amount answer) → CountAt fault_of_age old new result → StaysOrAdds old new
ages_plainly old new tag die sb amount (Ok age.Aged) ok faults = inr (tag, Kind.Age die sb amount, tt, ok)
ages_plainly old new tag die sb amount (Ok (age.DieFault named)) ok faults = inr (tag, Kind.FaultAge die sb amount, tt, ok.1)
ages_plainly old new tag die sb amount (Err stop) ok faults = inl faults

pub notes_plainly : (old new : ChannelState) (tag : Tag) (result : Result Note StepStop)
    → IfOk result (λ note. Notes old new tag note) → OnErr result (new ≡ old) → StaysOrAdds old new
notes_plainly old new tag (Ok note) ok err = inr (tag, kind_of_note note, tt, ok.1)
notes_plainly old new tag (Err stop) ok err = inl err

pub picks_plainly : (old new : ChannelState) (tag : Tag) (result : Result PickAnswer StepStop)
    → IfOk result (λ answer. Picks old new tag answer) → OnErr result (new ≡ old) → StaysOrAdds old new
picks_plainly old new tag (Ok (pick.Busy sb)) ok err = inl ok.1
picks_plainly old new tag (Ok pick.ReadOnly) ok err = inl ok.2
picks_plainly old new tag (Ok pick.NoGarbage) ok err = inl ok.3
picks_plainly old new tag (Ok (pick.Picked sb)) ok err = inr (tag, Kind.Pick sb, tt, ok.3)
picks_plainly old new tag (Err stop) ok err = inl err

pub erases_plainly : (old new : ChannelState) (tag : Tag) (sb : ℕ) (result : Result EraseAnswer StepStop)
    → IfOk result (λ answer. Erases old new tag sb answer) → CountAt fault_of_erase old new result → StaysOrAdds old new
erases_plainly old new tag sb (Ok erase.NotVictim) ok faults = inl ok.1
erases_plainly old new tag sb (Ok (erase.Live count)) ok faults = inl ok.3
erases_plainly old new tag sb (Ok (erase.Pinned count)) ok faults = inl ok.4
erases_plainly old new tag sb (Ok erase.Erased) ok faults = inr (tag, Kind.Erase sb, tt, ok.1)
erases_plainly old new tag sb (Ok (erase.FailedErase die)) ok faults = inr (tag, Kind.BadErase sb die false, tt, ok.2)
erases_plainly old new tag sb (Ok (erase.DieFault die)) ok faults = inr (tag, Kind.BadErase sb die true, tt, ok.2)
erases_plainly old new tag sb (Err stop) ok faults = inl faults

senses_plainly : (old new : ChannelState) (tag : Tag) (at : ℕ) (place : Place) (level : ℤ) (answer : SenseAnswer)
    → at < length old.past → Senses old new tag at place level answer → StaysOrAdds old new
senses_plainly old new tag at place level sense.Sensed before senses = inr (tag, Kind.Sense at place level, before, senses)
senses_plainly old new tag at place level (sense.DieFault die) before senses =
    inr (tag, Kind.FaultSense at place level, before, senses.1)

-- a look, its leave, a move and a condemnation leave a channel on which steps are tried
tried_looked : (old new : ChannelState) (tag : Tag) (row : ℕ) (answer : LookAnswer) → LooksAt old new tag row answer
    → IsTried old → IsTried new
tried_looked old new tag row Empty looks tried = tried_after old new tag (Kind.Look row Row.Empty false) tt looks.1 tried
tried_looked old new tag row Lost looks tried = tried_after old new tag (Kind.Look row Row.Lost false) tt looks.1 tried
tried_looked old new tag row (Found look) looks tried =
    tried_after old new tag (Kind.Look row (Row.Page look.slot look.serial) look.closed) tt looks.3 tried

pub tried_live : (old new : ChannelState) (tag : Tag) (sb : ℕ) (result : Result LiveAnswer StepStop)
    → IfOk result (λ answer. LooksLive old new tag sb answer) → OnErr result (new ≡ old) → IsTried old → IsTried new
tried_live old new tag sb (Ok live.NotVictim) ok err tried = subst IsTried (sym ok.1) tried
tried_live old new tag sb (Ok live.NoneLive) ok err tried = subst IsTried (sym ok.2) tried
tried_live old new tag sb (Ok (live.Found look)) ok err tried = tried_looked old new tag look.row (Found look) ok.2 tried
tried_live old new tag sb (Err stop) ok err tried = subst IsTried (sym err) tried

pub tried_left : (old new : ChannelState) (tag : Tag) (at : ℕ) → AddsEntry old new tag (Kind.Leave at) → IsTried old
    → IsTried new
tried_left old new tag at adds tried = tried_after old new tag (Kind.Leave at) tt adds tried

tried_moved : (old new : ChannelState) (tag : Tag) (at : ℕ) (answer : MoveAnswer) → at < length old.past
    → Moves old new tag at answer → IsTried old → IsTried new
tried_moved old new tag at (move.Changed row) before moves tried =
    tried_after old new tag (Kind.Changed at row) before moves tried
tried_moved old new tag at move.ReadOnly before moves tried = tried_after old new tag (Kind.Stay at true) before moves tried
tried_moved old new tag at move.NoRoom before moves tried = tried_after old new tag (Kind.Stay at false) before moves tried
tried_moved old new tag at (move.Moved slot) before moves tried = tried_after old new tag (Kind.Move at slot) before moves tried
tried_moved old new tag at (move.Failed sb) before moves tried =
    tried_after old new tag (Kind.BadCopy at moves.slot moves.die false) before moves.fails.entry tried
tried_moved old new tag at (move.DieFault die) before moves tried =
    tried_after old new tag (Kind.BadCopy at moves.slot die true) before moves.fails.entry tried

tried_condemned : (old new : ChannelState) (tag : Tag) (at : ℕ) (answer : CondemnAnswer) → at < length old.past
    → AddsEntry old new tag (kind_of_condemn at answer) → IsTried old → IsTried new
tried_condemned old new tag at (condemned.Changed row) before adds tried =
    tried_after old new tag (Kind.Changed at row) before adds tried
tried_condemned old new tag at condemned.Condemned before adds tried =
    tried_after old new tag (Kind.Condemn at) before adds tried

-- a look that was just made is fresh
fresh_found : (old new : ChannelState) (tag : Tag) (row : ℕ) (look : Look) → LooksAt old new tag row (Found look) → IsTried old
    → IsFresh new tag look.at
fresh_found old new tag row look looks tried =
    let entry : Entry = entry_of tag (Kind.Look row (Row.Page look.slot look.serial) look.closed) in
    let longer : length new.past ≡ length (entry ∷ old.past) =
    ap {B = ℕ} (λ (past : List Entry). length past) looks.3.past_is in
    let none : senses_had new.past look.at ≡ 0 =
    ap {B = ℕ} (λ (past : List Entry). senses_had past look.at) looks.3.past_is
    ∙ none_more old.past entry look.at refl (tried.none_sensed look.at (omega (arith, looks.1))) in
    record {
      looked = record {
        tried = tried_looked old new tag row (Found look) looks tried;
        may_move = record {
          is_open = ap {B = Bool} (λ (o : Option Look). is_some o) looks.4;
          not_recovered =
              ap {B = Bool} (λ (past : List Entry). ends_recovered past look.at) looks.3.past_is
              ∙ tried.none_recovered look.at (omega (arith, looks.1));
          not_uncorrectable =
              ap {B = Bool} (λ (past : List Entry). ends_uncorrectable past look.at) looks.3.past_is
              ∙ tried.none_uncorrectable look.at (omega (arith, looks.1));
        };
        is_past = omega (arith, longer, looks.1);
      };
      may_sense = record {
        is_open = ap {B = Bool} (λ (o : Option Look). is_some o) looks.4;
        few = omega (arith, none);
        no_fault =
            ap {B = Bool} (λ (past : List Entry). has_fault_sense past look.at) looks.3.past_is
            ∙ tried.none_failed look.at (omega (arith, looks.1));
      };
    }

fresh_if_found : (old new : ChannelState) (tag : Tag) (row : ℕ) (answer : LookAnswer) → LooksAt old new tag row answer
    → IsTried old
    → IsFreshIfFound new tag answer
fresh_if_found old new tag row Empty looks tried = tt
fresh_if_found old new tag row Lost looks tried = tt
fresh_if_found old new tag row (Found look) looks tried = fresh_found old new tag row look looks tried

pub look_tried : (old new : ChannelState) (tag : Tag) (row : ℕ) (result : Result LookAnswer StepStop)
    → IfOk result (λ answer. LooksAt old new tag row answer) → OnErr result (new ≡ old) → IsTried old → IsTried new
look_tried old new tag row (Ok answer) ok err tried = tried_looked old new tag row answer ok tried
look_tried old new tag row (Err stop) ok err tried = subst IsTried (sym err) tried

pub look_fresh : (old new : ChannelState) (tag : Tag) (row : ℕ) (result : Result LookAnswer StepStop)
    → IfOk result (λ answer. LooksAt old new tag row answer) → IsTried old
    → IfOk result (λ answer. IsFreshIfFound new tag answer)
look_fresh old new tag row (Ok answer) ok tried = fresh_if_found old new tag row answer ok tried
look_fresh old new tag row (Err stop) ok tried = tt

pub live_fresh : (old new : ChannelState) (tag : Tag) (sb : ℕ) (result : Result LiveAnswer StepStop)
    → IfOk result (λ answer. LooksLive old new tag sb answer) → IsTried old
    → IfOk result (λ answer. IsFreshIfLive new tag answer)
live_fresh old new tag sb (Ok live.NotVictim) ok tried = tt
live_fresh old new tag sb (Ok live.NoneLive) ok tried = tt
live_fresh old new tag sb (Ok (live.Found look)) ok tried = fresh_found old new tag look.row look ok.2 tried
live_fresh old new tag sb (Err stop) ok tried = tt

-- it stays open where a sense was made for it
pub sensed_looked : (old new : ChannelState) (tag : Tag) (at : ℕ) (place : Place) (level : ℤ) (answer : SenseAnswer)
    → IsFresh old tag at
    → Senses old new tag at place level answer → IsLooked new tag at
sensed_looked old new tag at place level answer fresh senses =
    keeps_plain old new (senses_plainly old new tag at place level answer fresh.looked.is_past senses) tag at fresh.looked

-- where its page was moved or condemned, it is still open, and may be left
pub tried_copied : (old now new : ChannelState) (tag : Tag) (at : ℕ) (answer : MoveAnswer) → IsLooked old tag at
    → Moves old now tag at answer
    → AddsEntry now new tag (Kind.Leave at) → IsTried new
tried_copied old now new tag at answer looked moves leaves =
    tried_left now new tag at leaves (tried_moved old now tag at answer looked.is_past moves looked.tried)

pub tried_lost : (old now new : ChannelState) (tag : Tag) (at : ℕ) (answer : CondemnAnswer) → IsLooked old tag at
    → AddsEntry old now tag (kind_of_condemn at answer) → AddsEntry now new tag (Kind.Leave at) → IsTried new
tried_lost old now new tag at answer looked condemns leaves =
    tried_left now new tag at leaves (tried_condemned old now tag at answer looked.is_past condemns looked.tried)

pub stays_open : (old now : ChannelState) (tag : Tag) (at : ℕ) → now.looks ≡ old.looks → IsOpen old tag at → IsOpen now tag at
stays_open old now tag at same was =
    subst (λ (looks : List (Tag × Look)). IsSome (look_by tag (look_at looks at))) (sym same) was

pub may_condemn : (channel : ChannelState) (tag : Tag) (at : ℕ) → IsLooked channel tag at → MayCondemn channel tag at
may_condemn channel tag at looked = record {
  is_open = looked.may_move.is_open;
  not_uncorrectable = looked.may_move.not_uncorrectable;
}
