-- A call that is served alone leaves each look that it opens: where no look is open before it, none is after it.
use Rattle.std.proofs.Common.{ℕ, ◌≡◌, ◌%◌, ◌/◌, Bool, true, false, cond, List, [], ◌∷◌, ◌++◌, length, map, refl, sym, ap, subst, ◌∙◌, inl, inr, eq-eqb, eqb-true}
use Rattle.std.specs.Prelude.{All, IsTrue}
use Rattle.std.specs.List.{list_all}
use Rattle.std.proofs.lemmas.Bool.{and_parts, false≢true}
use Rattle.std.proofs.lemmas.List.Elements.{All-cons, All-nil, All-set}
use Rattle.ssd_histories.specs.CallSteps.{CallStep, is_leave_of, is_look_of_none, is_look_of_page, is_sense_of, position_of}
use Rattle.ssd_histories.specs.CallsInOrder.{ChannelRun, is_age_of, is_trim_of, ladder_in}
use Rattle.ssd_histories.specs.Copies.{IsLookList, IsRead, IsRefresh, is_lone_look, is_read_end, is_refreshed}
use Rattle.ssd_histories.specs.History.{looks_after, open_looks}
use Rattle.ssd_geo.specs.Ladder.{LadderState}
use Rattle.ssd_histories.specs.Lawful.{is_fault_sense_of}
use Rattle.ssd_histories.specs.OpenLooks.{began_at, without_look}
use Rattle.ssd_histories.specs.Rounds.{is_note, is_one}
use Rattle.ssd_histories.specs.SerialCalls.{AreStepsFrom, IsSerialCopy, RoundEnd, SerialCollect, SerialCopies, SerialRound, SerialWrite, collects_again, copy_faults, decides, entry_of, erase_faults, erases, finds_none, goes_on, is_idle, is_refused, makes_room, picks, retires, round_faults, stays, takes, write_faults, writes, writes_again}
use Rattle.ssd_histories.specs.Rounds.{is_idle_note}
use Rattle.ssd_histories.specs.SerialHistory.{AreServed, DrainedRefresh, HasForm, OnChannel, SerialCall, SerialDrain, SerialState, faults, finds_none as finds_no_hint, has_taken_all, none_left, serves, takes as takes_hint, without_hint}
use Rattle.ssd_histories.specs.Start.{Start}
use Rattle.ssd_geo.specs.declared.base.ChannelBase.{ChannelBase}
use Rattle.ssd_geo.specs.declared.entry.Entry.{Entry}
use Rattle.ssd_geo.specs.declared.kind.Kind.{Kind}
use Rattle.ssd_geo.specs.declared.look.Look.{Look}
use Rattle.ssd_geo.specs.declared.reply.Reply.{Reply}
use Rattle.ssd_geo.specs.declared.row.Row.{Row}
use Rattle.ssd_geo.specs.declared.tag.Tag.{Tag}
use Rattle.ssd_geo.specs.declared.trace.TraceCall.{TraceCall}
use Rattle.ssd_geo.specs.declared.trace.Verb.{Verb}
use Rattle.serial_laws.specs.SerialLooks.{SerialCallsLeaveLooks}
use Rattle.serial_laws.proofs.LookLists.{copy_ends, is_end_kind, refresh_ends}
use Rattle.serial_laws.proofs.ServedVerbs.{read_keeps}
use Rattle.shared_lemmas.proofs.Lists.{all_at}

-- no look is open
abbrev pub HasNoLook : List Entry → Type 0
HasNoLook past = open_looks past ≡ []

-- whether an entry neither opens a look nor ends one
abbrev pub is_quiet : Kind → Bool
is_quiet (Kind.Look row (Row.Page slot serial) closed) = false
is_quiet (Kind.Leave at) = false
is_quiet _ = true

pub quiet_keeps : (at : ℕ) (tag : Tag) (kind : Kind) (looks : List (Tag × Look)) → is_quiet kind ≡ true →
    looks_after at tag kind looks ≡ looks
quiet_keeps at tag (Kind.Look row (Row.Page slot serial) closed) looks e = absurd (false≢true e)
quiet_keeps at tag (Kind.Look row Row.Empty closed) looks e = refl
quiet_keeps at tag (Kind.Look row Row.Lost closed) looks e = refl
quiet_keeps at tag (Kind.Leave named) looks e = absurd (false≢true e)
quiet_keeps at tag kind looks e = refl

none_is_quiet : (kind : Kind) → is_look_of_none kind ≡ true → is_quiet kind ≡ true
none_is_quiet (Kind.Look row Row.Empty closed) e = refl
none_is_quiet (Kind.Look row Row.Lost closed) e = refl
none_is_quiet (Kind.Look row (Row.Page slot serial) closed) e = absurd (false≢true e)
none_is_quiet kind e = absurd (false≢true e)

sense_is_quiet : (at : ℕ) (kind : Kind) → is_sense_of at kind ≡ true → is_quiet kind ≡ true
sense_is_quiet at (Kind.Sense named place level) e = refl
sense_is_quiet at kind e = absurd (false≢true e)

fault_is_quiet : (at : ℕ) (kind : Kind) → is_fault_sense_of at kind ≡ true → is_quiet kind ≡ true
fault_is_quiet at (Kind.FaultSense named place level) e = refl
fault_is_quiet at kind e = absurd (false≢true e)

pub end_is_quiet : (kind : Kind) → is_end_kind kind ≡ true → is_quiet kind ≡ true
end_is_quiet (Kind.Look row found closed) e = absurd (false≢true e)
end_is_quiet (Kind.Leave at) e = absurd (false≢true e)
end_is_quiet kind e = refl

note_is_quiet : (kind : Kind) → is_note kind ≡ true → is_quiet kind ≡ true
note_is_quiet (Kind.Note free victim live pins garbage) e = refl
note_is_quiet kind e = absurd (false≢true e)

pub idle_is_note : (kind : Kind) → is_idle_note kind ≡ true → is_note kind ≡ true
idle_is_note (Kind.Note free victim live pins garbage) e = refl
idle_is_note kind e = absurd (false≢true e)

trim_is_quiet : (row : ℕ) (kind : Kind) → is_trim_of row kind ≡ true → is_quiet kind ≡ true
trim_is_quiet row (Kind.Trim named) e = refl
trim_is_quiet row kind e = absurd (false≢true e)

age_is_quiet : (die sb amount : ℕ) (kind : Kind) → is_age_of die sb amount kind ≡ true → is_quiet kind ≡ true
age_is_quiet die sb amount (Kind.Age named block by) e = refl
age_is_quiet die sb amount (Kind.FaultAge named block by) e = refl
age_is_quiet die sb amount kind e = absurd (false≢true e)

-- quiet steps leave the open looks as they are
quiet_steps : (tag : Tag) (before after : List Entry) (steps : List CallStep) →
    list_all (λ step. is_quiet step.entry.kind) steps ≡ true → AreStepsFrom tag before steps after →
    open_looks after ≡ open_looks before
quiet_steps tag before after [] quiet are = ap open_looks (sym are)
quiet_steps tag before after (step ∷ steps) quiet are =
    let parts = and_parts (is_quiet step.entry.kind) (list_all (λ step. is_quiet step.entry.kind) steps) quiet in
    quiet_steps tag (step.entry ∷ before) after steps parts.1 are.2
    ∙ quiet_keeps (length before) step.entry.tag step.entry.kind (open_looks before) parts.0

-- steps that are joined, apart
pub record AreStepsApart (tag : Tag) (before after : List Entry) (xs ys : List CallStep) : Type 0 where
  pub between : List Entry
  pub first : AreStepsFrom tag before xs between
  pub second : AreStepsFrom tag between ys after

pub steps_apart : (tag : Tag) (before after : List Entry) (xs ys : List CallStep) → AreStepsFrom tag before (xs ++ ys) after →
    AreStepsApart tag before after xs ys
steps_apart tag before after [] ys are = record { between = before; first = refl; second = are }
steps_apart tag before after (step ∷ xs) ys are =
    let rest = steps_apart tag (step.entry ∷ before) after xs ys are.2 in
    record { between = rest.between; first = (are.0, are.1, rest.first); second = rest.second }

-- a look that stands alone among the open ones
record HasOnlyLook (at : ℕ) (looks : List (Tag × Look)) : Type 0 where
  pin : Tag × Look
  is_only : looks ≡ pin ∷ []
  is_at : pin.1.at ≡ at

opens_look : (at : ℕ) (tag : Tag) (kind : Kind) → is_look_of_page kind ≡ true → HasOnlyLook at (looks_after at tag kind [])
opens_look at tag (Kind.Look row (Row.Page slot serial) closed) e = record {
  pin = (tag, record { at = at; row = row; slot = slot; serial = serial; closed = closed });
  is_only = refl;
  is_at = refl;
}
opens_look at tag (Kind.Look row Row.Empty closed) e = absurd (false≢true e)
opens_look at tag (Kind.Look row Row.Lost closed) e = absurd (false≢true e)
opens_look at tag kind e = absurd (false≢true e)

ends_look : (at position : ℕ) (tag : Tag) (kind : Kind) (looks : List (Tag × Look)) → HasOnlyLook at looks →
    is_leave_of at kind ≡ true → looks_after position tag kind looks ≡ []
ends_look at position tag (Kind.Leave named) looks only e =
    let same : began_at named only.pin ≡ true = eq-eqb only.pin.1.at named (only.is_at ∙ sym (eqb-true named at e)) in
    ap (λ (pins : List (Tag × Look)). without_look pins named) only.is_only ∙ taken (began_at named only.pin) same
  where
    taken : (b : Bool) → b ≡ true → ◌≡◌ {A = List (Tag × Look)} (cond b [] (only.pin ∷ [])) []
    taken true e = refl
    taken false e = absurd (false≢true e)
ends_look at position tag kind looks only e = absurd (false≢true e)

senses_are_quiet : (at : ℕ) (senses : List CallStep) → list_all (λ step. is_sense_of at step.entry.kind) senses ≡ true →
    list_all (λ step. is_quiet step.entry.kind) senses ≡ true
senses_are_quiet at [] are = refl
senses_are_quiet at (step ∷ senses) are =
    let parts = and_parts (is_sense_of at step.entry.kind) (list_all (λ step. is_sense_of at step.entry.kind) senses) are in
    rw (sense_is_quiet at step.entry.kind parts.0) (senses_are_quiet at senses parts.1)

-- the steps of a look whose end is quiet leave none open
pub list_closes : (tag : Tag) (before after : List Entry) (steps : List CallStep) (look : CallStep) (ending : List CallStep)
    (leave : CallStep) (list : IsLookList steps look ending leave) → list_all (λ step. is_quiet step.entry.kind) ending ≡ true →
    AreStepsFrom tag before steps after → HasNoLook before → HasNoLook after
list_closes tag before after steps look ending leave list quiet are none =
    let whole : AreStepsFrom tag before (((look ∷ list.senses) ++ ending) ++ leave ∷ []) after =
    subst (λ all. AreStepsFrom tag before all after) list.are_steps are in
    let last : AreStepsApart tag before after ((look ∷ list.senses) ++ ending) (leave ∷ []) =
    steps_apart tag before after ((look ∷ list.senses) ++ ending) (leave ∷ []) whole in
    let middle : AreStepsApart tag before last.between (look ∷ list.senses) ending =
    steps_apart tag before last.between (look ∷ list.senses) ending last.first in
    let at : position_of look ≡ length before = ap (λ (past : List Entry). length past) middle.first.0 in
    let opened : HasOnlyLook (length before) (open_looks (look.entry ∷ before)) =
    subst (λ (looks : List (Tag × Look)). HasOnlyLook (length before)
    (looks_after (length before) look.entry.tag look.entry.kind looks)) (sym none)
    (opens_look (length before) look.entry.tag look.entry.kind list.finds_page) in
    let still : open_looks last.between ≡ open_looks (look.entry ∷ before) =
    quiet_steps tag middle.between last.between ending quiet middle.second
    ∙ quiet_steps tag (look.entry ∷ before) middle.between list.senses
    (senses_are_quiet (position_of look) list.senses list.are_senses) middle.first.2 in
    ap open_looks (sym last.second.2)
    ∙ ends_look (length before) (length last.between) leave.entry.tag leave.entry.kind (open_looks last.between)
    (subst (HasOnlyLook (length before)) (sym still) opened)
    (subst (λ (n : ℕ). is_leave_of n leave.entry.kind ≡ true) at list.is_left)

-- copies, reads and refreshes
copy_closes : (ladder : List Entry → ℕ → LadderState) (base : ChannelBase) (tag : Tag) (before after : List Entry)
    (ends fault : Bool) → IsSerialCopy ladder base tag before after ends fault → HasNoLook before → HasNoLook after
copy_closes ladder base tag before after ends fault copy none =
    let made = copy.is_copy.is_copy in
    list_closes tag before after copy.steps copy.is_copy.look (made.ending ∷ []) made.leave made.is_list
    (rw (end_is_quiet made.ending.entry.kind (copy_ends ladder (position_of copy.is_copy.look) made.ending made.ends)) refl)
    copy.are_steps none

lone_closes : (tag : Tag) (row : ℕ) (before after : List Entry) (steps : List CallStep) → is_lone_look row steps ≡ true →
    AreStepsFrom tag before steps after → HasNoLook before → HasNoLook after
lone_closes tag row before after [] lone are none = absurd (false≢true lone)
lone_closes tag row before after (step ∷ []) lone are none =
    quiet_steps tag before after (step ∷ []) (rw
    (none_is_quiet step.entry.kind (and_parts (is_look_of_none step.entry.kind) _ lone).0) refl) are ∙ none
lone_closes tag row before after (step ∷ next ∷ steps) lone are none = absurd (false≢true lone)

read_end_is_quiet : (ladder : List Entry → ℕ → LadderState) (at : ℕ) (ending : List CallStep) (leave : CallStep) →
    is_read_end ladder at ending leave ≡ true → list_all (λ step. is_quiet step.entry.kind) ending ≡ true
read_end_is_quiet ladder at [] leave ends = refl
read_end_is_quiet ladder at (step ∷ []) leave ends = rw (fault_is_quiet at step.entry.kind ends) refl
read_end_is_quiet ladder at (step ∷ next ∷ steps) leave ends = absurd (false≢true ends)

refresh_end_is_quiet : (ladder : List Entry → ℕ → LadderState) (at : ℕ) (ending : List CallStep) (leave : CallStep) →
    is_refreshed ladder at ending leave ≡ true → list_all (λ step. is_quiet step.entry.kind) ending ≡ true
refresh_end_is_quiet ladder at [] leave ends = refl
refresh_end_is_quiet ladder at (step ∷ []) leave ends =
    rw (end_is_quiet step.entry.kind (refresh_ends ladder at step ends)) refl
refresh_end_is_quiet ladder at (step ∷ next ∷ steps) leave ends = absurd (false≢true ends)

read_closes : (ladder : List Entry → ℕ → LadderState) (tag : Tag) (row : ℕ) (before after : List Entry)
    (steps : List CallStep) → IsRead ladder row steps → AreStepsFrom tag before steps after → HasNoLook before → HasNoLook after
read_closes ladder tag row before after steps (inl lone) are none = lone_closes tag row before after steps lone are none
read_closes ladder tag row before after steps (inr page) are none =
    list_closes tag before after steps page.look page.ending page.leave page.is_list
    (read_end_is_quiet ladder (position_of page.look) page.ending page.leave page.ends) are none

pub refresh_closes : (ladder : List Entry → ℕ → LadderState) (tag : Tag) (row : ℕ) (before after : List Entry)
    (steps : List CallStep) → IsRefresh ladder row steps → AreStepsFrom tag before steps after → HasNoLook before →
    HasNoLook after
refresh_closes ladder tag row before after steps (inl lone) are none = lone_closes tag row before after steps lone are none
refresh_closes ladder tag row before after steps (inr page) are none =
    list_closes tag before after steps page.look page.ending page.leave page.is_list
    (refresh_end_is_quiet ladder (position_of page.look) page.ending page.leave page.ends) are none

one_closes : (test : Kind → Bool) → ((kind : Kind) → test kind ≡ true → is_quiet kind ≡ true) →
    (tag : Tag) (before after : List Entry) (steps : List CallStep) → is_one test steps ≡ true →
    AreStepsFrom tag before steps after → HasNoLook before → HasNoLook after
one_closes test quiet tag before after [] one are none = absurd (false≢true one)
one_closes test quiet tag before after (step ∷ []) one are none =
    quiet_steps tag before after (step ∷ []) (rw (quiet step.entry.kind one) refl) are ∙ none
one_closes test quiet tag before after (step ∷ next ∷ steps) one are none = absurd (false≢true one)

-- rounds, writes and collects
module _ (ladder : List Entry → ℕ → LadderState) (base : ChannelBase) (tag : Tag) where
  copies_close : {before after : List Entry} {end : RoundEnd} → SerialCopies ladder base tag before after end →
      HasNoLook before → HasNoLook after
  copies_close {before} (goes_on {between = between} copy rest) none =
      copies_close rest (copy_closes ladder base tag before between false false copy none)
  copies_close {before} {after} (stays copy) none = copy_closes ladder base tag before after true false copy none
  copies_close {before} {after} (copy_faults copy) none = copy_closes ladder base tag before after true true copy none
  copies_close (erases victim live) none = none
  copies_close (retires victim live) none = none
  copies_close (erase_faults victim live) none = none
  copies_close (finds_none victim) none = none

  round_closes : {before after : List Entry} {end : RoundEnd} → SerialRound ladder base tag before after end →
      HasNoLook before → HasNoLook after
  round_closes (picks may copying) none = copies_close copying none
  round_closes (takes may_not copying) none = copies_close copying none

  write_closes : (row : ℕ) {before after : List Entry} → SerialWrite ladder base tag row before after → HasNoLook before →
      HasNoLook after
  write_closes row (writes room) none = none
  write_closes row (write_faults room) none = none
  write_closes row (writes_again room rest) none = write_closes row rest none
  write_closes row (is_refused room cause) none = none
  write_closes row (makes_room needs round goes rest) none = write_closes row rest (round_closes round none)
  write_closes row (round_faults needs round) none = round_closes round none

  note_closes : (note : Kind) (past : List Entry) → is_note note ≡ true → HasNoLook past → HasNoLook (entry_of tag note ∷ past)
  note_closes note past is none = quiet_keeps (length past) tag note (open_looks past) (note_is_quiet note is) ∙ none

  collect_closes : {before after : List Entry} → SerialCollect ladder base tag before after → HasNoLook before → HasNoLook after
  collect_closes (decides round is) none = round_closes round none
  collect_closes (is_idle {between = between} {note = note} round is) none =
      note_closes note between (idle_is_note note is) (round_closes round none)
  collect_closes (collects_again {between = between} {note = note} round is not_idle rest) none =
      collect_closes rest (note_closes note between is (round_closes round none))

-- no channel has an open look
abbrev pub HaveNoLook : List ChannelRun → Type 0
HaveNoLook runs = All (λ run. HasNoLook run.past) runs

channel_closes : (channel : ℕ) (fact : ChannelRun → List Entry → List Entry → Type 0) →
    ((run : ChannelRun) (before after : List Entry) → fact run before after → HasNoLook before → HasNoLook after) →
    (before after : SerialState) → OnChannel channel fact before after → HaveNoLook before.channels → HaveNoLook after.channels
channel_closes channel fact closes before after on none =
    subst HaveNoLook (sym (ap (λ (state : SerialState). state.channels) on.after_is))
    (All-set (λ (run : ChannelRun). HasNoLook run.past) before.channels channel
    (record { start = on.run.start; past = on.past })
    (closes on.run on.run.past on.past on.holds
    (all_at (λ (run : ChannelRun). HasNoLook run.past) before.channels channel on.run none on.is_there))
    none)

module _ (contents : List (Tag × List ℕ)) (channels : ℕ) (tag : Tag) where
  drained_closes : (page : ℕ) (before after : SerialState) (fault : Bool) →
      DrainedRefresh contents channels tag page before after fault → HaveNoLook before.channels → HaveNoLook after.channels
  drained_closes page before after fault one none =
      subst HaveNoLook (sym (ap (λ (state : SerialState). state.channels) one.after_is))
      (All-set (λ (run : ChannelRun). HasNoLook run.past) before.channels (page % channels)
      (record { start = one.run.start; past = one.past })
      (refresh_closes (ladder_in contents one.run) tag
      (page / channels) one.run.past one.past one.steps one.is_refresh one.are_steps
      (all_at (λ (run : ChannelRun). HasNoLook run.past) before.channels (page % channels) one.run none one.is_there))
      none)

  drain_closes : {count : ℕ} {pages : List ℕ} {before after : SerialState} →
      SerialDrain contents channels tag count pages before after → HaveNoLook before.channels → HaveNoLook after.channels
  drain_closes has_taken_all none = none
  drain_closes (finds_no_hint is) none = none
  drain_closes {before = before} (takes_hint {page = page} {rest = rest} {between = between} is first later) none =
      drain_closes later (drained_closes page (without_hint rest before) between false first none)
  drain_closes {before = before} {after = after} (faults {page = page} {rest = rest} is last) none =
      drained_closes page (without_hint rest before) after true last none

  call_closes : (reply : Reply) (verb : Verb) (before after : SerialState) →
      SerialCall contents channels tag reply verb before after → HaveNoLook before.channels → HaveNoLook after.channels
  call_closes reply (Verb.Write page content) before after on none =
      channel_closes (page % channels) (λ run. SerialWrite (ladder_in contents run) run.start.base tag (page / channels))
      (λ run older newer made. write_closes (ladder_in contents run) run.start.base tag (page / channels) made) before after on
      none
  call_closes reply (Verb.Read page) before after read none =
      subst HaveNoLook
      (sym (ap (λ (state : SerialState). state.channels) read.after_is
      ∙ read_keeps contents channels tag page read.between))
      (channel_closes (page % channels) (λ run. HasForm (IsRead (ladder_in contents run) (page / channels)) tag)
      (λ run older newer made. read_closes (ladder_in contents run) tag
      (page / channels) older newer made.steps made.has_form made.are_steps) before read.between read.reads none)
  call_closes reply (Verb.Trim page) before after on none =
      channel_closes (page % channels) (λ run. HasForm (λ steps. IsTrue (is_one (is_trim_of (page / channels)) steps)) tag)
      (λ run older newer made. one_closes (is_trim_of (page / channels))
      (trim_is_quiet (page / channels)) tag older newer made.steps made.has_form made.are_steps) before after on none
  call_closes reply (Verb.Refresh page) before after on none =
      channel_closes (page % channels) (λ run. HasForm (IsRefresh (ladder_in contents run) (page / channels)) tag)
      (λ run older newer made. refresh_closes (ladder_in contents run) tag
      (page / channels) older newer made.steps made.has_form made.are_steps) before after on none
  call_closes reply (Verb.Collect channel) before after on none =
      channel_closes channel (λ run. SerialCollect (ladder_in contents run) run.start.base tag)
      (λ run older newer made. collect_closes (ladder_in contents run) run.start.base tag made) before after on none
  call_closes reply (Verb.Drain count) before after drain none = drain_closes drain none
  call_closes reply (Verb.Age channel die sb amount) before after on none =
      channel_closes channel (λ run. HasForm (λ steps. IsTrue (is_one (is_age_of die sb amount) steps)) tag)
      (λ run older newer made. one_closes (is_age_of die sb amount)
      (age_is_quiet die sb amount) tag older newer made.steps made.has_form made.are_steps) before after on none

calls_close : (contents : List (Tag × List ℕ)) (replies : List (List Reply))
    (channels : ℕ) {calls : List TraceCall} {before after : SerialState} →
    AreServed contents replies channels calls before after → HaveNoLook before.channels → HaveNoLook after.channels
calls_close contents replies channels none_left none = none
calls_close contents replies channels {before = before}
    (serves {call = call} {reply = reply} {between = between} is made rest) none =
    calls_close contents replies channels rest (call_closes contents channels call.tag reply call.verb before between made none)

first_have_none : (starts : List Start) → HaveNoLook (map (λ start. record { start = start; past = [] }) starts)
first_have_none [] = All-nil (λ (run : ChannelRun). HasNoLook run.past)
first_have_none (start ∷ starts) =
    All-cons (λ (run : ChannelRun). HasNoLook run.past) (record { start = start; past = [] })
    (map (λ start. record { start = start; past = [] }) starts) refl
    (first_have_none starts)

pub serial_calls_leave_looks : SerialCallsLeaveLooks
serial_calls_leave_looks contents starts calls replies after served =
    calls_close contents replies (length starts) served (first_have_none starts)
