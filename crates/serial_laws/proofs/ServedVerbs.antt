-- A call of any verb that is served alone is whole, and one that was cut is begun; either adds entries of its own alone.
use Rattle.std.proofs.Common.{ℕ, ◌≡◌, ◌≤◌, ◌/◌, ◌%◌, Bool, true, false, List, [], ◌∷◌, length, refl, sym, ap, subst, ◌∙◌, arith}
use Rattle.std.specs.Prelude.{◌==◌, IsTrue}
use Rattle.std.specs.List.{list_all}
use Rattle.std.proofs.lemmas.Bool.{false≢true}
use Rattle.std.proofs.lemmas.List.Sums.{count_by-le-length}
use Rattle.ssd_histories.specs.CallSteps.{CallStep, is_fault}
use Rattle.ssd_histories.specs.CallsInOrder.{AreCallSteps, ChannelRun, IsBegun, IsWhole, OnOwnChannel, TookAtMost, is_age_of, is_left, is_trim_of, ladder_in}
use Rattle.ssd_geo.specs.Coding.{coding_of}
use Rattle.ssd_histories.specs.Copies.{IsRead, IsRefresh}
use Rattle.ssd_geo.specs.Ladder.{LadderState}
use Rattle.ssd_histories.specs.PastPages.{ladder_of}
use Rattle.ssd_histories.specs.Rounds.{IsCollect, IsWrite, is_one}
use Rattle.ssd_histories.specs.SerialCalls.{SerialCollect, SerialWrite}
use Rattle.ssd_histories.specs.SerialHistory.{HasForm, OnChannel, SerialCall, SerialState, after_read, is_hint, reply_of_read, with_hint}
use Rattle.ssd_histories.specs.SerialHistory.{most_hints}
use Rattle.ssd_histories.specs.SerialStop.{IsCutOn, SerialCut}
use Rattle.ssd_histories.specs.Start.{Start}
use Rattle.ssd_geo.specs.declared.entry.Entry.{Entry}
use Rattle.ssd_geo.specs.declared.kind.Kind.{Kind}
use Rattle.ssd_geo.specs.declared.reply.Reply.{Reply}
use Rattle.ssd_geo.specs.declared.tag.Tag.{Tag}
use Rattle.ssd_geo.specs.declared.trace.TraceCall.{TraceCall}
use Rattle.ssd_geo.specs.declared.trace.Verb.{Verb}
use Rattle.std.specs.Prelude.{nat_lt}
use Rattle.serial_laws.proofs.Lists.{Pairwise}
use Rattle.serial_laws.proofs.LookLists.{by_kind, read_has_one_fault, refresh_has_one_fault}
use Rattle.serial_laws.proofs.MadeCalls.{HasNoSteps, IsChannelCut, IsChannelMade, IsFormMade, IsGrownRun, channel_is_begun, channel_is_cut, channel_is_made, channel_is_whole, runs_grow}
use Rattle.serial_laws.proofs.MadeCollects.{IsCollectMade, collect_is_made}
use Rattle.serial_laws.proofs.MadeDrains.{IsDrainMade, drain_is_begun, drain_is_cut, drain_is_made, drain_is_whole, drained_grow}
use Rattle.serial_laws.proofs.MadeSteps.{faults_in}
use Rattle.serial_laws.proofs.MadeWrites.{IsWriteMade, write_is_made}

-- the ladders of a channel with a start
abbrev ladder_at : List (Tag × List ℕ) → Start → List Entry → ℕ → LadderState
ladder_at contents start = ladder_of (coding_of start.base) start contents

-- the form of the steps of a call of each verb but a drain, on its own channel
abbrev WriteForm : List (Tag × List ℕ) → ℕ → Start → List CallStep → Type 0
WriteForm contents row start steps = IsWrite (ladder_at contents start) start.base row steps

abbrev ReadForm : List (Tag × List ℕ) → ℕ → Start → List CallStep → Type 0
ReadForm contents row start steps = IsRead (ladder_at contents start) row steps

abbrev RefreshForm : List (Tag × List ℕ) → ℕ → Start → List CallStep → Type 0
RefreshForm contents row start steps = IsRefresh (ladder_at contents start) row steps

abbrev CollectForm : List (Tag × List ℕ) → Start → List CallStep → Type 0
CollectForm contents start steps = IsCollect (ladder_at contents start) start.base steps

abbrev OneForm : (Kind → Bool) → Start → List CallStep → Type 0
OneForm test start steps = IsTrue (is_one test steps)

one_is_few : (test : Kind → Bool) (steps : List CallStep) → is_one test steps ≡ true → faults_in steps ≤ 1
one_is_few test [] is = absurd (false≢true is)
one_is_few test (step ∷ []) is = let most = count_by-le-length (by_kind is_fault) (step ∷ []) in omega (arith, most)
one_is_few test (step ∷ next ∷ steps) is = absurd (false≢true is)

-- the steps that a call made have its form
from_form : (form : List CallStep → Type 0) → ((steps : List CallStep) → form steps → faults_in steps ≤ 1) →
    (tag : Tag) (before after : List Entry) → HasForm form tag before after → IsFormMade form tag before after
from_form form few tag before after made = record {
  steps = made.steps;
  are_steps = made.are_steps;
  has_form = made.has_form;
  one_fault = few made.steps made.has_form;
}

writes_form : (contents : List (Tag × List ℕ)) (tag : Tag) (row : ℕ) (run : ChannelRun) (before after : List Entry) →
    SerialWrite (ladder_in contents run) run.start.base tag row before after →
    IsFormMade (WriteForm contents row run.start) tag before after
writes_form contents tag row run before after write =
    let made : IsWriteMade (ladder_in contents run) run.start.base tag row before after =
    write_is_made (ladder_in contents run) run.start.base tag row write in
    record { steps = made.steps; are_steps = made.are_steps; has_form = made.is_write; one_fault = made.one_fault }

collects_form : (contents : List (Tag × List ℕ)) (tag : Tag) (run : ChannelRun) (before after : List Entry) →
    SerialCollect (ladder_in contents run) run.start.base tag before after →
    IsFormMade (CollectForm contents run.start) tag before after
collects_form contents tag run before after collect =
    let made : IsCollectMade (ladder_in contents run) run.start.base tag before after =
    collect_is_made (ladder_in contents run) run.start.base tag collect in
    record { steps = made.steps; are_steps = made.are_steps; has_form = made.is_collect; one_fault = made.one_fault }

reads_form : (contents : List (Tag × List ℕ)) (tag : Tag) (row : ℕ) (run : ChannelRun) (before after : List Entry) →
    HasForm (IsRead (ladder_in contents run) row) tag before after →
    IsFormMade (ReadForm contents row run.start) tag before after
reads_form contents tag row run before after made =
    from_form (IsRead (ladder_in contents run) row) (read_has_one_fault (ladder_in contents run) row) tag before after made

refreshes_form : (contents : List (Tag × List ℕ)) (tag : Tag) (row : ℕ) (run : ChannelRun) (before after : List Entry) →
    HasForm (IsRefresh (ladder_in contents run) row) tag before after →
    IsFormMade (RefreshForm contents row run.start) tag before after
refreshes_form contents tag row run before after made =
    from_form (IsRefresh (ladder_in contents run) row)
    (refresh_has_one_fault (ladder_in contents run) row) tag before after made

one_form : (test : Kind → Bool) (tag : Tag) (run : ChannelRun) (before after : List Entry) →
    HasForm (λ steps. IsTrue (is_one test steps)) tag before after → IsFormMade (OneForm test run.start) tag before after
one_form test tag run before after made = from_form (λ steps. IsTrue (is_one test steps))
    (one_is_few test) tag before after made

-- a call was made: it added entries of its own, and is whole
pub record IsCallMade (contents : List (Tag × List ℕ)) (call : TraceCall) (before after : List ChannelRun) : Type 0 where
  pub runs : Pairwise (IsGrownRun call.tag) before after
  pub is_whole : IsWhole contents after call

-- a call was cut: it added entries of its own, and is begun where each of its looks has its leave
pub record IsCallCut (contents : List (Tag × List ℕ)) (call : TraceCall) (before after : List ChannelRun) : Type 0 where
  pub runs : Pairwise (IsGrownRun call.tag) before after
  pub is_begun : IsTrue (list_all (is_left call.tag) after) → IsBegun contents after call

-- the push of a page leaves the channels as they are
hint_keeps : (page : ℕ) (state : SerialState) → (with_hint page state).channels ≡ state.channels
hint_keeps page state = by_test (nat_lt (length state.hints) most_hints) refl
  where
    by_test : (b : Bool) → nat_lt (length state.hints) most_hints ≡ b → (with_hint page state).channels ≡ state.channels
    by_test true e = rw (e, with_hint) refl
    by_test false e = rw (e, with_hint) refl

pub read_keeps : (contents : List (Tag × List ℕ)) (channels : ℕ) (tag : Tag) (page : ℕ) (state : SerialState) →
    (after_read contents channels tag page state).channels ≡ state.channels
read_keeps contents channels tag page state = by_test (is_hint (reply_of_read contents (page % channels) tag state)) refl
  where
    by_test : (b : Bool) → is_hint (reply_of_read contents (page % channels) tag state) ≡ b →
        (after_read contents channels tag page state).channels ≡ state.channels
    by_test true e = rw (e, after_read) (hint_keeps page state)
    by_test false e = rw (e, after_read) refl

module _ (contents : List (Tag × List ℕ)) (channels : ℕ) (tag : Tag) (before : SerialState)
    (many : length before.channels ≡ channels) (none : HasNoSteps tag before.channels) where
  -- a call on one channel
  module _ (channel : ℕ) (verb : Verb) (form : Start → List CallStep → Type 0)
      (fact : ChannelRun → List Entry → List Entry → Type 0)
      (of_verb : (i : ℕ) (run : ChannelRun) (steps : List CallStep) → OnOwnChannel (channel == i) (form run.start steps) steps →
      AreCallSteps contents channels (record { tag = tag; verb = verb }) (i, run) steps)
      (took : (taken : ℕ) → TookAtMost verb taken)
      (is_made : (run : ChannelRun) (older newer : List Entry) → fact run older newer →
      IsFormMade (form run.start) tag older newer)
      (after : SerialState) where
    on_one : OnChannel channel fact before after →
        IsCallMade contents (record { tag = tag; verb = verb }) before.channels after.channels
    on_one on =
        let made : IsChannelMade form channel tag [] before.channels after.channels =
        channel_is_made form fact tag channel is_made before after none on in
        record {
          runs = runs_grow contents channels channel
              (record { tag = tag; verb = verb }) form of_verb took before.channels after.channels many none [] made;
          is_whole = channel_is_whole contents channels channel
              (record { tag = tag; verb = verb }) form of_verb took before.channels after.channels many none [] made refl;
        }

    cut_on_one : (named entries : ℕ) → IsCutOn channel named entries fact before after →
        IsCallCut contents (record { tag = tag; verb = verb }) before.channels after.channels
    cut_on_one named entries on =
        let cut : IsChannelCut form channel tag before.channels after.channels =
        channel_is_cut form fact tag channel is_made entries before after none on.is_cut in
        record {
          runs = runs_grow contents channels channel
              (record { tag = tag; verb = verb }) form of_verb took before.channels after.channels many none cut.rest cut.made;
          is_begun = λ left.
              channel_is_begun contents channels channel
              (record { tag = tag; verb = verb }) form of_verb took before.channels after.channels many none cut.rest
              cut.made
              left;
        }

  pub call_is_made : (reply : Reply) (verb : Verb) (after : SerialState) →
      SerialCall contents channels tag reply verb before after →
      IsCallMade contents (record { tag = tag; verb = verb }) before.channels after.channels
  call_is_made reply (Verb.Write page content) after on =
      on_one (page % channels) (Verb.Write page content) (WriteForm contents (page / channels))
      (λ run. SerialWrite (ladder_in contents run) run.start.base tag (page / channels)) (λ i run steps held. held)
      (λ taken. tt)
      (writes_form contents tag (page / channels)) after on
  call_is_made reply (Verb.Read page) after read =
      subst (IsCallMade contents (record { tag = tag; verb = Verb.Read page }) before.channels)
      (sym (ap (λ (state : SerialState). state.channels) read.after_is ∙ read_keeps contents channels tag page read.between))
      (on_one (page % channels) (Verb.Read page) (ReadForm contents (page / channels))
      (λ run. HasForm (IsRead (ladder_in contents run) (page / channels)) tag) (λ i run steps held. held) (λ taken. tt)
      (reads_form contents tag (page / channels)) read.between read.reads)
  call_is_made reply (Verb.Trim page) after on =
      on_one (page % channels) (Verb.Trim page) (OneForm (is_trim_of (page / channels)))
      (λ run. HasForm (λ steps. IsTrue (is_one (is_trim_of (page / channels)) steps)) tag) (λ i run steps held. held)
      (λ taken. tt)
      (one_form (is_trim_of (page / channels)) tag) after on
  call_is_made reply (Verb.Refresh page) after on =
      on_one (page % channels) (Verb.Refresh page) (RefreshForm contents (page / channels))
      (λ run. HasForm (IsRefresh (ladder_in contents run) (page / channels)) tag) (λ i run steps held. held) (λ taken. tt)
      (refreshes_form contents tag (page / channels)) after on
  call_is_made reply (Verb.Collect channel) after on =
      on_one channel (Verb.Collect channel) (CollectForm contents)
      (λ run. SerialCollect (ladder_in contents run) run.start.base tag)
      (λ i run steps held. held) (λ taken. tt) (collects_form contents tag) after on
  call_is_made reply (Verb.Drain count) after drain =
      let made : IsDrainMade contents tag count before.channels after.channels = drain_is_made contents channels tag drain in
      record {
        runs = drained_grow contents tag count before.channels after.channels none made;
        is_whole = drain_is_whole contents tag count before.channels after.channels none made;
      }
  call_is_made reply (Verb.Age channel die sb amount) after on =
      on_one channel (Verb.Age channel die sb amount) (OneForm (is_age_of die sb amount))
      (λ run. HasForm (λ steps. IsTrue (is_one (is_age_of die sb amount) steps)) tag) (λ i run steps held. held) (λ taken. tt)
      (one_form (is_age_of die sb amount) tag) after on

  pub call_is_cut : (named entries : ℕ) (verb : Verb) (after : SerialState)
      → SerialCut contents channels named entries tag verb before after →
      IsCallCut contents (record { tag = tag; verb = verb }) before.channels after.channels
  call_is_cut named entries (Verb.Write page content) after on =
      cut_on_one (page % channels) (Verb.Write page content) (WriteForm contents (page / channels))
      (λ run. SerialWrite (ladder_in contents run) run.start.base tag (page / channels)) (λ i run steps held. held)
      (λ taken. tt)
      (writes_form contents tag (page / channels)) after named entries on
  call_is_cut named entries (Verb.Read page) after on =
      cut_on_one (page % channels) (Verb.Read page) (ReadForm contents (page / channels))
      (λ run. HasForm (IsRead (ladder_in contents run) (page / channels)) tag) (λ i run steps held. held) (λ taken. tt)
      (reads_form contents tag (page / channels)) after named entries on
  call_is_cut named entries (Verb.Trim page) after on =
      cut_on_one (page % channels) (Verb.Trim page) (OneForm (is_trim_of (page / channels)))
      (λ run. HasForm (λ steps. IsTrue (is_one (is_trim_of (page / channels)) steps)) tag) (λ i run steps held. held)
      (λ taken. tt)
      (one_form (is_trim_of (page / channels)) tag) after named entries on
  call_is_cut named entries (Verb.Refresh page) after on =
      cut_on_one (page % channels) (Verb.Refresh page) (RefreshForm contents (page / channels))
      (λ run. HasForm (IsRefresh (ladder_in contents run) (page / channels)) tag) (λ i run steps held. held) (λ taken. tt)
      (refreshes_form contents tag (page / channels)) after named entries on
  call_is_cut named entries (Verb.Collect channel) after on =
      cut_on_one channel (Verb.Collect channel) (CollectForm contents)
      (λ run. SerialCollect (ladder_in contents run) run.start.base tag)
      (λ i run steps held. held) (λ taken. tt) (collects_form contents tag) after named entries on
  call_is_cut named entries (Verb.Drain count) after drain =
      let made : IsDrainMade contents tag count before.channels after.channels = drain_is_cut contents channels tag drain in
      record {
        runs = drained_grow contents tag count before.channels after.channels none made;
        is_begun = λ left. drain_is_begun contents tag count before.channels after.channels none made left;
      }
  call_is_cut named entries (Verb.Age channel die sb amount) after on =
      cut_on_one channel (Verb.Age channel die sb amount) (OneForm (is_age_of die sb amount))
      (λ run. HasForm (λ steps. IsTrue (is_one (is_age_of die sb amount) steps)) tag) (λ i run steps held. held) (λ taken. tt)
      (one_form (is_age_of die sb amount) tag) after named entries on
