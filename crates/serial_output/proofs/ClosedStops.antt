-- Where a run stopped in a call no look is open: a call that makes no rounds has no entry then, one with rounds was cut outside
-- its looks, and each refresh that a drain made is whole.
use Rattle.std.proofs.Common.{ℕ, ◌≡◌, ◌%◌, ◌/◌, Bool, false, List, [], length, not, sym, ap, subst, ◌∙◌}
use Rattle.std.specs.Prelude.{All, IsTrue}
use Rattle.std.specs.List.{list_all}
use Rattle.std.proofs.lemmas.List.Elements.{All-set, All-weaker}
use Rattle.std.proofs.lemmas.List.Sums.{list_all-from_AllPass}
use Rattle.ssd_histories.specs.CallSteps.{CallStep}
use Rattle.ssd_histories.specs.CallsInOrder.{ChannelRun, is_age_of, is_left, is_trim_of, ladder_in}
use Rattle.ssd_histories.specs.Copies.{IsRead, IsRefresh}
use Rattle.ssd_histories.specs.History.{is_same_tag, open_looks}
use Rattle.ssd_histories.specs.HistoryRoom.{has_look_room, has_step_room}
use Rattle.ssd_histories.specs.Rounds.{is_one}
use Rattle.ssd_histories.specs.SerialCalls.{SerialCollect, SerialWrite}
use Rattle.ssd_histories.specs.SerialHistory.{DrainedRefresh, HasForm, OnChannel, SerialState, with_past, without_hint}
use Rattle.ssd_histories.specs.SerialStop.{IsCutOn, SerialCut, SerialDrainCut, stops, takes}
use Rattle.ssd_geo.specs.declared.entry.Entry.{Entry}
use Rattle.ssd_geo.specs.declared.tag.Tag.{Tag}
use Rattle.ssd_geo.specs.declared.trace.Verb.{Verb}
use Rattle.run_laws.specs.Runs.{channels_of, data_in}
use Rattle.run_laws.specs.SerialRuns.{state_of}
use Rattle.run_laws.proofs.SerialHeadline.{serial_stops_hold}
use Rattle.serial_laws.proofs.CutCalls.{cut_opens_none, of_collect, of_write}
use Rattle.serial_laws.proofs.LeftLooks.{refresh_closes, serial_calls_leave_looks}
use Rattle.serial_laws.proofs.OrderedCalls.{serial_stops_are_in_order}
use Rattle.serial_output.specs.StoppedLooks.{SerialStopsLeaveLooks, StoppedCallsAreInOrder, StoppedRunsHold}
use Rattle.serial_output.proofs.CutSteps.{IsOpening, age_asks, one_opens, read_opens, refresh_opens, trim_asks}
use Rattle.serial_output.proofs.SameStops.{CutBy, cut_there, form_cut}
use Rattle.shared_lemmas.proofs.Lists.{all_at}

-- no look is open on a channel
abbrev IsClosed : ChannelRun → Type 0
IsClosed run = open_looks run.past ≡ []

-- a channel came to another past without open looks, and so none is open on any
set_leaves : (channel : ℕ) (run : ChannelRun) (past : List Entry) (before after : SerialState) →
    after ≡ with_past channel past run before → open_looks past ≡ [] → All IsClosed before.channels →
    All IsClosed after.channels
set_leaves channel run past before after is none all =
    subst (All IsClosed) (sym (ap (λ (state : SerialState). state.channels) is))
    (All-set IsClosed before.channels channel (record { start = run.start; past = past }) none all)

-- so it is after a cut that leaves none open
cut_leaves : (channel named entries : ℕ) (fact : ChannelRun → List Entry → List Entry → Type 0) →
    ((run : ChannelRun) (now : List Entry) → CutBy fact run run.past now → open_looks run.past ≡ [] → open_looks now ≡ []) →
    (before after : SerialState) → IsCutOn channel named entries fact before after → All IsClosed before.channels →
    All IsClosed after.channels
cut_leaves channel named entries fact leaves before after cut all =
    let on : OnChannel channel (CutBy fact) before after = cut_there channel named entries fact before after cut in
    set_leaves channel on.run on.past before after on.after_is
    (leaves on.run on.past on.holds (all_at IsClosed before.channels channel on.run all on.is_there)) all

-- a call that has a form has no entry where it was cut
form_leaves : (channel named entries : ℕ) (form : ChannelRun → List CallStep → Type 0) (tag : Tag)
    (room : ℕ → List Entry → Bool) →
    ((run : ChannelRun) (steps : List CallStep) → form run steps → IsOpening (room run.start.limit) run.start.limit steps) →
    (before after : SerialState) → IsCutOn channel named entries (λ run. HasForm (form run) tag) before after →
    All IsClosed before.channels → All IsClosed after.channels
form_leaves channel named entries form tag room opens before after cut all =
    cut_leaves channel named entries (λ run. HasForm (form run) tag)
    (λ run now one none.
    ap open_looks
    (form_cut (form run) tag (room run.start.limit) run.start.limit (length now) run.past now (opens run) one).same_past
    ∙ none)
    before after cut all

module _ (contents : List (Tag × List ℕ)) (channels : ℕ) (tag : Tag) (named entries : ℕ) where
  drained_leaves : (page : ℕ) (before after : SerialState) → DrainedRefresh contents channels tag page before after false →
      All IsClosed before.channels → All IsClosed after.channels
  drained_leaves page before after one all =
      set_leaves (page % channels) one.run one.past before after one.after_is
      (refresh_closes (ladder_in contents one.run) tag (page / channels) one.run.past one.past one.steps one.is_refresh
      one.are_steps (all_at IsClosed before.channels (page % channels) one.run all one.is_there)) all

  drain_leaves : {count : ℕ} {before after : SerialState} →
      SerialDrainCut contents channels tag named entries count before after → All IsClosed before.channels →
      All IsClosed after.channels
  drain_leaves (stops is on full) all = all
  drain_leaves {before = before} (takes {page = page} {rest = rest} {between = between} is one more) all =
      drain_leaves more (drained_leaves page (without_hint rest before) between one all)

  call_leaves : (verb : Verb) (before after : SerialState) →
      SerialCut contents channels named entries tag verb before after → All IsClosed before.channels →
      All IsClosed after.channels
  call_leaves (Verb.Write page content) before after cut all =
      cut_leaves (page % channels) named entries
      (λ run. SerialWrite (ladder_in contents run) run.start.base tag (page / channels))
      (λ run now one none.
      cut_opens_none tag (SerialWrite (ladder_in contents run) run.start.base tag (page / channels))
      (λ older newer written. of_write (ladder_in contents run) run.start.base tag written) run.start.limit run.past now one
      none)
      before after cut all
  call_leaves (Verb.Read page) before after cut all =
      form_leaves (page % channels) named entries (λ run. IsRead (ladder_in contents run) (page / channels)) tag has_look_room
      (λ run. read_opens run.start.limit (ladder_in contents run) (page / channels)) before after cut all
  call_leaves (Verb.Trim page) before after cut all =
      form_leaves (page % channels) named entries (λ run steps. IsTrue (is_one (is_trim_of (page / channels)) steps)) tag
      has_step_room
      (λ run. one_opens run.start.limit (is_trim_of (page / channels)) (trim_asks run.start.limit (page / channels))) before
      after cut all
  call_leaves (Verb.Refresh page) before after cut all =
      form_leaves (page % channels) named entries (λ run. IsRefresh (ladder_in contents run) (page / channels)) tag
      has_look_room
      (λ run. refresh_opens run.start.limit (ladder_in contents run) (page / channels)) before after cut all
  call_leaves (Verb.Collect channel) before after cut all =
      cut_leaves channel named entries (λ run. SerialCollect (ladder_in contents run) run.start.base tag)
      (λ run now one none.
      cut_opens_none tag (SerialCollect (ladder_in contents run) run.start.base tag)
      (λ older newer collected. of_collect (ladder_in contents run) run.start.base tag collected) run.start.limit run.past now
      one none)
      before after cut all
  call_leaves (Verb.Drain count) before after cut all = drain_leaves cut all
  call_leaves (Verb.Age channel die sb amount) before after cut all =
      form_leaves channel named entries (λ run steps. IsTrue (is_one (is_age_of die sb amount) steps)) tag has_step_room
      (λ run. one_opens run.start.limit (is_age_of die sb amount) (age_asks run.start.limit die sb amount)) before after cut all

pub serial_stops_leave_looks : SerialStopsLeaveLooks
serial_stops_leave_looks contents starts calls replies named entries after stop =
    call_leaves contents (length starts) stop.call.tag named entries stop.call.verb stop.before after stop.is_cut
    (serial_calls_leave_looks contents starts stop.served replies stop.before stop.are_served)

-- none of a call's then
none_left_open : (tag : Tag) (runs : List ChannelRun) → All IsClosed runs → IsTrue (list_all (is_left tag) runs)
none_left_open tag runs all =
    list_all-from_AllPass (is_left tag) runs
    (All-weaker IsClosed (λ (run : ChannelRun). IsTrue (is_left tag run))
    (λ run none.
    ap (list_all (λ open_look. not (is_same_tag tag open_look.0))) none)
    runs all)

pub stopped_calls_are_in_order : StoppedCallsAreInOrder
stopped_calls_are_in_order contents starts actors calls replies named entries after numbered stop =
    serial_stops_are_in_order contents starts actors calls replies named entries after stop numbered
    (none_left_open stop.call.tag after.channels
    (serial_stops_leave_looks contents starts calls replies named entries after stop))

pub stopped_runs_hold : StoppedRunsHold
stopped_runs_hold head run channel entries ended has_calls hold =
    serial_stops_hold head run channel entries ended has_calls hold
    (none_left_open ended.is_stop.call.tag (channels_of run)
    (serial_stops_leave_looks (data_in head run) run.starts run.calls.calls run.replies channel entries
    (state_of run ended.hints) ended.is_stop))
