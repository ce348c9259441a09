-- A call that stops since its channel's history has no room for its next entry was cut: with some entries more it would be
-- whole. So the statement holds of a run that stopped there.
use Rattle.std.proofs.Common.{ℕ, ◌≡◌, ◌/◌, ◌%◌, true, false, not, List, [], ◌∷◌, ◌++◌, length, Some, refl, sym, ap, subst, ◌∙◌, inl}
use Rattle.std.specs.Prelude.{All, IsSomeAnd, IsTrue, slice_get, slice_set}
use Rattle.std.specs.List.{list_all}
use Rattle.std.proofs.lemmas.List.Elements.{All-set, All-weaker}
use Rattle.std.proofs.lemmas.List.Sums.{list_all-from_AllPass}
use Rattle.ssd_formats.specs.ImageHead.{Head}
use Rattle.ssd_geo.specs.Coding.{coding_of}
use Rattle.ssd_geo.specs.Ladder.{LadderState}
use Rattle.ssd_histories.specs.CallSteps.{CallStep}
use Rattle.ssd_histories.specs.CallsInOrder.{AreNumberedAfter, ChannelRun, OfRun, is_age_of, is_left, is_trim_of, ladder_in}
use Rattle.ssd_histories.specs.Copies.{IsRead, IsRefresh, is_lone_look}
use Rattle.ssd_histories.specs.History.{is_same_tag, open_looks}
use Rattle.ssd_histories.specs.HistoryRoom.{has_room_for}
use Rattle.ssd_histories.specs.Lawful.{IsLawful}
use Rattle.ssd_histories.specs.PastPages.{ladder_of}
use Rattle.ssd_histories.specs.Rounds.{is_one}
use Rattle.ssd_histories.specs.SerialCalls.{SerialCollect, SerialWrite, entry_of}
use Rattle.ssd_histories.specs.SerialHistory.{HasForm, SerialState, with_past}
use Rattle.ssd_histories.specs.SerialStop.{HasNoLookRoom, IsCut, IsCutOn, SerialCut, SerialDrainCut, stops as cut_there, takes as takes_one}
use Rattle.ssd_histories.specs.Start.{Start}
use Rattle.ssd_geo.specs.declared.entry.Entry.{Entry}
use Rattle.ssd_geo.specs.declared.kind.Kind.{Kind}
use Rattle.ssd_geo.specs.declared.row.Row.{Row}
use Rattle.ssd_geo.specs.declared.tag.Tag.{Tag}
use Rattle.ssd_geo.specs.declared.trace.TraceCall.{TraceCall}
use Rattle.ssd_geo.specs.declared.trace.Verb.{Verb}
use Rattle.serial_laws.proofs.CutCalls.{cut_opens_none, of_collect, of_write}
use Rattle.serial_laws.proofs.LeftLooks.{serial_calls_leave_looks}
use Rattle.serial_laws.proofs.Lists.{Pairwise}
use Rattle.serial_laws.proofs.MadeCalls.{IsGrownRun}
use Rattle.serial_laws.proofs.ServedVerbs.{call_is_cut}
use Rattle.run_laws.specs.Headline.{IsStoppedRun}
use Rattle.run_laws.specs.Runs.{Run, channels_of, data_in, runs_with}
use Rattle.run_laws.specs.SerialRuns.{ChannelsHold, HasCalls, IsHeadlineOfStop, state_of}
use Rattle.run_laws.specs.ServedRuns.{HasLedTo, channel_of, served_with}
use Rattle.run_laws.specs.StoppedRuns.{HasNoRoomToLook, IsBeforeFirst, IsStoppedAs, IsStoppedBy, IsStoppedOnOne, StoppedCallsHold, StopsAt, StopsInDrain, goes_on, has_first_room, stops}
use Rattle.run_laws.proofs.ChangedRuns.{run_at, runs_as_many, runs_changed}
use Rattle.run_laws.proofs.DrainedCalls.{refresh_is_drained, refresh_is_lawful, refresh_leaves_looks}
use Rattle.run_laws.proofs.MadeCalls.{on_channel, one_step, run_of, same_Some}
use Rattle.run_laws.proofs.SerialHeadline.{serial_stops_hold}
use Rattle.run_laws.proofs.ServedFronts.{none_before, stop_is, stopped_call_is}
use Rattle.shared_lemmas.proofs.Lists.{all_at}
use Rattle.shared_lemmas.proofs.Tests.{same_number}

-- an entry that makes a call of a verb whole, where the call has no other
looks_alone : (tag : Tag) (row : ℕ) (past : List Entry) →
    is_lone_look row (one_step tag (Kind.Look row Row.Empty false) past) ≡ true
looks_alone tag row past = same_number row

trims_alone : (tag : Tag) (row : ℕ) (past : List Entry) →
    is_one (is_trim_of row) (one_step tag (Kind.Trim row) past) ≡ true
trims_alone tag row past = same_number row

ages_alone : (tag : Tag) (die sb amount : ℕ) (past : List Entry) →
    is_one (is_age_of die sb amount) (one_step tag (Kind.Age die sb amount) past) ≡ true
ages_alone tag die sb amount past = rw (same_number die, same_number sb, same_number amount) refl

-- a call that stopped leaves none of its looks open
stop_opens_none : (start : Start) (contents : List (Tag × List ℕ)) (channels : ℕ) (tag : Tag) (verb : Verb)
    (past now : List Entry) → IsStoppedBy start contents channels tag verb past now → open_looks past ≡ [] →
    open_looks now ≡ []
stop_opens_none start contents channels tag (Verb.Write page content) past now stopped none =
    let ladder : List Entry → ℕ → LadderState = ladder_of (coding_of start.base) start contents in
    cut_opens_none tag (SerialWrite ladder start.base tag (page / channels)) (λ older newer written. of_write ladder start.base tag written)
    start.limit past now stopped none
stop_opens_none start contents channels tag (Verb.Read page) past now stopped none = ap open_looks stopped.is_same ∙ none
stop_opens_none start contents channels tag (Verb.Trim page) past now stopped none = ap open_looks stopped.is_same ∙ none
stop_opens_none start contents channels tag (Verb.Refresh page) past now stopped none = ap open_looks stopped.is_same ∙ none
stop_opens_none start contents channels tag (Verb.Collect channel) past now stopped none =
    let ladder : List Entry → ℕ → LadderState = ladder_of (coding_of start.base) start contents in
    cut_opens_none tag (SerialCollect ladder start.base tag) (λ older newer collected. of_collect ladder start.base tag collected)
    start.limit past now stopped none
stop_opens_none start contents channels tag (Verb.Drain count) past now stopped none = absurd stopped
stop_opens_none start contents channels tag (Verb.Age channel die sb amount) past now stopped none =
    ap open_looks stopped.is_same ∙ none

-- a call was cut: with some entries more it would be whole, and the history has no room for the first of them
module _ (start : Start) (contents : List (Tag × List ℕ)) (channels channel : ℕ) (tag : Tag) (past : List Entry)
    (before : SerialState) (is : slice_get before.channels channel ≡ Some (run_of start past)) where
  -- the run after the cut call
  abbrev cut_off : List Entry → SerialState
  cut_off now = with_past channel now (run_of start past) before

  with_step : (form : ChannelRun → List CallStep → Type 0) (named : ℕ) (kind : Kind) →
      named ≡ channel → has_room_for start.limit past kind ≡ false →
      form (run_of start past) (one_step tag kind past) →
      IsCutOn named channel (length past) (λ run. HasForm (form run) tag) before (cut_off past)
  with_step form named kind on no_room has_form = record {
    is_named = sym on;
    is_cut =
        on_channel (λ run. IsCut (HasForm (form run) tag) run.start.limit (length past)) named channel
        (run_of start past) past before on is
        (record {
          made = [];
          next = entry_of tag kind;
          later = [];
          begins = refl;
          whole = record { steps = one_step tag kind past; are_steps = (refl, refl, refl); has_form = has_form };
          has_length = refl;
          no_room = no_room;
        });
  }

  -- before its first entry
  before_first : (form : ChannelRun → List CallStep → Type 0) (named : ℕ) (verb : Verb) (kind : Kind) (now : List Entry) →
      named ≡ channel → ((held : List Entry) → has_room_for start.limit held kind ≡ has_first_room start.limit held verb) →
      form (run_of start past) (one_step tag kind past) → IsBeforeFirst start.limit verb past now →
      IsCutOn named channel (length now) (λ run. HasForm (form run) tag) before (cut_off now)
  before_first form named verb kind now on asks has_form stopped =
      subst (λ (held : List Entry). IsCutOn named channel (length held) (λ run. HasForm (form run) tag) before (cut_off held))
      (sym stopped.is_same)
      (with_step form named kind on
      (asks past ∙ subst (λ (held : List Entry). has_first_room start.limit held verb ≡ false) stopped.is_same stopped.no_room) has_form)

  -- or wherever it was cut
  cut_short : (fact : ChannelRun → List Entry → List Entry → Type 0) (named : ℕ) (now : List Entry) → named ≡ channel →
      IsCut (fact (run_of start past)) start.limit (length now) past now →
      IsCutOn named channel (length now) fact before (cut_off now)
  cut_short fact named now on cut = record {
    is_named = sym on;
    is_cut =
        on_channel (λ run. IsCut (fact run) run.start.limit (length now)) named channel (run_of start past) now before on is
        cut;
  }

  is_cut_there : (verb : Verb) (now : List Entry) → channel_of channels verb ≡ Some channel →
      IsStoppedBy start contents channels tag verb past now →
      SerialCut contents channels channel (length now) tag verb before (cut_off now)
  is_cut_there (Verb.Write page content) now on stopped =
      cut_short (λ run. SerialWrite (ladder_in contents run) run.start.base tag (page / channels)) (page % channels) now
      (same_Some (page % channels) channel on) stopped
  is_cut_there (Verb.Collect named) now on stopped =
      cut_short (λ run. SerialCollect (ladder_in contents run) run.start.base tag) named now (same_Some named channel on) stopped
  is_cut_there (Verb.Read page) now on stopped =
      before_first (λ run. IsRead (ladder_in contents run) (page / channels)) (page % channels) (Verb.Read page)
      (Kind.Look (page / channels) Row.Empty false) now (same_Some (page % channels) channel on) (λ held. refl)
      (inl (looks_alone tag (page / channels) past)) stopped
  is_cut_there (Verb.Trim page) now on stopped =
      before_first (λ run steps. IsTrue (is_one (is_trim_of (page / channels)) steps)) (page % channels) (Verb.Trim page)
      (Kind.Trim (page / channels)) now (same_Some (page % channels) channel on) (λ held. refl)
      (trims_alone tag (page / channels) past) stopped
  is_cut_there (Verb.Age named die sb amount) now on stopped =
      before_first (λ run steps. IsTrue (is_one (is_age_of die sb amount) steps)) named (Verb.Age named die sb amount)
      (Kind.Age die sb amount) now (same_Some named channel on) (λ held. refl) (ages_alone tag die sb amount past) stopped
  is_cut_there (Verb.Refresh page) now on stopped =
      before_first (λ run. IsRefresh (ladder_in contents run) (page / channels)) (page % channels) (Verb.Refresh page)
      (Kind.Look (page / channels) Row.Empty false) now (same_Some (page % channels) channel on) (λ held. refl)
      (inl (looks_alone tag (page / channels) past)) stopped
  is_cut_there (Verb.Drain count) now on stopped = absurd stopped

-- a drain that stopped was cut, and leaves no look open
module _ (contents : List (Tag × List ℕ)) (starts : List Start) (tag : Tag) (channel entries : ℕ) where
  no_room_there : (pasts : List (List Entry)) → HasNoRoomToLook starts pasts channel entries →
      OfRun (runs_with starts pasts) channel (HasNoLookRoom entries)
  no_room_there pasts full =
      subst (λ option. IsSomeAnd option (HasNoLookRoom entries))
      (sym (run_at starts pasts channel full.start full.past full.has_start full.has_past))
      (record { has_length = full.has_length; no_room = full.no_room })

  drain_was_cut : (dropped : ℕ) {count : ℕ} {pasts now : List (List Entry)} {hints left : List ℕ} →
      StopsInDrain contents starts tag channel entries count pasts hints now left →
      SerialDrainCut contents (length starts) tag channel entries count (served_with starts pasts hints dropped)
      (served_with starts now left dropped)
  drain_was_cut dropped (stops {pasts = pasts} on full) = cut_there refl on (no_room_there pasts full)
  drain_was_cut dropped
      (goes_on {page = page} {reply = reply} {rest = rest} {pasts = pasts} {between = between} one none more) =
      takes_one refl (refresh_is_drained contents starts tag page reply pasts between one rest dropped false none)
      (drain_was_cut dropped more)

  cut_is_lawful : {count : ℕ} {pasts now : List (List Entry)} {hints left : List ℕ} →
      StopsInDrain contents starts tag channel entries count pasts hints now left →
      All (λ (run : ChannelRun). IsLawful run.start contents run.past) (runs_with starts pasts) →
      All (λ (run : ChannelRun). IsLawful run.start contents run.past) (runs_with starts now)
  cut_is_lawful (stops on full) lawful = lawful
  cut_is_lawful (goes_on {page = page} {reply = reply} {pasts = pasts} {between = between} one none more) lawful =
      cut_is_lawful more (refresh_is_lawful contents starts tag page reply pasts between one lawful)

  cut_leaves_looks : {count : ℕ} {pasts now : List (List Entry)} {hints left : List ℕ} →
      StopsInDrain contents starts tag channel entries count pasts hints now left →
      All (λ (run : ChannelRun). open_looks run.past ≡ []) (runs_with starts pasts) →
      All (λ (run : ChannelRun). open_looks run.past ≡ []) (runs_with starts now)
  cut_leaves_looks (stops on full) none = none
  cut_leaves_looks (goes_on {page = page} {reply = reply} {pasts = pasts} {between = between} one faultless more) none =
      cut_leaves_looks more (refresh_leaves_looks contents starts tag page reply pasts between one none)

-- a run that stopped in a call which was cut, and which leaves no look open
module _ (head : Head) (run : Run) (pasts : List (List Entry)) (hints left : List ℕ) (done rest : List TraceCall)
    (call : TraceCall) (channel entries : ℕ) (has_calls : HasCalls head run) (hold : ChannelsHold head run)
    (are : run.calls.calls ≡ done ++ call ∷ rest)
    (led : HasLedTo (data_in head run) run.starts run.calls.actors done run.replies pasts hints run.dropped) where
  abbrev before : SerialState
  before = served_with run.starts pasts hints run.dropped

  numbered : AreNumberedAfter run.calls.actors [] (done ++ call ∷ rest)
  numbered = subst (λ calls. AreNumberedAfter run.calls.actors [] calls) are has_calls.numbered

  none_open : All (λ (other : ChannelRun). open_looks other.past ≡ []) (runs_with run.starts pasts)
  none_open = serial_calls_leave_looks (data_in head run) run.starts done run.replies before led.has_served.is_serial.are_served

  module _ (cut : SerialCut (data_in head run) (length run.starts) channel entries call.tag call.verb before (state_of run left))
      (lawful : All (λ (other : ChannelRun). IsLawful other.start (data_in head run) other.past) (channels_of run))
      (closed : All (λ (other : ChannelRun). open_looks other.past ≡ []) (channels_of run)) where
    grown : Pairwise (IsGrownRun call.tag) (runs_with run.starts pasts) (channels_of run)
    grown =
        (call_is_cut (data_in head run) (length run.starts) call.tag before (runs_as_many run.starts pasts led.as_many)
        (none_before (data_in head run) run.starts run.calls.actors done rest call run.replies before numbered led.has_served)
        channel entries call.verb (state_of run left) cut).runs

    stopped : IsStoppedRun head run channel entries
    stopped = record {
      hints = left;
      is_stop =
          stop_is (data_in head run) run.starts run.calls.actors done rest call run.replies before numbered led.has_served channel
          entries run.calls.calls are (state_of run left) grown lawful cut;
    }

    left_after : IsTrue (list_all (is_left call.tag) (channels_of run))
    left_after =
        list_all-from_AllPass (is_left call.tag) (channels_of run)
        (All-weaker (λ (other : ChannelRun). open_looks other.past ≡ []) (λ (other : ChannelRun). is_left call.tag other ≡ true)
        (λ other none.
        subst (λ looks. list_all (λ open_look. not (is_same_tag call.tag open_look.0)) looks ≡ true) (sym none) refl)
        (channels_of run) closed)

    left_by_call : IsTrue (list_all (is_left stopped.is_stop.call.tag) (channels_of run))
    unfolding stopped
    left_by_call =
        subst (λ (other : TraceCall). list_all (is_left other.tag) (channels_of run) ≡ true)
        (sym (stopped_call_is (data_in head run) run.starts run.calls.actors done rest call run.replies before numbered
        led.has_served channel entries run.calls.calls are (state_of run left) grown lawful cut))
        left_after

    cut_holds : IsHeadlineOfStop head run channel entries
    cut_holds = record {
      headline = serial_stops_hold head run channel entries stopped has_calls hold left_by_call;
      is_stopped = stopped;
    }

  -- a call on one channel
  module _ (on : IsStoppedOnOne (data_in head run) run.starts call channel entries pasts hints run.pasts left) where
    abbrev at : StopsAt (data_in head run) run.starts pasts call channel entries on.past_now
    at = on.stops

    abbrev stopped_run : ChannelRun
    stopped_run = run_of at.start at.past

    is_run : slice_get before.channels channel ≡ Some stopped_run
    is_run = run_at run.starts pasts channel at.start at.past at.has_start at.has_past

    channels_are : slice_set (runs_with run.starts pasts) channel (run_of at.start on.past_now) ≡ channels_of run
    channels_are =
        sym (ap (runs_with run.starts) on.now_is ∙ runs_changed run.starts pasts channel at.start on.past_now at.has_start)

    one_cut : SerialCut (data_in head run) (length run.starts) channel entries call.tag call.verb before (state_of run left)
    one_cut =
        subst (SerialCut (data_in head run) (length run.starts) channel entries call.tag call.verb before)
        (λ i. record { channels = channels_are i; hints = sym on.left_is i; dropped = run.dropped })
        (subst (λ (n : ℕ). SerialCut (data_in head run) (length run.starts) channel n call.tag call.verb before
        (with_past channel on.past_now stopped_run before)) at.has_length
        (is_cut_there at.start (data_in head run) (length run.starts) channel call.tag at.past before is_run call.verb on.past_now
        at.is_channel at.is_stopped))

    -- what holds of the other channels before the call, and of this one now, holds of all
    in_run : (P : ChannelRun → Type 0) → P (run_of at.start on.past_now) → All P (runs_with run.starts pasts) →
        All P (channels_of run)
    in_run P here all =
        subst (All P) channels_are (All-set P (runs_with run.starts pasts) channel (run_of at.start on.past_now) here all)

    one_holds : IsHeadlineOfStop head run channel entries
    one_holds =
        cut_holds one_cut
        (in_run (λ (other : ChannelRun). IsLawful other.start (data_in head run) other.past) at.is_lawful
        led.has_served.is_serial.are_lawful)
        (in_run (λ (other : ChannelRun). open_looks other.past ≡ [])
        (stop_opens_none at.start (data_in head run) (length run.starts) call.tag call.verb at.past on.past_now at.is_stopped
        (all_at (λ (other : ChannelRun). open_looks other.past ≡ []) (runs_with run.starts pasts) channel stopped_run none_open
        is_run))
        none_open)

-- by the verb
module _ (head : Head) (run : Run) (pasts : List (List Entry)) (hints left : List ℕ) (done rest : List TraceCall)
    (tag : Tag) (channel entries : ℕ) (has_calls : HasCalls head run) (hold : ChannelsHold head run)
    (led : HasLedTo (data_in head run) run.starts run.calls.actors done run.replies pasts hints run.dropped) where
  on_one : (verb : Verb) → run.calls.calls ≡ done ++ record { tag = tag; verb = verb } ∷ rest →
      IsStoppedOnOne (data_in head run) run.starts (record { tag = tag; verb = verb }) channel entries pasts hints run.pasts left →
      IsHeadlineOfStop head run channel entries
  on_one verb are on =
      one_holds head run pasts hints left done rest (record { tag = tag; verb = verb }) channel entries has_calls hold are led on

  in_drain : (count : ℕ) → run.calls.calls ≡ done ++ record { tag = tag; verb = Verb.Drain count } ∷ rest →
      StopsInDrain (data_in head run) run.starts tag channel entries count pasts hints run.pasts left →
      IsHeadlineOfStop head run channel entries
  in_drain count are drain =
      let drained : TraceCall = record { tag = tag; verb = Verb.Drain count } in
      cut_holds head run pasts hints left done rest drained channel entries has_calls hold are led
      (drain_was_cut (data_in head run) run.starts tag channel entries run.dropped drain)
      (cut_is_lawful (data_in head run) run.starts tag channel entries drain led.has_served.is_serial.are_lawful)
      (cut_leaves_looks (data_in head run) run.starts tag channel entries drain
      (none_open head run pasts hints left done rest drained channel entries has_calls hold are led))

  by_verb : (verb : Verb) → run.calls.calls ≡ done ++ record { tag = tag; verb = verb } ∷ rest →
      IsStoppedAs verb (data_in head run) run.starts (record { tag = tag; verb = verb }) channel entries pasts hints run.pasts left →
      IsHeadlineOfStop head run channel entries
  by_verb (Verb.Write page content) are stopped = on_one (Verb.Write page content) are stopped
  by_verb (Verb.Read page) are stopped = on_one (Verb.Read page) are stopped
  by_verb (Verb.Trim page) are stopped = on_one (Verb.Trim page) are stopped
  by_verb (Verb.Refresh page) are stopped = on_one (Verb.Refresh page) are stopped
  by_verb (Verb.Collect named) are stopped = on_one (Verb.Collect named) are stopped
  by_verb (Verb.Age named die sb amount) are stopped = on_one (Verb.Age named die sb amount) are stopped
  by_verb (Verb.Drain count) are stopped = in_drain count are stopped

pub stopped_calls_hold : StoppedCallsHold
stopped_calls_hold head run pasts hints left done rest call channel entries has_calls hold are led stopped =
    by_verb head run pasts hints left done rest call.tag channel entries has_calls hold led call.verb are stopped
