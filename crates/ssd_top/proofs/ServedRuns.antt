-- When calls of an input were served, all or those before a stop, what was made to be printed is of a run of the input over the dies and policies that were handed in.
use Rattle.std.proofs.Common.{ℕ, zero, suc, Bool, ◌≡◌, ◌+◌, ◌-◌, ◌*◌, ◌^◌, ◌<◌, ◌≤◌, List, [], ◌∷◌, ◌++◌, Option, Some, None, false, filter, get_or, length, map, refl, sym, ap, subst, ◌∙◌, arith}
use Rattle.std.proofs.lemmas.List.FromFn.{get_or-map-range_with_len, length-map-range_with_len}
use Rattle.std.proofs.lemmas.List.{append-nil, length-map}
use Rattle.std.proofs.lemmas.List.Sums.{length-filter}
use Rattle.std.proofs.lemmas.List.Elements.{All-cons, All-nil, All-weaker}
use Rattle.std.proofs.lemmas.Option.{get_or_from_slice_get, slice_get_within}
use Rattle.std.specs.List.{range_with_len}
use Rattle.std.specs.Prelude.{All, IsTrue, slice_get, slice_index_or}
use Rattle.chan_calls.specs.Workers.{WorkerState}
use Rattle.chan_state.specs.declared.parts.BaseParts.{BaseParts}
use Rattle.complete_runs.proofs.CompleteRuns.{runs_are_complete}
use Rattle.complete_runs.specs.BlankRuns.{BeginsBlank}
use Rattle.ctl.specs.Asked.{FitsDrive}
use Rattle.ctl.specs.Seen.{SeenChannel, pasts_of}
use Rattle.drive_dies.specs.Mounting.{die_count}
use Rattle.final_dies.specs.FinalDies.{counts_of}
use Rattle.history_text.specs.Places.{AsLong}
use Rattle.onfi_cmd.specs.DieState.{DieState}
use Rattle.run_laws.proofs.SerialHeadline.{serial_runs_hold}
use Rattle.run_laws.proofs.StoppedRuns.{stopped_calls_hold}
use Rattle.run_laws.specs.HandedCounts.{IsRunOver, counts_by_channel, handed_by_channel}
use Rattle.run_laws.specs.Headline.{Headline}
use Rattle.run_laws.specs.Runs.{FaultCounts, Run, data_in, runs_with}
use Rattle.run_laws.specs.Starts.{BeginsWith}
use Rattle.run_laws.specs.SerialRuns.{ChannelsHold, HasCalls, IsHeadlineOfStop, IsHeadlineOfWhole}
use Rattle.run_laws.specs.ServedRuns.{HasLedTo, IsServedFrom, contents_in, hints_in, run_of_input, taken_in}
use Rattle.run_laws.specs.Serials.{HasSmallSerials}
use Rattle.run_laws.specs.SpelledPasts.{IsSmallVerb}
use Rattle.savable_contents.proofs.ReadAgain.{saved_runs_are_read_again}
use Rattle.savable_contents.specs.SavableContents.{HaveSpelling}
use Rattle.serial_laws.proofs.NumberedTags.{counts_grow, counts_in}
use Rattle.ssd_histories.specs.CallsInOrder.{ChannelRun}
use Rattle.ssd_histories.specs.History.{history_of}
use Rattle.ssd_histories.specs.HistoryRoom.{found_room}
use Rattle.ssd_histories.specs.Standing.{IsPastOf}
use Rattle.ssd_histories.specs.Start.{Start}
use Rattle.ssd_formats.proofs.HeadLaws.{within_is}
use Rattle.ssd_formats.specs.ImageContents.{ChannelImage, IsSaved, blank_channel}
use Rattle.ssd_formats.specs.ImageHead.{Head, IsHead, head_of}
use Rattle.ssd_formats.specs.Input.{Input}
use Rattle.ssd_formats.specs.Numbers.{Text}
use Rattle.ssd_formats.specs.RunText.{run_text}
use Rattle.ssd_formats.specs.TraceText.{is_of_actor, kind_of_verb, kinds_of_actor, kinds_of_trace}
use Rattle.ssd_formats.specs.Words.{Settings}
use Rattle.ssd_geo.specs.declared.entry.Entry.{Entry}
use Rattle.ssd_geo.specs.declared.head.ImageHead.{ImageHead}
use Rattle.ssd_geo.specs.declared.policy_view.PolicyView.{PolicyView}
use Rattle.ssd_geo.specs.declared.reply.Reply.{Reply}
use Rattle.ssd_geo.specs.declared.shape.Shape.{Shape}
use Rattle.ssd_geo.specs.declared.trace.Trace.{Trace}
use Rattle.ssd_geo.specs.declared.trace.TraceCall.{TraceCall}
use Rattle.ssd_top.proofs.LeftParts.{leaves}
use Rattle.ssd_top.proofs.SavedParts.{as_many_left}
use Rattle.ssd_top.proofs.ServedChannels.{StandInRun, are_counted, dies_count, hold_pasts, others_stay}
use Rattle.ssd_top.proofs.ServedVerbs.{small_verb}
use Rattle.ssd_top.specs.Forms.{input_of, saved_channels}
use Rattle.ssd_top.specs.Handed.{IsRunOf}
use Rattle.ssd_top.specs.HandedBack.{AllCountRuns}
use Rattle.ssd_top.specs.Printed.{shown_text, text_of}
use Rattle.ssd_top.specs.Running.{HasStopped, HaveFoundRoom, IsRunning, Job}
use Rattle.ssd_top.specs.Serving.{EndsAt, GiveBack, IsMadeOf, IsOfInput, IsServed, LeadsTo, job_of}
use Rattle.ssd_top.specs.LeftDrives.{LeavesDrive}
use Rattle.ssd_top.specs.declared.printed.Printed.{Printed}
use Rattle.ssd_top.specs.declared.served.Served.{Served}
use Rattle.ssd_top.specs.declared.serving.Answered.{Answered}

-- ---- the lists of replies

-- an actor has as many kinds of calls as calls
kinds_are_calls : (calls : List TraceCall) (actor : ℕ) → length (kinds_of_actor calls actor) ≡ counts_in calls actor
kinds_are_calls calls actor =
    length-map (filter (is_of_actor actor) calls) (λ call. kind_of_verb call.verb) ∙ length-filter (is_of_actor actor) calls

-- each actor has replies, for no more calls than it has; the hints that were dropped are among those that came, and those that were
-- taken among the others
record FitsCalls (input : Input) (replies : List (List Reply)) (dropped : ℕ) : Type 0 where
  as_many_actors : length replies ≡ input.calls.actors
  few :
      (actor : ℕ) → actor < input.calls.actors →
      length (slice_index_or replies actor []) ≤ length (kinds_of_actor input.calls.calls actor)
  few_dropped : dropped ≤ hints_in replies
  few_taken : taken_in replies ≤ hints_in replies - dropped

-- so each has as many kinds of calls as replies, or more
as_long : (input : Input) (replies : List (List Reply)) (dropped : ℕ) → FitsCalls input replies dropped
    → AsLong (kinds_of_trace input.calls) replies
as_long input replies dropped fits k within =
    let inside : k < input.calls.actors = omega (arith, within, fits.as_many_actors) in
    let kinds : slice_index_or (kinds_of_trace input.calls) k [] ≡ kinds_of_actor input.calls.calls k =
    get_or-map-range_with_len (kinds_of_actor input.calls.calls) 0 input.calls.actors k k [] inside (omega arith) in
    let few : length (slice_index_or replies k []) ≤ length (kinds_of_actor input.calls.calls k) = fits.few k inside in
    let same : length (slice_index_or (kinds_of_trace input.calls) k []) ≡ length (kinds_of_actor input.calls.calls k) =
    ap length kinds in
    omega (arith, few, same)

-- after these calls, and some that follow, there are no more replies than calls
no_more_replies : (input : Input) (done rest : List TraceCall) (replies : List (List Reply)) → input.calls.calls ≡ done ++ rest
    → ((actor : ℕ) → actor < input.calls.actors → length (slice_index_or replies actor []) ≡ counts_in done actor)
    → (actor : ℕ) → actor < input.calls.actors
    → length (slice_index_or replies actor []) ≤ length (kinds_of_actor input.calls.calls actor)
no_more_replies input done rest replies are_calls many actor low =
    let as_many = many actor low in
    let kinds = kinds_are_calls input.calls.calls actor in
    let grow = counts_grow done rest actor in
    let all : counts_in input.calls.calls actor ≡ counts_in (done ++ rest) actor =
    ap (λ calls. counts_in calls actor) are_calls in
    omega (arith, as_many, kinds, grow, all)

-- what calls led to fits these and some that follow
led_fits : (input : Input) (starts : List Start) (done rest : List TraceCall) (replies : List (List Reply))
    (pasts : List (List Entry)) (hints : List ℕ) (dropped : ℕ) → input.calls.calls ≡ done ++ rest
    → HasLedTo (contents_in input) starts input.calls.actors done replies pasts hints dropped → FitsCalls input replies dropped
led_fits input starts done rest replies pasts hints dropped are_calls led = record {
  as_many_actors = led.has_served.as_many_actors;
  few = no_more_replies input done rest replies are_calls led.has_served.as_many_replies;
  few_dropped = omega (arith, led.hints_counted);
  few_taken = omega (arith, led.hints_counted);
}

-- ---- the channels

-- what is printed of channels with these replies
abbrev text_with : Bool → Input → List SeenChannel → List (List Reply) → ℕ → Text
text_with whole input channels replies dropped =
    run_text whole (length input.head.read_levels) (map history_of (pasts_of channels)) (kinds_of_trace input.calls) replies
    dropped

-- what holds of each channel of a run holds of all
all_channels : (P : ChannelRun → Type 0) (starts : List Start) (channels : List SeenChannel)
    → ((n : ℕ) (start : Start) (channel : SeenChannel) → slice_get starts n ≡ Some start → slice_get channels n ≡ Some channel →
    P (record { start = start; past = channel.kept.past }))
    → All P (runs_with starts (pasts_of channels))
all_channels P [] channels each = All-nil P
all_channels P (start ∷ starts) [] each = All-nil P
all_channels P (start ∷ starts) (channel ∷ channels) each =
    All-cons P (record { start = start; past = channel.kept.past }) (runs_with starts (pasts_of channels))
    (each 0 start channel refl refl) (all_channels P starts channels (λ n. each (suc n)))

many_pasts : (channels : List SeenChannel) → length (pasts_of channels) ≡ length channels
many_pasts channels = length-map channels (λ (channel : SeenChannel). channel.kept.past)

module _ (head : Head) (saved : ℕ → ChannelImage) (asked : Trace) (limit : ℕ) (dies : List DieState)
    (views : List (Option PolicyView)) where
  abbrev input : Input
  input = input_of head saved asked

  abbrev job : Job
  job = job_of input limit dies views

  -- the channels of a run stand for its starts: after some calls, and where the next call has come so far
  stand_running : (worker : WorkerState) (channels : List SeenChannel) (done : List TraceCall) (replies : List (List Reply))
      (hints : List ℕ) (dropped : ℕ) (running : IsRunning job worker channels done replies hints dropped)
      → StandInRun head saved asked limit dies views worker channels running.starts
  stand_running worker channels done replies hints dropped running = record {
    starts_are = running.starts_are;
    sizes_are = running.sizes_are;
    standing = running.standing;
  }

  stand_stopped : (worker : WorkerState) (channels : List SeenChannel) (replies : List (List Reply)) (dropped at entries : ℕ)
      (stopped : HasStopped job worker channels replies dropped at entries)
      → StandInRun head saved asked limit dies views worker channels stopped.running.starts
  stand_stopped worker channels replies dropped at entries stopped = record {
    starts_are = stopped.running.starts_are;
    sizes_are = stopped.running.sizes_are;
    standing = stopped.standing;
  }

  -- ---- the run

  module _ (worker : WorkerState) (channels : List SeenChannel) (starts : List Start)
      (stand : StandInRun head saved asked limit dies views worker channels starts) (back : List DieState)
      (give : GiveBack head channels dies back) (replies : List (List Reply)) (dropped : ℕ) where
    -- the run of calls that were served
    abbrev run_of : Run
    run_of =
        run_of_input input starts replies (pasts_of channels)
        (counts_by_channel head.sizes.channels head.sizes.dies (counts_of back)) dropped

    is_run_of : IsRunOf input limit dies views back run_of
    is_run_of = record {
      is_over = record {
        calls_are = refl;
        begins = record { shape = worker.shape; sizes_are = stand.sizes_are; starts_are = stand.starts_are };
        faults_are = refl;
      };
      hold = hold_pasts head saved asked limit dies views worker channels starts stand back give;
      others_stay = others_stay head saved asked limit dies views worker channels starts stand back give;
    }

    -- its calls are numbered and have their data, and their numbers fit their fields
    has_calls : IsServedFrom input starts → length replies ≡ asked.actors → asked.actors ≤ 32 → length asked.calls ≤ 2 ^ 20 →
        (count : ℕ) → All (λ call. FitsDrive worker.shape count call.verb) asked.calls → HasCalls head run_of
    has_calls from many few_actors few_calls count fits = record {
      numbered = from.numbered;
      have_data = from.have_data;
      same_bytes = from.same_bytes;
      as_many_actors = many;
      few_actors = omega (arith, few_actors);
      few_calls = omega (arith, few_calls);
      small_verbs =
          All-weaker (λ (call : TraceCall). FitsDrive worker.shape count call.verb)
          (λ (call : TraceCall). IsSmallVerb call.verb)
          (λ call. small_verb worker.shape count call.verb) asked.calls fits;
    }

    -- what its channels have by themselves
    hold : HaveFoundRoom channels → length channels ≤ 8 → All (λ start. HasSmallSerials start.base) starts
        → ChannelsHold head run_of
    hold have_room few_channels serials = record {
      as_many_pasts = many_pasts channels ∙ stand.standing.as_many;
      are_pasts =
          all_channels (λ run. IsPastOf run.start (contents_in input) run.past) starts channels
          (λ n start channel has_start has_channel. (stand.standing.stand n start channel has_start has_channel).is_past);
      have_room =
          all_channels (λ run. IsTrue (found_room run.start.limit run.past)) starts channels
          (λ n start channel has_start has_channel.
          subst (λ (limit : ℕ). IsTrue (found_room limit channel.kept.past))
          (stand.standing.stand n start channel has_start has_channel).limit_is (have_room n channel has_channel).has_room);
      are_counted = are_counted head saved asked limit dies views worker channels starts stand back give;
      few_channels = let many = stand.standing.as_many in omega (arith, many, few_channels);
      are_short =
          all_channels (λ run. length run.past ≤ run.start.limit) starts channels
          (λ n start channel has_start has_channel.
          subst (λ (limit : ℕ). length channel.kept.past ≤ limit)
          (stand.standing.stand n start channel has_start has_channel).limit_is (have_room n channel has_channel).short);
      serials = serials;
    }

  -- calls that were served have replies that fit them, and are a run of the input, whose text is that
  record IsOfRun (channels : List SeenChannel) (back : List DieState) (replies : List (List Reply)) (dropped : ℕ)
      (stop : Option (ℕ × ℕ)) : Type 0 where
    worker : WorkerState
    starts : List Start
    stand : StandInRun head saved asked limit dies views worker channels starts
    fits : FitsCalls input replies dropped
    run : Run
    starts_are : run.starts ≡ starts
    pasts_are : run.pasts ≡ pasts_of channels
    data_are : data_in head run ≡ contents_in input
    is_run : IsRunOf input limit dies views back run
    some_channel : 0 < length run.starts
    calls_are : HasCalls head run
    headline : Headline head run
    ends : EndsAt head run stop
    is_text : (whole : Bool) → text_with whole input channels replies dropped ≡ shown_text whole head run

  is_of_run : (worker : WorkerState) (channels : List SeenChannel) (back : List DieState) → GiveBack head channels dies back
      → (replies : List (List Reply)) (dropped : ℕ) (stop : Option (ℕ × ℕ))
      → LeadsTo job worker channels replies dropped stop → IsOfRun channels back replies dropped stop
  is_of_run worker channels back give replies dropped None leads =
      let hints = leads.0 in
      let running : IsRunning job worker channels asked.calls replies hints dropped = leads.1 in
      let stand = stand_running worker channels asked.calls replies hints dropped running in
      let served = running.has_led_to.has_served in
      let run = run_of worker channels running.starts stand back give replies dropped in
      let holds : IsHeadlineOfWhole head run =
      serial_runs_hold head run hints
      (has_calls worker channels running.starts stand back give replies dropped running.is_served_from served.as_many_actors
      running.few_actors running.few_calls (length channels) running.fits)
      (hold worker channels running.starts stand back give replies dropped running.have_room running.few_channels
      running.serials)
      served.is_serial in
      record {
        worker = worker;
        starts = running.starts;
        stand = stand;
        starts_are = refl;
        pasts_are = refl;
        data_are = refl;
        fits =
            led_fits input running.starts asked.calls [] replies (pasts_of channels) hints dropped (sym (append-nil asked.calls))
            running.has_led_to;
        run = run;
        is_run = is_run_of worker channels running.starts stand back give replies dropped;
        some_channel = running.is_served_from.some_channel;
        calls_are =
            has_calls worker channels running.starts stand back give replies dropped running.is_served_from served.as_many_actors
            running.few_actors running.few_calls (length channels) running.fits;
        headline = holds.headline;
        ends = holds.is_whole;
        is_text = λ whole. refl;
      }
  is_of_run worker channels back give replies dropped (Some stop) stopped =
      let running = stopped.running in
      let stand = stand_stopped worker channels replies dropped stop.0 stop.1 stopped in
      let served = running.has_led_to.has_served in
      let run = run_of worker channels running.starts stand back give replies dropped in
      let many = stopped.standing.as_many in
      let many_old = running.standing.as_many in
      let few : length channels ≤ 8 = omega (arith, many, many_old, running.few_channels) in
      let holds : IsHeadlineOfStop head run stop.0 stop.1 =
      stopped_calls_hold head run (pasts_of stopped.old) stopped.hints stopped.left stopped.done stopped.rest stopped.call stop.0
      stop.1
      (has_calls worker channels running.starts stand back give replies dropped running.is_served_from served.as_many_actors
      running.few_actors running.few_calls (length stopped.old) running.fits)
      (hold worker channels running.starts stand back give replies dropped stopped.have_room few running.serials)
      stopped.are_calls running.has_led_to stopped.stops in
      record {
        worker = worker;
        starts = running.starts;
        stand = stand;
        starts_are = refl;
        pasts_are = refl;
        data_are = refl;
        fits =
            led_fits input running.starts stopped.done (stopped.call ∷ stopped.rest) replies (pasts_of stopped.old) stopped.hints
            dropped stopped.are_calls running.has_led_to;
        run = run;
        is_run = is_run_of worker channels running.starts stand back give replies dropped;
        some_channel = running.is_served_from.some_channel;
        calls_are =
            has_calls worker channels running.starts stand back give replies dropped running.is_served_from served.as_many_actors
            running.few_actors running.few_calls (length stopped.old) running.fits;
        headline = holds.headline;
        ends = holds.is_stopped;
        is_text = λ whole. refl;
      }

  -- ---- the dies

  -- each die of a run that was served counts as one that took part
  dies_count_served : (worker : WorkerState) (channels : List SeenChannel) (back : List DieState)
      → GiveBack head channels dies back → head.sizes.channels * head.sizes.dies ≤ length dies
      → (replies : List (List Reply)) (dropped : ℕ) (stop : Option (ℕ × ℕ))
      → LeadsTo job worker channels replies dropped stop → AllCountRuns dies back
  dies_count_served worker channels back give enough replies dropped None leads =
      let running : IsRunning job worker channels asked.calls replies leads.0 dropped = leads.1 in
      dies_count head saved asked limit dies views worker channels running.starts
      (stand_running worker channels asked.calls replies leads.0 dropped running) back give enough
  dies_count_served worker channels back give enough replies dropped (Some stop) stopped =
      dies_count head saved asked limit dies views worker channels stopped.running.starts
      (stand_stopped worker channels replies dropped stop.0 stop.1 stopped) back give enough

-- ---- what is printed

-- the histories of channels are those of their pasts
through : (channels : List SeenChannel)
    → map (λ (channel : SeenChannel). history_of channel.kept.past) channels ≡ map history_of (pasts_of channels)
through [] = refl
through (channel ∷ channels) = ap (λ (rest : List (List Entry)). history_of channel.kept.past ∷ rest) (through channels)

-- what an image tells of the channels is blank where the image has no contents
abbrev pub IsSavedAs : Head → (ℕ → ChannelImage) → Type 0
IsSavedAs head saved =
    head.full ≡ false → (number : ℕ) → number < head.sizes.channels → saved number ≡ blank_channel head number

same_saved : (saved other : ℕ → ChannelImage) (count from : ℕ)
    → ((number : ℕ) → number < from + count → saved number ≡ other number)
    → map saved (range_with_len from count) ≡ map other (range_with_len from count)
same_saved saved other zero from each = refl
same_saved saved other (suc count) from each =
    let later : map saved (range_with_len (from + 1) count) ≡ map other (range_with_len (from + 1) count) =
    same_saved saved other count (from + 1) (λ number low. each number (omega (arith, low))) in
    rw (each from (omega arith), later) refl

-- what is told of each channel of a drive has a spelling
abbrev pub AreSavedBelow : Head → (ℕ → ChannelImage) → Type 0
AreSavedBelow head saved = (number : ℕ) → number < head.sizes.channels → IsSaved head number (saved number)

have_spelling : (head : Head) (saved : ℕ → ChannelImage) → AreSavedBelow head saved → HaveSpelling head (saved_channels head saved)
have_spelling head saved each channel contents at =
    let low : channel < head.sizes.channels =
    omega (
      arith,
      slice_get_within (saved_channels head saved) channel contents at,
      length-map-range_with_len saved 0 head.sizes.channels,
    ) in
    let here : get_or (saved_channels head saved) channel (saved channel) ≡ saved channel =
    get_or-map-range_with_len saved 0 head.sizes.channels channel channel (saved channel) low (omega arith) in
    subst (λ (own : ChannelImage). IsSaved head channel own)
    (sym here ∙ get_or_from_slice_get (saved_channels head saved) channel contents (saved channel) at) (each channel low)

-- so a run on it began with a blank drive
begins_blank : (head : Head) (saved : ℕ → ChannelImage) → IsSavedAs head saved → (asked : Trace) (limit : ℕ)
    (before after : FaultCounts) (views : List (Option PolicyView)) (run : Run) → IsHead head
    → IsRunOver (input_of head saved asked) limit before after views run → head.full ≡ false → BeginsBlank head run
begins_blank head saved saved_as asked limit before after views run is_head over blank = record {
  is_head = is_head;
  limit = limit;
  handed = handed_by_channel head.sizes.channels head.sizes.dies before views;
  begins =
      subst
      (λ (channels : List ChannelImage).
      BeginsWith head channels limit (handed_by_channel head.sizes.channels head.sizes.dies before views) run)
      (same_saved saved (blank_channel head) head.sizes.channels 0 (λ number low. saved_as blank number (omega (arith, low))))
      over.begins;
}

-- what was served of an input and is to be printed is of a run of it
pub served_is_of_input : (head : ImageHead) (saved : ℕ → ChannelImage) → IsSavedAs (head_of head) saved
    → AreSavedBelow (head_of head) saved → (settings : Settings)
    (asked : Trace) (dies : List DieState) (views : List (Option PolicyView)) (back : List DieState)
    (histories : List (List Entry)) (answered : Answered) (result : Served) → IsHead (head_of head)
    → IsServed (input_of (head_of head) saved asked) settings.history dies views back histories result.parts.items answered
    → IsMadeOf settings.whole head asked histories answered result.printed
    → IsOfInput (input_of (head_of head) saved asked) settings dies views back result
served_is_of_input head saved saved_as are_saved settings asked dies views back histories answered result is_head served made =
    let printed : Printed = result.printed in
    let replies : List (List Reply) = map (λ list. list.items) answered.replies.items in
    let of =
    is_of_run (head_of head) saved asked settings.history dies views served.worker served.channels back served.give_back replies
    answered.dropped answered.full served.leads in
    let count : length (kinds_of_trace asked) ≡ asked.actors =
    length-map-range_with_len (kinds_of_actor asked.calls) 0 asked.actors in
    let levels : printed.head.read_levels ≡ head.read_levels = ap (λ (other : ImageHead). other.read_levels) made.head_is in
    let few_levels : length head.read_levels ≤ 16 = within_is 1 16 (length head.read_levels) is_head.level_count in
    let printed_histories : printed.histories.items ≡ map history_of (pasts_of served.channels) =
    made.histories_are ∙ served.histories_are ∙ through served.channels in
    let text : text_with settings.whole (input_of (head_of head) saved asked) served.channels replies answered.dropped ≡ text_of printed =
    rw (made.whole_is, levels, printed_histories, made.kinds_are, made.replies_are, made.dropped_is) refl in
    let left : LeavesDrive (head_of head) head.shape of.run result.parts.items back =
    subst (λ (parts : List BaseParts). LeavesDrive (head_of head) head.shape of.run parts back) (sym served.parts_are)
    (leaves head saved asked settings.history dies views of.worker served.channels of.starts of.stand back served.give_back
    served.whole of.run of.starts_are of.pasts_are of.data_are) in
    record {
      printable = record {
        few_levels = rw levels few_levels;
        lists = rw (made.kinds_are, made.replies_are) (count ∙ sym of.fits.as_many_actors);
        long = rw (made.kinds_are, made.replies_are) (as_long (input_of (head_of head) saved asked) replies answered.dropped of.fits);
        dropped = rw (made.dropped_is, made.replies_are) of.fits.few_dropped;
        taken = rw (made.dropped_is, made.replies_are) of.fits.few_taken;
      };
      run = of.run;
      is_run = of.is_run;
      headline = of.headline;
      complete =
          runs_are_complete (head_of head) of.run of.some_channel
          (begins_blank (head_of head) saved saved_as asked settings.history (counts_of dies) (counts_of back) views of.run is_head
          of.is_run.is_over)
          of.calls_are of.headline;
      ends = subst (λ (other : Option (ℕ × ℕ)). EndsAt (head_of head) of.run other) (sym made.full_is) of.ends;
      is_text = sym text ∙ of.is_text settings.whole;
      is_head = subst (λ (other : ImageHead). IsHead (head_of other)) (sym made.head_is) is_head;
      head_is = ap head_of made.head_is;
      leaves =
          subst (λ (shape : Shape). LeavesDrive (head_of head) shape of.run result.parts.items back)
          (sym (ap (λ (other : ImageHead). other.shape) made.head_is)) left;
      is_read_once_ended =
          saved_runs_are_read_again (head_of head) (saved_channels (head_of head) saved) settings.history
          (handed_by_channel head.shape.channels head.shape.dies (counts_of dies) views) of.run is_head
          (as_many_left (head_of head) head.shape of.run result.parts.items back left)
          (have_spelling (head_of head) saved are_saved) of.is_run.is_over.begins of.calls_are of.headline.in_order;
    }

-- each die counts as one that took part in a run
pub served_dies_count : (head : ImageHead) (saved : ℕ → ChannelImage) (limit : ℕ) (asked : Trace) (dies : List DieState) (views : List (Option PolicyView))
    (back : List DieState) (histories : List (List Entry)) (parts : List BaseParts) (answered : Answered)
    → die_count head ≤ length dies
    → IsServed (input_of (head_of head) saved asked) limit dies views back histories parts answered → AllCountRuns dies back
served_dies_count head saved limit asked dies views back histories parts answered enough served =
    dies_count_served (head_of head) saved asked limit dies views served.worker served.channels back served.give_back enough
    (map (λ list. list.items) answered.replies.items) answered.dropped answered.full served.leads
