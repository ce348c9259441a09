-- Two runs of one input that choose alike end in the same way, and have one output, whether they are whole or stopped.
use Rattle.std.proofs.Common.{ℕ, refl, None, Some}
use Rattle.ssd_formats.specs.ImageHead.{Head}
use Rattle.ssd_histories.specs.SerialHistory.{IsSerialRun}
use Rattle.ssd_histories.specs.SerialStop.{IsSerialStop}
use Rattle.run_laws.specs.Headline.{IsStoppedRun, IsWholeRun}
use Rattle.run_laws.specs.Runs.{Run, channels_of, data_in}
use Rattle.run_laws.specs.SerialRuns.{state_of}
use Rattle.serial_output.specs.OneEnding.{AreOneStop, ChoicesDecideEndings, HaveOneEnding, InputsDecideEndings, ViewsDecideEndings}
use Rattle.serial_output.specs.OneOutput.{AreOfOneInput, RunsChooseAlike}
use Rattle.serial_output.proofs.SameStoppedRuns.{choices_decide_stops, choices_decide_whether_it_stops, runs_back}
use Rattle.serial_output.proofs.SameTexts.{are_starts, as_of_input, choices_decide_output, no_faults, one_output, views_alike, whole_is_serial}

module _ (head : Head) (run other : Run) (input : AreOfOneInput head run other)
    (alike : RunsChooseAlike (channels_of run) (channels_of other)) where
  -- how the other run ended, as a run of the same starts and calls
  other_whole : (ended : IsWholeRun head other) →
      IsSerialRun (data_in head run) run.starts run.calls.calls other.replies (state_of other ended.hints)
  other_whole ended =
      as_of_input head run other input
      (λ contents starts calls. IsSerialRun contents starts calls other.replies (state_of other ended.hints))
      (whole_is_serial head other input.holds_too ended)

  other_stop : (channel entries : ℕ) (ended : IsStoppedRun head other channel entries) →
      IsSerialStop (data_in head run) run.starts run.calls.calls other.replies channel entries (state_of other ended.hints)
  other_stop channel entries ended =
      as_of_input head run other input
      (λ contents starts calls. IsSerialStop contents starts calls other.replies channel entries (state_of other ended.hints))
      ended.is_stop

  both_stopped : (channel entries named many : ℕ) (ended : IsStoppedRun head run channel entries)
      (ended_too : IsStoppedRun head other named many) →
      HaveOneEnding head run other (Some (channel, entries)) (Some (named, many))
  both_stopped channel entries named many ended ended_too =
      let same : AreOneStop run.calls.calls run.replies other.replies ended.is_stop.served
      (other_stop named many ended_too).served channel entries named many (state_of run ended.hints)
      (state_of other ended_too.hints) =
      choices_decide_stops (data_in head run) run.starts run.calls.actors run.calls.calls run.replies other.replies channel
      entries named many (state_of run ended.hints) (state_of other ended_too.hints) (are_starts head run other input)
      input.numbered input.holds.have_room input.holds_too.have_room ended.is_stop (other_stop named many ended_too) alike in
      record {
        same_end = λ i. Some (same.same_channel i, same.same_entries i);
        one_output = one_output head run other input ended.hints ended_too.hints same.one_run;
      }

  first_whole : (channel entries : ℕ) → IsWholeRun head run → IsStoppedRun head other channel entries → ⊥
  first_whole channel entries ended ended_too =
      choices_decide_whether_it_stops (data_in head run) run.starts run.calls.actors run.calls.calls run.replies other.replies
      channel entries (state_of run ended.hints) (state_of other ended_too.hints) (are_starts head run other input)
      input.numbered
      input.holds.have_room input.holds_too.have_room (whole_is_serial head run input.holds ended)
      (other_stop channel entries ended_too) alike

  second_whole : (channel entries : ℕ) → IsStoppedRun head run channel entries → IsWholeRun head other → ⊥
  second_whole channel entries ended ended_too =
      choices_decide_whether_it_stops (data_in head run) run.starts run.calls.actors run.calls.calls other.replies run.replies
      channel entries (state_of other ended_too.hints) (state_of run ended.hints) (are_starts head run other input)
      input.numbered
      input.holds_too.have_room input.holds.have_room (other_whole ended_too) ended.is_stop
      (runs_back (channels_of run) (channels_of other) alike)

pub choices_decide_endings : ChoicesDecideEndings
choices_decide_endings head run other None None input ended ended_too alike = record {
  same_end = refl;
  one_output =
      choices_decide_output head run other (record { one_input = input; whole = ended; whole_too = ended_too }) alike;
}
choices_decide_endings head run other None (Some stop) input ended ended_too alike =
    absurd (first_whole head run other input alike stop.0 stop.1 ended ended_too)
choices_decide_endings head run other (Some stop) None input ended ended_too alike =
    absurd (second_whole head run other input alike stop.0 stop.1 ended ended_too)
choices_decide_endings head run other (Some stop) (Some last) input ended ended_too alike =
    both_stopped head run other input alike stop.0 stop.1 last.0 last.1 ended ended_too

pub views_decide_endings : ViewsDecideEndings
views_decide_endings head run other end other_end input ended ended_too told faultless faultless_too =
    choices_decide_endings head run other end other_end input ended ended_too
    (views_alike head run other input told faultless faultless_too)

pub inputs_decide_endings : InputsDecideEndings
inputs_decide_endings head run other end other_end input ended ended_too told stay stay_too =
    views_decide_endings head run other end other_end input ended ended_too told
    (no_faults (channels_of run) run.faults input.holds.are_counted stay)
    (no_faults (channels_of other) other.faults input.holds_too.are_counted stay_too)
