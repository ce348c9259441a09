-- Where does a serial run end? The starts, the calls and the choices decide whether all calls are served, or a history's limit
-- stops the run, and then in which call, on which channel and after which entries. So two runs that choose alike have one
-- output.
use Rattle.std.specs.Prelude.{ℕ, ◌≡◌, IsTrue, is_some, List, [], All, Option, None, Some}
use Rattle.ssd_formats.specs.ImageHead.{Head}
use Rattle.ssd_histories.specs.CallsInOrder.{AreNumberedAfter, ChannelRun}
use Rattle.ssd_histories.specs.HistoryRoom.{found_room}
use Rattle.ssd_histories.specs.SerialHistory.{IsSerialRun, SerialState}
use Rattle.ssd_histories.specs.SerialStop.{IsSerialStop}
use Rattle.ssd_histories.specs.Standing.{IsStart}
use Rattle.ssd_histories.specs.Start.{Start}
use Rattle.ssd_geo.specs.declared.reply.Reply.{Reply}
use Rattle.ssd_geo.specs.declared.tag.Tag.{Tag}
use Rattle.ssd_geo.specs.declared.trace.TraceCall.{TraceCall}
use Rattle.run_laws.specs.Headline.{IsStoppedRun, IsWholeRun}
use Rattle.run_laws.specs.Runs.{Run, channels_of}
use Rattle.serial_output.specs.OneOutput.{AreOfOneInput, AreOneRun, HasNoFault, HaveOneOutput, NoCountRose, RunsChooseAlike}

-- each entry of some channels found room
abbrev pub FoundRoom : List ChannelRun → Type 0
FoundRoom runs = All (λ run. IsTrue (found_room run.start.limit run.past)) runs

-- two runs stopped after the same calls, and so in the same call, on the same channel and with the same entries
pub record AreOneStop (calls : List TraceCall) (replies others : List (List Reply)) (served done : List TraceCall)
    (named entries told many : ℕ) (after other : SerialState) : Type 0 where
  pub one_run : AreOneRun calls replies others after other
  pub same_served : served ≡ done
  pub same_channel : named ≡ told
  pub same_entries : entries ≡ many

-- the choices decide where a serial run stops
abbrev pub ChoicesDecideStops : Type 0
ChoicesDecideStops =
    (contents : List (Tag × List ℕ)) (starts : List Start) (actors : ℕ) (calls : List TraceCall)
    (replies others : List (List Reply)) (named entries told many : ℕ) (after other : SerialState) →
    All IsStart starts → AreNumberedAfter actors [] calls → FoundRoom after.channels → FoundRoom other.channels →
    (stop : IsSerialStop contents starts calls replies named entries after)
    (stop_too : IsSerialStop contents starts calls others told many other) →
    RunsChooseAlike after.channels other.channels →
    AreOneStop calls replies others stop.served stop_too.served named entries told many after other

-- and whether it stops: not one run of two is whole, and the other stopped
abbrev pub ChoicesDecideWhetherItStops : Type 0
ChoicesDecideWhetherItStops =
    (contents : List (Tag × List ℕ)) (starts : List Start) (actors : ℕ) (calls : List TraceCall)
    (replies others : List (List Reply)) (named entries : ℕ) (after other : SerialState) →
    All IsStart starts → AreNumberedAfter actors [] calls → FoundRoom after.channels → FoundRoom other.channels →
    IsSerialRun contents starts calls replies after → IsSerialStop contents starts calls others named entries other →
    RunsChooseAlike after.channels other.channels → ⊥

-- how a run ended: its calls were all served, or it stopped on a channel, whose history has so many entries
abbrev pub EndedAs : Head → Run → Option (ℕ × ℕ) → Type 0
EndedAs head run None = IsWholeRun head run
EndedAs head run (Some stop) = IsStoppedRun head run stop.0 stop.1

-- two runs ended in the same way, and have one output
pub record HaveOneEnding (head : Head) (run other : Run) (end other_end : Option (ℕ × ℕ)) : Type 0 where
  pub same_end : end ≡ other_end
  pub one_output : HaveOneOutput head run other

-- the choices decide the end of a run, and its output
abbrev pub ChoicesDecideEndings : Type 0
ChoicesDecideEndings =
    (head : Head) (run other : Run) (end other_end : Option (ℕ × ℕ)) → AreOfOneInput head run other → EndedAs head run end →
    EndedAs head other other_end → RunsChooseAlike (channels_of run) (channels_of other) →
    HaveOneEnding head run other end other_end

-- where each view is told and no die's call failed, no choice is left
abbrev pub ViewsDecideEndings : Type 0
ViewsDecideEndings =
    (head : Head) (run other : Run) (end other_end : Option (ℕ × ℕ)) → AreOfOneInput head run other → EndedAs head run end →
    EndedAs head other other_end → All (λ start. IsTrue (is_some start.view)) run.starts →
    All HasNoFault (channels_of run) → All HasNoFault (channels_of other) → HaveOneEnding head run other end other_end

-- where each view is told and no die's count rose, the input, the views and the limit decide the end and the output
abbrev pub InputsDecideEndings : Type 0
InputsDecideEndings =
    (head : Head) (run other : Run) (end other_end : Option (ℕ × ℕ)) → AreOfOneInput head run other → EndedAs head run end →
    EndedAs head other other_end → All (λ start. IsTrue (is_some start.view)) run.starts →
    NoCountRose (channels_of run) run.faults → NoCountRose (channels_of other) other.faults →
    HaveOneEnding head run other end other_end
