-- What has come of the top call's source and sink, where it served an input and where it didn't? A
-- source that tells its bytes says which input was served, or what was wrong with it; the facts are
-- those of the bytes that it had.
use Rattle.std.specs.Prelude.{ℕ, ◌≡◌, ◌*◌, ◌++◌, Bool, All, List, [], drop, flat_map, length, map, replicate, Result, Ok, Err, Option, Some, None, IfSome, ⊤}
use Rattle.ssd_formats.specs.ImageHead.{Head, IsHead, head_of}
use Rattle.ssd_formats.specs.Input.{Input, read_input}
use Rattle.ssd_geo.specs.Faults.{Rose}
use Rattle.ssd_formats.specs.Statuses.{image, trace}
use Rattle.image_file.specs.Gives.{named_fault as image_fault}
use Rattle.image_file.specs.declared.stop.ImageFault.{ImageFault}
use Rattle.image_file.specs.declared.stop.ReadStop.{ReadStop}
use Rattle.image_file.specs.declared.stop.ReadStop.TheVariants.{Fault, DieFailed, Memory}
use Rattle.image_file.specs.declared.stop.ReadStop.TheVariants as StopVariants
use Rattle.trace_text.specs.Answers.{named_fault as trace_fault}
use Rattle.trace_text.specs.declared.fault.TraceFault.{TraceFault}
use Rattle.chan_calls.specs.Workers.{WorkerState}
use Rattle.chan_state.specs.ChannelState.{EndsWhole, parts_of}
use Rattle.chan_state.specs.declared.parts.BaseParts.{BaseParts}
use Rattle.complete_runs.specs.CompleteRuns.{IsComplete}
use Rattle.ctl.specs.Seen.{SeenChannel}
use Rattle.drive_dies.specs.declared.mounting.MountStop.{MountStop}
use Rattle.drive_dies.specs.declared.mounting.MountStop.TheVariants as MountVariants
use Rattle.final_dies.specs.FinalDies.{counts_of}
use Rattle.onfi_cmd.specs.DieState.{DieState}
use Rattle.run_laws.specs.Headline.{Headline, IsStoppedRun, IsWholeRun}
use Rattle.run_laws.specs.Runs.{Run}
use Rattle.ssd_histories.specs.History.{history_of}
use Rattle.ssd_formats.specs.TraceText.{kinds_of_trace}
use Rattle.ssd_formats.specs.Words.{Settings}
use Rattle.ssd_geo.specs.declared.entry.Entry.{Entry}
use Rattle.ssd_geo.specs.declared.head.ImageHead.{ImageHead}
use Rattle.ssd_geo.specs.declared.policy_view.PolicyView.{PolicyView}
use Rattle.ssd_geo.specs.declared.reply.Reply.{Reply}
use Rattle.ssd_geo.specs.declared.trace.Trace.{Trace as TraceOf}
use Rattle.savable_contents.specs.SavableContents.{IsReadOnceEnded}
use Rattle.ssd_top.specs.Handed.{IsRunOf}
use Rattle.ssd_top.specs.HandedBack.{AllCountRuns, AreHandedBack}
use Rattle.ssd_top.specs.LeftDrives.{LeavesDrive}
use Rattle.ssd_top.specs.Printed.{IsPrintable, shown_text, text_of}
use Rattle.ssd_top.specs.Running.{HasStopped, IsRunning, Job}
use Rattle.ssd_top.specs.declared.printed.Printed.{Printed}
use Rattle.ssd_top.specs.declared.served.Served.{Served}
use Rattle.ssd_top.specs.declared.serving.Answered.{Answered}
use Rattle.ssd_top.specs.declared.status.Status.{Status}
use Rattle.ssd_top.specs.declared.status.Status.TheVariants.{Done, Words, Image, Trace, ReadFault, WriteFault, HistoryLimit, OutOfMemory, DieFailed as DieFailedStatus}

-- an input was read to its end, where the source told its bytes from those
pub record WasRead (before after : Option (List ℕ)) (asked : Input) : Type 0 where
  pub is_input : IfSome before (λ input_bytes. read_input input_bytes ≡ Ok asked)
  pub at_end : IfSome before (λ input_bytes. after ≡ Some [])

-- a run came to its end, or stopped at the limit of this channel's history, with so many entries
-- there
abbrev pub EndsAt : Head → Run → Option (ℕ × ℕ) → Type 0
EndsAt head run None = IsWholeRun head run
EndsAt head run (Some stop) = IsStoppedRun head run stop.0 stop.1

-- a run came to its end, or stopped so at some channel
abbrev pub Ends : Head → Run → Type 0
Ends head run = (stop : Option (ℕ × ℕ)) × EndsAt head run stop

-- a status that names a fault names the first of these bytes
abbrev pub IsCausedBy : Status → List ℕ → Type 0
IsCausedBy (Image at fault) input_bytes = read_input input_bytes ≡ Err (image at (image_fault fault))
IsCausedBy (Trace line fault) input_bytes = read_input input_bytes ≡ Err (trace line (trace_fault fault))
IsCausedBy status input_bytes = ⊤

abbrev pub IsCausedByTold : Option (List ℕ) → Status → Type 0
IsCausedByTold before status = IfSome before (IsCausedBy status)

-- the calls of a job, all or those before a stop, led to these channels and replies, and so many hints dropped
abbrev pub LeadsTo :
    Job → WorkerState → List SeenChannel → List (List Reply) → ℕ → Option (ℕ × ℕ) → Type 0
LeadsTo job worker channels replies dropped None =
    (hints : List ℕ) × IsRunning job worker channels job.input.calls.calls replies hints dropped
LeadsTo job worker channels replies dropped (Some stop) =
    HasStopped job worker channels replies dropped stop.0 stop.1

-- whatever run began with these channels and this trace, its calls, all or those before a stop, led
-- it to these channels and answers
abbrev pub RunsToEnd :
    WorkerState → List SeenChannel → List SeenChannel → TraceOf → Answered → Type 0
RunsToEnd worker old new asked answered =
    (job : Job) → job.input.calls ≡ asked →
    IsRunning job worker old [] (replicate asked.actors []) [] 0 →
    LeadsTo job worker new (map (λ list. list.items) answered.replies.items) answered.dropped answered.full

-- the job of an input, with this limit of the histories, over dies and policies that tell these views
abbrev pub job_of : Input → ℕ → List DieState → List (Option PolicyView) → Job
job_of input limit dies views = record { input = input; limit = limit; before = counts_of dies; views = views }

-- channels gave their dies back, each as many as it has, in front of the others of the list
pub record GiveBack (head : Head) (channels : List SeenChannel) (dies back : List DieState) : Type 0 where
  pub counts : All (λ channel. length channel.kept.dies ≡ head.sizes.dies) channels
  pub back_are :
      back ≡ flat_map (λ channel. channel.kept.dies) channels ++ drop (head.sizes.channels * head.sizes.dies) dies

-- the calls of an input were served, with this limit of the histories, over dies and policies: they led to these histories,
-- changed parts of bases, replies and number of dropped hints, and the dies came back so
pub record IsServed (input : Input) (limit : ℕ) (dies : List DieState) (views : List (Option PolicyView)) (back : List DieState)
    (histories : List (List Entry)) (parts : List BaseParts) (answered : Answered) : Type 0 where
  pub worker : WorkerState
  pub channels : List SeenChannel
  pub leads :
      LeadsTo (job_of input limit dies views) worker channels
      (map (λ list. list.items) answered.replies.items) answered.dropped answered.full
  pub histories_are : histories ≡ map (λ channel. history_of channel.kept.past) channels
  pub parts_are : parts ≡ map (λ channel. parts_of channel.kept) channels
  pub whole : All (λ channel. EndsWhole channel.kept) channels
  pub give_back : GiveBack input.head channels dies back

-- what is to be printed, all or the summary alone, is made of a head, a trace, histories and answers
pub record IsMadeOf (whole : Bool) (head : ImageHead) (asked : TraceOf) (histories : List (List Entry)) (answered : Answered)
    (printed : Printed) : Type 0 where
  pub whole_is : printed.whole ≡ whole
  pub head_is : printed.head ≡ head
  pub histories_are : printed.histories.items ≡ histories
  pub kinds_are : printed.kinds.items ≡ kinds_of_trace asked
  pub replies_are : printed.replies.items ≡ map (λ list. list.items) answered.replies.items
  pub dropped_is : printed.dropped ≡ answered.dropped
  pub full_is : printed.full ≡ answered.full

-- what is to be printed of an input can be, and is what settings show of a run of it over dies and policies, with the dies that
-- came back; and what the run left of the drive is this
pub record IsOfInput (asked : Input) (settings : Settings) (dies : List DieState) (views : List (Option PolicyView)) (back : List DieState)
    (served : Served) : Type 0 where
  pub printable : IsPrintable served.printed
  pub run : Run
  pub is_run : IsRunOf asked settings.history dies views back run
  pub headline : Headline asked.head run
  pub complete : IsComplete asked.head run
  pub ends : EndsAt asked.head run served.printed.full
  pub is_text : text_of served.printed ≡ shown_text settings.whole asked.head run
  pub is_head : IsHead (head_of served.printed.head)
  pub head_is : head_of served.printed.head ≡ asked.head
  pub leaves : LeavesDrive asked.head served.printed.head.shape run served.parts.items back
  pub is_read_once_ended : IsReadOnceEnded asked.head run

-- an input was read to its end, and this came of it
pub record HasServed (before after : Option (List ℕ)) (settings : Settings) (dies : List DieState) (views : List (Option PolicyView))
    (back : List DieState) (served : Served) : Type 0 where
  pub asked : Input
  pub was_read : WasRead before after asked
  pub of_input : IsOfInput asked settings dies views back served

-- how the calls of an input ended, with the dies that came back
abbrev pub ServesInput :
    Input → Settings → List DieState → List (Option PolicyView) → List DieState → Result Served Status → Type 0
ServesInput input settings dies views back (Ok served) = IsOfInput input settings dies views back served × AllCountRuns dies back
ServesInput input settings dies views back (Err OutOfMemory) = ⊤
ServesInput input settings dies views back (Err status) = ⊥

-- what became of the dies, by how an input was served
abbrev pub AreGivenBack : Result Served Status → List DieState → List DieState → Type 0
AreGivenBack (Ok served) olds news = AllCountRuns olds news
AreGivenBack (Err status) olds news = AreHandedBack status olds news

-- the status of an image, and of a trace, that wasn't read
abbrev pub status_of_image : ReadStop ImageFault → Status
status_of_image (Fault at fault) = Image at fault
status_of_image StopVariants.ReadFault = ReadFault
status_of_image (DieFailed die) = DieFailedStatus die
status_of_image Memory = OutOfMemory

abbrev pub status_of_trace : ReadStop TraceFault → Status
status_of_trace (Fault at fault) = Trace at fault
status_of_trace StopVariants.ReadFault = ReadFault
status_of_trace (DieFailed die) = DieFailedStatus die
status_of_trace Memory = OutOfMemory

-- that of dies that weren't mounted
abbrev pub status_of_mount : MountStop → Status
status_of_mount (MountVariants.Failed die) = DieFailedStatus die
status_of_mount MountVariants.Memory = OutOfMemory

-- no die has a part in a stop
abbrev pub IsNoDie : {F : Type 0} → ReadStop F → Type 0
IsNoDie (Fault at fault) = ⊤
IsNoDie StopVariants.ReadFault = ⊤
IsNoDie (DieFailed die) = ⊥
IsNoDie Memory = ⊤

-- a status before anything is written: it is one of an input that wasn't served, and the source's
-- count rose where a read failed, and else is as it was
abbrev pub IsStop : ℕ → ℕ → Status → Type 0
IsStop before now (Image at fault) = now ≡ before
IsStop before now (Trace line fault) = now ≡ before
IsStop before now OutOfMemory = now ≡ before
IsStop before now (DieFailedStatus die) = now ≡ before
IsStop before now ReadFault = Rose before now
IsStop before now Done = ⊥
IsStop before now Words = ⊥
IsStop before now WriteFault = ⊥
IsStop before now (HistoryLimit channel length) = ⊥

-- a status before which nothing is written
abbrev pub IsSilent : Status → Type 0
IsSilent Words = ⊤
IsSilent (Image at fault) = ⊤
IsSilent (Trace line fault) = ⊤
IsSilent ReadFault = ⊤
IsSilent OutOfMemory = ⊤
IsSilent (DieFailedStatus die) = ⊤
IsSilent Done = ⊥
IsSilent WriteFault = ⊥
IsSilent (HistoryLimit channel length) = ⊥
