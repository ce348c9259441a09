-- Does a blank drive take each write? Where it has no weak block and no die counted a fault, each write that was answered was
-- done: none is refused, since the channel is neither full nor worn out at any time. The law is the contract of a function
-- without a body.
use Rattle.std.specs.Prelude.{◌≡◌, [], ⊤}
use Rattle.ssd_formats.specs.ImageHead.{Head}
use Rattle.ssd_geo.specs.declared.reply.Reply.{Reply}
use Rattle.ssd_geo.specs.declared.trace.Verb.{Verb}
use Rattle.run_laws.specs.Runs.{Run, channels_of}
use Rattle.complete_runs.specs.BlankRuns.{BeginsBlank}
use Rattle.complete_runs.specs.OrderedRuns.{IsOrderedRun}
use Rattle.complete_runs.specs.UncountedRuns.{AreAnswered, CountNone}

-- a write was done
abbrev pub IsDone : Verb → Reply → Type 0
IsDone (Verb.Write page content) reply = reply ≡ Reply.Ok
IsDone verb reply = ⊤

-- each write is done, where the drive began blank, it has no weak block and no die counted a fault
abbrev pub BlankRunsTakeWrites : Type 0
BlankRunsTakeWrites =
    (head : Head) (run : Run) → BeginsBlank head run → head.weak ≡ [] → IsOrderedRun head run →
    CountNone (channels_of run) run.faults → AreAnswered run (λ call reply. IsDone call.verb reply)
