-- What did a call come to on its channel, where others made their entries between its steps? It has its reply, by its own steps;
-- or it was begun and stopped, where the history had no room for its next entry, or memory was refused.
use Rattle.std.specs.Prelude.{ℕ, ◌≡◌, List, length, Result, Ok, Err, ⊤}
use Rattle.chan_calls.specs.Caller.{CallerView}
use Rattle.chan_calls.specs.Stepping.{Standing}
use Rattle.chan_calls.specs.Workers.{WorkerState}
use Rattle.collector.specs.Emptying.{OfEach}
use Rattle.collector.specs.Writes.{OfEachWith}
use Rattle.ssd_geo.specs.declared.entry.Entry.{Entry}
use Rattle.ssd_geo.specs.declared.reply.Reply.{Reply}
use Rattle.ssd_geo.specs.declared.stop.StepStop.{StepStop}
use Rattle.ssd_geo.specs.declared.tag.Tag.{Tag}
use Rattle.ssd_geo.specs.declared.trace.Verb.{Verb}
use Rattle.ssd_histories.specs.Start.{Start}
use Rattle.calls_among_others.specs.CallsAmong.{IsCallAmong}
use Rattle.race_laws.specs.BegunCalls.{IsBegunAmong}

-- a history that has no room has as many entries as its stop tells
abbrev pub TellsLength : StepStop → List Entry → Type 0
TellsLength (StepStop.HistoryFull told) past = told ≡ length past
TellsLength StepStop.Memory past = ⊤

-- a call was begun, and stopped there
pub record IsStoppedAmong (start : Start) (contents : List (Tag × List ℕ)) (channels channel : ℕ) (tag : Tag) (verb : Verb)
    (before after : List Entry) (stop : StepStop) : Type 0 where
  pub begun : IsBegunAmong start contents channels channel tag verb before after
  pub tells : TellsLength stop after

-- how a call of a verb ended on a channel of so many
abbrev pub EndsAmong : Start → List (Tag × List ℕ) → ℕ → ℕ → Tag → Verb → List Entry → List Entry → Result Reply StepStop →
    Type 0
EndsAmong start contents channels channel tag verb before after (Ok reply) =
    IsCallAmong start contents channels channel tag verb before after reply
EndsAmong start contents channels channel tag verb before after (Err stop) =
    IsStoppedAmong start contents channels channel tag verb before after stop

-- so it ended whatever the channel's start and contents are
abbrev pub EndsForAll : ℕ → ℕ → Tag → Verb → List Entry → List Entry → Result Reply StepStop → Type 0
EndsForAll channels channel tag verb before after result =
    (start : Start) (contents : List (Tag × List ℕ)) →
    EndsAmong start contents channels channel tag verb before after result

-- so it ended for each start and contents for which the worker works and the channel stood
abbrev pub EndsForEach : WorkerState → CallerView → Standing → ℕ → ℕ → Tag → Verb → List Entry → Result Reply StepStop → Type 0
EndsForEach worker old stood channels channel tag verb after result =
    OfEach worker old stood
    (λ start contents. EndsAmong start contents channels channel tag verb old.seen after result)

-- and so a write, where these data are those of the call
abbrev pub EndsForEachWith : WorkerState → CallerView → Standing → ℕ → ℕ → Tag → Verb → List ℕ → List Entry →
    Result Reply StepStop → Type 0
EndsForEachWith worker old stood channels channel tag verb data_bytes after result =
    OfEachWith worker old stood tag data_bytes
    (λ start contents. EndsAmong start contents channels channel tag verb old.seen after result)
