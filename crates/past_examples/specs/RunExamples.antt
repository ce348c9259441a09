-- Which whole runs are worked out? Each has the calls of actor 0, their replies and the history that they leave. Where
-- nothing else is said a write has the number of its call as its data.
use Rattle.std.specs.Prelude.{ℕ, List, [], ◌∷◌, ◌++◌, take, drop, replicate, false, pos}
use Rattle.ssd_histories.specs.CallsInOrder.{AreCallsInOrder, AreReplies}
use Rattle.ssd_histories.specs.HistoryExamples.{AreWithinLimits, collected_history, faulted_history, freed_history, idle_history, numbered_contents, page, place, step, tag_of, weak_on_die_0, worn_history}
use Rattle.ssd_histories.specs.PageMap.{slot_at}
use Rattle.ssd_geo.specs.declared.entry.Entry.{Entry}
use Rattle.ssd_geo.specs.declared.kind.Kind.{Kind}
use Rattle.ssd_geo.specs.declared.reply.RefreshReply.{RefreshReply}
use Rattle.ssd_geo.specs.declared.reply.Reply.{Reply}
use Rattle.ssd_geo.specs.declared.row.Row.{Row}
use Rattle.ssd_geo.specs.declared.trace.Content.{Content}
use Rattle.ssd_geo.specs.declared.trace.TraceCall.{TraceCall}
use Rattle.ssd_geo.specs.declared.trace.Verb.{Verb}
use Rattle.past_examples.specs.RefreshExamples.{drained_history, drained_run}
use Rattle.past_examples.specs.ViewExamples.{unfit_history}
use Rattle.past_examples.specs.WorkedRuns.{WorkedRun, call_of, channel_of}

-- a write of a page, with its number as its data
abbrev pub written : ℕ → ℕ → TraceCall
written call page = call_of call (Verb.Write page (Content.Listed (call ∷ [])))

-- thirteen writes, of which the last finds no room
abbrev pub thirteen_writes : List TraceCall
thirteen_writes =
    written 0 0
    ∷ written 1 1
    ∷ written 2 2
    ∷ written 3 3
    ∷ written 4 4
    ∷ written 5 5
    ∷ written 6 6
    ∷ written 7 7
    ∷ written 8 0
    ∷ written 9 1
    ∷ written 10 2
    ∷ written 11 4
    ∷ written 12 5
    ∷ []

-- the last write collects the superblock with the most garbage
abbrev pub collected_run : WorkedRun
collected_run =
    record { weak = []; contents = numbered_contents 13; calls = thirteen_writes; replies = replicate 13 Reply.Ok; history = collected_history }

-- it collects another one, as a policy may that doesn't tell its view
abbrev pub unfit_run : WorkedRun
unfit_run =
    record { weak = []; contents = numbered_contents 13; calls = thirteen_writes; replies = replicate 13 Reply.Ok; history = unfit_history }

-- a channel that becomes worn: a write is refused since it is full, one since it is worn, and a read still answers
abbrev pub worn_run : WorkedRun
worn_run = record {
  weak = weak_on_die_0;
  contents = numbered_contents 11;
  calls =
      written 0 0
      ∷ written 1 1
      ∷ written 2 2
      ∷ written 3 3
      ∷ written 4 4
      ∷ written 5 5
      ∷ written 6 6
      ∷ written 7 7
      ∷ written 8 0
      ∷ call_of 9 (Verb.Trim 1)
      ∷ written 10 0
      ∷ call_of 11 (Verb.Read 3)
      ∷ [];
  replies = replicate 8 Reply.Ok ++ Reply.Full ∷ Reply.Ok ∷ Reply.ReadOnly ∷ Reply.Data 0 (3 ∷ 0 ∷ 0 ∷ 0 ∷ 0 ∷ 0 ∷ 0 ∷ 0 ∷ []) ∷ [];
  history = worn_history;
}

-- a collect of the blank channel, and one after five writes
abbrev pub idle_run : WorkedRun
idle_run =
    record { weak = []; contents = []; calls = call_of 0 (Verb.Collect 0) ∷ []; replies = Reply.Idle ∷ []; history = idle_history }

abbrev pub freed_run : WorkedRun
freed_run = record {
  weak = [];
  contents = numbered_contents 5;
  calls = written 0 0 ∷ written 1 0 ∷ written 2 0 ∷ written 3 0 ∷ written 4 1 ∷ call_of 5 (Verb.Collect 0) ∷ [];
  replies = replicate 5 Reply.Ok ++ Reply.Collected 0 ∷ [];
  history = freed_history;
}

-- a die's call fails in the first of two reads
abbrev pub faulted_run : WorkedRun
faulted_run = record {
  weak = [];
  contents = (tag_of 0 0, 5 ∷ []) ∷ [];
  calls = call_of 0 (Verb.Write 0 (Content.Listed (5 ∷ []))) ∷ call_of 1 (Verb.Read 0) ∷ call_of 2 (Verb.Read 0) ∷ [];
  replies = Reply.Ok ∷ Reply.DieFault 1 ∷ Reply.Data 0 (5 ∷ 0 ∷ 0 ∷ 0 ∷ 0 ∷ 0 ∷ 0 ∷ 0 ∷ []) ∷ [];
  history = faulted_history;
}

-- die 1 is weak in superblock 0: the first program answers FAIL, and the write goes to superblock 1
abbrev pub failed_history : List Entry
failed_history =
    step 0 0 (Kind.BadWrite 5 (slot_at 0 0) 1 false)
    ∷ step 0 0 (Kind.Write 5 (slot_at 1 0))
    ∷ step 0 1 (Kind.Look 5 (page 1 0 0) false)
    ∷ step 0 1 (Kind.Sense 2 (place 0 1 0) (pos 0))
    ∷ step 0 1 (Kind.Leave 2)
    ∷ []

abbrev pub failed_run : WorkedRun
failed_run = record {
  weak = record { channel = 0; die = 1; sb = 0; «from» = 0 } ∷ [];
  contents = (tag_of 0 0, 1 ∷ 2 ∷ []) ∷ [];
  calls = call_of 0 (Verb.Write 5 (Content.Listed (1 ∷ 2 ∷ []))) ∷ call_of 1 (Verb.Read 5) ∷ [];
  replies = Reply.Ok ∷ Reply.Data 0 (1 ∷ 2 ∷ 0 ∷ 0 ∷ 0 ∷ 0 ∷ 0 ∷ 0 ∷ []) ∷ [];
  history = failed_history;
}

-- The run with a drain, with one thing changed: the first read is said to have found its page at the first level; the last
-- read isn't among the calls; the last two calls have no reply; and an entry of the first read comes after those of the drain.
abbrev pub wrong_rung : WorkedRun
wrong_rung = record drained_run {
  replies =
      Reply.Ok
      ∷ Reply.Ok
      ∷ Reply.Data 0 (9 ∷ 0 ∷ 0 ∷ 0 ∷ 0 ∷ 0 ∷ 0 ∷ 0 ∷ [])
      ∷ Reply.Drained ((0, RefreshReply.Moved) ∷ [])
      ∷ Reply.Data 0 (9 ∷ 0 ∷ 0 ∷ 0 ∷ 0 ∷ 0 ∷ 0 ∷ 0 ∷ [])
      ∷ [];
}

abbrev pub unknown_call : WorkedRun
unknown_call = record drained_run { calls = take 4 drained_run.calls }

abbrev pub two_unanswered : WorkedRun
two_unanswered = record drained_run { replies = take 3 drained_run.replies }

abbrev pub entry_of_earlier : WorkedRun
entry_of_earlier = record drained_run { history = take 11 drained_history ++ step 0 2 (Kind.Look 1 Row.Empty false) ∷ drop 11 drained_history }

-- the last read has no reply, but all of its entries; and it has its look and a sense, and no leave
abbrev pub begun_run : WorkedRun
begun_run = record drained_run { replies = take 4 drained_run.replies }

abbrev pub left_open : WorkedRun
left_open = record drained_run { replies = take 4 drained_run.replies; history = take 13 drained_history }

-- a run doesn't have the replies of its calls, and its calls aren't in order
abbrev pub LacksReplies : WorkedRun → Type 0
LacksReplies worked =
    (within : AreWithinLimits) → AreReplies worked.contents worked.calls (worked.replies ∷ []) (channel_of worked within ∷ []) → ⊥

abbrev pub IsOutOfOrder : WorkedRun → Type 0
IsOutOfOrder worked =
    (within : AreWithinLimits) → AreCallsInOrder worked.contents worked.calls (worked.replies ∷ []) (channel_of worked within ∷ []) → ⊥
