-- Which steps are a refresh? One moves a page, and one leaves a page that can't be recovered. A copy that condemns its page,
-- a read and a refresh of another row just miss.
use Rattle.std.specs.Prelude.{ℕ, true, false, List, [], ◌∷◌, get_or, pos, negsuc}
use Rattle.ssd_histories.specs.Copies.{IsCopy, IsRead, IsRefresh}
use Rattle.ssd_histories.specs.HistoryExamples.{AreWithinLimits, page, place, step, tag_of}
use Rattle.ssd_histories.specs.PageMap.{slot_at}
use Rattle.ssd_geo.specs.declared.entry.Entry.{Entry}
use Rattle.ssd_geo.specs.declared.kind.Kind.{Kind}
use Rattle.ssd_geo.specs.declared.reply.RefreshReply.{RefreshReply}
use Rattle.ssd_geo.specs.declared.reply.Reply.{Reply}
use Rattle.ssd_geo.specs.declared.trace.Content.{Content}
use Rattle.ssd_geo.specs.declared.trace.Verb.{Verb}
use Rattle.past_examples.specs.WorkedRuns.{WorkedRun, call_of, ladder_on, steps_in}

-- a page is written, ages, and is read at the second level; a drain moves it, and it is read at the first
abbrev pub drained_history : List Entry
drained_history =
    step 0 0 (Kind.Write 0 (slot_at 0 0))
    ∷ step 0 1 (Kind.Age 1 0 150)
    ∷ step 0 2 (Kind.Look 0 (page 0 0 0) false)
    ∷ step 0 2 (Kind.Sense 2 (place 1 0 0) (pos 0))
    ∷ step 0 2 (Kind.Sense 2 (place 1 0 0) (negsuc 59))
    ∷ step 0 2 (Kind.Leave 2)
    ∷ step 0 3 (Kind.Look 0 (page 0 0 0) false)
    ∷ step 0 3 (Kind.Sense 6 (place 1 0 0) (pos 0))
    ∷ step 0 3 (Kind.Sense 6 (place 1 0 0) (negsuc 59))
    ∷ step 0 3 (Kind.Move 6 (slot_at 0 1))
    ∷ step 0 3 (Kind.Leave 6)
    ∷ step 0 4 (Kind.Look 0 (page 0 1 0) true)
    ∷ step 0 4 (Kind.Sense 11 (place 2 0 0) (pos 0))
    ∷ step 0 4 (Kind.Leave 11)
    ∷ []

abbrev pub drained_run : WorkedRun
drained_run = record {
  weak = [];
  contents = (tag_of 0 0, 9 ∷ []) ∷ [];
  calls =
      call_of 0 (Verb.Write 0 (Content.Listed (9 ∷ [])))
      ∷ call_of 1 (Verb.Age 0 1 0 150)
      ∷ call_of 2 (Verb.Read 0)
      ∷ call_of 3 (Verb.Drain 4)
      ∷ call_of 4 (Verb.Read 0)
      ∷ [];
  replies =
      Reply.Ok
      ∷ Reply.Ok
      ∷ Reply.Data 1 (9 ∷ 0 ∷ 0 ∷ 0 ∷ 0 ∷ 0 ∷ 0 ∷ 0 ∷ [])
      ∷ Reply.Drained ((0, RefreshReply.Moved) ∷ [])
      ∷ Reply.Data 0 (9 ∷ 0 ∷ 0 ∷ 0 ∷ 0 ∷ 0 ∷ 0 ∷ 0 ∷ [])
      ∷ [];
  history = drained_history;
}

-- a page is written and ages until no sense finds it; a refresh leaves it, and then a copy condemns it
abbrev pub lost_history : List Entry
lost_history =
    step 0 0 (Kind.Write 0 (slot_at 0 0))
    ∷ step 0 1 (Kind.Age 1 0 200)
    ∷ step 0 2 (Kind.Look 0 (page 0 0 0) false)
    ∷ step 0 2 (Kind.Sense 2 (place 1 0 0) (pos 0))
    ∷ step 0 2 (Kind.Sense 2 (place 1 0 0) (negsuc 59))
    ∷ step 0 2 (Kind.Sense 2 (place 1 0 0) (negsuc 19))
    ∷ step 0 2 (Kind.Sense 2 (place 1 0 0) (negsuc 9))
    ∷ step 0 2 (Kind.Sense 2 (place 1 0 0) (pos 0))
    ∷ step 0 2 (Kind.Sense 2 (place 1 0 0) (pos 10))
    ∷ step 0 2 (Kind.Sense 2 (place 1 0 0) (pos 20))
    ∷ step 0 2 (Kind.Leave 2)
    ∷ step 0 3 (Kind.Look 0 (page 0 0 0) false)
    ∷ step 0 3 (Kind.Sense 11 (place 1 0 0) (pos 0))
    ∷ step 0 3 (Kind.Sense 11 (place 1 0 0) (negsuc 59))
    ∷ step 0 3 (Kind.Sense 11 (place 1 0 0) (negsuc 19))
    ∷ step 0 3 (Kind.Sense 11 (place 1 0 0) (negsuc 9))
    ∷ step 0 3 (Kind.Sense 11 (place 1 0 0) (pos 0))
    ∷ step 0 3 (Kind.Sense 11 (place 1 0 0) (pos 10))
    ∷ step 0 3 (Kind.Sense 11 (place 1 0 0) (pos 20))
    ∷ step 0 3 (Kind.Condemn 11)
    ∷ step 0 3 (Kind.Leave 11)
    ∷ []

abbrev pub lost_run : WorkedRun
lost_run = record {
  weak = [];
  contents = (tag_of 0 0, 1 ∷ []) ∷ [];
  calls =
      call_of 0 (Verb.Write 0 (Content.Listed (1 ∷ [])))
      ∷ call_of 1 (Verb.Age 0 1 0 200)
      ∷ call_of 2 (Verb.Refresh 0)
      ∷ [];
  replies = Reply.Ok ∷ Reply.Ok ∷ Reply.Uncorrectable ∷ [];
  history = lost_history;
}

-- the steps of a call in a worked run are a refresh of a row, and aren't
abbrev pub IsRefreshIn : WorkedRun → ℕ → ℕ → Type 0
IsRefreshIn worked call row = (within : AreWithinLimits) → IsRefresh (ladder_on worked within) row (steps_in call worked)

abbrev pub IsNoRefreshIn : WorkedRun → ℕ → ℕ → Type 0
IsNoRefreshIn worked call row = (within : AreWithinLimits) → IsRefresh (ladder_on worked within) row (steps_in call worked) → ⊥

-- they are a read of a row
abbrev pub IsReadIn : WorkedRun → ℕ → ℕ → Type 0
IsReadIn worked call row = (within : AreWithinLimits) → IsRead (ladder_on worked within) row (steps_in call worked)

-- they are a copy, with their first step as its look
abbrev pub IsCopyIn : WorkedRun → ℕ → Type 0
IsCopyIn worked call =
    (within : AreWithinLimits) → IsCopy (ladder_on worked within) (steps_in call worked) (get_or (steps_in call worked) 0 (record { past = []; entry = step 0 0 (Kind.Trim 0) }))
