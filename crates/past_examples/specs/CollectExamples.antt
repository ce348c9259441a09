-- Which notes are idle, and which calls are collects? A collect goes on until a round decides its reply or a note after a
-- round is idle. One that ends with another note, and one that leaves a live page without a copy, just miss.
use Rattle.std.specs.Prelude.{ℕ, ◌≡◌, Bool, get_or, List, [], ◌∷◌, ◌++◌, take, true, Option, Some, None, pos}
use Rattle.ssd_geo.specs.Coding.{coding_of}
use Rattle.ssd_geo.specs.Ladder.{LadderState}
use Rattle.ssd_histories.specs.History.{past_of}
use Rattle.ssd_histories.specs.HistoryExamples.{AreWithinLimits, blank_start, freed_history, numbered_contents, page, place, small_channel, step, tag_of, worn_history}
use Rattle.ssd_histories.specs.CallSteps.{steps_of}
use Rattle.ssd_histories.specs.Rounds.{may_end}
use Rattle.ssd_histories.specs.PastPages.{ladder_of}
use Rattle.ssd_histories.specs.SerialCalls.{SerialCollect}
use Rattle.ssd_geo.specs.declared.entry.Entry.{Entry}
use Rattle.ssd_geo.specs.declared.kind.Kind.{Kind}
use Rattle.ssd_geo.specs.declared.weak.Weak.{Weak}

-- a note with so many free superblocks, the victim with its live pages and open looks, and how many superblocks have garbage
abbrev pub note : ℕ → Option ℕ → ℕ → ℕ → ℕ → Kind
note free victim live pins garbage = Kind.Note free victim live pins garbage

-- a collect on the worn channel: the victim's page stays, since there is no slot for its copy
abbrev pub worn_collect : List Entry
worn_collect =
    worn_history
    ++ step 0 12 (Kind.Look 2 (page 0 2 2) true)
    ∷ step 0 12 (Kind.Sense 28 (place 0 0 1) (pos 0))
    ∷ step 0 12 (Kind.Stay 28 true)
    ∷ step 0 12 (Kind.Leave 28)
    ∷ step 0 12 (Kind.Note 0 (Some 0) 2 0 0)
    ∷ []

-- a collect there that notes the victim's live pages without a copy
abbrev pub idle_before_copy : List Entry
idle_before_copy = worn_history ++ step 0 12 (Kind.Note 0 (Some 0) 2 0 0) ∷ []

-- a collect that notes garbage and free superblocks, and ends
abbrev pub ends_with_work : List Entry
ends_with_work = take 5 freed_history ++ step 0 5 (Kind.Note 2 None 0 0 1) ∷ []

-- the ladders of a history, where each write has its call's number as its data
abbrev pub ladder_in_history : List Weak → AreWithinLimits → List Entry → ℕ → LadderState
ladder_in_history weak within = ladder_of (coding_of (small_channel weak within)) (blank_start weak within) (numbered_contents 14)

-- the entries of a history after its first ones are a collect that is served alone, and aren't
abbrev pub IsCollectAfter : List Weak → ℕ → ℕ → List Entry → Type 0
IsCollectAfter weak first call history =
    (within : AreWithinLimits) → SerialCollect (ladder_in_history weak within) (small_channel weak within) (tag_of 0 call) (past_of (take first history)) (past_of history)

abbrev pub IsNoCollectAfter : List Weak → ℕ → ℕ → List Entry → Type 0
IsNoCollectAfter weak first call history =
    (within : AreWithinLimits) → SerialCollect (ladder_in_history weak within) (small_channel weak within) (tag_of 0 call) (past_of (take first history)) (past_of history) → ⊥

-- whether the note after a round of so many steps may end a collect of a call
abbrev pub MayEndAfter : List Weak → ℕ → List Entry → ℕ → Bool → Type 0
MayEndAfter weak call history round may =
    (within : AreWithinLimits) → let steps = steps_of (tag_of 0 call) (past_of history) in
    may_end (small_channel weak within) (take round steps) (get_or steps round (record { past = []; entry = step 0 0 (Kind.Trim 0) })) ≡ may
