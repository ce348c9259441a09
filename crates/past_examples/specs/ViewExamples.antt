-- Which picks follow the view that a policy tells, and what is told after them? Each pick must be the view's answer as it was
-- moved on before. Where no view is told every pick is free.
use Rattle.std.specs.Prelude.{ℕ, ◌≡◌, ◌++◌, List, [], ◌∷◌, take, true, Some, None, pos}
use Rattle.ssd_histories.specs.FollowedViews.{FollowsTold}
use Rattle.ssd_histories.specs.History.{past_of}
use Rattle.ssd_histories.specs.HistoryExamples.{AreWithinLimits, blank_start, collected_history, page, place, small_channel, step}
use Rattle.ssd_histories.specs.PageMap.{slot_at}
use Rattle.ssd_histories.specs.Policies.{first_view}
use Rattle.ssd_histories.specs.Standing.{view_told}
use Rattle.ssd_geo.specs.declared.entry.Entry.{Entry}
use Rattle.ssd_geo.specs.declared.kind.Kind.{Kind}
use Rattle.ssd_geo.specs.declared.policy_view.PolicyKind.{PolicyKind}

-- a write that makes room by the collection of superblock 1, which has garbage, though superblock 0 has more
abbrev pub unfit_history : List Entry
unfit_history =
    take 12 collected_history
    ++ step 0 12 (Kind.Pick 1)
    ∷ step 0 12 (Kind.Look 5 (page 1 1 5) true)
    ∷ step 0 12 (Kind.Sense 13 (place 2 1 0) (pos 0))
    ∷ step 0 12 (Kind.Move 13 (slot_at 3 0))
    ∷ step 0 12 (Kind.Leave 13)
    ∷ step 0 12 (Kind.Look 6 (page 1 2 6) true)
    ∷ step 0 12 (Kind.Sense 17 (place 0 1 1) (pos 0))
    ∷ step 0 12 (Kind.Move 17 (slot_at 3 1))
    ∷ step 0 12 (Kind.Leave 17)
    ∷ step 0 12 (Kind.Look 7 (page 1 3 7) true)
    ∷ step 0 12 (Kind.Sense 21 (place 1 1 1) (pos 0))
    ∷ step 0 12 (Kind.Move 21 (slot_at 3 2))
    ∷ step 0 12 (Kind.Leave 21)
    ∷ step 0 12 (Kind.Erase 1)
    ∷ step 0 12 (Kind.Write 5 (slot_at 3 3))
    ∷ []

-- the picks of a history follow a policy of a kind that tells its view, and don't
abbrev pub FollowsPolicy : PolicyKind → List Entry → Type 0
FollowsPolicy kind history = (within : AreWithinLimits) → FollowsTold (small_channel [] within) (Some (first_view kind)) (past_of history)

abbrev pub LeavesPolicy : PolicyKind → List Entry → Type 0
LeavesPolicy kind history =
    (within : AreWithinLimits) → FollowsTold (small_channel [] within) (Some (first_view kind)) (past_of history) → ⊥

-- they follow where no view is told
abbrev pub FollowsUntold : List Entry → Type 0
FollowsUntold history = (within : AreWithinLimits) → FollowsTold (small_channel [] within) None (past_of history)

-- a policy of a kind tells this list of superblocks after a history, and one that doesn't tell its view tells none
abbrev pub TellsAfter : PolicyKind → List Entry → List ℕ → Type 0
TellsAfter kind history list =
    (within : AreWithinLimits) → view_told (record (blank_start [] within) { view = Some (first_view kind) }) (past_of history)
    ≡ Some (record { kind = kind; list = list })

abbrev pub TellsNoView : List Entry → Type 0
TellsNoView history = (within : AreWithinLimits) → view_told (blank_start [] within) (past_of history) ≡ None
