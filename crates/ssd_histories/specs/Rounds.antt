-- Which entries make a round of a collection, a write and a collect? A round picks a victim or takes the one that there
-- is, copies its live pages out, and erases it. A write makes rounds until there is room; a collect makes rounds, with a
-- note after each, until it has a reply. The order is this project's own.
use Rattle.std.specs.Prelude.{ℕ, ◌≡◌, ◌⊎◌, ◌==◌, nat_lt, Bool, true, false, ◌&&◌, ◌||◌, not, IsTrue, List, [], ◌∷◌, ◌++◌, Option, Some, None, All, flat_map}
use Rattle.std.specs.List.{list_all, list_any}
use Rattle.ssd_histories.specs.CallSteps.{CallStep, is_erase_or_bad_erase, is_fault, is_pick, is_stay, late_pasts_of}
use Rattle.ssd_histories.specs.Copies.{IsCopy}
use Rattle.ssd_geo.specs.Ladder.{LadderState}
use Rattle.ssd_histories.specs.PageMap.{first_live_in, is_slot}
use Rattle.ssd_histories.specs.PastRows.{rows_of}
use Rattle.ssd_histories.specs.Room.{has_host_room, is_full, is_worn, live_of_victim, victim_of}
use Rattle.ssd_geo.specs.declared.base.ChannelBase.{ChannelBase}
use Rattle.ssd_geo.specs.declared.entry.Entry.{Entry}
use Rattle.ssd_geo.specs.declared.kind.Kind.{Kind}
use Rattle.ssd_geo.specs.declared.row.Row.{Row}
use Rattle.ssd_geo.specs.declared.slot.Slot.{Slot}

-- the live slot of least index in the victim, if there are a victim and a live page in it
abbrev pub first_live_of_victim : ChannelBase → List Entry → Option Slot
first_live_of_victim base past =
    elim (victim_of base past) [ Some sb ↦ first_live_in (rows_of base past) sb | None ↦ None ]

-- whether a slot is the one that there is
abbrev pub is_that_slot : Option Slot → Slot → Bool
is_that_slot None slot = false
is_that_slot (Some first) slot = is_slot first slot

-- whether a look is of the row that names the live slot of least index in the victim
abbrev pub is_first_live : ChannelBase → List Entry → Kind → Bool
is_first_live base past (Kind.Look row (Row.Page slot serial) closed) = is_that_slot (first_live_of_victim base past) slot
is_first_live base past _ = false

-- whether the steps of a copy end their round: a stay or a failed call is among them
abbrev pub ends_round : List CallStep → Bool
ends_round steps = list_any (λ step. is_stay step.entry.kind || is_fault step.entry.kind) steps

-- whether a list is empty
abbrev pub is_empty : {A : Type 0} → List A → Bool
is_empty [] = true
is_empty (item ∷ items) = false

-- whether nothing stands after a copy that ends its round, in some copies and the steps after them
abbrev pub is_ended_by_last : List (List CallStep) → List CallStep → Bool
is_ended_by_last [] after = true
is_ended_by_last (copy ∷ copies) after =
    (not (ends_round copy) || (is_empty copies && is_empty after)) && is_ended_by_last copies after

-- whether a list is empty, or one step that passes a test
abbrev pub is_at_most_one : (Kind → Bool) → List CallStep → Bool
is_at_most_one test [] = true
is_at_most_one test (step ∷ []) = test step.entry.kind
is_at_most_one test (step ∷ next ∷ steps) = false

-- a copy of the victim's first live page
pub record IsVictimCopy (ladder : List Entry → ℕ → LadderState) (base : ChannelBase) (steps : List CallStep) : Type 0 where
  pub look : CallStep
  pub is_copy : IsCopy ladder steps look
  pub is_first : IsTrue (is_first_live base look.past look.entry.kind)

-- a round: at most one pick, copies, and at most one erase or failed one; it ends at its stay and at a failed call
pub record IsRound (ladder : List Entry → ℕ → LadderState) (base : ChannelBase) (steps : List CallStep) : Type 0 where
  pub picks : List CallStep
  pub copies : List (List CallStep)
  pub erases : List CallStep
  pub are_steps : steps ≡ picks ++ flat_map (λ copy. copy) copies ++ erases
  pub one_pick : IsTrue (is_at_most_one is_pick picks)
  pub are_copies : All (IsVictimCopy ladder base) copies
  pub one_erase : IsTrue (is_at_most_one is_erase_or_bad_erase erases)
  pub ends : IsTrue (is_ended_by_last copies erases)

-- whether a die's call failed in some steps
abbrev pub has_fault : List CallStep → Bool
has_fault steps = list_any (λ step. is_fault step.entry.kind) steps

-- whether some steps have an erase or a failed one
abbrev pub has_erase : List CallStep → Bool
has_erase steps = list_any (λ step. is_erase_or_bad_erase step.entry.kind) steps

-- whether a step is a write of a row whose program answered FAIL, and whether it is one that ends a write of the row:
-- it was written or refused, or a die's call failed
abbrev pub is_failed_write : ℕ → Kind → Bool
is_failed_write row (Kind.BadWrite named slot die fault) = not fault && named == row
is_failed_write row _ = false

abbrev pub is_write_end : ℕ → Kind → Bool
is_write_end row (Kind.Write named slot) = named == row
is_write_end row (Kind.Refused named worn) = named == row
is_write_end row (Kind.BadWrite named slot die fault) = fault && named == row
is_write_end row _ = false

-- whether a list is one step that passes a test
abbrev pub is_one : (Kind → Bool) → List CallStep → Bool
is_one test [] = false
is_one test (step ∷ []) = test step.entry.kind
is_one test (step ∷ next ∷ steps) = false

-- a round in which no die's call failed
pub record IsFaultlessRound (ladder : List Entry → ℕ → LadderState) (base : ChannelBase) (steps : List CallStep) : Type 0 where
  pub is_round : IsRound ladder base steps
  pub no_fault : IsTrue (not (has_fault steps))

-- a round in which one did; it is the last thing of its call
pub record IsFaultRound (ladder : List Entry → ℕ → LadderState) (base : ChannelBase) (steps : List CallStep) : Type 0 where
  pub is_round : IsRound ladder base steps
  pub fault : IsTrue (has_fault steps)

-- what a write of a row makes before its last part: a round, or a write that answered FAIL
abbrev pub IsWritePart : (List Entry → ℕ → LadderState) → ChannelBase → ℕ → List CallStep → Type 0
IsWritePart ladder base row steps = IsTrue (is_one (is_failed_write row) steps) ⊎ IsFaultlessRound ladder base steps

-- its last part: it was written or refused, or a die's call failed
abbrev pub IsWriteEnd : (List Entry → ℕ → LadderState) → ChannelBase → ℕ → List CallStep → Type 0
IsWriteEnd ladder base row steps = IsTrue (is_one (is_write_end row) steps) ⊎ IsFaultRound ladder base steps

-- whether a write has to make room: it has no room, and isn't refused
abbrev pub needs_room : ChannelBase → List Entry → Bool
needs_room base past = not (has_host_room base past) && not (is_worn base past) && not (is_full base past)

-- whether a step, if it is a pick, had to make room lately
abbrev pub has_cause_to_pick : ChannelBase → CallStep → Bool
has_cause_to_pick base step = not (is_pick step.entry.kind) || list_any (needs_room base) (late_pasts_of step)

-- a write of a row: rounds and writes that answered FAIL, and then one that ends it; each pick had a cause
pub record IsWrite (ladder : List Entry → ℕ → LadderState) (base : ChannelBase) (row : ℕ) (steps : List CallStep) : Type 0 where
  pub parts : List (List CallStep)
  pub last : List CallStep
  pub are_steps : steps ≡ flat_map (λ part. part) parts ++ last
  pub are_parts : All (IsWritePart ladder base row) parts
  pub ends : IsWriteEnd ladder base row last
  pub have_cause : IsTrue (list_all (has_cause_to_pick base) steps)

-- whether an entry is a note, and whether it says that there is nothing to do: no victim and no garbage or no free
-- superblock, or a victim that can't be erased yet
abbrev pub is_note : Kind → Bool
is_note (Kind.Note free victim live pins garbage) = true
is_note _ = false

abbrev pub is_idle_note : Kind → Bool
is_idle_note (Kind.Note free None live pins garbage) = garbage == 0 || free == 0
is_idle_note (Kind.Note free (Some sb) live pins garbage) = nat_lt 0 live || nat_lt 0 pins
is_idle_note _ = false

-- whether an entry is a note that says that the victim has live pages
abbrev pub has_live_pages : Kind → Bool
has_live_pages (Kind.Note free victim live pins garbage) = nat_lt 0 live
has_live_pages _ = false

-- whether some steps end in a stay and the leave of its look
abbrev pub ends_in_stay : List CallStep → Bool
ends_in_stay [] = false
ends_in_stay (step ∷ []) = false
ends_in_stay (step ∷ leave ∷ []) = is_stay step.entry.kind
ends_in_stay (step ∷ next ∷ after ∷ steps) = ends_in_stay (next ∷ after ∷ steps)

-- whether there was lately no victim, or none with a live page
abbrev pub had_nothing_live : ChannelBase → CallStep → Bool
had_nothing_live base note = list_any (λ past. live_of_victim base past == 0) (late_pasts_of note)

-- whether a note after a round may end a collect: it is idle, and where it tells of live pages the round ended in a stay,
-- or there was lately nothing to copy
abbrev pub may_end : ChannelBase → List CallStep → CallStep → Bool
may_end base round note =
    is_idle_note note.entry.kind
    && (not (has_live_pages note.entry.kind) || ends_in_stay round || had_nothing_live base note)

-- a round that leaves a collect to go on, with the note after it
pub record IsLeftRound (ladder : List Entry → ℕ → LadderState) (base : ChannelBase) (steps : List CallStep) : Type 0 where
  pub round : List CallStep
  pub note : CallStep
  pub are_steps : steps ≡ round ++ note ∷ []
  pub is_round : IsFaultlessRound ladder base round
  pub no_erase : IsTrue (not (has_erase round))
  pub is_note : IsTrue (is_note note.entry.kind)

-- the last part of a collect that found something to do: a round that has an erase, or in which a die's call failed
pub record IsDoneRound (ladder : List Entry → ℕ → LadderState) (base : ChannelBase) (steps : List CallStep) : Type 0 where
  pub is_round : IsRound ladder base steps
  pub is_done : IsTrue (has_erase steps || has_fault steps)

-- the last part of one that found nothing: a round, and a note that may end it
pub record IsIdleRound (ladder : List Entry → ℕ → LadderState) (base : ChannelBase) (steps : List CallStep) : Type 0 where
  pub round : List CallStep
  pub note : CallStep
  pub are_steps : steps ≡ round ++ note ∷ []
  pub is_round : IsFaultlessRound ladder base round
  pub no_erase : IsTrue (not (has_erase round))
  pub may_end : IsTrue (may_end base round note)

-- a collect: rounds with a note after each, and its last part
pub record IsCollect (ladder : List Entry → ℕ → LadderState) (base : ChannelBase) (steps : List CallStep) : Type 0 where
  pub parts : List (List CallStep)
  pub last : List CallStep
  pub are_steps : steps ≡ flat_map (λ part. part) parts ++ last
  pub are_parts : All (IsLeftRound ladder base) parts
  pub ends : IsDoneRound ladder base last ⊎ IsIdleRound ladder base last
