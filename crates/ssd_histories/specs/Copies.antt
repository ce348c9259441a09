-- Which entries make a copy, a read and a refresh? Each begins with a look and ends with its leave, where it found a
-- page; between them stand the senses of the look, and what became of it. The order is this project's own.
use Rattle.std.specs.Prelude.{ℕ, ◌≡◌, ◌==◌, ◌⊎◌, Bool, false, ◌&&◌, ◌||◌, IsTrue, List, [], ◌∷◌, ◌++◌}
use Rattle.std.specs.List.{list_all}
use Rattle.ssd_histories.specs.CallSteps.{CallStep, is_leave_of, is_look_at_row, is_look_of_none, is_look_of_page, is_sense_of, position_of}
use Rattle.ssd_geo.specs.Ladder.{LadderState, has_answer, is_recovered, is_uncorrectable}
use Rattle.ssd_histories.specs.Lawful.{is_fault_sense_of}
use Rattle.ssd_geo.specs.declared.entry.Entry.{Entry}
use Rattle.ssd_geo.specs.declared.kind.Kind.{Kind}

-- whether an entry ends a copy whose page was recovered, for the look that began at a position
abbrev pub is_after_recovered : ℕ → Kind → Bool
is_after_recovered at (Kind.Move named slot) = named == at
is_after_recovered at (Kind.Changed named found) = named == at
is_after_recovered at (Kind.Stay named worn) = named == at
is_after_recovered at (Kind.BadCopy named slot die fault) = named == at
is_after_recovered at _ = false

-- whether an entry ends a copy whose page couldn't be recovered
abbrev pub is_after_uncorrectable : ℕ → Kind → Bool
is_after_uncorrectable at (Kind.Condemn named) = named == at
is_after_uncorrectable at (Kind.Changed named found) = named == at
is_after_uncorrectable at _ = false

-- whether a step may stand between the senses of a copy and its leave: a failed sense, or what fits the ladder's answer
abbrev pub is_copy_end : (List Entry → ℕ → LadderState) → ℕ → CallStep → Bool
is_copy_end ladder at step =
    is_fault_sense_of at step.entry.kind
    || (is_recovered (ladder step.past at) && is_after_recovered at step.entry.kind)
    || (is_uncorrectable (ladder step.past at) && is_after_uncorrectable at step.entry.kind)

-- whether a step may stand there in a refresh: a failed sense, or what fits a page that was recovered
abbrev pub is_refresh_end : (List Entry → ℕ → LadderState) → ℕ → CallStep → Bool
is_refresh_end ladder at step =
    is_fault_sense_of at step.entry.kind || (is_recovered (ladder step.past at) && is_after_recovered at step.entry.kind)

-- the steps of a look that found a page: the look, its senses, the steps between them and its leave, and the leave
pub record IsLookList (steps : List CallStep) (look : CallStep) (ending : List CallStep) (leave : CallStep) : Type 0 where
  pub senses : List CallStep
  pub are_steps : steps ≡ look ∷ senses ++ ending ++ leave ∷ []
  pub finds_page : IsTrue (is_look_of_page look.entry.kind)
  pub are_senses : IsTrue (list_all (λ step. is_sense_of (position_of look) step.entry.kind) senses)
  pub is_left : IsTrue (is_leave_of (position_of look) leave.entry.kind)

-- a copy: just one entry stands between the senses and the leave
pub record IsCopy (ladder : List Entry → ℕ → LadderState) (steps : List CallStep) (look : CallStep) : Type 0 where
  pub ending : CallStep
  pub leave : CallStep
  pub is_list : IsLookList steps look (ending ∷ []) leave
  pub ends : IsTrue (is_copy_end ladder (position_of look) ending)

-- whether what stands between the senses of a read and its leave is right: a failed sense, or nothing after an answer
abbrev pub is_read_end : (List Entry → ℕ → LadderState) → ℕ → List CallStep → CallStep → Bool
is_read_end ladder at [] leave = has_answer (ladder leave.past at)
is_read_end ladder at (step ∷ []) leave = is_fault_sense_of at step.entry.kind
is_read_end ladder at (step ∷ next ∷ steps) leave = false

-- the same for a refresh: nothing stands there where the page can't be recovered
abbrev pub is_refreshed : (List Entry → ℕ → LadderState) → ℕ → List CallStep → CallStep → Bool
is_refreshed ladder at [] leave = is_uncorrectable (ladder leave.past at)
is_refreshed ladder at (step ∷ []) leave = is_refresh_end ladder at step
is_refreshed ladder at (step ∷ next ∷ steps) leave = false

-- a look of a row that found no page stands alone
abbrev pub is_lone_look : ℕ → List CallStep → Bool
is_lone_look row [] = false
is_lone_look row (step ∷ []) = is_look_of_none step.entry.kind && is_look_at_row row step.entry.kind
is_lone_look row (step ∷ next ∷ steps) = false

-- the steps of a look of a row that found a page, whose end passes a test
pub record IsPageList (row : ℕ) (is_end : ℕ → List CallStep → CallStep → Bool) (steps : List CallStep) : Type 0 where
  pub look : CallStep
  pub ending : List CallStep
  pub leave : CallStep
  pub is_list : IsLookList steps look ending leave
  pub of_row : IsTrue (is_look_at_row row look.entry.kind)
  pub ends : IsTrue (is_end (position_of look) ending leave)

-- a read of a row, and a refresh of it
abbrev pub IsRead : (List Entry → ℕ → LadderState) → ℕ → List CallStep → Type 0
IsRead ladder row steps = IsTrue (is_lone_look row steps) ⊎ IsPageList row (is_read_end ladder) steps

abbrev pub IsRefresh : (List Entry → ℕ → LadderState) → ℕ → List CallStep → Type 0
IsRefresh ladder row steps = IsTrue (is_lone_look row steps) ⊎ IsPageList row (is_refreshed ladder) steps
