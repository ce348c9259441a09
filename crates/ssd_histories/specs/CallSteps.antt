-- Which steps did a call make on a channel? A step is an entry with the entries before it. The steps of a call stand in
-- the order in which they were made.
use Rattle.std.specs.Prelude.{ℕ, ◌==◌, Bool, true, false, List, [], ◌∷◌, ◌++◌, length, Option, Some, None}
use Rattle.ssd_histories.specs.History.{is_same_tag}
use Rattle.ssd_geo.specs.declared.entry.Entry.{Entry}
use Rattle.ssd_geo.specs.declared.kind.Kind.{Kind}
use Rattle.ssd_geo.specs.declared.row.Row.{Row}
use Rattle.ssd_geo.specs.declared.tag.Tag.{Tag}

-- an entry of a history, with its past
pub record CallStep : Type 0 where
  pub past : List Entry
  pub entry : Entry

-- the position of a step
abbrev pub position_of : CallStep → ℕ
position_of step = length step.past

-- the steps of a call
abbrev pub steps_of : Tag → List Entry → List CallStep
steps_of tag [] = []
steps_of tag (entry ∷ past) =
    elim (is_same_tag tag entry.tag) [
      | true ↦ steps_of tag past ++ record { past = past; entry = entry } ∷ []
      | false ↦ steps_of tag past
    ]

-- the pasts of the late positions of an entry of an actor: those after the actor's entry before it, up to its own, or
-- all from the first on where the actor has no entry before it
abbrev pub late_pasts : ℕ → List Entry → List (List Entry)
late_pasts actor [] = [] ∷ []
late_pasts actor (entry ∷ past) =
    (entry ∷ past) ∷ elim (entry.tag.actor == actor) [ true ↦ [] | false ↦ late_pasts actor past ]

-- the late pasts of a step
abbrev pub late_pasts_of : CallStep → List (List Entry)
late_pasts_of step = late_pasts step.entry.tag.actor step.past

-- the die whose call failed in an entry, if one did
abbrev pub failed_die : Kind → Option ℕ
failed_die (Kind.FaultSense at place level) = Some place.die
failed_die (Kind.FaultAge die sb amount) = Some die
failed_die (Kind.BadWrite row slot die true) = Some die
failed_die (Kind.BadCopy at slot die true) = Some die
failed_die (Kind.BadErase sb die true) = Some die
failed_die _ = None

-- whether a die's call failed in an entry
abbrev pub is_fault : Kind → Bool
is_fault (Kind.FaultSense at place level) = true
is_fault (Kind.FaultAge die sb amount) = true
is_fault (Kind.BadWrite row slot die fault) = fault
is_fault (Kind.BadCopy at slot die fault) = fault
is_fault (Kind.BadErase sb die fault) = fault
is_fault _ = false

-- whether an entry is a look of a row that found a page, and one that found none
abbrev pub is_look_of_page : Kind → Bool
is_look_of_page (Kind.Look row (Row.Page slot serial) closed) = true
is_look_of_page _ = false

abbrev pub is_look_of_none : Kind → Bool
is_look_of_none (Kind.Look row Row.Empty closed) = true
is_look_of_none (Kind.Look row Row.Lost closed) = true
is_look_of_none _ = false

-- whether an entry is a look of a row
abbrev pub is_look_at_row : ℕ → Kind → Bool
is_look_at_row row (Kind.Look named found closed) = named == row
is_look_at_row row _ = false

-- whether an entry is a sense, a failed sense or the leave of the look that began at a position
abbrev pub is_sense_of : ℕ → Kind → Bool
is_sense_of at (Kind.Sense named place level) = named == at
is_sense_of at _ = false

abbrev pub is_leave_of : ℕ → Kind → Bool
is_leave_of at (Kind.Leave named) = named == at
is_leave_of at _ = false

-- whether an entry is a pick, an erase or a failed one, a stay
abbrev pub is_pick : Kind → Bool
is_pick (Kind.Pick sb) = true
is_pick _ = false

abbrev pub is_erase_or_bad_erase : Kind → Bool
is_erase_or_bad_erase (Kind.Erase sb) = true
is_erase_or_bad_erase (Kind.BadErase sb die fault) = true
is_erase_or_bad_erase _ = false

abbrev pub is_stay : Kind → Bool
is_stay (Kind.Stay at worn) = true
is_stay _ = false
