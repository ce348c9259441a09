-- How is a channel's past kept, which looks were made in it, and which of them are open? A channel's history is a list
-- of entries. The past of an entry is what stands before it, kept newest entry first, so that each rule that looks back
-- goes by the newest entry; the position of the next entry is the length of the past. A printed or stored
-- history is the reverse of the past at its end.
use Rattle.std.specs.Prelude.{ℕ, ◌==◌, Bool, true, false, ◌&&◌, List, [], ◌∷◌, ◌++◌, length, reverse, Option, Some, None}
use Rattle.ssd_geo.specs.declared.entry.Entry.{Entry}
use Rattle.ssd_geo.specs.declared.kind.Kind.{Kind}
use Rattle.ssd_geo.specs.declared.look.Look.{Look}
use Rattle.ssd_geo.specs.declared.row.Row.{Row}
use Rattle.ssd_geo.specs.declared.tag.Tag.{Tag}
use Rattle.ssd_histories.specs.OpenLooks.{look_at, without_look}

-- the past at the end of a history, and the history whose end has a past
abbrev pub past_of : List Entry → List Entry
past_of history = reverse history

abbrev pub history_of : List Entry → List Entry
history_of past = reverse past

-- whether two tags name one call
abbrev pub is_same_tag : Tag → Tag → Bool
is_same_tag a b = a.actor == b.actor && a.call == b.call

-- the look that an entry of this kind at this position makes, where it finds a page
abbrev pub look_made : ℕ → Kind → Option Look
look_made at (Kind.Look row (Row.Page slot serial) closed) =
    Some (record { at = at; row = row; slot = slot; serial = serial; closed = closed })
look_made at _ = None

-- the look that the entry at a position made
abbrev pub look_of : List Entry → ℕ → Option Look
look_of [] at = None
look_of (entry ∷ past) at = elim (length past == at) [ true ↦ look_made at entry.kind | false ↦ look_of past at ]

-- the open looks with the look that an entry made, if it made one
abbrev pub with_look : Tag → Option Look → List (Tag × Look) → List (Tag × Look)
with_look tag None looks = looks
with_look tag (Some look) looks = looks ++ (tag, look) ∷ []

-- the open looks after an entry at a position: a look that found a page opens one, and a leave ends one
abbrev pub looks_after : ℕ → Tag → Kind → List (Tag × Look) → List (Tag × Look)
looks_after at tag (Kind.Leave left) looks = without_look looks left
looks_after at tag kind looks = with_look tag (look_made at kind) looks

-- the looks that found a page and have no leave yet, in the order in which they began
abbrev pub open_looks : List Entry → List (Tag × Look)
open_looks [] = []
open_looks (entry ∷ past) = looks_after (length past) entry.tag entry.kind (open_looks past)

-- the look of a pair where a call made it
abbrev pub look_by : Tag → Option (Tag × Look) → Option Look
look_by tag None = None
look_by tag (Some found) = elim (is_same_tag tag found.0) [ true ↦ Some found.1 | false ↦ None ]

-- the open look that began at a position, where this call made it
abbrev pub open_look : List Entry → Tag → ℕ → Option Look
open_look past tag at = look_by tag (look_at (open_looks past) at)
