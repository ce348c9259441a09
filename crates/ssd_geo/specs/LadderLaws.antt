-- When does a ladder come to its answer? The law is the contract of a function without a body.
use Rattle.std.specs.Prelude.{ℕ, ◌+◌, ◌*◌, ◌<◌, Bool, List, length, ⊤}
use Rattle.ssd_geo.specs.Coding.{Coding}
use Rattle.ssd_geo.specs.Ladder.{LadderState, asks, ladder, other_places, recovered, uncorrectable}
use Rattle.ssd_geo.specs.declared.place.Place.{Place}

-- a ladder that was given so many senses asks for one more only below a limit
abbrev pub AsksBelow : ℕ → ℕ → LadderState → Type 0
AsksBelow limit senses (asks place level) = senses < limit
AsksBelow limit senses (recovered rung word) = ⊤
AsksBelow limit senses uncorrectable = ⊤

-- the ladder of a page of a channel with K dies and T read levels asks for at most (T + 5) * K senses
abbrev pub LaddersEnd : Type 0
LaddersEnd =
    (coding : Coding) (accepts : List ℕ → Bool) (dies : ℕ) (place : Place) (closed : Bool) (senses : List (List ℕ)) → place.die < dies →
    AsksBelow ((length coding.levels + 5) * dies) (length senses) (ladder coding accepts place (other_places dies place) closed senses)
