-- What does a ladder keep ready, and what holds at each of its stages?
use Rattle.std.specs.Prelude.{ℕ, ◌≡◌, ◌≢◌, ◌<◌, IsTrue, is_some, List, length}
use Rattle.ssd_geo.specs.Coding.{data_in, word_bytes_in}
use Rattle.ssd_geo.specs.declared.look.Look.{Look}
use Rattle.ssd_geo.specs.declared.shape.Shape.{Shape}
use Rattle.retry_ladder.specs.View.{IsLookIn, place_in}
use Rattle.retry_ladder.specs.declared.ladder.Ladder.TheInside.{Inside}
use Rattle.retry_ladder.specs.declared.ladder.Stage.{Stage}
use Rattle.retry_ladder.specs.declared.ladder.Stage.TheVariants.{Failed, Found, Other, Page}

-- what holds at a stage: the look's slot is one of the shape's, another place is on another die,
-- and what was recovered has the head that the look expects
abbrev pub HoldsAt : Stage → Shape → Look → List ℕ → Type 0
HoldsAt Page shape look word = IsLookIn shape look
HoldsAt (Other die) shape look word =
    IsLookIn shape look × (die < shape.dies) × (die ≢ (place_in shape look).die)
HoldsAt (Found rung) shape look word = IsTrue (is_some (data_in shape look.serial look.row word))
HoldsAt Failed shape look word = Unit {0}

pub record IsWhole (a : Inside) : Type 0 where
  pub sum : length a.sum ≡ word_bytes_in a.work.shape
  pub holds : HoldsAt a.stage a.work.shape a.look a.work.word
