-- What do contracts see of a ladder? The shape, the read levels and the distance of soft senses
-- that it goes by, the look that it began with, and what it keeps of the senses since. A caller
-- goes by `StandsFor`: a ladder stands for a coding, a look and the senses that it was fed, in
-- order.
use Rattle.std.specs.Prelude.{ℕ, ◌≡◌, ◌+◌, ◌-◌, ◌<◌, ◌==◌, not, List, [], ◌∷◌, ◌++◌, filter, map, Some, ℤ}
use Rattle.std.specs.List.{range_with_len}
use Rattle.ssd_geo.specs.BaseMatrix.{BaseMatrix}
use Rattle.ssd_geo.specs.Coding.{Coding, coding_in}
use Rattle.ssd_geo.specs.Ladder.{LadderState, asks, recovered, uncorrectable, ladder_over}
use Rattle.ssd_geo.specs.Stripe.{place_of_slot}
use Rattle.ssd_geo.specs.Superblock.{slots_of}
use Rattle.ssd_geo.specs.declared.look.Look.{Look}
use Rattle.ssd_geo.specs.declared.place.Place.{Place}
use Rattle.ssd_geo.specs.declared.shape.Shape.{Shape}
use Rattle.retry_ladder.specs.Running.{LadderRun, at_other, at_page, come_to, has_none, has_page, run_fed, run_of}
use Rattle.retry_ladder.specs.Work.{WorkView}
use Rattle.retry_ladder.specs.declared.ask.Answer.{Answer}
use Rattle.retry_ladder.specs.declared.ask.Answer.TheVariants.{Recovered, Uncorrectable}
use Rattle.retry_ladder.specs.declared.ask.Ask.{Ask}
use Rattle.retry_ladder.specs.declared.ask.Ask.TheVariants.{At, Done}
use Rattle.retry_ladder.specs.declared.ladder.Ladder.TheInside.{Inside}
use Rattle.retry_ladder.specs.declared.ladder.Stage.{Stage}
use Rattle.retry_ladder.specs.declared.ladder.Stage.TheVariants.{Failed, Found, Other, Page}

-- what a ladder goes by, and what it keeps
pub record LadderView : Type 0 where
  pub shape : Shape
  pub levels : List ℤ
  pub step : ℕ
  pub look : Look
  pub run : LadderRun

-- the place of the page that is looked for
abbrev pub place_in : Shape → Look → Place
place_in shape look = place_of_slot shape.dies look.slot

-- the other places of a page's stripe whose dies aren't below a number
abbrev pub places_from : ℕ → Place → ℕ → List Place
places_from dies place die =
    map (λ die. record { die = die; sb = place.sb; page = place.page })
    (filter (λ die. not (die == place.die)) (range_with_len die (dies - die)))

-- what is kept, from the stage that the ladder is at
abbrev pub run_at : Stage → ℕ → Place → WorkView → List ℕ → LadderRun
run_at Page dies place work sum = at_page work.run
run_at (Other die) dies place work sum =
    at_other (record { die = die; sb = place.sb; page = place.page })
    (places_from dies place (die + 1)) sum work.run
run_at (Found rung) dies place work sum = has_page rung work.word
run_at Failed dies place work sum = has_none

abbrev pub ladder_view : Inside → LadderView
ladder_view a = record {
  shape = a.work.shape;
  levels = a.work.levels;
  step = a.work.step;
  look = a.look;
  run = run_at a.stage a.work.shape.dies (place_in a.work.shape a.look) a.work a.sum;
}

-- a look's slot is one of the shape's
pub record IsLookIn (shape : Shape) (look : Look) : Type 0 where
  pub superblock : look.slot.sb < shape.superblocks
  pub index : look.slot.index < slots_of shape.pages shape.dies

-- the coding that a ladder goes by with a decoder of this matrix and this iteration limit
abbrev pub coding_with : LadderView → BaseMatrix → ℕ → Coding
coding_with ladder matrix limit = coding_in ladder.shape ladder.levels ladder.step matrix limit

-- a ladder stands for a decoder's coding, a look and the senses that it was fed, in order
pub record StandsFor (ladder : LadderView) (matrix : BaseMatrix) (limit : ℕ) (look : Look)
    (senses : List (List ℕ)) : Type 0 where
  pub look_is : ladder.look ≡ look
  pub run_is : ladder.run ≡ run_of (coding_with ladder matrix limit) ladder.shape.dies look senses

-- what a ladder has come to
abbrev pub state_in : LadderView → LadderState
state_in ladder = come_to ladder.step (place_in ladder.shape ladder.look) ladder.run

-- a ladder after one more sense
abbrev pub with_sense : LadderView → BaseMatrix → ℕ → List ℕ → LadderView
with_sense ladder matrix limit sense =
    record ladder {
      run = run_fed (coding_with ladder matrix limit) ladder.shape.dies ladder.look
          ladder.run sense;
    }

-- an ask tells what a ladder has come to
abbrev pub IsAskOf : LadderState → Ask → Type 0
IsAskOf (asks place level) ask = ask ≡ At place level
IsAskOf (recovered rung word) ask = ask ≡ Done
IsAskOf uncorrectable ask = ask ≡ Done

-- an answer tells what a ladder has come to, where it has one
abbrev pub IsAnswerOf : LadderState → Answer → Type 0
IsAnswerOf (asks place level) answer = ⊥
IsAnswerOf (recovered rung word) answer = answer ≡ Recovered rung
IsAnswerOf uncorrectable answer = answer ≡ Uncorrectable

-- a ladder is at the page itself, and at another page of its stripe, on this die
abbrev pub IsPage : LadderRun → Type 0
IsPage (at_page run) = Unit {0}
IsPage (at_other place places sum run) = ⊥
IsPage (has_page rung word) = ⊥
IsPage has_none = ⊥

abbrev pub IsOther : LadderRun → ℕ → Type 0
IsOther (at_page run) die = ⊥
IsOther (at_other place places sum run) die = place.die ≡ die
IsOther (has_page rung word) die = ⊥
IsOther has_none die = ⊥

-- Laws, each the contract of a function without a body.

-- a ladder that stands for senses, and is fed one more, stands for them and that one
abbrev pub FedLaddersStand : Type 0
FedLaddersStand =
    (ladder : LadderView) (matrix : BaseMatrix) (limit : ℕ) (look : Look) (senses : List (List ℕ))
    (sense : List ℕ) →
    StandsFor ladder matrix limit look senses →
    StandsFor (with_sense ladder matrix limit sense) matrix limit look (senses ++ sense ∷ [])

-- what a ladder has come to is what the definition says of all the senses that it stands for
abbrev pub LaddersTellTheirState : Type 0
LaddersTellTheirState =
    (ladder : LadderView) (matrix : BaseMatrix) (limit : ℕ) (look : Look) (senses : List (List ℕ)) →
    StandsFor ladder matrix limit look senses →
    state_in ladder ≡ ladder_over (coding_with ladder matrix limit) ladder.shape.dies (Some look)
    senses
