-- Which steps did a call make among those of other actors? Each stands upon the past that it found, which begins with what the
-- call's actor had seen: others may have come, but none of what came is that actor's. So the late positions of a step are
-- those from the call's step before it on. Each law is the contract of a function without a body.
use Rattle.std.specs.Prelude.{ℕ, ◌≡◌, ◌≢◌, Bool, true, false, List, [], ◌∷◌, ◌++◌, All}
use Rattle.std.specs.List.{list_any}
use Rattle.ssd_histories.specs.CallSteps.{CallStep, late_pasts, steps_of}
use Rattle.ssd_histories.specs.History.{is_same_tag}
use Rattle.ssd_histories.specs.SerialCalls.{AreStepsFrom}
use Rattle.ssd_geo.specs.declared.entry.Entry.{Entry}
use Rattle.ssd_geo.specs.declared.tag.Tag.{Tag}

-- others came to a past: none of the entries that were added to it is of this actor
pub record HasCome (actor : ℕ) (before after : List Entry) : Type 0 where
  pub others : List Entry
  pub after_is : after ≡ others ++ before
  pub of_others : All (λ entry. entry.tag.actor ≢ actor) others

-- a call made these steps from one past to another, and others came between them
abbrev pub AreStepsAmong : Tag → List Entry → List CallStep → List Entry → Type 0
AreStepsAmong tag before [] after = HasCome tag.actor before after
AreStepsAmong tag before (step ∷ steps) after =
    HasCome tag.actor before step.past × (step.entry.tag ≡ tag) × AreStepsAmong tag (step.entry ∷ step.past) steps after

-- steps that stand together are such steps: no other came
abbrev pub StepsTogetherAreAmong : Type 0
StepsTogetherAreAmong =
    (tag : Tag) (before after : List Entry) (steps : List CallStep) → AreStepsFrom tag before steps after →
    AreStepsAmong tag before steps after

-- steps after steps are steps
abbrev pub StepsAmongJoin : Type 0
StepsAmongJoin =
    (tag : Tag) (before between after : List Entry) (steps more : List CallStep) → AreStepsAmong tag before steps between →
    AreStepsAmong tag between more after → AreStepsAmong tag before (steps ++ more) after

-- they are all that the call did since, and no other call of its actor did anything
pub record AreAllSteps (tag : Tag) (before : List Entry) (steps : List CallStep) (after : List Entry) : Type 0 where
  pub are_all : steps_of tag after ≡ steps_of tag before ++ steps
  pub no_other_call :
      (other : Tag) → other.actor ≡ tag.actor → is_same_tag other tag ≡ false → steps_of other after ≡ steps_of other before

abbrev pub StepsAmongAreAll : Type 0
StepsAmongAreAll =
    (tag : Tag) (before after : List Entry) (steps : List CallStep) → AreStepsAmong tag before steps after →
    AreAllSteps tag before steps after

-- what a test says of a past it says lately of each past to which others came since
abbrev pub PastsAreLate : Type 0
PastsAreLate =
    (actor : ℕ) (test : List Entry → Bool) (before after : List Entry) → HasCome actor before after → test before ≡ true →
    list_any test (late_pasts actor after) ≡ true
