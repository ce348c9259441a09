-- A past is longer by the steps that were made.
use Rattle.std.proofs.Common.{◌≡◌, ◌+◌, ◌-◌, List, [], ◌∷◌, length, ap, arith}
use Rattle.ssd_geo.specs.declared.entry.Entry.{Entry}
use Rattle.ssd_geo.specs.declared.tag.Tag.{Tag}
use Rattle.ssd_histories.specs.CallSteps.{CallStep}
use Rattle.ssd_histories.specs.SerialCalls.{AreStepsFrom}

-- so it is after steps
pub steps_long : (tag : Tag) (before after : List Entry) (steps : List CallStep) → AreStepsFrom tag before steps after →
    length after ≡ length before + length steps
steps_long tag before after [] are = let same : length before ≡ length after = ap (λ (past : List Entry). length past) are in omega (arith, same)
steps_long tag before after (step ∷ steps) are =
    let rest = steps_long tag (step.entry ∷ before) after steps are.2 in omega (arith, rest)
