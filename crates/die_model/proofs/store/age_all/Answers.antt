use Rattle.std.proofs.Common.{arith, rules, get_or, pos}
use Rattle.std.proofs.lemmas.Int.{to_z-of_z}
use Rattle.std.specs.Int.{w16}
use Rattle.std.specs.Int.RustNames.{FitsSigned}
use Rattle.die_model.proofs.KeptLemmas.{aged_more}
use Rattle.die_model.proofs.store.age_all.Goals as goal

pub loop-level-preserved : goal.loop-level-preserved
loop-level-preserved c =
    let erased : FitsSigned w16 c.args.erased = c.ranges.erased in
    let fresh : FitsSigned w16 c.age_cell.result = search rules in
    let cell : FitsSigned w16 (get_or c.loop-level.levels c.loop-level.level-index (pos 0)) = search rules in
    let is = simp to_z-of_z at c.age_cell.ensures in
    let before = simp to_z-of_z at c.loop-level.invariant in
    simp to_z-of_z (aged_more c.args.erased c.args.amount c.args.levels.now c.loop-level.levels c.loop-level.level-index _
    (omega arith) (omega arith) before is)
