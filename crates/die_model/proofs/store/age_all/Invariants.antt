use Rattle.std.proofs.Common.{◌≡◌, ◌++◌, map, take, drop}
use Rattle.ssd_geo.specs.Cells.{aged_level}
use Rattle.die_model.proofs.store.age_all.Given as goal

abbrev pub invariant-loop-level : goal.invariant-loop-level
invariant-loop-level l =
    l.levels
    ≡ map (aged_level l.erased l.amount) (take l.level-index l.initial.levels) ++ drop l.level-index l.initial.levels
