use Rattle.loaded_tests.specs.LoneCaller.{IsLone}
use Rattle.loaded_tests.proofs.erases.filled.Given as goal

abbrev pub invariant-loop-write : goal.invariant-loop-write
invariant-loop-write g l = IsLone (g.S.Steps.view l.steps)
