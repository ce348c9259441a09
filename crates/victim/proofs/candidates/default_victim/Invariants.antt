use Rattle.victim.proofs.Best.{IsBest}
use Rattle.victim.proofs.candidates.default_victim.Given as goal

abbrev pub invariant-loop-sb : goal.invariant-loop-sb
invariant-loop-sb l = IsBest l.table l.sb l.best
