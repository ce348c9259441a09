use Rattle.allocator.proofs.Freshest.{IsBest}
use Rattle.allocator.proofs.room.freshest.Given as goal

abbrev pub invariant-loop-sb : goal.invariant-loop-sb
invariant-loop-sb l = IsBest l.blocks l.sb l.best
