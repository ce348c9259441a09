use Rattle.victim.proofs.Listed.{listed_none}
use Rattle.victim.proofs.oldest.Oldest.new.Goals as goal

pub invariant_of-result : goal.invariant_of-result
invariant_of-result c = listed_none
