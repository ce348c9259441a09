use Rattle.std.proofs.Common.{arith}
use Rattle.die_model.proofs.WordLemmas.{all_taken}
use Rattle.die_model.proofs.words.data_into.Goals as goal

pub returns : goal.returns
returns c = all_taken c.args.cycles.now c.loop-i.word (omega arith) (λ k h. c.loop-i.invariant k (omega arith))
