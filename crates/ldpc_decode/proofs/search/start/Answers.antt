use Rattle.std.proofs.Common.{pos, arith}
use Rattle.std.proofs.lemmas.List.{ext_get_or}
use Rattle.ldpc_decode.proofs.search.start.Goals as goal

pub returns : goal.returns
returns c = ext_get_or (pos 0) c.loop-i.p c.args.values.now (omega arith) (λ k h. c.loop-i.invariant k (omega arith))
