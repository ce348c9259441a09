use Rattle.std.proofs.Common.{◌≡◌, ℕ, ◌<◌, get_or, pos}
use Rattle.minsum_layer.proofs.Gathered.{given_at}
use Rattle.minsum_layer.proofs.layer.gather.Given as goal

abbrev pub invariant-loop-e : goal.invariant-loop-e
invariant-loop-e l = (k : ℕ) → k < l.e → get_or l.given k (pos 0) ≡ given_at l.layer l.z l.t l.p l.r k
