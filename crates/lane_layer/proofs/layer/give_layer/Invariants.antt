use Rattle.std.proofs.Common.{◌≡◌, ℕ, ◌+◌, ◌*◌, ◌<◌, get_or}
use Rattle.minsum_layer.proofs.Gathered.{given_at}
use Rattle.lane_layer.specs.Rows.{number_of}
use Rattle.lane_layer.proofs.layer.give_layer.Given as goal

abbrev pub invariant-loop-e : goal.invariant-loop-e
invariant-loop-e l = (f u : ℕ) → f < l.e → u < l.z → number_of (get_or l.given (f * l.z + u) 0) ≡ given_at l.layer l.z u l.p l.r f
