use Rattle.std.proofs.Common.{◌≡◌, ◌≢◌, ℕ, ◌+◌, ◌*◌, ◌<◌, get_or, pos, ◌+ℤ◌}
use Rattle.ssd_geo.specs.Layer.{variable_of}
use Rattle.lane_layer.specs.Rows.{number_of}
use Rattle.lane_layer.proofs.layer.leave_layer.Given as goal

abbrev pub invariant-loop-e : goal.invariant-loop-e
invariant-loop-e l = record {
  variables : (f u : ℕ) → f < l.e → u < l.z → get_or l.p (variable_of l.z u (get_or l.layer f (0, 0))) (pos 0) ≡ number_of (get_or l.given (f * l.z + u) 0) +ℤ number_of (get_or l.told (f * l.z + u) 0);
  others : (k : ℕ) → ((f u : ℕ) → f < l.e → u < l.z → variable_of l.z u (get_or l.layer f (0, 0)) ≢ k) → get_or l.p k (pos 0) ≡ get_or l.initial.p k (pos 0);
  edges : (f u : ℕ) → f < l.e → u < l.z → get_or l.r (f * l.z + u) (pos 0) ≡ number_of (get_or l.told (f * l.z + u) 0);
}
