use Rattle.std.proofs.Common.{◌≡◌, ℕ, ◌+◌, ◌<◌, ◌≤◌, ◌⊎◌, get_or, pos, ◌+ℤ◌}
use Rattle.lane_layer.specs.Rows.{number_of}
use Rattle.lane_layer.proofs.runs.leave.Given as goal

abbrev pub invariant-loop-i : goal.invariant-loop-i
invariant-loop-i l = record {
  variables : (k : ℕ) → k < l.i → get_or l.p (l.variable + k) (pos 0) ≡ number_of (get_or l.given (l.edge + k) 0) +ℤ number_of (get_or l.told (l.edge + k) 0);
  others : (k : ℕ) → (k < l.variable) ⊎ (l.variable + l.i ≤ k) → get_or l.p k (pos 0) ≡ get_or l.initial.p k (pos 0);
  edges : (k : ℕ) → k < l.i → get_or l.r (l.edge + k) (pos 0) ≡ number_of (get_or l.told (l.edge + k) 0);
  before : (k : ℕ) → k < l.edge → get_or l.r k (pos 0) ≡ get_or l.initial.r k (pos 0);
}
