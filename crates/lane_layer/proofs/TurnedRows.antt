-- The rows of a block in two runs: those up to the end of its column, and those that begin at the front again.
use Rattle.std.proofs.Common.{◌≡◌, ℕ, ◌+◌, ◌-◌, ◌%◌, ◌<◌, ◌≤◌, inl, inr, subst, arith}
use Rattle.std.proofs.lemmas.Bool.{cases_lt}
use Rattle.std.proofs.Math.Nat.{mod-eq_of_lt, mod-eq-sub-mod}

turned_low : (z s first u : ℕ) → u + s < z → first + s + u ≡ first + (u + s) % z
turned_low z s first u h = let e : (u + s) % z ≡ u + s = mod-eq_of_lt h in omega arith

turned_high : (z s first u : ℕ) → z ≤ u + s → u < z → s < z → first + (u - (z - s)) ≡ first + (u + s) % z
turned_high z s first u h k l =
    let e : (u + s) % z ≡ (u + s - z) % z = mod-eq-sub-mod h in
    let f : (u + s - z) % z ≡ u + s - z = mod-eq_of_lt (omega arith) in
    omega arith

-- what holds of the rows and variables of both runs holds of all
pub by_runs : (P : ℕ → ℕ → Type 0) (z s first : ℕ) → s < z → ((i : ℕ) → i < z - s → P i (first + s + i)) → ((i : ℕ) → i < s → P (z - s + i) (first + i)) → (u : ℕ) → u < z → P u (first + (u + s) % z)
by_runs P z s first in_s low high u in_u =
    elim (cases_lt (u + s) z) [
      | inl before ↦ subst (λ (v : ℕ). P u v) (turned_low z s first u before) (low u (omega arith))
      | inr after ↦
          let row : z - s + (u - (z - s)) ≡ u = omega arith in
          subst (λ (v : ℕ). P u v) (turned_high z s first u after in_u in_s) (subst (λ (t : ℕ). P t (first + (u - (z - s)))) row (high (u - (z - s)) (omega arith)))
    ]
