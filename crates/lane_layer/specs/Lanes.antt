-- What does a vector hold, lane by lane?
use Rattle.std.specs.Prelude.{◌≡◌, ℕ, ◌<◌, List, length, slice_index_or}

-- a vector of n lanes, of which lane k holds f k
pub record HasLanes (n : ℕ) (v : List ℕ) (f : ℕ → ℕ) : Type 0 where
  pub long : length v ≡ n
  pub each : (k : ℕ) → k < n → slice_index_or v k 0 ≡ f k
