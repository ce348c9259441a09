use Rattle.std.proofs.Common.{◌≡◌, ℕ, ◌<◌, ◌&&◌, not, get_or, false}
use Rattle.ssd_histories.specs.Policies.{is_candidate_at}
use Rattle.victim.proofs.candidates.first_unlisted.Given as goal

abbrev pub invariant-loop-sb : goal.invariant-loop-sb
invariant-loop-sb l = (k : ℕ) → k < l.sb → (is_candidate_at l.table k && not (get_or l.listed k false)) ≡ false
