use Rattle.std.proofs.Common.{◌≡◌, ℕ, ◌≤◌, ◌==◌, length, not, take, get_or}
use Rattle.std.specs.List.{filter}
use Rattle.victim.proofs.oldest.taken_out.Given as goal

abbrev pub invariant-loop-i : goal.invariant-loop-i
invariant-loop-i l =
    (l.kept ≤ l.i) × (length l.list ≡ length l.fn.list)
    × (take l.kept l.list ≡ filter (λ other. not (other == l.sb)) (take l.i l.fn.list))
    × ((k : ℕ) → l.i ≤ k → get_or l.list k 0 ≡ get_or l.fn.list k 0)
