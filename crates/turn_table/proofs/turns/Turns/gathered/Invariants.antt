use Rattle.std.proofs.Common.{◌≡◌, All, vec_len}
use Rattle.turn_table.proofs.Gathering.{IsGathered}
use Rattle.turn_table.proofs.turns.Turns.gathered.Given as goal

abbrev pub invariant-loop-pass : goal.invariant-loop-pass
invariant-loop-pass g l = record {
  whole : l.whole.lock ≡ l.self.lock;
  left : All (λ pass. pass.lock ≡ l.self.lock) l.passes.items;
  so_far : IsGathered l.fn.passes.items l.passes.items l.whole;
}

abbrev pub decreases-loop-pass : goal.decreases-loop-pass
decreases-loop-pass g l = vec_len l.passes
