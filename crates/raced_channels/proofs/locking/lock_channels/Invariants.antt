use Rattle.std.proofs.Common.{ℕ, ◌≡◌, List, Some, drop, length, map, slice_get}
use Rattle.ssd_histories.specs.Start.{Start}
use Rattle.shared_steps.specs.Tracing.{TracedState}
use Rattle.turn_table.specs.Passes.{LockState, PassState}
use Rattle.raced_channels.specs.Locks.{IsLocked}
use Rattle.raced_channels.proofs.locking.lock_channels.Given as goal

-- the channels so far are behind locks, and the others left
abbrev pub invariant-loop-number : goal.invariant-loop-number
invariant-loop-number g l = record {
  left : l.channels.items ≡ drop l.number l.initial.channels.items;
  as_many_locks : length l.locks.items ≡ l.number;
  as_many_rows : length l.passes.items ≡ l.number;
  each :
      (number : ℕ) (lock : LockState Start) (row : List PassState) → slice_get l.locks.items number ≡ Some lock
      → slice_get (map (λ row. row.items) l.passes.items) number ≡ Some row
      → (channel : TracedState) → slice_get l.initial.channels.items number ≡ Some channel → IsLocked g.J.Contents.contents l.actors channel lock row;
}
