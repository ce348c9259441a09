use Rattle.std.proofs.Common.{ℕ, ◌≡◌, List, Some, drop, length, map, slice_get}
use Rattle.ssd_histories.specs.Start.{Start}
use Rattle.shared_steps.specs.Tracing.{TracedState}
use Rattle.turn_table.specs.Passes.{LockState, PassState}
use Rattle.raced_channels.specs.Locks.{IsClosed}
use Rattle.raced_channels.proofs.locking.close_locks.Given as goal

-- the channels of the locks so far are out, and the others left
abbrev pub invariant-loop-number : goal.invariant-loop-number
invariant-loop-number g l = record {
  locks : l.locks.items ≡ drop l.number l.initial.locks.items;
  passes : l.passes.items ≡ drop l.number l.initial.passes.items;
  as_many : length l.channels.items ≡ l.number;
  each :
      (number : ℕ) (channel : TracedState) → slice_get l.channels.items number ≡ Some channel
      → (lock : LockState Start) (row : List PassState) → slice_get l.initial.locks.items number ≡ Some lock
      → slice_get (map (λ row. row.items) l.initial.passes.items) number ≡ Some row
      → IsClosed (g.J.Contents.contents) lock row channel;
}
