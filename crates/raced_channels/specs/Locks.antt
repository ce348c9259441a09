-- What is known of the channels of a drive that go behind locks and come out again? Each lock knows its channel's start, and
-- has a pass for each actor. With all passes back, the channel stands for that start, and its history goes on from what each pass
-- has seen: behind that no entry is of the pass's actor.
use Rattle.std.specs.Prelude.{ℕ, ◌≡◌, ◌<◌, List, [], length, slice_get, Some, All}
use Rattle.ssd_geo.specs.declared.tag.Tag.{Tag}
use Rattle.ssd_histories.specs.History.{history_of}
use Rattle.ssd_histories.specs.Start.{Start}
use Rattle.shared_steps.specs.Tracing.{IsTraced, TracedState}
use Rattle.turn_table.specs.Passes.{GoesOnFrom, HaveAll, LockState, PassState, new_passes}

-- no channel has an entry yet
abbrev pub HaveNoEntries : List TracedState → Type 0
HaveNoEntries channels =
    (number : ℕ) (channel : TracedState) → slice_get channels number ≡ Some channel → channel.channel.past ≡ []

-- a channel that stands for its start and the contents went behind a lock, whose passes are new, one for each actor
pub record IsLocked (contents : List (Tag × List ℕ)) (actors : ℕ) (channel : TracedState) (lock : LockState Start)
    (row : List PassState) : Type 0 where
  pub stands : IsTraced channel contents
  pub start_is : lock.start ≡ channel.start
  pub count_is : lock.passes ≡ actors
  pub row_is : row ≡ new_passes lock.lock 0 actors

-- so did each
pub record AreLocked (contents : List (Tag × List ℕ)) (actors : ℕ) (channels : List TracedState)
    (locks : List (LockState Start)) (rows : List (List PassState)) : Type 0 where
  pub as_many_locks : length locks ≡ length channels
  pub as_many_rows : length rows ≡ length channels
  pub each :
      (number : ℕ) (channel : TracedState) (lock : LockState Start) (row : List PassState)
      → slice_get channels number ≡ Some channel → slice_get locks number ≡ Some lock → slice_get rows number ≡ Some row
      → IsLocked contents actors channel lock row

-- these are passes of a lock, and no number is missing
pub record AreAllOf (lock : LockState Start) (row : List PassState) : Type 0 where
  pub of_lock : All (λ pass. pass.lock ≡ lock.lock) row
  pub have_all : HaveAll lock.passes row

-- so it is of each lock and its row
pub record HaveAllPasses (locks : List (LockState Start)) (rows : List (List PassState)) : Type 0 where
  pub as_many : length rows ≡ length locks
  pub each :
      (number : ℕ) (lock : LockState Start) (row : List PassState) → slice_get locks number ≡ Some lock
      → slice_get rows number ≡ Some row → AreAllOf lock row

-- a channel came out of a lock: it stands for its start and the contents, each of its entries is of one of the actors, and its
-- history goes on from what each pass has seen
pub record IsClosed (contents : List (Tag × List ℕ)) (lock : LockState Start) (row : List PassState) (channel : TracedState)
    : Type 0 where
  pub start_is : channel.start ≡ lock.start
  pub stands : IsTraced channel contents
  pub actors : All (λ entry. entry.tag.actor < lock.passes) (history_of channel.channel.past)
  pub goes_on : All (λ pass. GoesOnFrom pass (history_of channel.channel.past)) row

-- so did each
pub record AreClosed (contents : List (Tag × List ℕ)) (locks : List (LockState Start)) (rows : List (List PassState))
    (channels : List TracedState) : Type 0 where
  pub as_many : length channels ≡ length locks
  pub each :
      (number : ℕ) (lock : LockState Start) (row : List PassState) (channel : TracedState) → slice_get locks number ≡ Some lock
      → slice_get rows number ≡ Some row → slice_get channels number ≡ Some channel → IsClosed contents lock row channel
