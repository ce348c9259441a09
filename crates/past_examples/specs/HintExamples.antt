-- Which reads leave a hint, and what does a full queue do? A read that found its page past the first level pushes it; the queue
-- takes 256 pages, and drops the next.
use Rattle.std.specs.Prelude.{ℕ, ◌≡◌, ◌++◌, [], ◌∷◌, replicate}
use Rattle.ssd_histories.specs.CallsInOrder.{ChannelRun}
use Rattle.ssd_histories.specs.SerialHistory.{with_hint}
use Rattle.past_examples.specs.WorkedRuns.{state_of}

-- with so many pages that wait a page is pushed, and is dropped
abbrev pub IsPushedAfter : ℕ → Type 0
IsPushedAfter waiting =
    (channel : ChannelRun) → with_hint 7 (state_of channel (replicate waiting 0)) ≡ state_of channel (replicate waiting 0 ++ 7 ∷ [])

abbrev pub IsDroppedAfter : ℕ → Type 0
IsDroppedAfter waiting =
    (channel : ChannelRun) → with_hint 7 (state_of channel (replicate waiting 0)) ≡ record (state_of channel (replicate waiting 0)) { dropped = 1 }
