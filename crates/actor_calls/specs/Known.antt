-- What does an actor know of the channels of its drive? Each is bound to a start and to contents, of which the actor has seen a
-- past. While it serves a call it goes on knowing each of them so.
use Rattle.std.specs.Prelude.{ℕ, ◌≡◌, List, length, slice_get, IfSome, Some}
use Rattle.chan_calls.specs.Caller.{CallerView, IsOf, SameCaller, Serves}
use Rattle.chan_calls.specs.Workers.{WorkerState, WorksFor}
use Rattle.ssd_geo.specs.declared.entry.Entry.{Entry}
use Rattle.ssd_geo.specs.declared.tag.Tag.{Tag}
use Rattle.ssd_histories.specs.Start.{Start}

-- a caller makes the calls of an actor on a channel of this start and these contents, for which the worker works
pub record IsKnownAs (worker : WorkerState) (actor : ℕ) (caller : CallerView) (start : Start) (contents : List (Tag × List ℕ))
    : Type 0 where
  pub serves : Serves caller actor
  pub works : WorksFor worker start
  pub is_of : IsOf caller start contents

-- so it is of the start and the contents that the channel is bound to
abbrev pub IsKnown : WorkerState → ℕ → CallerView → Type 0
IsKnown worker actor caller = IfSome caller.bound (λ bound. IsKnownAs worker actor caller bound.0 bound.1)

-- and of each channel
abbrev pub AreKnown : WorkerState → ℕ → List CallerView → Type 0
AreKnown worker actor callers =
    (channel : ℕ) (caller : CallerView) → slice_get callers channel ≡ Some caller → IsKnown worker actor caller

-- the callers of all channels stay the same, but for what they have seen
pub record AreSameCallers (olds news : List CallerView) : Type 0 where
  pub as_many : length news ≡ length olds
  pub each : (channel : ℕ) (old new : CallerView) → slice_get olds channel ≡ Some old → slice_get news channel ≡ Some new →
      SameCaller old new

-- a fact of a channel's number, of the start and contents that it is bound to, and of what was seen of it before and after
abbrev pub ChannelFact : Type 1
ChannelFact = ℕ → Start → List (Tag × List ℕ) → List Entry → List Entry → Type 0

-- the fact holds of a channel, and of each
abbrev pub OfChannel : ChannelFact → ℕ → CallerView → CallerView → Type 0
OfChannel fact channel old new = IfSome old.bound (λ bound. fact channel bound.0 bound.1 old.seen new.seen)

abbrev pub OfEachChannel : ChannelFact → List CallerView → List CallerView → Type 0
OfEachChannel fact olds news =
    (channel : ℕ) (old new : CallerView) → slice_get olds channel ≡ Some old → slice_get news channel ≡ Some new →
    OfChannel fact channel old new
