-- What does a caller know of a channel behind a lock, of which it has a pass? It has seen what its pass has, and makes
-- the calls of the actor that has the pass's number. The lock's start is the channel's, and no step changes that.
use Rattle.std.specs.Prelude.{ℕ, ◌≡◌, ◌≢◌, ◌==◌, cond, List, [], Option, Some, None}
use Rattle.atomic_table.specs.Seated.{TableId}
use Rattle.chan_calls.specs.Caller.{CallerView}
use Rattle.ssd_histories.specs.History.{history_of, past_of}
use Rattle.ssd_histories.specs.Start.{Start}
use Rattle.ssd_geo.specs.declared.tag.Tag.{Tag}
use Rattle.turn_table.specs.Passes.{GoesOnFrom, LockState, PassState, TurnState, having_seen, new_pass}
use Rattle.shared_steps.specs.Passing.{reference_of}
use Rattle.shared_steps.specs.Tracing.{IsTraced, TracedState}

-- the actor whose calls a pass may make: that of its number, and without one none, since no actor is above 255
abbrev pub actor_of : ℕ → ℕ
actor_of number = cond (number == 255) 256 number

-- what the owner of a pass knows
abbrev pub view_of_pass : PassState → Start → List (Tag × List ℕ) → CallerView
view_of_pass pass start contents = record {
  seen = past_of pass.seen;
  limit = start.limit;
  shape = start.base.shape;
  session = start.base.session;
  number = Some (actor_of pass.number);
  bound = Some (start, contents);
  reference = reference_of pass;
}

-- the pass that a caller holds, which it does but for its turns
abbrev pub pass_held : TableId → Option PassState → PassState
pass_held lock None = new_pass lock 255
pass_held lock (Some pass) = pass

-- what a caller knows that steps the channel behind a lock
abbrev pub view_of_shared : LockState Start → Option PassState → List (Tag × List ℕ) → CallerView
view_of_shared lock pass contents = view_of_pass (pass_held lock.lock pass) lock.start contents

-- a turn was taken with a pass, which has a number: its channel stands for the lock's start and these contents, and its history
-- goes on from what the pass has seen
pub record IsTurnOf (lock : LockState Start) (contents : List (Tag × List ℕ)) (pass : PassState)
    (turn : TurnState TracedState) : Type 0 where
  pub has_number : pass.number ≢ 255
  pub pass_is : turn.pass ≡ having_seen pass (history_of turn.value.channel.past)
  pub goes_on : GoesOnFrom pass (history_of turn.value.channel.past)
  pub start_is : turn.value.start ≡ lock.start
  pub is_traced : IsTraced turn.value contents
