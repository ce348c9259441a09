-- What does a round come to? It picks a victim, or takes the one that there is, and empties it. Where no superblock may be
-- picked it does nothing more.
use Rattle.std.specs.Prelude.{ℕ, ◌≡◌, ◌⊎◌, List, Result, Ok, Err}
use Rattle.chan_calls.specs.Caller.{CallerView, HasStepRoom}
use Rattle.chan_calls.specs.Collecting.{MakesPick}
use Rattle.chan_calls.specs.Stepping.{IsStepped, Standing}
use Rattle.chan_calls.specs.Workers.{WorkerState}
use Rattle.chan_state.specs.declared.answers.PickAnswer.{PickAnswer}
use Rattle.chan_state.specs.declared.answers.PickAnswer.TheVariants.{Busy, NoGarbage, Picked, ReadOnly}
use Rattle.ssd_geo.specs.declared.base.ChannelBase.{ChannelBase}
use Rattle.ssd_geo.specs.declared.entry.Entry.{Entry}
use Rattle.ssd_geo.specs.declared.stop.StepStop.{StepStop}
use Rattle.ssd_geo.specs.declared.tag.Tag.{Tag}
use Rattle.ssd_histories.specs.Start.{Start}
use Rattle.collector.specs.Emptying.{EmptiesFor, OfBase, OfEach, having_seen}
use Rattle.collector.specs.declared.replies.RoundReply.{RoundReply}
use Rattle.collector.specs.declared.replies.RoundReply.TheVariants.{Left}

-- a victim was to be picked
abbrev pub IsToPick : ChannelBase → CallerView → Tag → List Entry → List Entry → Result PickAnswer StepStop → Type 0
IsToPick base caller tag before after result =
    IsStepped HasStepRoom (MakesPick (OfBase base) tag) tag (having_seen caller before) (having_seen caller after) result

-- what follows the answer to a pick: the victim that it names is emptied
abbrev pub FollowsPick : Start → List (Tag × List ℕ) → CallerView → Tag → PickAnswer → List Entry → List Entry →
    Result RoundReply StepStop → Type 0
FollowsPick start contents caller tag (Busy sb) before after result =
    EmptiesFor start contents caller tag sb before after result
FollowsPick start contents caller tag ReadOnly before after result = (after ≡ before) × (result ≡ Ok Left)
FollowsPick start contents caller tag NoGarbage before after result = (after ≡ before) × (result ≡ Ok Left)
FollowsPick start contents caller tag (Picked sb) before after result =
    EmptiesFor start contents caller tag sb before after result

-- a pick was answered, and what follows was done
pub record HasPicked (start : Start) (contents : List (Tag × List ℕ)) (caller : CallerView) (tag : Tag)
    (before after : List Entry) (result : Result RoundReply StepStop) : Type 0 where
  pub answer : PickAnswer
  pub picked : List Entry
  pub picks : IsToPick start.base caller tag before picked (Ok answer)
  pub follows : FollowsPick start contents caller tag answer picked after result

-- a round: it stops at its pick where that is refused
abbrev pub MakesRoundFor : Start → List (Tag × List ℕ) → CallerView → Tag → List Entry → List Entry →
    Result RoundReply StepStop → Type 0
MakesRoundFor start contents caller tag before after (Ok reply) =
    HasPicked start contents caller tag before after (Ok reply)
MakesRoundFor start contents caller tag before after (Err stop) =
    IsToPick start.base caller tag before after (Err stop) ⊎ HasPicked start contents caller tag before after (Err stop)

abbrev pub MakesRound : WorkerState → CallerView → Standing → Tag → List Entry → Result RoundReply StepStop → Type 0
MakesRound worker old stood tag new result =
    OfEach worker old stood (λ start contents. MakesRoundFor start contents old tag old.seen new result)
