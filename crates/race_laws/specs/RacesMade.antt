-- Is a race in order whose calls were made one after the other by each actor on each channel, among those of the other
-- actors? Each actor made on each channel the first of its calls in the trace, with their replies, and may have stopped in
-- the one after them. Each law is the contract of a function without a body.
use Rattle.std.specs.Prelude.{ℕ, ◌≡◌, ◌≤◌, ◌⊎◌, List, [], ◌∷◌, length, All}
use Rattle.std.specs.List.{enumerate_from}
use Rattle.std.specs.Option.{ForSome}
use Rattle.ssd_geo.specs.declared.entry.Entry.{Entry}
use Rattle.ssd_geo.specs.declared.reply.Reply.{Reply}
use Rattle.ssd_geo.specs.declared.tag.Tag.{Tag}
use Rattle.ssd_geo.specs.declared.trace.TraceCall.{TraceCall}
use Rattle.ssd_histories.specs.CallsInOrder.{AreCallsInOrder, AreNumberedAfter, AreReplies, ChannelRun, answered_by, reply_to}
use Rattle.ssd_histories.specs.Lawful.{IsLawful}
use Rattle.ssd_histories.specs.Start.{Start}
use Rattle.calls_among_others.specs.ActorsCalls.{AreMadeAmong, first_tag}
use Rattle.race_laws.specs.BegunCalls.{AreMadeThenBegun}
use Rattle.race_laws.specs.RaceReplies.{HasChannel, IsDrainAnswered}
use Rattle.race_laws.specs.Races.{AreCallsOf, IsFewWhereDrain}

-- an actor stopped in the first of its calls without a reply, which began there
pub record StoppedInNext (start : Start) (contents : List (Tag × List ℕ)) (channels channel actor : ℕ)
    (answered : List (TraceCall × Reply)) (rest : List TraceCall) (past : List Entry) : Type 0 where
  pub call : TraceCall
  pub later : List TraceCall
  pub rest_is : rest ≡ call ∷ later
  pub are_made : AreMadeThenBegun start contents channels channel actor answered call past

-- an actor made its answered calls on a channel and no more, or stopped in the next one
abbrev pub AreMadeSoFar : Start → List (Tag × List ℕ) → ℕ → ℕ → ℕ → List (TraceCall × Reply) → List TraceCall → List Entry →
    Type 0
AreMadeSoFar start contents channels channel actor answered rest past =
    AreMadeAmong start contents channels channel (first_tag actor) answered [] past
    ⊎ StoppedInNext start contents channels channel actor answered rest past

-- so it did on each channel
pub record IsActorMade (contents : List (Tag × List ℕ)) (calls : List TraceCall) (replies : List (List Reply))
    (runs : List ChannelRun) (actor : ℕ) : Type 0 where
  pub are_calls : AreCallsOf calls replies actor
  pub on_channels :
      All (λ item.
      AreMadeSoFar item.1.start contents (length runs) item.0 actor are_calls.answered are_calls.rest item.1.past)
      (enumerate_from 0 runs)

-- in lawful histories such a race is in order, with its replies, where each drain's reply has no more pages than were asked
-- for, and only its last tells of a failed call, and the drains that began took few
abbrev pub RacesMadeAreInOrder : Type 0
RacesMadeAreInOrder =
    (contents : List (Tag × List ℕ)) (actors : ℕ) (calls : List TraceCall) (replies : List (List Reply))
    (runs : List ChannelRun) →
    AreNumberedAfter actors [] calls → All (λ run. IsLawful run.start contents run.past) runs →
    ((actor : ℕ) → IsActorMade contents calls replies runs actor) →
    All (λ call. HasChannel (length runs) call.verb) calls →
    All (λ call. ForSome (reply_to replies call.tag) (IsDrainAnswered call.verb)) calls →
    All (λ call. answered_by replies call.tag.actor ≤ call.tag.call → IsFewWhereDrain runs call.tag call.verb) calls →
    AreCallsInOrder contents calls replies runs × AreReplies contents calls replies runs
