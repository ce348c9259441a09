-- When does the statement on a race hold? Where the calls are numbered and have their data, the close of each channel's lock
-- gave a past of its start back, and each actor did its part: on each channel it made its calls one after the other among those
-- of others, and may have stopped in the next one; its drains' replies have no more pages than were asked for, and only their
-- last tells of a failed call; and a drain in which it stopped took no more. Each law is the contract of a function without a
-- body.
use Rattle.std.specs.Prelude.{ℕ, ◌≡◌, ◌<◌, ◌≤◌, IfSome, IsTrue, length, All}
use Rattle.race_laws.specs.RaceReplies.{HasChannel, IsDrainAnswered}
use Rattle.race_laws.specs.Races.{IsFewWhereDrain}
use Rattle.race_laws.specs.RacesMade.{IsActorMade}
use Rattle.race_runs.specs.RaceHeadline.{RaceHeadline}
use Rattle.race_runs.specs.RaceHints.{first_unanswered}
use Rattle.race_runs.specs.RaceRoom.{HaveRoomInTurns, actor_found_room}
use Rattle.run_laws.specs.Headline.{AreCounted}
use Rattle.run_laws.specs.Runs.{Run, channels_of, data_in}
use Rattle.run_laws.specs.SerialRuns.{HasCalls}
use Rattle.run_laws.specs.Serials.{HasSmallSerials}
use Rattle.ssd_formats.specs.ImageHead.{Head}
use Rattle.ssd_histories.specs.CallsInOrder.{ChannelRun}
use Rattle.ssd_histories.specs.Standing.{IsPastOf}

-- each entry of a channel is of one of so many actors
abbrev pub IsOfActors : ℕ → ChannelRun → Type 0
IsOfActors actors channel = All (λ entry. entry.tag.actor < actors) channel.past

-- what the closes of the locks give: each channel a past of its start, no longer than the limit, whose entries are the
-- actors', and dies that counted the faults of which they tell; and with what the channels began
pub record ChannelsClosed (head : Head) (run : Run) : Type 0 where
  pub as_many_pasts : length run.pasts ≡ length run.starts
  pub are_pasts : All (λ channel. IsPastOf channel.start (data_in head run) channel.past) (channels_of run)
  pub of_actors : All (IsOfActors run.calls.actors) (channels_of run)
  pub are_short : All (λ channel. length channel.past ≤ channel.start.limit) (channels_of run)
  pub are_counted : AreCounted (channels_of run) run.faults
  pub few_channels : length run.starts ≤ 256
  pub serials : All (λ start. HasSmallSerials start.base) run.starts

-- what an actor did: it made its calls on each channel so far; its drains' replies have no more pages than were asked for, and
-- only their last tells of a failed call; and where its first call without a reply is a drain, that took few
pub record ActorMade (head : Head) (run : Run) (actor : ℕ) : Type 0 where
  pub made : IsActorMade (data_in head run) run.calls.calls run.replies (channels_of run) actor
  pub drained : All (λ one. IsDrainAnswered one.0.verb one.1) made.are_calls.answered
  pub begun : IfSome (first_unanswered run actor) (λ call. IsFewWhereDrain (channels_of run) call.tag call.verb)

-- all that the actors, and those who close the locks, have to give
pub record ActorsMade (head : Head) (run : Run) : Type 0 where
  pub has_calls : HasCalls head run
  pub have_channels : All (λ call. HasChannel (length run.starts) call.verb) run.calls.calls
  pub closed : ChannelsClosed head run
  pub each : (actor : ℕ) → actor < run.calls.actors → ActorMade head run actor

-- so the statement holds
abbrev pub MadeRacesHold : Type 0
MadeRacesHold = (head : Head) (run : Run) → ActorsMade head run → RaceHeadline head run

-- each entry of an actor found room in its turn
abbrev pub ActorFoundRoom : Run → ℕ → Type 0
ActorFoundRoom run actor = All (λ channel. IsTrue (actor_found_room channel.start.limit actor channel.past)) (channels_of run)

-- where each actor's entries did, in pasts whose entries are the actors', all did
abbrev pub ActorsFindAllRoom : Type 0
ActorsFindAllRoom =
    (run : Run) → All (IsOfActors run.calls.actors) (channels_of run) →
    ((actor : ℕ) → actor < run.calls.actors → ActorFoundRoom run actor) → HaveRoomInTurns run
