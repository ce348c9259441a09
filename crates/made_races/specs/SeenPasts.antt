-- What stands in a channel's history at the end of what an actor has seen of it before? The lock says that the list at the end
-- goes on from the one that the actor's pass has seen, with no entry of its number behind that: so others came. All that
-- the actor made up to there stands, each entry of its own found the room that it found, and where it stopped it
-- stopped. Each law is the contract of a function without a body.
use Rattle.std.specs.Prelude.{ℕ, ◌≡◌, true, IsTrue, List, length}
use Rattle.calls_among_others.specs.StepsAmong.{HasCome}
use Rattle.race_laws.specs.RacesMade.{AreMadeSoFar}
use Rattle.race_runs.specs.RaceEnds.{HasStopPrefix, lacks_room}
use Rattle.race_runs.specs.RaceRoom.{actor_found_room}
use Rattle.ssd_geo.specs.declared.entry.Entry.{Entry}
use Rattle.ssd_geo.specs.declared.reply.Reply.{Reply}
use Rattle.ssd_geo.specs.declared.tag.Tag.{Tag}
use Rattle.ssd_geo.specs.declared.trace.TraceCall.{TraceCall}
use Rattle.ssd_geo.specs.declared.trace.Verb.{Verb}
use Rattle.ssd_histories.specs.History.{past_of}
use Rattle.ssd_histories.specs.Lawful.{IsLawful}
use Rattle.ssd_histories.specs.Start.{Start}
use Rattle.turn_table.specs.Passes.{GoesOn, Has}

-- a list that goes on from what was seen is one to which others came, for each number that was seen with it
abbrev pub HistoriesGoOn : Type 0
HistoriesGoOn =
    (numbers : List ℕ) (seen list : List Entry) (actor : ℕ) → GoesOn numbers seen list → Has numbers actor →
    HasCome actor (past_of seen) (past_of list)

-- what an actor made on a channel so far it made in each lawful past to which others came
abbrev pub MadeSoFarStays : Type 0
MadeSoFarStays =
    (start : Start) (contents : List (Tag × List ℕ)) (channels channel actor : ℕ) (answered : List (TraceCall × Reply))
    (rest : List TraceCall) (seen past : List Entry) →
    IsLawful start contents past → HasCome actor seen past →
    AreMadeSoFar start contents channels channel actor answered rest seen →
    AreMadeSoFar start contents channels channel actor answered rest past

-- where each of its entries found room, each still has
abbrev pub RoomStays : Type 0
RoomStays =
    (limit actor : ℕ) (seen past : List Entry) → HasCome actor seen past → actor_found_room limit actor seen ≡ true →
    actor_found_room limit actor past ≡ true

-- and where there was no room for its call's next step, what it has seen is the prefix that shows it
abbrev pub StopsStay : Type 0
StopsStay =
    (start : Start) (tag : Tag) (verb : Verb) (seen past : List Entry) → HasCome tag.actor seen past →
    IsTrue (lacks_room start tag verb seen) →
    HasStopPrefix tag verb (length seen) (record { start = start; past = past })
