-- What did an actor come to, whose calls of a trace were served one after the other? The first of them were answered, and it
-- stopped in the one after them, or before it, or there was none. On each channel they were made one after the other, each among
-- the calls of other actors.
use Rattle.std.specs.Prelude.{ℕ, ◌≡◌, ◌⊎◌, List, [], ◌∷◌, ◌++◌, length, map, slice_get, All, Option, None, Some, Ok, Err}
use Rattle.chan_calls.specs.Caller.{CallerView}
use Rattle.ctl.specs.Asked.{FitsDrive, HasOwnData}
use Rattle.hint_queue.specs.Orders.{HintPassState}
use Rattle.ssd_geo.specs.declared.reply.Reply.{Reply}
use Rattle.ssd_geo.specs.declared.shape.Shape.{Shape}
use Rattle.ssd_geo.specs.declared.stop.ServeStop.{ServeStop}
use Rattle.ssd_geo.specs.declared.tag.Tag.{Tag}
use Rattle.ssd_geo.specs.declared.trace.TraceCall.{TraceCall}
use Rattle.calls_among_others.specs.ActorsCalls.{AreMadeAmong, first_tag}
use Rattle.race_laws.specs.RaceReplies.{IsDrainAnswered}
use Rattle.race_laws.specs.Races.{calls_of}
use Rattle.race_laws.specs.RacesMade.{AreMadeSoFar}
use Rattle.actor_calls.specs.Hinted.{UsesPass}
use Rattle.actor_calls.specs.Known.{ChannelFact, OfEachChannel}
use Rattle.actor_calls.specs.Served.{IsStopped}

-- a call of an actor has its place among the actor's as its number
abbrev pub AreNumbered : ℕ → List TraceCall → Type 0
AreNumbered actor calls =
    (number : ℕ) (call : TraceCall) → slice_get calls number ≡ Some call → call.tag ≡ record { actor = actor; call = number }

-- each call fits a drive, and the contents have its data
pub record IsServable (shape : Shape) (channels : ℕ) (contents : List (Tag × List ℕ)) (call : TraceCall) : Type 0 where
  pub fits : FitsDrive shape channels call.verb
  pub own_data : HasOwnData shape.bytes call.tag call.verb contents

abbrev pub AreServable : Shape → ℕ → List (Tag × List ℕ) → List TraceCall → Type 0
AreServable shape channels contents calls =
    (number : ℕ) (call : TraceCall) → slice_get calls number ≡ Some call → IsServable shape channels contents call

-- nothing was seen of a channel yet
abbrev pub AreNew : List CallerView → Type 0
AreNew callers = (channel : ℕ) (caller : CallerView) → slice_get callers channel ≡ Some caller → caller.seen ≡ []

-- the calls of an actor so far were made on a channel of so many; and those that were answered, and perhaps it stopped in the next
abbrev pub are_made_on : ℕ → ℕ → List (TraceCall × Reply) → ChannelFact
are_made_on channels actor answered channel start contents before after =
    AreMadeAmong start contents channels channel (first_tag actor) answered before after

abbrev pub are_made_so_far : ℕ → ℕ → List (TraceCall × Reply) → List TraceCall → ChannelFact
are_made_so_far channels actor answered rest channel start contents before after =
    AreMadeSoFar start contents channels channel actor answered rest after

-- what the answered calls made of the actor's pass, one after the other
abbrev pub UsePass : List (TraceCall × Reply) → HintPassState → HintPassState → Type 0
UsePass [] old new = new ≡ old
UsePass (made ∷ calls) old new =
    (between : HintPassState) × UsesPass made.0.verb (Ok made.1) old between × UsePass calls between new

-- the actor stopped in the call after those that were answered: it was begun among the callers that these left, and is on each
-- channel what it is there
pub record StopsInNext (olds news : List CallerView) (actor : ℕ) (answered : List (TraceCall × Reply)) (rest : List TraceCall)
    (stop : ServeStop) (old_pass new_pass : HintPassState) : Type 0 where
  pub call : TraceCall
  pub later : List TraceCall
  pub rest_is : rest ≡ call ∷ later
  pub callers : List CallerView
  pub made : OfEachChannel (are_made_on (length olds) actor answered) olds callers
  pub stops : IsStopped callers news call.tag call.verb stop
  pub pass : HintPassState
  pub uses : UsePass answered old_pass pass
  pub stop_uses : UsesPass call.verb (Err stop) pass new_pass

-- memory for the next reply was refused before its call
pub record StopsBeforeNext (answered : List (TraceCall × Reply)) (stop : ServeStop) (old_pass new_pass : HintPassState)
    : Type 0 where
  pub stop_is : stop ≡ ServeStop.Memory
  pub uses : UsePass answered old_pass new_pass

-- all calls were answered
pub record HasAnsweredAll (answered : List (TraceCall × Reply)) (rest : List TraceCall) (old_pass new_pass : HintPassState)
    : Type 0 where
  pub none_left : rest ≡ []
  pub uses : UsePass answered old_pass new_pass

-- how an actor came to its end
abbrev pub EndsActor : List CallerView → List CallerView → ℕ → List (TraceCall × Reply) → List TraceCall → Option ServeStop →
    HintPassState → HintPassState → Type 0
EndsActor olds news actor answered rest None old_pass new_pass = HasAnsweredAll answered rest old_pass new_pass
EndsActor olds news actor answered rest (Some stop) old_pass new_pass =
    StopsBeforeNext answered stop old_pass new_pass
    ⊎ StopsInNext olds news actor answered rest stop old_pass new_pass

-- an actor served its calls of a trace
pub record HasServed (olds news : List CallerView) (actor : ℕ) (calls : List TraceCall) (replies : List Reply)
    (stop : Option ServeStop) (old_pass new_pass : HintPassState) : Type 0 where
  pub answered : List (TraceCall × Reply)
  pub rest : List TraceCall
  pub are_calls : map (λ made. made.0) answered ++ rest ≡ calls_of actor calls
  pub are_replies : map (λ made. made.1) answered ≡ replies
  pub on_channels : OfEachChannel (are_made_so_far (length olds) actor answered rest) olds news
  pub drained : All (λ made. IsDrainAnswered made.0.verb made.1) answered
  pub ends : EndsActor olds news actor answered rest stop old_pass new_pass
