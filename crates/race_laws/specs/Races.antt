-- Are the calls of a whole race in order? They are where on each channel each actor's calls are what calls in order ask of
-- that actor: the calls of the trace that are the actor's, of which the first were answered, each with the actor's reply of
-- its number, and the one after them may have begun. Of a drain, whose steps stand on several channels, the hints and the
-- failed calls of all channels are counted together. Each law is the contract of a function without a body.
use Rattle.std.specs.Prelude.{ℕ, ◌≡◌, ◌≤◌, ◌<◌, ◌==◌, true, List, [], ◌∷◌, ◌++◌, length, map, filter, count_by, slice_index_or, All, ⊤}
use Rattle.std.specs.List.{enumerate_from, list_all}
use Rattle.ssd_geo.specs.declared.reply.Reply.{Reply}
use Rattle.ssd_geo.specs.declared.tag.Tag.{Tag}
use Rattle.ssd_geo.specs.declared.trace.TraceCall.{TraceCall}
use Rattle.ssd_geo.specs.declared.trace.Verb.{Verb}
use Rattle.ssd_histories.specs.CallSteps.{is_fault}
use Rattle.ssd_histories.specs.CallsInOrder.{AreCallsInOrder, AreNumberedAfter, ChannelRun, IsBegunOn, answered_by, count_of_faults, hints_taken, is_left, steps_on}
use Rattle.calls_among_others.specs.ActorsCalls.{AreAsked, IsAsked, is_known_of, never_falls_for}

-- the calls of an actor in a trace
abbrev pub calls_of : ℕ → List TraceCall → List TraceCall
calls_of actor calls = filter (λ call. call.tag.actor == actor) calls

-- those that were answered, each with the actor's reply of its number, and the rest
pub record AreCallsOf (calls : List TraceCall) (replies : List (List Reply)) (actor : ℕ) : Type 0 where
  pub answered : List (TraceCall × Reply)
  pub rest : List TraceCall
  pub are_calls : map (λ made. made.0) answered ++ rest ≡ calls_of actor calls
  pub are_replies : map (λ made. made.1) answered ≡ slice_index_or replies actor []

-- the first of some calls, if there is one
abbrev pub first_of : List TraceCall → List TraceCall
first_of [] = []
first_of (call ∷ calls) = call ∷ []

-- a call without a reply may have begun on a channel: its steps there begin those of its verb, at most one die's call failed in
-- them, and each of its looks has its leave
pub record IsBegunThere (contents : List (Tag × List ℕ)) (channels channel : ℕ) (run : ChannelRun) (call : TraceCall)
    : Type 0 where
  pub begins : IsBegunOn contents channels call (channel, run)
  pub one_fault : count_by (λ step. is_fault step.entry.kind) (steps_on call.tag run) ≤ 1
  pub leaves : is_left call.tag run ≡ true

-- all that calls in order ask of an actor on a channel, where these calls were answered and the first of the rest may have
-- begun
pub record AreAskedSoFar (contents : List (Tag × List ℕ)) (channels channel actor : ℕ) (run : ChannelRun)
    (answered : List (TraceCall × Reply)) (rest : List TraceCall) : Type 0 where
  pub each : All (IsAsked contents channels channel run) answered
  pub begun : All (IsBegunThere contents channels channel run) (first_of rest)
  pub known : list_all (is_known_of actor (map (λ made. made.0) answered ++ first_of rest)) run.past ≡ true
  pub in_order : never_falls_for actor run.past ≡ true
  pub none_later : (tag : Tag) → tag.actor ≡ actor → length answered < tag.call → steps_on tag run ≡ []

-- the calls of an actor in a trace are so on each channel
pub record IsActorAsked (contents : List (Tag × List ℕ)) (calls : List TraceCall) (replies : List (List Reply))
    (runs : List ChannelRun) (actor : ℕ) : Type 0 where
  pub are_calls : AreCallsOf calls replies actor
  pub on_channels :
      All (λ item. AreAskedSoFar contents (length runs) item.0 actor item.1 are_calls.answered are_calls.rest)
      (enumerate_from 0 runs)

-- a drain took no more hints on all channels than it asked for, and at most one die's call failed in it
pub record HasDrainedFew (runs : List ChannelRun) (tag : Tag) (count : ℕ) : Type 0 where
  pub few : hints_taken runs tag ≤ count
  pub one_fault : count_of_faults runs tag ≤ 1

abbrev pub IsFewWhereDrain : List ChannelRun → Tag → Verb → Type 0
IsFewWhereDrain runs tag (Verb.Drain count) = HasDrainedFew runs tag count
IsFewWhereDrain runs tag verb = ⊤

-- so is each drain that was answered or is its actor's first one that was not
abbrev pub AreDrainsFew : List TraceCall → List (List Reply) → List ChannelRun → Type 0
AreDrainsFew calls replies runs =
    All (λ call. call.tag.call ≤ answered_by replies call.tag.actor → IsFewWhereDrain runs call.tag call.verb) calls

-- what is asked of each actor on each channel makes the calls be in order
abbrev pub RacesAreInOrder : Type 0
RacesAreInOrder =
    (contents : List (Tag × List ℕ)) (actors : ℕ) (calls : List TraceCall) (replies : List (List Reply))
    (runs : List ChannelRun) →
    AreNumberedAfter actors [] calls → ((actor : ℕ) → IsActorAsked contents calls replies runs actor) →
    AreDrainsFew calls replies runs → AreCallsInOrder contents calls replies runs

-- an actor whose calls were all answered so far, and none of whose rest has begun, is asked so
abbrev pub AskedActorsAreSoFar : Type 0
AskedActorsAreSoFar =
    (contents : List (Tag × List ℕ)) (channels channel actor : ℕ) (run : ChannelRun) (answered : List (TraceCall × Reply))
    (rest : List TraceCall) →
    channel < channels → AreAsked contents channels channel actor run answered →
    All (λ call. (call.tag.actor ≡ actor) × (length answered ≤ call.tag.call)) (first_of rest) →
    AreAskedSoFar contents channels channel actor run answered rest
