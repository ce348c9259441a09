-- What does a call come to that stopped where the history refused it an entry, or memory ran out, while others made their
-- entries? Its steps begin those of its verb, no die's call failed in them, and each of its looks has its leave. So the calls
-- of an actor that stopped in one are what calls in order ask of that actor. Each law is the contract of a function without a
-- body.
use Rattle.std.specs.Prelude.{ℕ, ◌≡◌, ◌<◌, ◌/◌, ◌%◌, false, true, not, List, [], ◌∷◌, ◌++◌, length, Err, ⊤}
use Rattle.std.specs.List.{list_all}
use Rattle.chan_calls.specs.Caller.{CallerView, HasLookRoom, HasStepRoom}
use Rattle.chan_calls.specs.Stepping.{IsStepped, MakesAge, MakesTrim}
use Rattle.chan_calls.specs.declared.read_reply.ReadReply.{ReadReply}
use Rattle.collector.specs.Collects.{MakesCollectFor}
use Rattle.collector.specs.Writes.{MakesWriteFor}
use Rattle.refresh.specs.Refreshes.{MakesRefreshFor}
use Rattle.ssd_geo.specs.declared.entry.Entry.{Entry}
use Rattle.ssd_geo.specs.declared.reply.RefreshReply.{RefreshReply}
use Rattle.ssd_geo.specs.declared.reply.Reply.{Reply}
use Rattle.ssd_geo.specs.declared.stop.StepStop.{StepStop}
use Rattle.ssd_geo.specs.declared.tag.Tag.{Tag}
use Rattle.ssd_geo.specs.declared.trace.Content.{Content}
use Rattle.ssd_geo.specs.declared.trace.TraceCall.{TraceCall}
use Rattle.ssd_geo.specs.declared.trace.Verb.{Verb}
use Rattle.ssd_histories.specs.CallSteps.{CallStep}
use Rattle.ssd_histories.specs.CallsInOrder.{AreStepsOf}
use Rattle.ssd_histories.specs.History.{is_same_tag, open_looks}
use Rattle.ssd_histories.specs.Lawful.{IsLawful}
use Rattle.ssd_histories.specs.Replies.{is_die_fault, pages_on}
use Rattle.ssd_histories.specs.Rounds.{has_fault}
use Rattle.ssd_histories.specs.Start.{Start}
use Rattle.calls_among_others.specs.ActorsCalls.{AreMadeAmong, first_tag}
use Rattle.calls_among_others.specs.CallsAmong.{ladders}
use Rattle.calls_among_others.specs.StepsAmong.{AreStepsAmong}
use Rattle.race_laws.specs.Drains.{AreRefreshedAmong}
use Rattle.race_laws.specs.Races.{AreAskedSoFar}

-- a call has no open look
abbrev pub HasLeftAll : Tag → List Entry → Type 0
HasLeftAll tag past = list_all (λ open_look. not (is_same_tag tag open_look.0)) (open_looks past) ≡ true

-- a call was begun on a channel of so many, among the calls of others: with some steps more its steps are those of its verb,
-- and in a lawful past it has left its looks
pub record IsBegunAmong (start : Start) (contents : List (Tag × List ℕ)) (channels channel : ℕ) (tag : Tag) (verb : Verb)
    (before after : List Entry) : Type 0 where
  pub steps : List CallStep
  pub rest : List CallStep
  pub are_steps : AreStepsAmong tag before steps after
  pub of_verb : AreStepsOf (ladders start contents) start.base channels channel verb (steps ++ rest)
  pub no_fault : has_fault steps ≡ false
  pub leaves_all : IsLawful start contents after → HasLeftAll tag before → HasLeftAll tag after

-- a trim, an ageing, a read and a refresh that stopped: the step that was refused is their first
abbrev pub TrimsStopBegun : Type 0
TrimsStopBegun =
    (start : Start) (contents : List (Tag × List ℕ)) (channels page : ℕ) (old new : CallerView) (tag : Tag) (stop : StepStop) →
    IsStepped {A = Unit {0}} HasStepRoom (MakesTrim tag (page / channels)) tag old new (Err stop) →
    IsBegunAmong start contents channels (page % channels) tag (Verb.Trim page) old.seen new.seen

abbrev pub AgesStopBegun : Type 0
AgesStopBegun =
    (start : Start) (contents : List (Tag × List ℕ)) (channels channel die sb amount : ℕ) (old new : CallerView) (tag : Tag)
    (stop : StepStop) →
    IsStepped HasStepRoom (MakesAge tag die sb amount) tag old new (Err stop) →
    IsBegunAmong start contents channels channel tag (Verb.Age channel die sb amount) old.seen new.seen

abbrev pub ReadsStopBegun : Type 0
ReadsStopBegun =
    (start : Start) (contents : List (Tag × List ℕ)) (channels page : ℕ) (old new : CallerView) (tag : Tag) (stop : StepStop) →
    IsStepped {A = ReadReply} HasLookRoom (λ now reply seen. ⊤) tag old new (Err stop) →
    IsBegunAmong start contents channels (page % channels) tag (Verb.Read page) old.seen new.seen

abbrev pub RefreshesStopBegun : Type 0
RefreshesStopBegun =
    (start : Start) (contents : List (Tag × List ℕ)) (channels page : ℕ) (caller : CallerView) (tag : Tag) (after : List Entry)
    (stop : StepStop) →
    MakesRefreshFor start contents caller tag (page / channels) after (Err stop) →
    IsBegunAmong start contents channels (page % channels) tag (Verb.Refresh page) caller.seen after

-- a write that stopped: programs that answered FAIL, and rounds, the last of which may lack its erase
abbrev pub WritesStopBegun : Type 0
WritesStopBegun =
    (start : Start) (contents : List (Tag × List ℕ)) (channels page : ℕ) (content : Content) (caller : CallerView) (tag : Tag)
    (before after : List Entry) (stop : StepStop) →
    MakesWriteFor start contents caller tag (page / channels) before after (Err stop) →
    IsBegunAmong start contents channels (page % channels) tag (Verb.Write page content) before after

-- a collect that stopped: rounds with a note after each, and a round that lacks its erase or its note
abbrev pub CollectsStopBegun : Type 0
CollectsStopBegun =
    (start : Start) (contents : List (Tag × List ℕ)) (channels channel : ℕ) (caller : CallerView) (tag : Tag)
    (before after : List Entry) (stop : StepStop) →
    MakesCollectFor start contents caller tag before after (Err stop) →
    IsBegunAmong start contents channels channel tag (Verb.Collect channel) before after

-- a drain that stopped: some of its pages were refreshed, and no die's call failed in them
abbrev pub DrainsStopBegun : Type 0
DrainsStopBegun =
    (start : Start) (contents : List (Tag × List ℕ)) (channels channel : ℕ) (tag : Tag) (count : ℕ)
    (pages : List (ℕ × RefreshReply)) (before after : List Entry) →
    channel < channels → list_all (λ drained. not (is_die_fault drained.1)) pages ≡ true →
    AreRefreshedAmong start contents channels tag (pages_on channels channel pages) before after →
    IsBegunAmong start contents channels channel tag (Verb.Drain count) before after

-- calls of an actor with their replies were made on a channel one after the other, and then one more began, each among the
-- calls of other actors
pub record AreMadeThenBegun (start : Start) (contents : List (Tag × List ℕ)) (channels channel actor : ℕ)
    (answered : List (TraceCall × Reply)) (call : TraceCall) (past : List Entry) : Type 0 where
  pub between : List Entry
  pub are_made : AreMadeAmong start contents channels channel (first_tag actor) answered [] between
  pub is_next : call.tag ≡ record { actor = actor; call = length answered }
  pub begun : IsBegunAmong start contents channels channel call.tag call.verb between past

-- in a lawful past they are what is asked of the actor so far
abbrev pub BegunActorsAreSoFar : Type 0
BegunActorsAreSoFar =
    (start : Start) (contents : List (Tag × List ℕ)) (channels channel actor : ℕ) (answered : List (TraceCall × Reply))
    (call : TraceCall) (rest : List TraceCall) (past : List Entry) →
    IsLawful start contents past → AreMadeThenBegun start contents channels channel actor answered call past →
    AreAskedSoFar contents channels channel actor (record { start = start; past = past }) answered (call ∷ rest)
