-- Are the replies of a whole race those that its calls' own entries decide? They are where on each channel each actor's
-- answered calls decide their replies there, each call names a channel that there is, and of a drain's pages only the last
-- may tell of a failed call. Each law is the contract of a function without a body.
use Rattle.std.specs.Prelude.{ℕ, ◌≤◌, ◌<◌, IsTrue, List, [], length, All, ⊤}
use Rattle.std.specs.Option.{ForSome}
use Rattle.ssd_geo.specs.declared.reply.Reply.{Reply}
use Rattle.ssd_geo.specs.declared.tag.Tag.{Tag}
use Rattle.ssd_geo.specs.declared.trace.TraceCall.{TraceCall}
use Rattle.ssd_geo.specs.declared.trace.Verb.{Verb}
use Rattle.ssd_histories.specs.CallsInOrder.{AreCallsInOrder, AreNumberedAfter, AreReplies, ChannelRun, answered_by, reply_to}
use Rattle.ssd_histories.specs.Replies.{is_fault_last}
use Rattle.race_laws.specs.Races.{IsActorAsked, IsFewWhereDrain}

-- the channel of a verb is one of so many: the one that it names, or that of its page
abbrev pub HasChannel : ℕ → Verb → Type 0
HasChannel channels (Verb.Collect channel) = channel < channels
HasChannel channels (Verb.Age channel die sb amount) = channel < channels
HasChannel channels verb = 0 < channels

-- only the last of a drain's pages may tell of a failed call
abbrev pub HasFaultLast : Verb → Reply → Type 0
HasFaultLast (Verb.Drain count) (Reply.Drained pages) = IsTrue (is_fault_last pages)
HasFaultLast verb reply = ⊤

abbrev pub HaveFaultsLast : List TraceCall → List (List Reply) → Type 0
HaveFaultsLast calls replies = All (λ call. ForSome (reply_to replies call.tag) (HasFaultLast call.verb)) calls

-- the calls' own entries decide the replies
abbrev pub RacesHaveReplies : Type 0
RacesHaveReplies =
    (contents : List (Tag × List ℕ)) (actors : ℕ) (calls : List TraceCall) (replies : List (List Reply))
    (runs : List ChannelRun) →
    AreNumberedAfter actors [] calls → ((actor : ℕ) → IsActorAsked contents calls replies runs actor) →
    All (λ call. HasChannel (length runs) call.verb) calls → HaveFaultsLast calls replies →
    AreReplies contents calls replies runs

-- a drain's reply has no more pages than were asked for, and only the last may tell of a failed call
abbrev pub IsDrainAnswered : Verb → Reply → Type 0
IsDrainAnswered (Verb.Drain count) (Reply.Drained pages) = IsTrue (is_fault_last pages) × (length pages ≤ count)
IsDrainAnswered verb reply = ⊤

-- so the drains of a race took few where each answered one has such a reply, and those that began took few
abbrev pub WholeRacesAreInOrder : Type 0
WholeRacesAreInOrder =
    (contents : List (Tag × List ℕ)) (actors : ℕ) (calls : List TraceCall) (replies : List (List Reply))
    (runs : List ChannelRun) →
    AreNumberedAfter actors [] calls → ((actor : ℕ) → IsActorAsked contents calls replies runs actor) →
    All (λ call. HasChannel (length runs) call.verb) calls →
    All (λ call. ForSome (reply_to replies call.tag) (IsDrainAnswered call.verb)) calls →
    All (λ call. answered_by replies call.tag.actor ≤ call.tag.call → IsFewWhereDrain runs call.tag call.verb) calls →
    AreCallsInOrder contents calls replies runs × AreReplies contents calls replies runs
