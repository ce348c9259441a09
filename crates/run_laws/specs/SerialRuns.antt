-- When does the statement hold of a run whose calls were served one after the other? Where the calls are numbered and have
-- their data, each channel has a past of its start, and the calls were served in their order, each with the reply of its
-- own entries. Which verbs they have doesn't matter, nor what the channels began with. Each law is the contract of a
-- function without a body.
use Rattle.std.specs.Prelude.{ℕ, ◌≡◌, IsTrue, List, [], ◌∷◌, ◌++◌, ◌<◌, ◌≤◌, ◌^◌, length, replicate, All, count_by, slice_index_or, slice_set, ⊤}
use Rattle.std.specs.List.{list_all}
use Rattle.ssd_formats.specs.ImageHead.{Head}
use Rattle.ssd_formats.specs.TraceText.{content_bytes, is_of_actor}
use Rattle.ssd_geo.specs.declared.reply.Reply.{Reply}
use Rattle.ssd_geo.specs.declared.tag.Tag.{Tag}
use Rattle.ssd_geo.specs.declared.trace.TraceCall.{TraceCall}
use Rattle.ssd_geo.specs.declared.trace.Verb.{Verb}
use Rattle.ssd_histories.specs.CallsInOrder.{AreNumberedAfter, IsReplyOf, is_left}
use Rattle.ssd_histories.specs.HistoryRoom.{found_room}
use Rattle.ssd_histories.specs.LastWrites.{IsData}
use Rattle.ssd_histories.specs.Lawful.{IsLawful}
use Rattle.ssd_histories.specs.SerialHistory.{IsSerialRun, SerialCall, SerialState, first_state}
use Rattle.ssd_histories.specs.SerialStop.{SerialCut}
use Rattle.ssd_histories.specs.Standing.{IsPastOf}
use Rattle.ssd_histories.specs.Start.{Start}
use Rattle.run_laws.specs.Headline.{AreCounted, Headline, IsStoppedRun, IsWholeRun}
use Rattle.run_laws.specs.Runs.{Run, channels_of, data_in}
use Rattle.run_laws.specs.Serials.{HasSmallSerials}
use Rattle.run_laws.specs.SpelledPasts.{IsSmallVerb}

-- the data of a write are so many bytes; the other verbs have none
abbrev pub HasData : ℕ → Verb → Type 0
HasData count (Verb.Write page content) = IsData count (content_bytes count content)
HasData count verb = ⊤

-- the calls of a run are numbered and have their data, each channel has pages of as many data bytes as the image, and there
-- are replies of each actor; the numbers of the calls fit their fields in a text
pub record HasCalls (head : Head) (run : Run) : Type 0 where
  pub numbered : AreNumberedAfter run.calls.actors [] run.calls.calls
  pub have_data : All (λ call. HasData head.sizes.bytes call.verb) run.calls.calls
  pub same_bytes : All (λ start. start.base.shape.bytes ≡ head.sizes.bytes) run.starts
  pub as_many_actors : length run.replies ≡ run.calls.actors
  pub few_actors : run.calls.actors ≤ 2 ^ 8
  pub few_calls : length run.calls.calls ≤ 2 ^ 32
  pub small_verbs : All (λ call. IsSmallVerb call.verb) run.calls.calls

-- what the channels of a run have by themselves, which are as few as a text tells of: each a past of its start, no longer than
-- the limit, each entry of which found room, dies that counted the faults of which the entries tell, and serials of 64 bits
-- with which it began
pub record ChannelsHold (head : Head) (run : Run) : Type 0 where
  pub as_many_pasts : length run.pasts ≡ length run.starts
  pub are_pasts : All (λ channel. IsPastOf channel.start (data_in head run) channel.past) (channels_of run)
  pub have_room : All (λ channel. IsTrue (found_room channel.start.limit channel.past)) (channels_of run)
  pub are_counted : AreCounted (channels_of run) run.faults
  pub few_channels : length run.starts ≤ 256
  pub are_short : All (λ channel. length channel.past ≤ channel.start.limit) (channels_of run)
  pub serials : All (λ start. HasSmallSerials start.base) run.starts

-- some calls were served one after the other, and each actor has as many replies as it has calls among these
pub record HasServed (contents : List (Tag × List ℕ)) (starts : List Start) (actors : ℕ) (done : List TraceCall)
    (replies : List (List Reply)) (after : SerialState) : Type 0 where
  pub is_serial : IsSerialRun contents starts done replies after
  pub as_many_actors : length replies ≡ actors
  pub as_many_replies :
      (actor : ℕ) → actor < actors → length (slice_index_or replies actor []) ≡ count_by (is_of_actor actor) done

-- the replies with one more of an actor
abbrev pub with_reply : List (List Reply) → ℕ → Reply → List (List Reply)
with_reply replies actor reply = slice_set replies actor (slice_index_or replies actor [] ++ reply ∷ [])

-- a call was served alone, with the reply of its own entries, and the histories stay lawful
pub record ServesNext (contents : List (Tag × List ℕ)) (channels : ℕ) (call : TraceCall) (reply : Reply)
    (before after : SerialState) : Type 0 where
  pub is_serial : SerialCall contents channels call.tag reply call.verb before after
  pub is_reply : IsReplyOf contents after.channels call reply
  pub are_lawful : All (λ run. IsLawful run.start contents run.past) after.channels

-- no call was served yet
abbrev pub ServingBegins : Type 0
ServingBegins =
    (contents : List (Tag × List ℕ)) (starts : List Start) (actors : ℕ) →
    HasServed contents starts actors [] (replicate actors []) (first_state starts)

-- after the next call one more was served
abbrev pub ServesOneMore : Type 0
ServesOneMore =
    (contents : List (Tag × List ℕ)) (starts : List Start) (actors : ℕ) (done rest : List TraceCall) (call : TraceCall)
    (reply : Reply) (replies : List (List Reply)) (before after : SerialState) →
    AreNumberedAfter actors [] (done ++ call ∷ rest) → HasServed contents starts actors done replies before →
    ServesNext contents (length starts) call reply before after →
    HasServed contents starts actors (done ++ call ∷ []) (with_reply replies call.tag.actor reply) after

-- a run between two calls, with these hints in its queue
abbrev pub state_of : Run → List ℕ → SerialState
state_of run hints = record { channels = channels_of run; hints = hints; dropped = run.dropped }

-- what holds when all calls were served
pub record IsHeadlineOfWhole (head : Head) (run : Run) : Type 0 where
  pub headline : Headline head run
  pub is_whole : IsWholeRun head run

-- the statement holds of a run whose calls were all served one after the other
abbrev pub SerialRunsHold : Type 0
SerialRunsHold =
    (head : Head) (run : Run) (hints : List ℕ) → HasCalls head run → ChannelsHold head run →
    IsSerialRun (data_in head run) run.starts run.calls.calls run.replies (state_of run hints) → IsHeadlineOfWhole head run

-- what holds where a run stopped
pub record IsHeadlineOfStop (head : Head) (run : Run) (channel entries : ℕ) : Type 0 where
  pub headline : Headline head run
  pub is_stopped : IsStoppedRun head run channel entries

-- it holds of a run that stopped in a call before the call's first entry on any channel; a drain may have taken a hint
abbrev pub ServedFrontsStop : Type 0
ServedFrontsStop =
    (head : Head) (run : Run) (hints left : List ℕ) (channel entries : ℕ) (done rest : List TraceCall) (call : TraceCall) →
    HasCalls head run → ChannelsHold head run → run.calls.calls ≡ done ++ call ∷ rest →
    HasServed (data_in head run) run.starts run.calls.actors done run.replies (state_of run hints) →
    SerialCut (data_in head run) (length run.starts) channel entries call.tag call.verb (state_of run hints) (state_of run left) →
    IsHeadlineOfStop head run channel entries

-- and of a run that stopped in a call, each look of which has its leave
abbrev pub SerialStopsHold : Type 0
SerialStopsHold =
    (head : Head) (run : Run) (channel entries : ℕ) (stopped : IsStoppedRun head run channel entries) →
    HasCalls head run → ChannelsHold head run →
    IsTrue (list_all (is_left stopped.is_stop.call.tag) (channels_of run)) → Headline head run
