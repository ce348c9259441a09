-- Which calls are worked out, and on which channel? All are calls of actor 0 on the small blank channel of the worked
-- histories. Its base matrix has no entry, so that no check ties the bits of a page and decoding gives each sense back;
-- heads, cells, senses and read retry are those of every channel.
use Rattle.std.specs.Prelude.{ℕ, List, [], ◌∷◌, take}
use Rattle.ssd_geo.specs.Ladder.{LadderState}
use Rattle.ssd_histories.specs.CallSteps.{CallStep, steps_of}
use Rattle.ssd_histories.specs.CallsInOrder.{AreCallsInOrder, AreReplies, ChannelRun, ladder_in}
use Rattle.ssd_histories.specs.History.{past_of}
use Rattle.ssd_histories.specs.HistoryExamples.{AreWithinLimits, blank_start, tag_of}
use Rattle.ssd_histories.specs.Lawful.{IsLawful}
use Rattle.ssd_histories.specs.SerialHistory.{AreServed, SerialState, first_state}
use Rattle.ssd_histories.specs.Start.{Start}
use Rattle.ssd_geo.specs.declared.entry.Entry.{Entry}
use Rattle.ssd_geo.specs.declared.reply.Reply.{Reply}
use Rattle.ssd_geo.specs.declared.tag.Tag.{Tag}
use Rattle.ssd_geo.specs.declared.trace.TraceCall.{TraceCall}
use Rattle.ssd_geo.specs.declared.trace.Verb.{Verb}
use Rattle.ssd_geo.specs.declared.weak.Weak.{Weak}

-- a worked run: the weak blocks of its channel, the data of its writes, its calls with their replies, and its history
pub record WorkedRun : Type 0 where
  pub weak : List Weak
  pub contents : List (Tag × List ℕ)
  pub calls : List TraceCall
  pub replies : List Reply
  pub history : List Entry

-- a call of actor 0
abbrev pub call_of : ℕ → Verb → TraceCall
call_of call verb = record { tag = tag_of 0 call; verb = verb }

-- the start of a worked run
abbrev pub start_of : WorkedRun → AreWithinLimits → Start
start_of worked within = blank_start worked.weak within

-- the channel after the first entries of a history, and after all of a worked run
abbrev pub channel_to : ℕ → WorkedRun → AreWithinLimits → ChannelRun
channel_to entries worked within = record { start = start_of worked within; past = past_of (take entries worked.history) }

abbrev pub channel_of : WorkedRun → AreWithinLimits → ChannelRun
channel_of worked within = record { start = start_of worked within; past = past_of worked.history }

-- a run of its one channel, with the pages that wait for a refresh
abbrev pub state_of : ChannelRun → List ℕ → SerialState
state_of channel hints = record { channels = channel ∷ []; hints = hints; dropped = 0 }

-- the ladders of a worked run, and the steps of a call in it
abbrev pub ladder_on : WorkedRun → AreWithinLimits → List Entry → ℕ → LadderState
ladder_on worked within = ladder_in worked.contents (channel_of worked within)

abbrev pub steps_in : ℕ → WorkedRun → List CallStep
steps_in call worked = steps_of (tag_of 0 call) (past_of worked.history)

-- the history of a worked run is lawful
abbrev pub IsLawfulRun : WorkedRun → Type 0
IsLawfulRun worked = (within : AreWithinLimits) → IsLawful (start_of worked within) worked.contents (past_of worked.history)

-- its calls are in order
abbrev pub IsInOrder : WorkedRun → Type 0
IsInOrder worked =
    (within : AreWithinLimits) → AreCallsInOrder worked.contents worked.calls (worked.replies ∷ []) (channel_of worked within ∷ [])

-- they are served one after the other, and no page waits for a refresh at the end
abbrev pub IsServedAlone : WorkedRun → Type 0
IsServedAlone worked =
    (within : AreWithinLimits) → AreServed worked.contents (worked.replies ∷ []) 1 worked.calls (first_state (start_of worked within ∷ [])) (state_of (channel_of worked within) [])

-- each reply is that of its call by the call's own entries
abbrev pub HasReplies : WorkedRun → Type 0
HasReplies worked =
    (within : AreWithinLimits) → AreReplies worked.contents worked.calls (worked.replies ∷ []) (channel_of worked within ∷ [])
