-- Do the histories hold each call once, whole and in its actor's order? Each entry belongs to a call of the trace, on
-- its page's or named channel; the calls of one actor come in their order; the steps of an answered call are those of its
-- verb; and an actor's first call that wasn't answered may have begun such steps.
use Rattle.std.specs.Prelude.{ℕ, ◌≡◌, ◌/◌, ◌%◌, ◌≤◌, ◌<◌, ◌==◌, nat_lt, nat_le, Bool, true, false, ◌&&◌, ◌||◌, not, IsTrue, List, [], ◌∷◌, ◌++◌, length, All, count_by, sum_by, flat_map, slice_index_or, slice_get, Option, Some, is_some, option_map, IsSomeAnd, ⊤}
use Rattle.std.specs.List.{enumerate_from, list_all, list_any}
use Rattle.std.specs.Option.{ForSome}
use Rattle.ssd_histories.specs.CallSteps.{CallStep, is_fault, steps_of}
use Rattle.ssd_geo.specs.Coding.{coding_of}
use Rattle.ssd_histories.specs.Copies.{IsRead, IsRefresh}
use Rattle.ssd_histories.specs.History.{is_same_tag, open_looks}
use Rattle.ssd_geo.specs.Ladder.{LadderState}
use Rattle.ssd_histories.specs.PastPages.{ladder_of}
use Rattle.ssd_histories.specs.Replies.{collect_reply, decided_pages, drained_on, is_fault_last, pages_on, read_reply, refresh_reply, reply_of_refresh, row_looked_at, single_reply, write_reply}
use Rattle.ssd_histories.specs.Rounds.{IsCollect, IsWrite, has_fault, is_one}
use Rattle.ssd_histories.specs.Start.{Start}
use Rattle.ssd_geo.specs.declared.base.ChannelBase.{ChannelBase}
use Rattle.ssd_geo.specs.declared.entry.Entry.{Entry}
use Rattle.ssd_geo.specs.declared.kind.Kind.{Kind}
use Rattle.ssd_geo.specs.declared.reply.Reply.{Reply}
use Rattle.ssd_geo.specs.declared.tag.Tag.{Tag}
use Rattle.ssd_geo.specs.declared.trace.TraceCall.{TraceCall}
use Rattle.ssd_geo.specs.declared.trace.Verb.{Verb}

-- a call's tag has an actor of the trace, and as its number that of its actor's calls before it
pub record IsNumberedAfter (actors : ℕ) (before : List TraceCall) (call : TraceCall) : Type 0 where
  pub is_actor : call.tag.actor < actors
  pub is_number : call.tag.call ≡ count_by (λ older. older.tag.actor == call.tag.actor) before

-- so have all calls after those before
abbrev pub AreNumberedAfter : ℕ → List TraceCall → List TraceCall → Type 0
AreNumberedAfter actors before [] = ⊤
AreNumberedAfter actors before (call ∷ calls) =
    IsNumberedAfter actors before call × AreNumberedAfter actors (before ++ call ∷ []) calls

-- a channel of a run: what it began with, and its past at the end
pub record ChannelRun : Type 0 where
  pub start : Start
  pub past : List Entry

-- the ladders of a channel's looks
abbrev pub ladder_in : List (Tag × List ℕ) → ChannelRun → List Entry → ℕ → LadderState
ladder_in contents run = ladder_of (coding_of run.start.base) run.start contents

-- the steps of a call on a channel
abbrev pub steps_on : Tag → ChannelRun → List CallStep
steps_on tag run = steps_of tag run.past

-- whether an entry is a trim of a row, and the ageing of a block by an amount, done or failed
abbrev pub is_trim_of : ℕ → Kind → Bool
is_trim_of row (Kind.Trim named) = named == row
is_trim_of row _ = false

abbrev pub is_age_of : ℕ → ℕ → ℕ → Kind → Bool
is_age_of die sb amount (Kind.Age named block by) = named == die && block == sb && by == amount
is_age_of die sb amount (Kind.FaultAge named block by) = named == die && block == sb && by == amount
is_age_of die sb amount _ = false

-- some steps are a refresh of some row
pub record IsSomeRefresh (ladder : List Entry → ℕ → LadderState) (steps : List CallStep) : Type 0 where
  pub row : ℕ
  pub is_refresh : IsRefresh ladder row steps

-- whether a die's call failed in none of some parts but the last
abbrev pub is_faultless_before_last : List (List CallStep) → Bool
is_faultless_before_last [] = true
is_faultless_before_last (part ∷ []) = true
is_faultless_before_last (part ∷ next ∷ parts) = not (has_fault part) && is_faultless_before_last (next ∷ parts)

-- what a drain makes on one channel: refreshes, one after the other, the last of which may have a failed call
pub record AreRefreshes (ladder : List Entry → ℕ → LadderState) (steps : List CallStep) : Type 0 where
  pub refreshes : List (List CallStep)
  pub are_steps : steps ≡ flat_map (λ refresh. refresh) refreshes
  pub each : All (IsSomeRefresh ladder) refreshes
  pub faultless : IsTrue (is_faultless_before_last refreshes)

-- a fact of some steps where a channel is the call's own, and elsewhere that there is no step
abbrev pub OnOwnChannel : Bool → Type 0 → List CallStep → Type 0
OnOwnChannel true fact steps = fact
OnOwnChannel false fact steps = steps ≡ []

-- the steps of a call on a channel are those of its verb. With C channels page x is row x / C of channel x mod C.
abbrev pub AreStepsOf : (List Entry → ℕ → LadderState) → ChannelBase → ℕ → ℕ → Verb → List CallStep → Type 0
AreStepsOf ladder base channels channel (Verb.Write page content) steps =
    OnOwnChannel (page % channels == channel) (IsWrite ladder base (page / channels) steps) steps
AreStepsOf ladder base channels channel (Verb.Read page) steps =
    OnOwnChannel (page % channels == channel) (IsRead ladder (page / channels) steps) steps
AreStepsOf ladder base channels channel (Verb.Trim page) steps =
    OnOwnChannel (page % channels == channel) (IsTrue (is_one (is_trim_of (page / channels)) steps)) steps
AreStepsOf ladder base channels channel (Verb.Refresh page) steps =
    OnOwnChannel (page % channels == channel) (IsRefresh ladder (page / channels) steps) steps
AreStepsOf ladder base channels channel (Verb.Collect named) steps =
    OnOwnChannel (named == channel) (IsCollect ladder base steps) steps
AreStepsOf ladder base channels channel (Verb.Drain count) steps = AreRefreshes ladder steps
AreStepsOf ladder base channels channel (Verb.Age named die sb amount) steps =
    OnOwnChannel (named == channel) (IsTrue (is_one (is_age_of die sb amount) steps)) steps

-- how many looks some steps have: one for each hint that a drain took
abbrev pub looks_in_steps : List CallStep → ℕ
looks_in_steps steps = count_by (λ step. is_some (row_looked_at step.entry.kind)) steps

-- a drain took at most as many hints as it asked for
abbrev pub TookAtMost : Verb → ℕ → Type 0
TookAtMost (Verb.Drain count) looks = looks ≤ count
TookAtMost verb looks = ⊤

-- the hints that a call took on all channels
abbrev pub hints_taken : List ChannelRun → Tag → ℕ
hints_taken runs tag = sum_by (λ run. looks_in_steps (steps_on tag run)) runs

-- how many die calls failed in a call, on all channels
abbrev pub count_of_faults : List ChannelRun → Tag → ℕ
count_of_faults runs tag = sum_by (λ run. count_by (λ step. is_fault step.entry.kind) (steps_on tag run)) runs

-- steps of a call on a channel are those of its verb
abbrev pub AreCallSteps : List (Tag × List ℕ) → ℕ → TraceCall → ℕ × ChannelRun → List CallStep → Type 0
AreCallSteps contents channels call item steps =
    AreStepsOf (ladder_in contents item.1) item.1.start.base channels item.0 call.verb steps

-- a call was made whole: on each channel its steps are those of its verb, and at most one die call failed in it
pub record IsWhole (contents : List (Tag × List ℕ)) (runs : List ChannelRun) (call : TraceCall) : Type 0 where
  pub on_channels : All (λ item. AreCallSteps contents (length runs) call item (steps_on call.tag item.1)) (enumerate_from 0 runs)
  pub few : TookAtMost call.verb (hints_taken runs call.tag)
  pub one_fault : count_of_faults runs call.tag ≤ 1

-- some steps begin those of a call: with others after them they are those of its verb
pub record IsBegunOn (contents : List (Tag × List ℕ)) (channels : ℕ) (call : TraceCall) (item : ℕ × ChannelRun) : Type 0 where
  pub rest : List CallStep
  pub begins : AreCallSteps contents channels call item (steps_on call.tag item.1 ++ rest)

-- whether no look of a call is open at the end of a channel
abbrev pub is_left : Tag → ChannelRun → Bool
is_left tag run = list_all (λ open_look. not (is_same_tag tag open_look.0)) (open_looks run.past)

-- a call was begun: on each channel its steps begin those of its verb, and each of its looks has its leave
pub record IsBegun (contents : List (Tag × List ℕ)) (runs : List ChannelRun) (call : TraceCall) : Type 0 where
  pub on_channels : All (IsBegunOn contents (length runs) call) (enumerate_from 0 runs)
  pub few : TookAtMost call.verb (hints_taken runs call.tag)
  pub one_fault : count_of_faults runs call.tag ≤ 1
  pub are_left : IsTrue (list_all (is_left call.tag) runs)

-- a call has no entry
abbrev pub IsNotMade : List ChannelRun → TraceCall → Type 0
IsNotMade runs call = All (λ run. steps_on call.tag run ≡ []) runs

-- how many calls of an actor were answered, and the reply of a call
abbrev pub answered_by : List (List Reply) → ℕ → ℕ
answered_by replies actor = length (slice_index_or replies actor [])

abbrev pub reply_to : List (List Reply) → Tag → Option Reply
reply_to replies tag = slice_get (slice_index_or replies tag.actor []) tag.call

-- a call by its place among its actor's: an answered one was made whole, the first unanswered one may have begun, and
-- later ones weren't made
abbrev pub IsAsAnswered : List (Tag × List ℕ) → List ChannelRun → Bool → Bool → TraceCall → Type 0
IsAsAnswered contents runs true is_first call = IsWhole contents runs call
IsAsAnswered contents runs false true call = IsBegun contents runs call
IsAsAnswered contents runs false false call = IsNotMade runs call

-- whether an entry's tag is that of one of some calls
abbrev pub is_of_call : List TraceCall → Entry → Bool
is_of_call calls entry = list_any (λ call. is_same_tag call.tag entry.tag) calls

-- whether the call numbers of an actor never fall in a past: an older entry of the same actor has no greater one
abbrev pub is_no_later : Tag → Entry → Bool
is_no_later tag older = not (older.tag.actor == tag.actor) || nat_le older.tag.call tag.call

abbrev pub never_fall : List Entry → Bool
never_fall [] = true
never_fall (entry ∷ past) = list_all (is_no_later entry.tag) past && never_fall past

-- the calls are in order in the histories of all channels, with these replies of each actor
pub record AreCallsInOrder (contents : List (Tag × List ℕ)) (calls : List TraceCall) (replies : List (List Reply)) (runs : List ChannelRun) : Type 0 where
  pub known : All (λ run. IsTrue (list_all (is_of_call calls) run.past)) runs
  pub in_order : All (λ run. IsTrue (never_fall run.past)) runs
  pub made : All (λ call. IsAsAnswered contents runs (nat_lt call.tag.call (answered_by replies call.tag.actor)) (call.tag.call == answered_by replies call.tag.actor) call) calls

-- what the steps on a call's own channel say of its reply
abbrev pub OfRun : List ChannelRun → ℕ → (ChannelRun → Type 0) → Type 0
OfRun runs channel fact = IsSomeAnd (slice_get runs channel) fact

-- the reply of a drain: its pages are those of its looks, in order on each channel, each with the reply of its refresh,
-- and only the last may tell of a failed call
abbrev pub IsDrainReply : List (Tag × List ℕ) → List ChannelRun → Tag → Reply → Type 0
IsDrainReply contents runs tag (Reply.Drained pages) =
    All (λ item. drained_on (ladder_in contents item.1) (length runs) item.0 (steps_on tag item.1) ≡ decided_pages (pages_on (length runs) item.0 pages)) (enumerate_from 0 runs)
    × IsTrue (is_fault_last pages)
IsDrainReply contents runs tag _ = ⊥

-- a reply is that of a call of a verb by the call's own entries
abbrev pub IsReplyBy : List (Tag × List ℕ) → List ChannelRun → Tag → Reply → Verb → Type 0
IsReplyBy contents runs tag reply (Verb.Write page content) =
    OfRun runs (page % length runs) (λ run. write_reply (steps_on tag run) ≡ Some reply)
IsReplyBy contents runs tag reply (Verb.Read page) =
    OfRun runs (page % length runs)
    (λ run. read_reply run.start.base.shape.bytes (ladder_in contents run) (steps_on tag run) ≡ Some reply)
IsReplyBy contents runs tag reply (Verb.Trim page) =
    OfRun runs (page % length runs) (λ run. single_reply (steps_on tag run) ≡ Some reply)
IsReplyBy contents runs tag reply (Verb.Refresh page) =
    OfRun runs (page % length runs)
    (λ run. option_map reply_of_refresh (refresh_reply (ladder_in contents run) (steps_on tag run)) ≡ Some reply)
IsReplyBy contents runs tag reply (Verb.Collect channel) =
    OfRun runs channel (λ run. collect_reply (steps_on tag run) ≡ reply)
IsReplyBy contents runs tag reply (Verb.Drain count) = IsDrainReply contents runs tag reply
IsReplyBy contents runs tag reply (Verb.Age channel die sb amount) =
    OfRun runs channel (λ run. single_reply (steps_on tag run) ≡ Some reply)

abbrev pub IsReplyOf : List (Tag × List ℕ) → List ChannelRun → TraceCall → Reply → Type 0
IsReplyOf contents runs call reply = IsReplyBy contents runs call.tag reply call.verb

-- each reply of an actor is that of the actor's call of this number
pub record AreReplies (contents : List (Tag × List ℕ)) (calls : List TraceCall) (replies : List (List Reply)) (runs : List ChannelRun) : Type 0 where
  pub enough_calls : All (λ item. length item.1 ≤ count_by (λ call. call.tag.actor == item.0) calls) (enumerate_from 0 replies)
  pub are_replies : All (λ call. ForSome (reply_to replies call.tag) (IsReplyOf contents runs call)) calls
