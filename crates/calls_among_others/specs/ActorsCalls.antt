-- What do the calls of one actor come to on a channel, each of which was made among those of others? Just what calls in order
-- ask of that actor there: each call is whole and has its reply by its own steps, its entries are known and their numbers never
-- fall, and later calls have none. Each law is the contract of a function without a body.
use Rattle.std.specs.Prelude.{ℕ, suc, ◌≡◌, ◌≤◌, ◌==◌, Bool, true, ◌&&◌, ◌||◌, not, List, [], ◌∷◌, length, map, count_by, All}
use Rattle.std.specs.List.{list_all}
use Rattle.ssd_geo.specs.declared.entry.Entry.{Entry}
use Rattle.ssd_geo.specs.declared.reply.Reply.{Reply}
use Rattle.ssd_geo.specs.declared.tag.Tag.{Tag}
use Rattle.ssd_geo.specs.declared.trace.TraceCall.{TraceCall}
use Rattle.ssd_histories.specs.CallSteps.{is_fault}
use Rattle.ssd_histories.specs.CallsInOrder.{AreCallSteps, ChannelRun, is_no_later, is_of_call, ladder_in, never_fall, steps_on}
use Rattle.ssd_histories.specs.Start.{Start}
use Rattle.calls_among_others.specs.CallsAmong.{DecideReply, IsCallAmong}
use Rattle.calls_among_others.specs.StepsAmong.{HasCome}

-- the tag of an actor's next call
abbrev pub next_tag : Tag → Tag
next_tag tag = record { actor = tag.actor; call = suc tag.call }

-- calls with their replies were made one after the other from a tag on, each among the calls of other actors
abbrev pub AreMadeAmong : Start → List (Tag × List ℕ) → ℕ → ℕ → Tag → List (TraceCall × Reply) → List Entry →
    List Entry → Type 0
AreMadeAmong start contents channels channel tag [] before after = HasCome tag.actor before after
AreMadeAmong start contents channels channel tag (made ∷ calls) before after =
    (between : List Entry) × (made.0.tag ≡ tag)
    × IsCallAmong start contents channels channel tag made.0.verb before between made.1
    × AreMadeAmong start contents channels channel (next_tag tag) calls between after

-- a call with its reply is on a channel as calls in order ask
pub record IsAsked (contents : List (Tag × List ℕ)) (channels channel : ℕ) (run : ChannelRun) (made : TraceCall × Reply)
    : Type 0 where
  pub are_whole : AreCallSteps contents channels made.0 (channel, run) (steps_on made.0.tag run)
  pub decide : DecideReply (ladder_in contents run) run.start.base channels channel made.0.verb (steps_on made.0.tag run) made.1
  pub one_fault : count_by (λ step. is_fault step.entry.kind) (steps_on made.0.tag run) ≤ 1

-- whether an entry, if it is an actor's, is of one of some calls
abbrev pub is_known_of : ℕ → List TraceCall → Entry → Bool
is_known_of actor calls entry = not (entry.tag.actor == actor) || is_of_call calls entry

-- whether the call numbers of one actor never fall in a past
abbrev pub never_falls_for : ℕ → List Entry → Bool
never_falls_for actor [] = true
never_falls_for actor (entry ∷ past) =
    (not (entry.tag.actor == actor) || list_all (is_no_later entry.tag) past) && never_falls_for actor past

-- all that calls in order ask of an actor on a channel, whose calls with their replies are these
pub record AreAsked (contents : List (Tag × List ℕ)) (channels channel actor : ℕ) (run : ChannelRun)
    (calls : List (TraceCall × Reply)) : Type 0 where
  pub each : All (IsAsked contents channels channel run) calls
  pub known : list_all (is_known_of actor (map (λ made. made.0) calls)) run.past ≡ true
  pub in_order : never_falls_for actor run.past ≡ true
  pub none_later : (tag : Tag) → tag.actor ≡ actor → length calls ≤ tag.call → steps_on tag run ≡ []

-- the first tag of an actor
abbrev pub first_tag : ℕ → Tag
first_tag actor = record { actor = actor; call = 0 }

-- so it is of the calls of an actor from its first one on, from the channel's beginning
abbrev pub CallsAmongAreAsked : Type 0
CallsAmongAreAsked =
    (start : Start) (contents : List (Tag × List ℕ)) (channels channel actor : ℕ) (calls : List (TraceCall × Reply))
    (past : List Entry) →
    AreMadeAmong start contents channels channel (first_tag actor) calls [] past →
    AreAsked contents channels channel actor (record { start = start; past = past }) calls

-- where the numbers of no actor fall, none fall; and where each actor's entries are known, all are
abbrev pub NoActorFalls : Type 0
NoActorFalls =
    (past : List Entry) → ((actor : ℕ) → never_falls_for actor past ≡ true) → never_fall past ≡ true

abbrev pub EachActorIsKnown : Type 0
EachActorIsKnown =
    (calls : List TraceCall) (past : List Entry) → ((actor : ℕ) → list_all (is_known_of actor calls) past ≡ true) →
    list_all (is_of_call calls) past ≡ true
