-- What do trims, ageings and reads come to where others make their entries between the steps? The steps are those that calls in
-- order ask of the verb, and the reply is the one that they decide: for a read, what its ladder says at its leave. Each law is
-- the contract of a function without a body.
use Rattle.std.specs.Prelude.{ℕ, ◌/◌, ◌%◌, List, Ok}
use Rattle.chan_calls.specs.Caller.{CallerView, HasStepRoom}
use Rattle.chan_calls.specs.Calls.{ReadsFor}
use Rattle.chan_calls.specs.Stepping.{IsStepped, MakesAge, MakesTrim}
use Rattle.chan_state.specs.declared.answers.AgeAnswer.{AgeAnswer}
use Rattle.chan_state.specs.declared.answers.AgeAnswer.TheVariants as age
use Rattle.ssd_geo.specs.declared.entry.Entry.{Entry}
use Rattle.ssd_geo.specs.declared.reply.Reply.{Reply}
use Rattle.ssd_geo.specs.declared.tag.Tag.{Tag}
use Rattle.ssd_geo.specs.declared.trace.Verb.{Verb}
use Rattle.ssd_histories.specs.Start.{Start}
use Rattle.calls_among_others.specs.CallsAmong.{IsCallAmong}

-- a trim, and an ageing, whose die may have failed
abbrev pub TrimsAmongAreTrims : Type 0
TrimsAmongAreTrims =
    (start : Start) (contents : List (Tag × List ℕ)) (channels page : ℕ) (old new : CallerView) (tag : Tag)
    (answer : Unit {0}) →
    IsStepped HasStepRoom (MakesTrim tag (page / channels)) tag old new (Ok answer) →
    IsCallAmong start contents channels (page % channels) tag (Verb.Trim page) old.seen new.seen Reply.Ok

abbrev pub reply_to_age : AgeAnswer → Reply
reply_to_age age.Aged = Reply.Ok
reply_to_age (age.DieFault die) = Reply.DieFault die

abbrev pub AgesAmongAreAges : Type 0
AgesAmongAreAges =
    (start : Start) (contents : List (Tag × List ℕ)) (channels channel die sb amount : ℕ) (old new : CallerView) (tag : Tag)
    (answer : AgeAnswer) →
    IsStepped HasStepRoom (MakesAge tag die sb amount) tag old new (Ok answer) →
    IsCallAmong start contents channels channel tag (Verb.Age channel die sb amount) old.seen new.seen (reply_to_age answer)

-- a read
abbrev pub ReadsAmongAreReads : Type 0
ReadsAmongAreReads =
    (start : Start) (contents : List (Tag × List ℕ)) (channels page : ℕ) (caller : CallerView) (tag : Tag) (after : List Entry)
    (reply : Reply) →
    ReadsFor start contents caller tag (page / channels) after reply →
    IsCallAmong start contents channels (page % channels) tag (Verb.Read page) caller.seen after reply
