-- Does a race of two actors meet what the law of whole races asks? Its trace has one channel; the first actor trims a page
-- and stops at its next call, which makes no entry; the second trims a page, after the first, and drains hints of which there
-- are none.
use Rattle.std.specs.Prelude.{ℕ, ◌≤◌, List, [], ◌∷◌, length, All}
use Rattle.std.specs.Option.{ForSome}
use Rattle.ssd_geo.specs.declared.entry.Entry.{Entry}
use Rattle.ssd_geo.specs.declared.kind.Kind.{Kind}
use Rattle.ssd_geo.specs.declared.reply.Reply.{Reply}
use Rattle.ssd_geo.specs.declared.trace.TraceCall.{TraceCall}
use Rattle.ssd_geo.specs.declared.trace.Verb.{Verb}
use Rattle.ssd_histories.specs.CallsInOrder.{AreNumberedAfter, ChannelRun, answered_by, reply_to}
use Rattle.ssd_histories.specs.HistoryExamples.{AreWithinLimits, blank_start, step, tag_of}
use Rattle.ssd_histories.specs.Lawful.{IsLawful}
use Rattle.race_laws.specs.RaceReplies.{HasChannel, IsDrainAnswered}
use Rattle.race_laws.specs.Races.{IsFewWhereDrain}
use Rattle.race_laws.specs.RacesMade.{IsActorMade}

-- the trace, its replies, and the history of the channel
abbrev pub raced_calls : List TraceCall
raced_calls =
    record { tag = tag_of 0 0; verb = Verb.Trim 6 }
    ∷ record { tag = tag_of 1 0; verb = Verb.Trim 7 }
    ∷ record { tag = tag_of 0 1; verb = Verb.Trim 5 }
    ∷ record { tag = tag_of 1 1; verb = Verb.Drain 2 }
    ∷ []

abbrev pub raced_replies : List (List Reply)
raced_replies = (Reply.Ok ∷ []) ∷ (Reply.Ok ∷ Reply.Drained [] ∷ []) ∷ []

abbrev pub trimmed_first : List Entry
trimmed_first = step 0 0 (Kind.Trim 6) ∷ []

abbrev pub raced_past : List Entry
raced_past = step 1 0 (Kind.Trim 7) ∷ trimmed_first

abbrev pub raced_runs : AreWithinLimits → List ChannelRun
raced_runs within = record { start = blank_start [] within; past = raced_past } ∷ []

-- each premise of the law holds of it
pub record RaceMeetsPremises (within : AreWithinLimits) : Type 0 where
  pub numbered : AreNumberedAfter 2 [] raced_calls
  pub lawful : All (λ run. IsLawful run.start [] run.past) (raced_runs within)
  pub made : (actor : ℕ) → IsActorMade [] raced_calls raced_replies (raced_runs within) actor
  pub channels : All (λ call. HasChannel (length (raced_runs within)) call.verb) raced_calls
  pub drained : All (λ call. ForSome (reply_to raced_replies call.tag) (IsDrainAnswered call.verb)) raced_calls
  pub begun :
      All
      (λ call.
      answered_by raced_replies call.tag.actor ≤ call.tag.call → IsFewWhereDrain (raced_runs within) call.tag call.verb)
      raced_calls

abbrev pub TwoActorsRaceMeetsPremises : Type 0
TwoActorsRaceMeetsPremises = (within : AreWithinLimits) → RaceMeetsPremises within
