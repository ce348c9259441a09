-- A call of a trace stands among its actor's calls at the place of its number.
use Rattle.std.proofs.Common.{ℕ, ◌≡◌, ◌+◌, ◌<◌, ◌≤◌, Bool, true, cond, List, [], ◌∷◌, ◌++◌, drop, length, length-append, take, sym, ap, subst, ◌∙◌, inl, inr, arith}
use Rattle.std.specs.Prelude.{IfSome, None, Option, Some, filter, is_some, slice_get, slice_index_or}
use Rattle.std.proofs.lemmas.List.{get_or_at}
use Rattle.std.proofs.lemmas.List.Elements.{filter-append}
use Rattle.std.proofs.lemmas.List.Sums.{length-filter, list_all-from_AllPass}
use Rattle.std.proofs.lemmas.Option.{none-some, slice_get-get_or, slice_get_cases, slice_get_within}
use Rattle.race_runs.specs.RaceEnds.{HasStopped, IsFirstUnanswered}
use Rattle.race_runs.specs.RaceHints.{calls_by, first_unanswered}
use Rattle.race_runs.proofs.RaceHeadline.{numbered, placed}
use Rattle.run_laws.specs.Runs.{Run}
use Rattle.run_laws.specs.SerialRuns.{HasCalls}
use Rattle.shared_lemmas.proofs.Tests.{same_number}
use Rattle.ssd_formats.specs.ImageHead.{Head}
use Rattle.ssd_formats.specs.TraceText.{is_of_actor}
use Rattle.ssd_geo.specs.declared.reply.Reply.{Reply}
use Rattle.ssd_geo.specs.declared.trace.TraceCall.{TraceCall}
use Rattle.ssd_histories.specs.CallsInOrder.{answered_by, reply_to}
use Rattle.made_races.specs.EndedRaces.{AnsweredRacesAreWhole, StopsEndRaces}

-- the item behind some others
behind : (xs ys : List TraceCall) (y : TraceCall) (n : ℕ) → length xs ≡ n → slice_get (xs ++ y ∷ ys) n ≡ Some y
behind xs ys y n is =
    let long = length-append xs (y ∷ ys) in
    slice_get-get_or (xs ++ y ∷ ys) n y (omega (arith, long, is))
    ∙ ap {B = Option TraceCall} (λ (item : TraceCall). Some item) (get_or_at xs y ys y n is)

module _ (head : Head) (run : Run) (has_calls : HasCalls head run) where
  abbrev calls : List TraceCall
  calls = run.calls.calls

  pub own_place : (k : ℕ) (other : TraceCall) → k < length calls →
      slice_get (calls_by run (slice_index_or calls k other).tag.actor) (slice_index_or calls k other).tag.call
      ≡ Some (slice_index_or calls k other)
  own_place k other within =
      let call : TraceCall = slice_index_or calls k other in
      let own : TraceCall → Bool = is_of_actor call.tag.actor in
      let front : List TraceCall = filter own (take k calls) in
      let rest : List TraceCall = filter own (drop (k + 1) calls) in
      let parts : calls_by run call.tag.actor ≡ front ++ call ∷ rest =
      ap {B = List TraceCall} (λ (list : List TraceCall). filter own list) (placed head run has_calls k other within)
      ∙ filter-append own (take k calls) (call ∷ drop (k + 1) calls)
      ∙ ap {B = List TraceCall} (λ (b : Bool). front ++ cond b (call ∷ rest) rest) (same_number call.tag.actor) in
      let many : length front ≡ call.tag.call =
      length-filter own (take k calls) ∙ sym (numbered head run has_calls k other within).is_number in
      ap {B = Option TraceCall} (λ (list : List TraceCall). slice_get list call.tag.call) parts ∙ behind front rest call call.tag.call many

  -- the first one of an actor without a reply is the one of that number
  pub first_is : (k : ℕ) (other : TraceCall) → k < length calls → IsFirstUnanswered run (slice_index_or calls k other) →
      first_unanswered run (slice_index_or calls k other).tag.actor ≡ Some (slice_index_or calls k other)
  first_is k other within first =
      let call : TraceCall = slice_index_or calls k other in
      subst (λ (n : ℕ). slice_get (calls_by run call.tag.actor) n ≡ Some call) first (own_place k other within)

  -- an actor without such a call has a reply to each
  none_left : (actor : ℕ) → first_unanswered run actor ≡ None → length (calls_by run actor) ≤ answered_by run.replies actor
  none_left actor none =
      elim (slice_get_cases (calls_by run actor) (answered_by run.replies actor)).1 [
        | inl there ↦ absurd (none-some there.0 (sym none ∙ there.2))
        | inr past ↦ past.0
      ]

  has_reply : (k : ℕ) (other : TraceCall) (within : k < length calls) →
      first_unanswered run (slice_index_or calls k other).tag.actor ≡ None →
      is_some (reply_to run.replies (slice_index_or calls k other).tag) ≡ true
  has_reply k other within none =
      let call : TraceCall = slice_index_or calls k other in
      let below = slice_get_within (calls_by run call.tag.actor) call.tag.call call (own_place k other within) in
      let enough = none_left call.tag.actor none in
      ap {B = Bool} (λ (reply : Option Reply). is_some reply)
      (slice_get-get_or (slice_index_or run.replies call.tag.actor []) call.tag.call Reply.Ok (omega (arith, below, enough)))

pub answered_races_are_whole : AnsweredRacesAreWhole
answered_races_are_whole head run has_calls answered =
    list_all-from_AllPass (λ call. is_some (reply_to run.replies call.tag)) run.calls.calls
    (λ k other within.
    has_reply head run has_calls k other within
    (answered (slice_index_or run.calls.calls k other).tag.actor (numbered head run has_calls k other within).is_actor))

pub stops_end_races : StopsEndRaces
stops_end_races head run channel entries named has_calls each there first stops = record {
  each = λ k other within unanswered.
      subst (λ (call : Option TraceCall). IfSome call (HasStopped run)) (first_is head run has_calls k other within unanswered)
      (each (slice_index_or run.calls.calls k other).tag.actor (numbered head run has_calls k other within).is_actor);
  named = (there.0, named, there.1, there.2, record { is_first = first; stops = stops });
}
