-- The answered calls of an actor are its first ones, each with the reply of its number.
use Rattle.std.proofs.Common.{ℕ, ◌≡◌, List, [], ◌∷◌, ◌++◌, length, length-append, map, refl, sym, ap, subst, ◌∙◌, arith}
use Rattle.std.specs.Prelude.{Option, slice_get, slice_index_or, zip}
use Rattle.std.proofs.lemmas.List.{length-map}
use Rattle.hint_queue.specs.Orders.{new_pass}
use Rattle.race_runs.specs.RaceHints.{HintsOfCalls, HintsOfNext, answered_calls, calls_by, first_unanswered}
use Rattle.ssd_geo.specs.declared.reply.Reply.{Reply}
use Rattle.ssd_geo.specs.declared.trace.TraceCall.{TraceCall}
use Rattle.made_races.specs.MadeHints.{MadeCallsTellHints}

abbrev firsts : List (TraceCall × Reply) → List TraceCall
firsts answered = map (λ made. made.0) answered

abbrev seconds : List (TraceCall × Reply) → List Reply
seconds answered = map (λ made. made.1) answered

zipped : (answered : List (TraceCall × Reply)) (rest : List TraceCall) → zip (firsts answered ++ rest) (seconds answered) ≡ answered
zipped [] [] = refl
zipped [] (call ∷ rest) = refl
zipped (made ∷ answered) rest =
    ap {B = List (TraceCall × Reply)} (λ (more : List (TraceCall × Reply)). made ∷ more) (zipped answered rest)

next_is : (answered : List (TraceCall × Reply)) (rest : List TraceCall) →
    slice_get (firsts answered ++ rest) (length (seconds answered)) ≡ slice_get rest 0
next_is [] rest = refl
next_is (made ∷ answered) rest = next_is answered rest

pub made_calls_tell_hints : MadeCallsTellHints
made_calls_tell_hints run queue actor dropped between pass calls answered next =
    let own : calls_by run actor ≡ firsts calls.answered ++ calls.rest = sym calls.are_calls in
    let given : slice_index_or run.replies actor [] ≡ seconds calls.answered = sym calls.are_replies in
    let many : ◌≡◌ {A = ℕ} (length (calls_by run actor)) (length (firsts calls.answered ++ calls.rest)) =
    ap {B = ℕ} (λ (list : List TraceCall). length list) own in
    let all = length-append (firsts calls.answered) calls.rest in
    let front = length-map calls.answered (λ (made : TraceCall × Reply). made.0) in
    let back = length-map calls.answered (λ (made : TraceCall × Reply). made.1) in
    let replies : ◌≡◌ {A = ℕ} (length (slice_index_or run.replies actor [])) (length (seconds calls.answered)) =
    ap {B = ℕ} (λ (list : List Reply). length list) given in
    let zipped_is : answered_calls run actor ≡ calls.answered =
    ap {B = List (TraceCall × Reply)} (λ (list : List TraceCall). zip list (slice_index_or run.replies actor [])) own
    ∙ ap {B = List (TraceCall × Reply)} (λ (list : List Reply). zip (firsts calls.answered ++ calls.rest) list) given
    ∙ zipped calls.answered calls.rest in
    let next_of : first_unanswered run actor ≡ slice_get calls.rest 0 =
    ap {B = Option TraceCall} (λ (list : List TraceCall). slice_get list (length (slice_index_or run.replies actor []))) own
    ∙ ap {B = Option TraceCall} (λ (list : List Reply). slice_get (firsts calls.answered ++ calls.rest) (length list)) given
    ∙ next_is calls.answered calls.rest in
    record {
      few_replies = omega (arith, many, all, front, back, replies);
      between = between;
      answered =
          subst (λ (made : List (TraceCall × Reply)). HintsOfCalls made (new_pass queue actor) between dropped) (sym zipped_is) answered;
      next = subst (λ (call : Option TraceCall). HintsOfNext call between pass) (sym next_of) next;
    }
