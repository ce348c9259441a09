-- Why the runs that were changed aren't what they were.
use Rattle.std.proofs.Common.{◌≡◌, Bool, true, false, List, [], ◌∷◌, get_or, refl, sym, ap}
use Rattle.std.proofs.lemmas.Bool.{false≢true}
use Rattle.std.proofs.lemmas.List.Elements.{recursion_from_All}
use Rattle.std.specs.Prelude.{IsTrue}
use Rattle.std.specs.List.{list_all}
use Rattle.ssd_geo.specs.Noise.{noise_word}
use Rattle.ssd_histories.specs.CallSteps.{CallStep}
use Rattle.ssd_histories.specs.CallsInOrder.{IsBegun, is_of_call, never_fall, steps_on}
use Rattle.ssd_histories.specs.HistoryExamples.{tag_of}
use Rattle.ssd_histories.specs.SerialHistory.{is_hint}
use Rattle.ssd_geo.specs.declared.reply.Reply.{Reply}
use Rattle.ssd_geo.specs.declared.trace.Verb.{Verb}
use Rattle.past_examples.specs.RunExamples.{IsOutOfOrder, LacksReplies, entry_of_earlier, left_open, two_unanswered, unknown_call, wrong_rung}
use Rattle.past_examples.specs.WorkedRuns.{call_of}
use Rattle.past_examples.proofs.WholeCalls.{HasReply, IsMade, channels}

-- the first read's entries give data of rung 1
pub wrong_rung_fails : LacksReplies wrong_rung
unfolding noise_word
wrong_rung_fails within replies =
    let each = recursion_from_All (HasReply wrong_rung within) wrong_rung.calls replies.are_replies in
    false≢true (sym (ap is_hint (each.1.1.0 (get_or wrong_rung.replies 2 Reply.Ok) refl)))

pub unknown_call_fails : IsOutOfOrder unknown_call
unknown_call_fails within order =
    false≢true (recursion_from_All (λ run. IsTrue (list_all (is_of_call unknown_call.calls) run.past)) (channels unknown_call within) order.known).0

pub entry_of_earlier_fails : IsOutOfOrder entry_of_earlier
entry_of_earlier_fails within order =
    false≢true (recursion_from_All (λ run. IsTrue (never_fall run.past)) (channels entry_of_earlier within) order.in_order).0

-- whether a list has no item
abbrev has_none : List CallStep → Bool
has_none [] = true
has_none (step ∷ steps) = false

pub two_unanswered_fails : IsOutOfOrder two_unanswered
two_unanswered_fails within order =
    let each = recursion_from_All (IsMade two_unanswered within) two_unanswered.calls order.made in
    let none = recursion_from_All (λ run. steps_on (tag_of 0 4) run ≡ []) (channels two_unanswered within) each.1.1.1.1.0 in
    false≢true (ap has_none none.0)

pub left_open_fails : IsOutOfOrder left_open
left_open_fails within order =
    let each = recursion_from_All (IsMade left_open within) left_open.calls order.made in
    let begun : IsBegun left_open.contents (channels left_open within) (call_of 4 (Verb.Read 0)) = each.1.1.1.1.0 in
    false≢true begun.are_left
