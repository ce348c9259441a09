use Rattle.std.proofs.Common.{◌≡◌, ◌∷◌, [], ℕ, ◌<◌, sym, ap, ◌∙◌, refl, length, arith, get_or}
use Rattle.std.specs.Prelude.{count_by, replicate}
use Rattle.ssd_formats.specs.TraceText.{is_of_actor, is_read_call, most_calls}
use Rattle.trace_text.proofs.CallCounts.{zeros}
use Rattle.trace_text.proofs.call_list.CallList.new.Goals as goal

pub invariant_of-result : goal.invariant_of-result
invariant_of-result c =
    let none = c.new.ensures.items in
    (omega (arith, ap length none), sym (ap (count_by is_read_call) none), λ k low. zeros (replicate 32 0) refl k ∙ sym (ap (count_by (is_of_actor k)) none))
