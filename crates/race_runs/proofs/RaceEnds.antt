-- A call whose number is the count of its actor's replies has none.
use Rattle.std.proofs.Common.{ℕ, ◌≡◌, true, Bool, [], None, sym, ap, subst, ◌∙◌, arith}
use Rattle.std.specs.Prelude.{Option, is_some, slice_index_or}
use Rattle.std.proofs.lemmas.Bool.{false≢true}
use Rattle.std.proofs.lemmas.List.Sums.{AllPass-from_list_all}
use Rattle.std.proofs.lemmas.Option.{slice_get_past}
use Rattle.ssd_geo.specs.declared.reply.Reply.{Reply}
use Rattle.ssd_geo.specs.declared.trace.TraceCall.{TraceCall}
use Rattle.ssd_histories.specs.CallsInOrder.{reply_to}
use Rattle.race_runs.specs.RaceEnds.{StoppedRacesAreNotWhole}

pub stopped_races_are_not_whole : StoppedRacesAreNotWhole
stopped_races_are_not_whole run channel entries stopped whole =
    let k : ℕ = stopped.named.0 in
    let call : TraceCall = stopped.named.1 in
    let same : slice_index_or run.calls.calls k call ≡ call = stopped.named.3 in
    let number = stopped.named.4.is_first in
    let none : reply_to run.replies call.tag ≡ None =
    slice_get_past (slice_index_or run.replies call.tag.actor []) call.tag.call (omega (arith, number)) in
    let some : is_some (reply_to run.replies call.tag) ≡ true =
    subst (λ (one : TraceCall). is_some (reply_to run.replies one.tag) ≡ true) same
    (AllPass-from_list_all (λ (one : TraceCall). is_some (reply_to run.replies one.tag)) run.calls.calls whole k call stopped.named.2) in
    false≢true (sym (ap {B = Bool} (λ (option : Option Reply). is_some option) none) ∙ some)
