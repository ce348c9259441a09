use Rattle.std.proofs.Common.{◌+◌, refl, sym, ap, subst, ◌∙◌, arith}
use Rattle.hint_queue.specs.Orders.{HintPassState, QueueState, WereWaiting, having_taken, knowing_all_taken}
use Rattle.hint_queue.proofs.Seating.{none_pass, seen_seats, taken_pass, taken_seats, were_waiting}
use Rattle.hint_queue.proofs.Whole.{at_counts, at_queue, pages_in}
use Rattle.hint_queue.proofs.hints.Hints.pop.Goals as goal

pub take-requires-clause-queue : goal.take-requires-clause-queue
take-requires-clause-queue g c =
    let seats = c.into_seats-seats.ensures in
    (at_queue _ _ _ _ seats.seated _ _ seats.same c.requires ∙ sym (ap (λ (q : QueueState). q.queue) c.self.view_is), seats.seated.no_slot)

pub take-requires-clause-part : goal.take-requires-clause-part
take-requires-clause-part g c = c.into_seats-seats.ensures.seated.at_queue

pub tell-requires-clause-table : goal.tell-requires-clause-table
tell-requires-clause-table g c =
    let seats = c.into_seats-seats.ensures in
    at_counts _ _ _ _ seats.seated _ _ seats.same c.requires ∙ sym (ap (λ (q : QueueState). q.counts) c.self.view_is)

pub tell-requires-clause-word : goal.tell-requires-clause-word
tell-requires-clause-word g c =
    let few = c.into_seats-seats.ensures.seated.few in
    let by = c.in-Some.ensures.answer.2 in omega (arith, few, by)

pub tell-requires-clause-share : goal.tell-requires-clause-share
tell-requires-clause-share g c = c.into_seats-seats.ensures.seated.share

pub of-requires : goal.of-requires
of-requires g c =
    taken_seats _ _ c.into_seats-seats.result.place c.take.new.place c.into_seats-seats.result.teller c.tell.new.teller c.into_seats-seats.ensures.seated c.in-Some.ensures.seat.0 c.in-Some.ensures.seat.2 c.tell.ensures.table c.in-Some.noted (c.in-Some.noted.by + 1) (omega arith) c.in-Some.ensures.answer.0 c.tell.ensures.told

pub returns-in-Some-clause-pass : goal.returns-in-Some-clause-pass
returns-in-Some-clause-pass g c =
    c.of.ensures
    ∙ (taken_pass _ _ c.into_seats-seats.result.place c.take.new.place c.into_seats-seats.result.teller c.tell.new.teller c.into_seats-seats.ensures.seated c.in-Some.ensures.seat.0 c.in-Some.ensures.seat.2 c.tell.ensures.table c.in-Some.noted (c.in-Some.noted.by + 1) c.in-Some.ensures.answer.0 c.tell.ensures.told
    ∙ ap (λ (pass : HintPassState). having_taken pass c.in-Some.noted.page) (sym c.into_seats-seats.ensures.same))

pub returns-in-Some-clause-page : goal.returns-in-Some-clause-page
returns-in-Some-clause-page g c =
    let seats = c.into_seats-seats.ensures in
    let bound = pages_in _ _ _ _ seats.seated _ _ seats.same c.requires in
    let low = c.in-Some.ensures.answer.1 in omega (arith, bound, low)

pub wait-requires-clause-table : goal.wait-requires-clause-table
wait-requires-clause-table g c =
    let seats = c.into_seats-seats.ensures in
    at_counts _ _ _ _ seats.seated _ _ seats.same c.requires ∙ sym (ap (λ (q : QueueState). q.counts) c.self.view_is)

pub wait-requires-clause-word : goal.wait-requires-clause-word
wait-requires-clause-word g c =
    let few = c.into_seats-seats.ensures.seated.few in
    let below = c.into_seats-seats.ensures.seated.below in omega (arith, few, below)

pub of-requires-2 : goal.of-requires-2
of-requires-2 g c =
    seen_seats _ _ c.into_seats-seats.result.place c.take.new.place c.into_seats-seats.result.teller c.wait.new.teller c.into_seats-seats.ensures.seated c.in_default.ensures.seat.0 c.in_default.ensures.seat.2 c.wait.ensures.table _ _ _ c.in_default.ensures.answer.0 c.wait.ensures.found

pub returns-clause-pass : goal.returns-clause-pass
returns-clause-pass g c =
    c.of-2.ensures
    ∙ (none_pass _ _ c.into_seats-seats.result.place c.take.new.place c.into_seats-seats.result.teller c.wait.new.teller c.into_seats-seats.ensures.seated c.in_default.ensures.seat.0 c.in_default.ensures.seat.2 c.wait.ensures.table (c.into_seats-seats.result.number + 1) refl c.in_default.ensures.answer.0 c.wait.ensures.found
    ∙ ap knowing_all_taken (sym c.into_seats-seats.ensures.same))

pub returns-clause-page : goal.returns-clause-page
returns-clause-page g c =
    subst (λ (pass : HintPassState). WereWaiting pass 0) (sym c.into_seats-seats.ensures.same) (were_waiting c.into_seats-seats.result.place c.into_seats-seats.result.teller 0 c.into_seats-seats.ensures.seated.at_queue c.in_default.ensures.answer.1)
