use Rattle.std.proofs.Common.{ℕ, refl, sym, ap, subst, ◌∙◌, arith}
use Rattle.hint_queue.specs.Orders.{HintPassState, QueueState, WereWaiting, having_met_full, having_pushed}
use Rattle.hint_queue.specs.Places.{IsSeated}
use Rattle.hint_queue.proofs.Seating.{full_pass, pushed_pass, pushed_seats, seen_seats, were_waiting}
use Rattle.hint_queue.proofs.Whole.{at_counts, at_queue, pages_in}
use Rattle.hint_queue.proofs.hints.Hints.push.Goals as goal

pub put-requires-clause-queue : goal.put-requires-clause-queue
put-requires-clause-queue g c =
    let seats = c.into_seats-seats.ensures in
    (at_queue _ _ _ _ seats.seated _ _ seats.same c.requires.queue ∙ sym (ap (λ (q : QueueState). q.queue) c.self.view_is), seats.seated.no_slot)

pub put-requires-clause-part : goal.put-requires-clause-part
put-requires-clause-part g c = c.into_seats-seats.ensures.seated.at_queue

pub put-requires-clause-number : goal.put-requires-clause-number
put-requires-clause-number g c = c.into_seats-seats.ensures.seated.numbered

pub put-requires-clause-page : goal.put-requires-clause-page
put-requires-clause-page g c =
    let seats = c.into_seats-seats.ensures in
    let bound = pages_in _ _ _ _ seats.seated _ _ seats.same c.requires.queue in
    let low = c.requires.page in omega (arith, bound, low)

pub tell-requires-clause-table : goal.tell-requires-clause-table
tell-requires-clause-table g c =
    let seats = c.into_seats-seats.ensures in
    at_counts _ _ _ _ seats.seated _ _ seats.same c.requires.queue ∙ sym (ap (λ (q : QueueState). q.counts) c.self.view_is)

pub tell-requires-clause-share : goal.tell-requires-clause-share
tell-requires-clause-share g c = c.into_seats-seats.ensures.seated.share

pub of-requires : goal.of-requires
of-requires g c =
    let answer = rw c.if-put.true at c.put.ensures.answer in
    subst (λ (n : ℕ). IsSeated c.into_seats-seats.result.number n c.put.new.place c.tell.new.teller) (sym c.after-next.ensures)
    (pushed_seats _ _ c.into_seats-seats.result.place c.put.new.place c.into_seats-seats.result.teller c.tell.new.teller c.into_seats-seats.ensures.seated c.put.ensures.seat.0 c.put.ensures.seat.2 c.tell.ensures.table c.args.page 0 refl answer c.tell.ensures.told)

pub returns-then-put-clause-pass : goal.returns-then-put-clause-pass
returns-then-put-clause-pass g c =
    let answer = rw c.if-put.true at c.put.ensures.answer in
    c.of.ensures
    ∙ (pushed_pass _ _ c.into_seats-seats.result.place c.put.new.place c.into_seats-seats.result.teller c.tell.new.teller c.into_seats-seats.ensures.seated c.put.ensures.seat.0 c.put.ensures.seat.2 c.tell.ensures.table c.args.page 0 answer c.tell.ensures.told
    ∙ ap (λ (pass : HintPassState). having_pushed pass c.args.page) (sym c.into_seats-seats.ensures.same))

pub wait-requires-clause-table : goal.wait-requires-clause-table
wait-requires-clause-table g c =
    let seats = c.into_seats-seats.ensures in
    at_counts _ _ _ _ seats.seated _ _ seats.same c.requires.queue ∙ sym (ap (λ (q : QueueState). q.counts) c.self.view_is)

pub of-requires-2 : goal.of-requires-2
of-requires-2 g c =
    let answer = rw c.if-put.false at c.put.ensures.answer in
    seen_seats _ _ c.into_seats-seats.result.place c.put.new.place c.into_seats-seats.result.teller c.wait.new.teller c.into_seats-seats.ensures.seated c.put.ensures.seat.0 c.put.ensures.seat.2 c.wait.ensures.table _ _ _ answer.0 c.wait.ensures.found

pub returns-clause-pass : goal.returns-clause-pass
returns-clause-pass g c =
    let answer = rw c.if-put.false at c.put.ensures.answer in
    c.of-2.ensures
    ∙ (full_pass _ _ c.into_seats-seats.result.place c.put.new.place c.into_seats-seats.result.teller c.wait.new.teller c.into_seats-seats.ensures.seated c.put.ensures.seat.0 c.put.ensures.seat.2 c.wait.ensures.table 0 _ refl answer.0 c.wait.ensures.found
    ∙ ap having_met_full (sym c.into_seats-seats.ensures.same))

pub returns-clause-full : goal.returns-clause-full
returns-clause-full g c =
    let answer = rw c.if-put.false at c.put.ensures.answer in
    subst (λ (pass : HintPassState). WereWaiting pass 256) (sym c.into_seats-seats.ensures.same) (were_waiting c.into_seats-seats.result.place c.into_seats-seats.result.teller 256 c.into_seats-seats.ensures.seated.at_queue answer.1)
