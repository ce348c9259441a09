use Rattle.std.proofs.Common.{sym, ap, ◌∙◌, arith}
use Rattle.hint_queue.specs.Orders.{QueueState}
use Rattle.hint_queue.proofs.Telling.{unites}
use Rattle.hint_queue.proofs.Whole.{at_counts, at_queue, gathers_views, more_passes, more_whole, own_view}
use Rattle.hint_queue.proofs.hints.Hints.gather.Goals as goal

pub absorb-requires-clause-queue : goal.absorb-requires-clause-queue
absorb-requires-clause-queue c =
    let seats = c.into_seats-seats.ensures in
    let there = sym (ap (λ (q : QueueState). q.queue) c.self.view_is) in
    ((c.requires.whole.at_queue ∙ there, c.requires.whole.no_slot), (at_queue _ _ _ _ seats.seated _ _ seats.same c.requires.pass ∙ there, seats.seated.no_slot))

pub absorb-requires-clause-rule : goal.absorb-requires-clause-rule
absorb-requires-clause-rule c =
    let seats = c.into_seats-seats.ensures in
    gathers_views _ _ _ _ c.requires.whole.view_is (own_view _ _ _ _ seats.seated _ _ seats.same c.requires.pass)

pub join_seat-requires : goal.join_seat-requires
join_seat-requires c =
    let seats = c.into_seats-seats.ensures in
    let there = sym (ap (λ (q : QueueState). q.counts) c.self.view_is) in
    let words = c.self.invariant.1 in (
      c.requires.whole.at_counts ∙ there,
      at_counts _ _ _ _ seats.seated _ _ seats.same c.requires.pass ∙ there,
      seats.seated.at_counts,
      omega (arith, words),
      unites _ _ _ _ c.requires.whole.some_share,
    )

pub returns-clause-whole : goal.returns-clause-whole
returns-clause-whole c =
    let seats = c.into_seats-seats.ensures in
    more_whole _ _ _ _ seats.seated _ _ seats.same c.requires.pass _ _ _ _ c.requires.whole c.absorb.ensures.queue.0 c.absorb.ensures.queue.2 c.absorb.ensures.rule c.join_seat.ensures.0 c.join_seat.ensures.2

pub returns-clause-passes : goal.returns-clause-passes
returns-clause-passes c passes has =
    let seats = c.into_seats-seats.ensures in
    more_passes _ _ _ _ seats.seated _ _ seats.same c.requires.pass _ _ _ _ c.requires.whole c.absorb.ensures.queue.0 c.absorb.ensures.queue.2 c.absorb.ensures.rule c.join_seat.ensures.0 c.join_seat.ensures.2 passes has
