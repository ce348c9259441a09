use Rattle.std.proofs.Common.{◌≡◌, ◌<◌, ◌≤◌, ◌-◌, ◌+◌, ℕ, [], sym, ap, subst, ◌∙◌, arith}
use Rattle.crossbeam_queue.specs.Fifo.{Forks}
use Rattle.atomic_table.specs.Table.{Splits}
use Rattle.hint_queue.specs.Counts.{IsCounted, Teller, share_left, share_right}
use Rattle.hint_queue.specs.Kept.{IsKept}
use Rattle.hint_queue.specs.Orders.{QueueState, new_passes}
use Rattle.hint_queue.specs.Steps.{deal_left, deal_right}
use Rattle.hint_queue.specs.declared.counts.Tally.{Tally}
use Rattle.hint_queue.specs.declared.view.View.{View}
use Rattle.hint_queue.proofs.Dealt.{dealt_one, dealt_pass, dealt_seats}
use Rattle.hint_queue.proofs.Opening.{deals}
use Rattle.hint_queue.proofs.Telling.{idle, shares}
use Rattle.hint_queue.proofs.hints.Hints.dealt.Goals as goal

pub overflow_cast-seats : goal.overflow_cast-seats
overflow_cast-seats c = let few = c.self.invariant.3 in omega (arith, few)

pub another-requires-clause-queue : goal.another-requires-clause-queue
another-requires-clause-queue c = (c.loop-number.invariant.table ∙ sym (ap (λ (q : QueueState). q.queue) c.self.view_is), c.loop-number.invariant.slots)

pub another-requires-clause-rule : goal.another-requires-clause-rule
another-requires-clause-rule c =
    let same = ap (λ (q : QueueState). q.passes) c.self.view_is in
    let low : c.loop-number.number < c.args.self.now.passes = omega (arith, same) in
    subst (λ (v : View). Forks IsKept c.loop-number.place.id v (deal_left v) (deal_right v)) (sym c.loop-number.invariant.deals) (deals _ _ low)

pub split_seat-requires : goal.split_seat-requires
split_seat-requires c =
    let words = c.self.invariant.1 in
    let same = ap (λ (q : QueueState). q.passes) c.self.view_is in
    let some : 1 ≤ c.args.self.now.passes - c.loop-number.number = omega (arith, same) in (
      c.loop-number.invariant.counts ∙ sym (ap (λ (q : QueueState). q.counts) c.self.view_is),
      omega (arith, words),
      subst (λ (t : Tally). Splits IsCounted c.loop-number.teller.id t (share_left t) (share_right t)) (sym (ap (λ (m : Teller). m.0) c.loop-number.invariant.shares)) (shares _ _ _ some),
    )

pub of-requires : goal.of-requires
of-requires c =
    let same = ap (λ (q : QueueState). q.passes) c.self.view_is in
    let few = c.self.invariant.3 in
    let low : c.loop-number.number + 1 ≤ c.args.self.now.passes = omega (arith, same) in
    let most : c.args.self.now.passes ≤ 32 = omega (arith, same, few) in
    dealt_seats c.args.self.now.passes c.args.self.now.pages c.loop-number.number c.another.result c.split_seat.result
    (c.another.ensures.rule.1 ∙ ap deal_right c.loop-number.invariant.deals)
    (c.split_seat.ensures.4 ∙ ap (λ (m : Teller). (share_right m.0, [])) c.loop-number.invariant.shares)
    c.another.ensures.queue.1.1 low most

pub loop-number-preserved : goal.loop-number-preserved
loop-number-preserved c =
    let same = ap (λ (q : QueueState). q.passes) c.self.view_is in
    let passes = c.args.self.now.passes in
    let less : (passes - c.loop-number.number) - 1 ≡ passes - (c.loop-number.number + 1) = omega arith in record {
      table = c.another.ensures.queue.0.0 ∙ c.loop-number.invariant.table;
      slots = c.another.ensures.queue.0.2 ∙ c.loop-number.invariant.slots;
      deals = c.another.ensures.rule.0 ∙ ap deal_left c.loop-number.invariant.deals;
      counts = c.split_seat.ensures.0 ∙ c.loop-number.invariant.counts;
      shares = c.split_seat.ensures.2 ∙ (ap (λ (m : Teller). (share_left m.0, m.1)) c.loop-number.invariant.shares ∙ ap (λ (n : ℕ). (idle passes n, [])) less);
      dealt = c.in-Ok-push.ensures.items
          ∙ dealt_one c.args.self.now c.loop-number.number c.loop-number.dealt.items c.of.result c.loop-number.invariant.dealt
          (c.of.ensures ∙ dealt_pass passes c.args.self.now.pages c.loop-number.number c.another.result c.split_seat.result
          (c.another.ensures.rule.1 ∙ ap deal_right c.loop-number.invariant.deals)
          (c.split_seat.ensures.4 ∙ ap (λ (m : Teller). (share_right m.0, [])) c.loop-number.invariant.shares)
          c.args.self.now
          (c.another.ensures.queue.1.0 ∙ ap (λ (q : QueueState). q.queue) c.self.view_is)
          (c.split_seat.ensures.3 ∙ c.loop-number.invariant.counts)
          (λ i. passes) (λ i. c.args.self.now.pages));
    }

pub returns : goal.returns
returns c =
    let same = ap (λ (q : QueueState). q.passes) c.self.view_is in
    let all : c.loop-number.number ≡ c.args.self.now.passes = omega (arith, same) in
    c.loop-number.invariant.dealt ∙ ap (new_passes c.args.self.now 0) all
