use Rattle.std.proofs.Common.{◌≤◌, sym, ap, ◌∙◌, arith}
use Rattle.hint_queue.specs.Orders.{QueueState}
use Rattle.hint_queue.proofs.Closing.{closes, some_pass}
use Rattle.hint_queue.proofs.Telling.{settles}
use Rattle.hint_queue.proofs.Whole.{waits_views}
use Rattle.hint_queue.proofs.hints.Hints.close.Goals as goal

pub gathered-place-requires-clause-some : goal.gathered-place-requires-clause-some
gathered-place-requires-clause-some g c =
    let one = c.self.invariant.2 in
    let same = ap (λ (q : QueueState). q.passes) c.self.view_is in
    some_pass c.args.self.passes c.args.passes.items (omega (arith, one, same)) c.requires.numbers

pub load-requires : goal.load-requires
load-requires g c =
    let words = c.self.invariant.1 in
    (c.gathered-place.ensures.whole.at_counts ∙ sym (ap (λ (q : QueueState). q.counts) c.self.view_is), omega (arith, words), settles _ _ _ _)

pub len_as-requires-clause-queue : goal.len_as-requires-clause-queue
len_as-requires-clause-queue g c =
    (c.gathered-place.ensures.whole.at_queue ∙ sym (ap (λ (q : QueueState). q.queue) c.self.view_is), c.gathered-place.ensures.whole.no_slot)

pub len_as-requires-clause-rule : goal.len_as-requires-clause-rule
len_as-requires-clause-rule g c = waits_views _ _ c.gathered-place.ensures.whole.view_is

pub returns : goal.returns
returns g c =
    let one = c.self.invariant.2 in
    let same = ap (λ (q : QueueState). q.passes) c.self.view_is in
    let some : 1 ≤ c.args.self.passes = omega (arith, one, same) in
    closes c.args.self c.args.passes.items _ _ _ c.gathered-place.ensures.passes c.requires.queue c.load.ensures.2.1 c.len_as.ensures.rule.1 some c.requires.numbers
