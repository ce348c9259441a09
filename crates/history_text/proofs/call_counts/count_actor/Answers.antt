use Rattle.std.proofs.Common.{◌≡◌, [], drop, arith}
use Rattle.std.proofs.lemmas.List.{drop_all}
use Rattle.history_text.proofs.Counting.{placed_none}
use Rattle.history_text.proofs.call_counts.count_actor.Goals as goal

pub returns-clause-counted : goal.returns-clause-counted
returns-clause-counted c k within =
    let none : drop c.loop-call.call c.args.replies.now ≡ [] = drop_all _ _ c.loop-call-test.false in
    omega (arith, c.loop-call.invariant.counted k within, placed_none k (drop c.loop-call.call c.args.kinds.now) (drop c.loop-call.call c.args.replies.now) none)
