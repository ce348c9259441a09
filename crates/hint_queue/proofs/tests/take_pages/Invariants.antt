use Rattle.std.proofs.Common.{◌≡◌}
use Rattle.hint_queue.proofs.tests.take_pages.Given as goal

abbrev pub invariant-loop : goal.invariant-loop
invariant-loop g l = record { queue : l.pass.queue ≡ l.hints; number : l.pass.number ≡ l.fn.pass.number }
