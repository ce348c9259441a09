use Rattle.std.proofs.Common.{◌≡◌}
use Rattle.hint_queue.proofs.tests.put_pages.Given as goal

abbrev pub invariant-loop-page : goal.invariant-loop-page
invariant-loop-page g l = record { queue : l.pass.queue ≡ l.hints; number : l.pass.number ≡ l.fn.pass.number }
