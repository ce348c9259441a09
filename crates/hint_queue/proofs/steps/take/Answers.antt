use Rattle.std.proofs.Common.{sym, subst}
use Rattle.crossbeam_queue.specs.Fifo.{Learns, Pops}
use Rattle.hint_queue.specs.Kept.{IsKept}
use Rattle.hint_queue.specs.Steps.{Taken, Waiting}
use Rattle.hint_queue.specs.declared.view.View.{View}
use Rattle.hint_queue.proofs.Pushing.{waits}
use Rattle.hint_queue.proofs.Taking.{takes}
use Rattle.hint_queue.proofs.steps.take.Goals as goal

pub pop_as-requires-clause-rule : goal.pop_as-requires-clause-rule
pop_as-requires-clause-rule g c =
    subst (λ (v : View). Pops IsKept c.args.place.now.id v (Taken v) × Learns IsKept c.args.place.now.id v (Waiting v))
    (sym c.requires.part)
    (takes _ _, waits _ _)
