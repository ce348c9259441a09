use Rattle.std.proofs.Common.{sym, subst}
use Rattle.crossbeam_queue.specs.Fifo.{Learns, Pushes}
use Rattle.crossbeam_queue.specs.Passes.{ruled_capacity}
use Rattle.hint_queue.specs.Kept.{IsKept}
use Rattle.hint_queue.specs.Steps.{Pushed, Waiting}
use Rattle.hint_queue.specs.declared.view.View.{View}
use Rattle.hint_queue.proofs.Pushing.{pushes, waits}
use Rattle.hint_queue.proofs.steps.put.Goals as goal

pub push_as-requires-clause-rule : goal.push_as-requires-clause-rule
push_as-requires-clause-rule g c =
    subst (λ (v : View). Pushes IsKept (ruled_capacity c.args.queue.now) c.args.place.now.id v c.args.noted (Pushed v c.args.noted) × Learns IsKept c.args.place.now.id v (Waiting v))
    (sym c.requires.part)
    (pushes _ _ _ _ c.requires.number c.requires.page, waits _ _)
