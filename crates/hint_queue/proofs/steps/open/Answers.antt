use Rattle.std.proofs.Common.{sym, subst}
use Rattle.crossbeam_queue.specs.Fifo.{Forks}
use Rattle.hint_queue.specs.Kept.{IsKept}
use Rattle.hint_queue.specs.Steps.{opened, spent}
use Rattle.hint_queue.specs.declared.view.View.{View}
use Rattle.hint_queue.proofs.Opening.{opens}
use Rattle.hint_queue.proofs.steps.open.Goals as goal

pub another-requires-clause-rule : goal.another-requires-clause-rule
another-requires-clause-rule g c =
    subst (λ (v : View). Forks IsKept c.args.place.now.id v (opened g.B.Bounds.passes g.B.Bounds.pages) spent) (sym c.requires.new) (opens _ _ _)
