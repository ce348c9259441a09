use Rattle.std.proofs.Common.{ap, ◌∙◌, arith}
use Rattle.turn_table.proofs.Coming.{comes}
use Rattle.turn_table.proofs.steps.wait.Goals as goal

pub load-requires : goal.load-requires
load-requires g c =
    let me = c.loop.invariant.0 ∙ c.requires.waits.2.1 in (
      c.loop.invariant.1 ∙ c.requires.table,
      omega arith,
      comes _ _ _ _ _ _ _ c.requires.waits.0 _ (ap (λ m. m.0.stage) me) (ap (λ m. m.0.joined) me) c.requires.begun,
    )
