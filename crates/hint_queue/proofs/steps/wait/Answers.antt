use Rattle.std.proofs.Common.{◌≡◌, arith, ◌∙◌}
use Rattle.hint_queue.proofs.Telling.{looks}
use Rattle.hint_queue.proofs.steps.wait.Goals as goal

pub load-found-requires : goal.load-found-requires
load-found-requires g c =
    let low = c.requires.word in let words = c.requires.words in
    (c.loop.invariant.table ∙ c.requires.table, omega (arith, low, words), looks _ _ _ _)
