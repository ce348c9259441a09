use Rattle.std.proofs.Common.{◌∙◌}
use Rattle.hint_queue.proofs.Later.{popped_later}
use Rattle.hint_queue.proofs.tests.take_pages.Goals as goal

pub loop-preserved : goal.loop-preserved
loop-preserved g c =
    let later = popped_later _ _ _ c.pop-next.ensures.pass in record {
      queue = later.0 ∙ c.loop.invariant.queue;
      number = later.1 ∙ c.loop.invariant.number;
    }
