use Rattle.std.proofs.Common.{◌∙◌}
use Rattle.hint_queue.proofs.Later.{pushed_later}
use Rattle.hint_queue.proofs.tests.put_pages.Goals as goal

pub loop-page-preserved : goal.loop-page-preserved
loop-page-preserved g c =
    let later = pushed_later _ _ _ _ c.push-next.ensures.pass in record {
      queue = later.0 ∙ c.loop-page.invariant.queue;
      number = later.1 ∙ c.loop-page.invariant.number;
    }
