use Rattle.std.proofs.Common.{ap}
use Rattle.ssd_formats.specs.ImageHead.{Head}
use Rattle.call_tests.proofs.SmallStart.{are_levels, few_levels, small_code_of, small_worker_is}
use Rattle.call_tests.proofs.small_drive.small_worker.Goals as goal

pub new-requires-clause-code : goal.new-requires-clause-code
new-requires-clause-code c =
    small_code_of c.args.head.now.shape c.in_ok-code.code c.in_ok-code.ensures (ap (λ (h : Head). h.sizes) c.requires)

pub new-requires-clause-few_levels : goal.new-requires-clause-few_levels
new-requires-clause-few_levels c = few_levels c.in_ok-levels.levels c.in_ok-levels.ensures

pub new-requires-clause-levels : goal.new-requires-clause-levels
new-requires-clause-levels c = are_levels c.in_ok-levels.levels c.in_ok-levels.ensures

pub returns : goal.returns
returns c =
    small_worker_is c.in_ok-worker.worker c.args.head.now.shape c.in_ok-code.code c.in_ok-levels.levels
    c.in_ok-worker.ensures (ap (λ (h : Head). h.sizes) c.requires) c.in_ok-code.ensures c.in_ok-levels.ensures
