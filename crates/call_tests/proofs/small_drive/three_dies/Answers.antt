use Rattle.call_tests.proofs.SmallStart.{three_tell}
use Rattle.call_tests.proofs.small_drive.three_dies.Goals as goal

pub returns-clause-tell : goal.returns-clause-tell
returns-clause-tell c =
    three_tell c.new-zero.result c.new-one.result c.new-two.result c.new-zero.ensures c.new-one.ensures c.new-two.ensures
    c.in_ok-dies.dies.items c.in_ok-dies.ensures.items
