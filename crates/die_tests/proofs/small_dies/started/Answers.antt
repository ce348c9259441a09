use Rattle.std.proofs.Common.{List, map, sym, subst}
use Rattle.chan_dies.specs.DiesState.{AreMounted, DiesState}
use Rattle.die_tests.proofs.ThreeDies.{three_mounted, three_tried}
use Rattle.die_tests.specs.SmallDies.{IsTriedStart}
use Rattle.die_tests.proofs.small_dies.started.Goals as goal

pub new-requires-clause-mounted : goal.new-requires-clause-mounted
new-requires-clause-mounted g c =
    subst (λ items. AreMounted c.in_ok-shape.shape (map g.D.Die.state items)) (sym c.in_ok-dies.ensures)
    (three_mounted c.in_ok-shape.shape _ _ _ c.in_ok-shape.ensures c.in_ok-zero.ensures c.in_ok-one.ensures c.in_ok-two.ensures)

pub returns : goal.returns
returns g c =
    subst (λ (held : DiesState). IsTriedStart held) (sym c.in-Ok.ensures)
    (subst (λ items. IsTriedStart (record { shape = c.in_ok-shape.shape; dies = map g.D.Die.state items; sum = c.in_ok-sum.sum.items }))
    (sym c.in_ok-dies.ensures)
    (three_tried c.in_ok-shape.shape c.in_ok-sum.sum.items _ _ _ c.in_ok-shape.ensures c.in_ok-zero.ensures c.in_ok-one.ensures
    c.in_ok-two.ensures))
