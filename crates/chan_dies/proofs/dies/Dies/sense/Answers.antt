use Rattle.std.proofs.Common.{◌≡◌, ◌<◌, ap, subst, sym, arith, length, map, set}
use Rattle.std.proofs.lemmas.List.{length-map}
use Rattle.std.proofs.lemmas.Result.{IfOk-weaker, IfErr-weaker}
use Rattle.ssd_geo.specs.declared.shape.Shape.{Shape}
use Rattle.chan_dies.specs.DiesState.{DiesState}
use Rattle.chan_dies.specs.OneDie.{FaultsDie, KeepsDie}
use Rattle.chan_dies.proofs.HeldDies.{kept_mounted, one_changed, one_is_mounted, one_stays_mounted, result_mounted, seen_change}
use Rattle.chan_dies.proofs.dies.Dies.sense.Goals as goal

pub sense_page-requires-clause-mounted : goal.sense_page-requires-clause-mounted
sense_page-requires-clause-mounted g c =
    let shape_is : c.self.inside.shape ≡ c.args.self.now.shape = ap {B = Shape} (λ (dies : DiesState). dies.shape) c.self.view_is in
    let within : c.args.place.die < c.self.inside.shape.dies = subst (λ (shape : Shape). c.args.place.die < shape.dies) (sym shape_is) c.requires.place.die in
    one_is_mounted g.D.Die.state c.self.inside.shape c.self.inside.dies.items c.args.place.die c.index_mut-die.result.now c.self.invariant.mounted
    within c.index_mut-die.ensures.value

pub invariant_of-self : goal.invariant_of-self
invariant_of-self g c =
    let state = g.D.Die.state in
    let shape = c.self.inside.shape in
    let shape_is : c.self.inside.shape ≡ c.args.self.now.shape = ap {B = Shape} (λ (dies : DiesState). dies.shape) c.self.view_is in
    let within : c.args.place.die < c.self.inside.shape.dies = subst (λ (shape : Shape). c.args.place.die < shape.dies) (sym shape_is) c.requires.place.die in
    let one = one_is_mounted state shape c.self.inside.dies.items c.args.place.die c.index_mut-die.result.now c.self.invariant.mounted within
    c.index_mut-die.ensures.value in
    record {
      mounted = one_stays_mounted state shape c.self.inside.dies.items c.args.place.die c.index_mut-die.result.now c.sense_page.new.die
          c.self.invariant.mounted within c.index_mut-die.ensures.value
          (result_mounted c.sense_page.result shape c.args.place.die KeepsDie (state c.index_mut-die.result.now) (state c.sense_page.new.die)
          (kept_mounted shape c.args.place.die) one c.sense_page.ensures.ok c.sense_page.ensures.err);
      sum_bytes = c.self.invariant.sum_bytes;
      has_room = omega (arith, c.self.invariant.has_room, c.sense_page.ensures.room);
    }

pub returns-clause-ok : goal.returns-clause-ok
returns-clause-ok g c =
    let state = g.D.Die.state in
    let shape_is : c.self.inside.shape ≡ c.args.self.now.shape = ap {B = Shape} (λ (dies : DiesState). dies.shape) c.self.view_is in
    let within : c.args.place.die < length c.self.inside.dies.items =
    omega (
      arith,
      length-map c.self.inside.dies.items state,
      c.self.invariant.mounted.count_is,
      subst (λ (shape : Shape). c.args.place.die < shape.dies) (sym shape_is) c.requires.place.die,
    ) in
    IfOk-weaker c.sense_page.result _ _
    (λ x keeps. seen_change c.self.inside.shape c.self.inside.sum (map state c.self.inside.dies.items)
    (map state (set c.self.inside.dies.items c.args.place.die c.sense_page.new.die)) c.args.self.now c.args.place.die KeepsDie c.self.view_is
    (one_changed state c.self.inside.dies.items c.args.place.die c.index_mut-die.result.now c.sense_page.new.die KeepsDie within
    c.index_mut-die.ensures.value keeps))
    c.sense_page.ensures.ok

pub returns-clause-err : goal.returns-clause-err
returns-clause-err g c =
    let state = g.D.Die.state in
    let shape_is : c.self.inside.shape ≡ c.args.self.now.shape = ap {B = Shape} (λ (dies : DiesState). dies.shape) c.self.view_is in
    let within : c.args.place.die < length c.self.inside.dies.items =
    omega (
      arith,
      length-map c.self.inside.dies.items state,
      c.self.invariant.mounted.count_is,
      subst (λ (shape : Shape). c.args.place.die < shape.dies) (sym shape_is) c.requires.place.die,
    ) in
    IfErr-weaker c.sense_page.result _ _
    (λ e faults. seen_change c.self.inside.shape c.self.inside.sum (map state c.self.inside.dies.items)
    (map state (set c.self.inside.dies.items c.args.place.die c.sense_page.new.die)) c.args.self.now c.args.place.die FaultsDie c.self.view_is
    (one_changed state c.self.inside.dies.items c.args.place.die c.index_mut-die.result.now c.sense_page.new.die FaultsDie within
    c.index_mut-die.ensures.value faults))
    c.sense_page.ensures.err
