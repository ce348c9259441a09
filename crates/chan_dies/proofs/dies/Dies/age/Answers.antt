use Rattle.std.proofs.Common.{◌≡◌, ◌<◌, ap, subst, sym, arith, length, map, set}
use Rattle.std.proofs.lemmas.List.{length-map}
use Rattle.std.proofs.lemmas.Result.{IfOk-weaker, IfErr-weaker}
use Rattle.ssd_geo.specs.declared.shape.Shape.{Shape}
use Rattle.chan_dies.specs.DiesState.{DiesState}
use Rattle.chan_dies.specs.OneDie.{AgesBlock, FaultsDie}
use Rattle.chan_dies.proofs.HeldDies.{aged_mounted, one_changed, one_is_mounted, one_stays_mounted, result_mounted, seen_change}
use Rattle.chan_dies.proofs.Mounted.{is_block}
use Rattle.chan_dies.proofs.dies.Dies.age.Goals as goal

pub age_block-requires-clause-block : goal.age_block-requires-clause-block
age_block-requires-clause-block g c =
    let shape_is : c.self.inside.shape ≡ c.args.self.now.shape = ap {B = Shape} (λ (dies : DiesState). dies.shape) c.self.view_is in
    let within : c.args.die < c.self.inside.shape.dies = subst (λ (shape : Shape). c.args.die < shape.dies) (sym shape_is) c.requires.die in
    is_block c.self.inside.shape c.args.die c.args.sb (g.D.Die.state c.index_mut-aged.result.now)
    (one_is_mounted g.D.Die.state c.self.inside.shape c.self.inside.dies.items c.args.die c.index_mut-aged.result.now c.self.invariant.mounted
    within c.index_mut-aged.ensures.value)
    (subst (λ (shape : Shape). c.args.sb < shape.superblocks) (sym shape_is) c.requires.superblock)

pub age_block-requires-clause-tells : goal.age_block-requires-clause-tells
age_block-requires-clause-tells g c =
    let shape_is : c.self.inside.shape ≡ c.args.self.now.shape = ap {B = Shape} (λ (dies : DiesState). dies.shape) c.self.view_is in
    let within : c.args.die < c.self.inside.shape.dies = subst (λ (shape : Shape). c.args.die < shape.dies) (sym shape_is) c.requires.die in
    (one_is_mounted g.D.Die.state c.self.inside.shape c.self.inside.dies.items c.args.die c.index_mut-aged.result.now c.self.invariant.mounted
    within c.index_mut-aged.ensures.value).tells

pub invariant_of-self : goal.invariant_of-self
invariant_of-self g c =
    let state = g.D.Die.state in
    let shape = c.self.inside.shape in
    let shape_is : c.self.inside.shape ≡ c.args.self.now.shape = ap {B = Shape} (λ (dies : DiesState). dies.shape) c.self.view_is in
    let within : c.args.die < c.self.inside.shape.dies = subst (λ (shape : Shape). c.args.die < shape.dies) (sym shape_is) c.requires.die in
    let one = one_is_mounted state shape c.self.inside.dies.items c.args.die c.index_mut-aged.result.now c.self.invariant.mounted within
    c.index_mut-aged.ensures.value in
    record {
      mounted = one_stays_mounted state shape c.self.inside.dies.items c.args.die c.index_mut-aged.result.now c.age_block.new.die
          c.self.invariant.mounted within c.index_mut-aged.ensures.value
          (result_mounted c.age_block.result shape c.args.die (AgesBlock c.args.sb c.args.amount) (state c.index_mut-aged.result.now) (state c.age_block.new.die)
          (aged_mounted shape c.args.die c.args.sb c.args.amount) one c.age_block.ensures.ok c.age_block.ensures.err);
      sum_bytes = c.self.invariant.sum_bytes;
      has_room = c.self.invariant.has_room;
    }

pub returns-clause-ok : goal.returns-clause-ok
returns-clause-ok g c =
    let state = g.D.Die.state in
    let shape_is : c.self.inside.shape ≡ c.args.self.now.shape = ap {B = Shape} (λ (dies : DiesState). dies.shape) c.self.view_is in
    let within : c.args.die < length c.self.inside.dies.items =
    omega (
      arith,
      length-map c.self.inside.dies.items state,
      c.self.invariant.mounted.count_is,
      subst (λ (shape : Shape). c.args.die < shape.dies) (sym shape_is) c.requires.die,
    ) in
    IfOk-weaker c.age_block.result _ _
    (λ x ages. seen_change c.self.inside.shape c.self.inside.sum (map state c.self.inside.dies.items)
    (map state (set c.self.inside.dies.items c.args.die c.age_block.new.die)) c.args.self.now c.args.die (AgesBlock c.args.sb c.args.amount) c.self.view_is
    (one_changed state c.self.inside.dies.items c.args.die c.index_mut-aged.result.now c.age_block.new.die (AgesBlock c.args.sb c.args.amount) within
    c.index_mut-aged.ensures.value ages))
    c.age_block.ensures.ok

pub returns-clause-err : goal.returns-clause-err
returns-clause-err g c =
    let state = g.D.Die.state in
    let shape_is : c.self.inside.shape ≡ c.args.self.now.shape = ap {B = Shape} (λ (dies : DiesState). dies.shape) c.self.view_is in
    let within : c.args.die < length c.self.inside.dies.items =
    omega (
      arith,
      length-map c.self.inside.dies.items state,
      c.self.invariant.mounted.count_is,
      subst (λ (shape : Shape). c.args.die < shape.dies) (sym shape_is) c.requires.die,
    ) in
    IfErr-weaker c.age_block.result _ _
    (λ e faults. seen_change c.self.inside.shape c.self.inside.sum (map state c.self.inside.dies.items)
    (map state (set c.self.inside.dies.items c.args.die c.age_block.new.die)) c.args.self.now c.args.die FaultsDie c.self.view_is
    (one_changed state c.self.inside.dies.items c.args.die c.index_mut-aged.result.now c.age_block.new.die FaultsDie within
    c.index_mut-aged.ensures.value faults))
    c.age_block.ensures.err
