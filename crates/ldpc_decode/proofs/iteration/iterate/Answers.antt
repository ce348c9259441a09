use Rattle.std.proofs.Common.{◌+◌, ◌-◌, ◌<◌, sym, ◌∙◌, rules, arith}
use Rattle.ssd_geo.specs.RowRule.{IsWithin}
use Rattle.ldpc_decode.proofs.LayerSteps.{layer_step, joined_all, All-written, edges_fit, edges_more}
use Rattle.ldpc_decode.proofs.iteration.iterate.Goals as goal

pub overflow_add-to : goal.overflow_add-to
overflow_add-to c = omega (arith, edges_fit c.args.code.now c.loop-i.i (omega arith), c.loop-i.invariant.0)

pub slice_bounds-work_layer-end : goal.slice_bounds-work_layer-end
slice_bounds-work_layer-end c =
    let fits = edges_fit c.args.code.now c.loop-i.i (omega arith) in
    let from = c.loop-i.invariant.0 in
    search rules

pub loop-i-preserved : goal.loop-i-preserved
loop-i-preserved c =
    let m = c.args.code.now in
    let i = c.loop-i.i in
    let from = c.loop-i.from in
    let own = c.edges_in.result in
    let in_rows : i < m.mb = omega arith in
    let to_is = edges_more m i in_rows in
    let fits = edges_fit m i in_rows in (
      omega (arith, c.loop-i.invariant.0),
      layer_step m i from own c.loop-i.p c.loop-i.r c.work_layer.new.p c.work_layer.new.r in_rows c.edges_in.ensures.value (omega (arith, c.loop-i.invariant.0)) (omega arith) c.work_layer.ensures.worked ∙ c.loop-i.invariant.1,
      c.work_layer.ensures.p_within,
      All-written (IsWithin 95) from (from + own - from) c.loop-i.r c.work_layer.new.r c.loop-i.invariant.3 c.work_layer.ensures.r_within,
      c.work_layer.ensures.same ∙ c.loop-i.invariant.4,
    )

pub returns-clause-worked : goal.returns-clause-worked
returns-clause-worked c =
    let m = c.args.code.now in
    sym (joined_all m c.loop-i.i c.loop-i.from c.loop-i.p c.loop-i.r (omega arith)) ∙ c.loop-i.invariant.1
