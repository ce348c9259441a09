use Rattle.std.proofs.Common.{ap, subst, sym, length}
use Rattle.std.specs.Result.{IfOk}
use Rattle.ssd_geo.specs.Faults.{count_after}
use Rattle.onfi_cmd.specs.DieCalls.{CanRun, Runs}
use Rattle.onfi_cmd.specs.DieState.{DieState}
use Rattle.die_model.specs.Listed.{Listed}
use Rattle.die_model.proofs.HandedOn.{runs_recounted}
use Rattle.die_model.proofs.listed_faults.ListedFaultsDie.run.Goals as goal

pub returns-clause-ok : goal.returns-clause-ok
returns-clause-ok g c =
    let old = g.D.Die.state c.args.self.now.inner in
    let new = g.D.Die.state c.run.new.self in
    let same = ap (λ (die : Listed _). g.D.Die.state die.inner) c.self.view_is in
    let ran = subst (λ (s : DieState). IfOk c.run.result (λ status. Runs s new c.args.cycles.now status c.run.new.out))
    same c.run.ensures.ok in
    runs_recounted old new c.args.cycles.now c.run.result c.run.new.out old.work_count old.load_count
    (count_after new.work_count c.fails_next.new.self.faults) (count_after new.load_count c.self.inside.loads.faults) ran

pub run-requires-clause-can : goal.run-requires-clause-can
run-requires-clause-can g c =
    let same = ap (λ (die : Listed _). g.D.Die.state die.inner) c.self.view_is in
    subst (λ (s : DieState). CanRun s c.args.cycles.now (length c.args.out.now)) (sym same) c.requires.can
