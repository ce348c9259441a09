use Rattle.std.proofs.Common.{length, ◌∙◌}
use Rattle.chan_dies.proofs.OperationLemmas.{can_run, ran}
use Rattle.chan_dies.proofs.one_die.run_op.Goals as goal

pub run-requires-clause-can : goal.run-requires-clause-can
run-requires-clause-can g c =
    can_run (g.D.Die.state c.args.die.now) c.deref.result.now c.args.op c.args.bytes.now (length c.args.out.now)
    (c.deref.ensures.value ∙ c.in-Ok.ensures.ok) c.requires.feature c.requires.data_bytes c.requires.can

pub returns-clause-ok : goal.returns-clause-ok
returns-clause-ok g c =
    ran (g.D.Die.state c.args.die.now) (g.D.Die.state c.run.new.self) c.deref.result.now c.args.op c.args.bytes.now c.run.result c.run.new.out
    (c.deref.ensures.value ∙ c.in-Ok.ensures.ok) c.requires.feature c.requires.data_bytes c.run.ensures.ok
