use Rattle.collector.proofs.EmptyingSteps.{copy_is_less, may_take_next, none_emptied, one_copied, round_ended, round_erased, round_stopped}
use Rattle.collector.proofs.emptying.empty.Goals as goal

pub copies-init : goal.copies-init
copies-init g c =
    none_emptied c.args.worker.now (g.S.Steps.view c.args.steps.now) (g.S.Steps.stands c.args.steps.now) c.args.tag c.args.sb

pub copy_next-requires-clause-may : goal.copy_next-requires-clause-may
copy_next-requires-clause-may g c κs within =
    may_take_next c.args.worker.now c.copies.worker (g.S.Steps.view c.args.steps.now) (g.S.Steps.view c.copies.steps)
    (g.S.Steps.stands c.args.steps.now)
    (g.S.Steps.stands c.copies.steps) c.args.tag c.args.sb c.copies.invariant c.requires.may

pub copies-smaller : goal.copies-smaller
copies-smaller g c =
    copy_is_less c.args.worker.now c.copies.worker (g.S.Steps.view c.args.steps.now) (g.S.Steps.view c.copies.steps)
    (g.S.Steps.stands c.args.steps.now)
    (g.S.Steps.stands c.copies.steps) c.args.tag c.args.sb c.copies.invariant
    c.copy_next.new.worker (g.S.Steps.view c.copy_next.new.steps) (g.S.Steps.stands c.copy_next.new.steps)
    c.copy_next.ensures.worker
    c.copy_next.ensures.caller c.copy_next.ensures.goes_on
    c.requires.may (rw c.in-Copied.is at c.in_ok-copy_next.ensures.made)

pub copies-preserved : goal.copies-preserved
copies-preserved g c =
    one_copied c.args.worker.now c.copies.worker (g.S.Steps.view c.args.steps.now) (g.S.Steps.view c.copies.steps)
    (g.S.Steps.stands c.args.steps.now)
    (g.S.Steps.stands c.copies.steps) c.args.tag c.args.sb c.copies.invariant
    c.copy_next.new.worker (g.S.Steps.view c.copy_next.new.steps) (g.S.Steps.stands c.copy_next.new.steps)
    c.copy_next.ensures.worker
    c.copy_next.ensures.caller c.copy_next.ensures.goes_on
    (rw c.in-Copied.is at c.in_ok-copy_next.ensures.made)

pub returns-in_err-copy_next-clause-made : goal.returns-in_err-copy_next-clause-made
returns-in_err-copy_next-clause-made g c =
    round_stopped c.args.worker.now c.copies.worker (g.S.Steps.view c.args.steps.now) (g.S.Steps.view c.copies.steps)
    (g.S.Steps.stands c.args.steps.now)
    (g.S.Steps.stands c.copies.steps) c.args.tag c.args.sb c.copies.invariant
    c.copy_next.new.worker (g.S.Steps.view c.copy_next.new.steps) (g.S.Steps.stands c.copy_next.new.steps)
    c.copy_next.ensures.worker
    c.copy_next.ensures.caller c.copy_next.ensures.goes_on
    c.in_err-copy_next.field-0.0 c.in_err-copy_next.ensures.made c.from_residual.result c.from_residual.ensures.1

pub returns-in-NoneLive-clause-made : goal.returns-in-NoneLive-clause-made
returns-in-NoneLive-clause-made g c =
    round_erased c.args.worker.now c.copies.worker (g.S.Steps.view c.args.steps.now) (g.S.Steps.view c.copies.steps)
    (g.S.Steps.stands c.args.steps.now)
    (g.S.Steps.stands c.copies.steps) c.args.tag c.args.sb c.copies.invariant
    c.copy_next.new.worker (g.S.Steps.view c.copy_next.new.steps) (g.S.Steps.stands c.copy_next.new.steps)
    c.copy_next.ensures.worker
    c.copy_next.ensures.caller c.copy_next.ensures.goes_on
    (g.S.Steps.view c.erase.new.steps) (g.S.Steps.stands c.erase.new.steps) c.erase.ensures.caller c.erase.ensures.goes_on
    c.erase.result (rw c.in-NoneLive.is at c.in_ok-copy_next.ensures.made) c.erase.ensures.made

pub returns-in-Ended-clause-made : goal.returns-in-Ended-clause-made
returns-in-Ended-clause-made g c =
    round_ended c.args.worker.now c.copies.worker (g.S.Steps.view c.args.steps.now) (g.S.Steps.view c.copies.steps)
    (g.S.Steps.stands c.args.steps.now)
    (g.S.Steps.stands c.copies.steps) c.args.tag c.args.sb c.copies.invariant
    c.copy_next.new.worker (g.S.Steps.view c.copy_next.new.steps) (g.S.Steps.stands c.copy_next.new.steps)
    c.copy_next.ensures.worker
    c.copy_next.ensures.caller c.copy_next.ensures.goes_on
    c.in-Ended.reply (rw c.in-Ended.is at c.in_ok-copy_next.ensures.made)
