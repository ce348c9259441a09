use Rattle.collector.proofs.RoundSteps.{collect_ended, collect_stopped, may_go_round, no_rounds, one_round_more, round_is_less}
use Rattle.collector.proofs.collecting.collect.Goals as goal

pub rounds-init : goal.rounds-init
rounds-init g c =
    no_rounds c.args.worker.now (g.S.Steps.view c.args.steps.now) (g.S.Steps.stands c.args.steps.now) c.args.tag

pub turn-requires-clause-may : goal.turn-requires-clause-may
turn-requires-clause-may g c κs within =
    may_go_round c.args.worker.now c.rounds.worker (g.S.Steps.view c.args.steps.now) (g.S.Steps.view c.rounds.steps)
    (g.S.Steps.stands c.args.steps.now)
    (g.S.Steps.stands c.rounds.steps) c.args.tag c.rounds.invariant c.requires.may

pub rounds-smaller : goal.rounds-smaller
rounds-smaller g c =
    round_is_less c.args.worker.now c.rounds.worker (g.S.Steps.view c.args.steps.now) (g.S.Steps.view c.rounds.steps)
    (g.S.Steps.stands c.args.steps.now)
    (g.S.Steps.stands c.rounds.steps) c.args.tag c.rounds.invariant
    c.turn.new.worker (g.S.Steps.view c.turn.new.steps) (g.S.Steps.stands c.turn.new.steps) c.turn.ensures.worker
    c.turn.ensures.caller c.turn.ensures.goes_on
    c.requires.may (rw c.in-None.is at c.in_ok-reply.ensures.made)

pub rounds-preserved : goal.rounds-preserved
rounds-preserved g c =
    one_round_more c.args.worker.now c.rounds.worker (g.S.Steps.view c.args.steps.now) (g.S.Steps.view c.rounds.steps)
    (g.S.Steps.stands c.args.steps.now)
    (g.S.Steps.stands c.rounds.steps) c.args.tag c.rounds.invariant
    c.turn.new.worker (g.S.Steps.view c.turn.new.steps) (g.S.Steps.stands c.turn.new.steps) c.turn.ensures.worker
    c.turn.ensures.caller c.turn.ensures.goes_on
    (rw c.in-None.is at c.in_ok-reply.ensures.made)

pub returns-in_err-reply-clause-made : goal.returns-in_err-reply-clause-made
returns-in_err-reply-clause-made g c =
    collect_stopped c.args.worker.now c.rounds.worker (g.S.Steps.view c.args.steps.now) (g.S.Steps.view c.rounds.steps)
    (g.S.Steps.stands c.args.steps.now)
    (g.S.Steps.stands c.rounds.steps) c.args.tag c.rounds.invariant
    c.turn.new.worker (g.S.Steps.view c.turn.new.steps) (g.S.Steps.stands c.turn.new.steps) c.turn.ensures.worker
    c.turn.ensures.caller c.turn.ensures.goes_on
    c.in_err-reply.field-0.0 c.in_err-reply.ensures.made c.from_residual.result c.from_residual.ensures.1

pub returns-in-Some-clause-made : goal.returns-in-Some-clause-made
returns-in-Some-clause-made g c =
    collect_ended c.args.worker.now c.rounds.worker (g.S.Steps.view c.args.steps.now) (g.S.Steps.view c.rounds.steps)
    (g.S.Steps.stands c.args.steps.now)
    (g.S.Steps.stands c.rounds.steps) c.args.tag c.rounds.invariant
    c.turn.new.worker (g.S.Steps.view c.turn.new.steps) (g.S.Steps.stands c.turn.new.steps) c.turn.ensures.worker
    c.turn.ensures.caller c.turn.ensures.goes_on
    c.in-Some.reply (rw c.in-Some.is at c.in_ok-reply.ensures.made)
