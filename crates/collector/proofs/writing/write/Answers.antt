use Rattle.collector.proofs.WriteSteps.{may_write_next, none_written, one_turn_more, turn_is_less, write_ended, write_stopped}
use Rattle.collector.proofs.writing.write.Goals as goal

pub turns-init : goal.turns-init
turns-init g c =
    record {
      written = none_written c.args.worker.now (g.S.Steps.view c.args.steps.now) (g.S.Steps.stands c.args.steps.now)
          c.args.tag c.args.row c.args.bytes.now;
      copies_are = c.copies_alone_are_copies.ensures;
    }

pub write_or_round-requires-clause-may : goal.write_or_round-requires-clause-may
write_or_round-requires-clause-may g c κs within =
    may_write_next c.args.worker.now c.turns.worker (g.S.Steps.view c.args.steps.now) (g.S.Steps.view c.turns.steps)
    (g.S.Steps.stands c.args.steps.now)
    (g.S.Steps.stands c.turns.steps) c.args.tag c.args.row c.args.bytes.now c.turns.invariant.written c.requires.may

pub turns-smaller : goal.turns-smaller
turns-smaller g c =
    turn_is_less c.args.worker.now c.turns.worker (g.S.Steps.view c.args.steps.now) (g.S.Steps.view c.turns.steps)
    (g.S.Steps.stands c.args.steps.now)
    (g.S.Steps.stands c.turns.steps) c.args.tag c.args.row c.args.bytes.now c.turns.invariant.written
    c.write_or_round.new.worker (g.S.Steps.view c.write_or_round.new.steps) (g.S.Steps.stands c.write_or_round.new.steps) c.write_or_round.ensures.worker
    c.write_or_round.ensures.caller c.write_or_round.ensures.goes_on
    c.turns.invariant.copies_are c.requires.alone c.requires.none_open c.requires.may (rw c.in-None.is at
    c.in_ok-reply.ensures.made)

pub turns-preserved : goal.turns-preserved
turns-preserved g c =
    record {
      written = one_turn_more c.args.worker.now c.turns.worker (g.S.Steps.view c.args.steps.now) (g.S.Steps.view
          c.turns.steps) (g.S.Steps.stands c.args.steps.now)
          (g.S.Steps.stands c.turns.steps) c.args.tag c.args.row c.args.bytes.now c.turns.invariant.written
          c.write_or_round.new.worker (g.S.Steps.view c.write_or_round.new.steps) (g.S.Steps.stands c.write_or_round.new.steps) c.write_or_round.ensures.worker
          c.write_or_round.ensures.caller c.write_or_round.ensures.goes_on
          (rw c.in-None.is at c.in_ok-reply.ensures.made);
      copies_are = c.turns.invariant.copies_are;
    }

pub returns-in_err-reply-clause-made : goal.returns-in_err-reply-clause-made
returns-in_err-reply-clause-made g c =
    write_stopped c.args.worker.now c.turns.worker (g.S.Steps.view c.args.steps.now) (g.S.Steps.view c.turns.steps)
    (g.S.Steps.stands c.args.steps.now)
    (g.S.Steps.stands c.turns.steps) c.args.tag c.args.row c.args.bytes.now c.turns.invariant.written
    c.write_or_round.new.worker (g.S.Steps.view c.write_or_round.new.steps) (g.S.Steps.stands c.write_or_round.new.steps) c.write_or_round.ensures.worker
    c.write_or_round.ensures.caller c.write_or_round.ensures.goes_on
    c.in_err-reply.field-0.0 c.in_err-reply.ensures.made c.from_residual.result c.from_residual.ensures.1

pub returns-in-Some-clause-made : goal.returns-in-Some-clause-made
returns-in-Some-clause-made g c =
    write_ended c.args.worker.now c.turns.worker (g.S.Steps.view c.args.steps.now) (g.S.Steps.view c.turns.steps)
    (g.S.Steps.stands c.args.steps.now)
    (g.S.Steps.stands c.turns.steps) c.args.tag c.args.row c.args.bytes.now c.turns.invariant.written
    c.write_or_round.new.worker (g.S.Steps.view c.write_or_round.new.steps) (g.S.Steps.stands c.write_or_round.new.steps) c.write_or_round.ensures.worker
    c.write_or_round.ensures.caller c.write_or_round.ensures.goes_on
    c.in-Some.reply (rw c.in-Some.is at c.in_ok-reply.ensures.made)
