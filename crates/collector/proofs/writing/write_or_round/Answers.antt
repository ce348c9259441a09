use Rattle.std.proofs.Common.{refl, sym, subst, Option}
use Rattle.std.specs.Prelude.{Result, Ok, Err}
use Rattle.chan_calls.specs.Workers.{WorkerState}
use Rattle.chan_state.specs.declared.answers.WriteAnswer.TheVariants as write
use Rattle.ssd_geo.specs.declared.stop.StepStop.{StepStop}
use Rattle.collector.specs.Rounds.{MakesRound}
use Rattle.collector.specs.Writes.{TurnsWrite}
use Rattle.collector.specs.declared.replies.WriteReply.{WriteReply}
use Rattle.collector.proofs.FirstCallers.{is_that_stop}
use Rattle.collector.proofs.WriteSteps.{may_write_still, room_refused, room_turns, same_worker, with_data, write_ends, write_fails, writes_both}
use Rattle.collector.proofs.writing.write_or_round.Goals as goal

pub round-requires-clause-may : goal.round-requires-clause-may
round-requires-clause-may g c κs within =
    (may_write_still c.args.worker.now c.write_once.new.self (g.S.Steps.view c.args.steps.now) (g.S.Steps.view
    c.write_once.new.steps) (g.S.Steps.stands c.args.steps.now) (g.S.Steps.stands c.write_once.new.steps)
    c.args.tag c.args.bytes.now (same_worker c.args.worker.now c.write_once.new.self c.write_once.ensures.worker)
    c.write_once.ensures.caller c.write_once.ensures.goes_on c.requires.may).may

pub returns-in_err-ended-in-NeedRoom-clause-goes_on : goal.returns-in_err-ended-in-NeedRoom-clause-goes_on
returns-in_err-ended-in-NeedRoom-clause-goes_on g c =
    writes_both c.args.worker.now c.write_once.new.self (g.S.Steps.view c.args.steps.now) (g.S.Steps.view
    c.write_once.new.steps) (g.S.Steps.view c.round.new.steps)
    (g.S.Steps.stands c.args.steps.now) (g.S.Steps.stands c.write_once.new.steps) (g.S.Steps.stands c.round.new.steps)
    c.args.tag c.args.bytes.now
    (same_worker c.args.worker.now c.write_once.new.self c.write_once.ensures.worker) c.write_once.ensures.goes_on
    (with_data c.write_once.new.self (g.S.Steps.view c.write_once.new.steps) (g.S.Steps.view c.round.new.steps)
    (g.S.Steps.stands c.write_once.new.steps) (g.S.Steps.stands c.round.new.steps) c.args.tag c.args.bytes.now
    c.round.ensures.goes_on)

pub returns-in_err-ended-in-NeedRoom-clause-made : goal.returns-in_err-ended-in-NeedRoom-clause-made
returns-in_err-ended-in-NeedRoom-clause-made g c =
    subst (λ (one : Result (Option WriteReply) StepStop). TurnsWrite c.args.worker.now (g.S.Steps.view c.args.steps.now)
    (g.S.Steps.stands c.args.steps.now) c.args.tag c.args.row c.args.bytes.now (g.S.Steps.view c.round.new.steps).seen one)
    (sym (is_that_stop c.from_residual-in_err-ended-in-NeedRoom.result c.in_err-ended-in-NeedRoom.field-0.0
    c.from_residual-in_err-ended-in-NeedRoom.ensures.1))
    (room_refused c.args.worker.now (g.S.Steps.view c.args.steps.now) (g.S.Steps.view c.write_once.new.steps)
    (g.S.Steps.stands c.args.steps.now) (g.S.Steps.stands c.write_once.new.steps)
    c.args.tag c.args.row c.args.bytes.now c.in_err-ended-in-NeedRoom.field-0.0
    c.write_once.ensures.caller c.write_once.ensures.goes_on (rw c.in-NeedRoom.is at c.in_ok-write_once.ensures.made)
    (g.S.Steps.view c.round.new.steps).seen
    (subst (λ (w : WorkerState). MakesRound w (g.S.Steps.view c.write_once.new.steps) (g.S.Steps.stands
    c.write_once.new.steps) c.args.tag (g.S.Steps.view c.round.new.steps).seen (Err c.in_err-ended-in-NeedRoom.field-0.0))
    c.write_once.ensures.worker c.in_err-ended-in-NeedRoom.ensures.made))

pub returns-in_ok-ended-in-NeedRoom-clause-goes_on : goal.returns-in_ok-ended-in-NeedRoom-clause-goes_on
returns-in_ok-ended-in-NeedRoom-clause-goes_on g c =
    writes_both c.args.worker.now c.write_once.new.self (g.S.Steps.view c.args.steps.now) (g.S.Steps.view
    c.write_once.new.steps) (g.S.Steps.view c.round.new.steps)
    (g.S.Steps.stands c.args.steps.now) (g.S.Steps.stands c.write_once.new.steps) (g.S.Steps.stands c.round.new.steps)
    c.args.tag c.args.bytes.now
    (same_worker c.args.worker.now c.write_once.new.self c.write_once.ensures.worker) c.write_once.ensures.goes_on
    (with_data c.write_once.new.self (g.S.Steps.view c.write_once.new.steps) (g.S.Steps.view c.round.new.steps)
    (g.S.Steps.stands c.write_once.new.steps) (g.S.Steps.stands c.round.new.steps) c.args.tag c.args.bytes.now
    c.round.ensures.goes_on)

pub returns-in_ok-ended-in-NeedRoom-clause-made : goal.returns-in_ok-ended-in-NeedRoom-clause-made
returns-in_ok-ended-in-NeedRoom-clause-made g c =
    subst (λ (reply : Option WriteReply). TurnsWrite c.args.worker.now (g.S.Steps.view c.args.steps.now) (g.S.Steps.stands
    c.args.steps.now) c.args.tag c.args.row c.args.bytes.now (g.S.Steps.view c.round.new.steps).seen (Ok reply))
    (sym c.reply_of_round.ensures)
    (room_turns c.args.worker.now (g.S.Steps.view c.args.steps.now) (g.S.Steps.view c.write_once.new.steps) (g.S.Steps.stands
    c.args.steps.now) (g.S.Steps.stands c.write_once.new.steps)
    c.args.tag c.args.row c.args.bytes.now c.in_ok-ended-in-NeedRoom.ended
    c.write_once.ensures.caller c.write_once.ensures.goes_on (rw c.in-NeedRoom.is at c.in_ok-write_once.ensures.made)
    (g.S.Steps.view c.round.new.steps).seen
    (subst (λ (w : WorkerState). MakesRound w (g.S.Steps.view c.write_once.new.steps) (g.S.Steps.stands
    c.write_once.new.steps) c.args.tag (g.S.Steps.view c.round.new.steps).seen (Ok c.in_ok-ended-in-NeedRoom.ended))
    c.write_once.ensures.worker c.in_ok-ended-in-NeedRoom.ensures.made))

pub returns-in-Failed-clause-made : goal.returns-in-Failed-clause-made
returns-in-Failed-clause-made g c =
    write_fails c.args.worker.now (g.S.Steps.view c.args.steps.now) (g.S.Steps.view c.write_once.new.steps) (g.S.Steps.stands
    c.args.steps.now) (g.S.Steps.stands c.write_once.new.steps)
    c.args.tag c.args.row c.args.bytes.now c.in-Failed.sb (rw c.in-Failed.is at c.in_ok-write_once.ensures.made)

pub returns-in-Written-clause-made : goal.returns-in-Written-clause-made
returns-in-Written-clause-made g c =
    write_ends c.args.worker.now (g.S.Steps.view c.args.steps.now) (g.S.Steps.view c.write_once.new.steps) (g.S.Steps.stands
    c.args.steps.now) (g.S.Steps.stands c.write_once.new.steps)
    c.args.tag c.args.row c.args.bytes.now (write.Written c.in-Written.slot) WriteReply.Written refl (rw c.in-Written.is at
    c.in_ok-write_once.ensures.made)

pub returns-in-DieFault-clause-made : goal.returns-in-DieFault-clause-made
returns-in-DieFault-clause-made g c =
    write_ends c.args.worker.now (g.S.Steps.view c.args.steps.now) (g.S.Steps.view c.write_once.new.steps) (g.S.Steps.stands
    c.args.steps.now) (g.S.Steps.stands c.write_once.new.steps)
    c.args.tag c.args.row c.args.bytes.now (write.DieFault c.in-DieFault.die) (WriteReply.DieFault c.in-DieFault.die) refl (rw
    c.in-DieFault.is at c.in_ok-write_once.ensures.made)

pub returns-in-ReadOnly-clause-made : goal.returns-in-ReadOnly-clause-made
returns-in-ReadOnly-clause-made g c =
    write_ends c.args.worker.now (g.S.Steps.view c.args.steps.now) (g.S.Steps.view c.write_once.new.steps) (g.S.Steps.stands
    c.args.steps.now) (g.S.Steps.stands c.write_once.new.steps)
    c.args.tag c.args.row c.args.bytes.now write.ReadOnly WriteReply.ReadOnly refl (rw c.in-ReadOnly.is at
    c.in_ok-write_once.ensures.made)

pub returns-in-Full-clause-made : goal.returns-in-Full-clause-made
returns-in-Full-clause-made g c =
    write_ends c.args.worker.now (g.S.Steps.view c.args.steps.now) (g.S.Steps.view c.write_once.new.steps) (g.S.Steps.stands
    c.args.steps.now) (g.S.Steps.stands c.write_once.new.steps)
    c.args.tag c.args.row c.args.bytes.now write.Full WriteReply.Full refl (rw c.in-Full.is at c.in_ok-write_once.ensures.made)
