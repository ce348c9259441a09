use Rattle.std.proofs.Common.{◌%◌, ◌∙◌, ◌≤◌, subst, sym}
use Rattle.std.specs.Prelude.{Ok, Result}
use Rattle.std.specs.Vec.{vec_capacity}
use Rattle.collector.proofs.FirstCallers.{is_that_stop}
use Rattle.ssd_geo.specs.declared.shape.Shape.{Shape}
use Rattle.ssd_geo.specs.declared.stop.StepStop.{StepStop}
use Rattle.chan_calls.specs.Calls.{reply_of}
use Rattle.ssd_geo.specs.declared.reply.Reply.{Reply}
use Rattle.ssd_geo.specs.declared.trace.Verb.{Verb}
use Rattle.actor_calls.specs.Ended.{EndsForEach}
use Rattle.actor_calls.proofs.EndedCalls.{read_answered, read_not_tried, read_stopped}
use Rattle.actor_calls.proofs.ReadRoom.{has_room}
use Rattle.actor_calls.proofs.reading.read.Goals as goal

pub returns-in_default-clause-ends : goal.returns-in_default-clause-ends
returns-in_default-clause-ends g c =
    read_not_tried c.reads_stop_begun.ensures c.args.channels c.args.page c.args.tag (g.S.Steps.view c.args.steps.now)
    c.args.worker.now (g.S.Steps.stands c.args.steps.now)

pub returns-in_err-answer-clause-ends : goal.returns-in_err-answer-clause-ends
returns-in_err-answer-clause-ends g c =
    let old = g.S.Steps.view c.args.steps.now in
    let new = g.S.Steps.view c.read.new.steps in
    let stood = g.S.Steps.stands c.args.steps.now in
    subst
    (λ (result : Result Reply StepStop). EndsForEach c.args.worker.now old stood c.args.channels (c.args.page % c.args.channels)
    c.args.tag (Verb.Read c.args.page) new.seen result)
    (sym (is_that_stop c.from_residual.result c.in_err-answer.field-0.0 c.from_residual.ensures.1))
    (read_stopped c.args.channels c.args.page c.row_of.result c.row_of.ensures c.args.tag old new c.args.worker.now stood
    c.reads_stop_begun.ensures c.in_err-answer.field-0.0 c.in_err-answer.ensures.room)

pub reply_of-requires-clause-room : goal.reply_of-requires-clause-room
reply_of-requires-clause-room g c =
    let may = c.requires.may in
    has_room may.start may.contents (g.S.Steps.view c.args.steps.now) c.args.tag c.row_of.result
    (g.S.Steps.view c.read.new.steps).seen c.in_ok-answer.answer c.read.new.self.data_bytes (vec_capacity c.in-Ok.room)
    (subst (λ (shape : Shape). shape.bytes ≤ vec_capacity c.in-Ok.room) (c.shape.ensures ∙ may.works.shape_is) c.in-Ok.ensures.capacity)
    (c.in_ok-answer.ensures.ok may.start may.contents may.works may.is_of may.stands_for)

pub returns-clause-ends : goal.returns-clause-ends
returns-clause-ends g c =
    let old = g.S.Steps.view c.args.steps.now in
    let new = g.S.Steps.view c.read.new.steps in
    let stood = g.S.Steps.stands c.args.steps.now in
    subst
    (λ (reply : Reply). EndsForEach c.args.worker.now old stood c.args.channels (c.args.page % c.args.channels) c.args.tag
    (Verb.Read c.args.page) new.seen (Ok reply)) (sym c.reply_of.ensures)
    (read_answered c.args.channels c.args.page c.row_of.result c.row_of.ensures c.args.tag old new c.args.worker.now stood
    c.reads_among_are_reads.ensures (reply_of c.in_ok-answer.answer c.read.new.self.data_bytes)
    c.in_ok-answer.ensures.ok)
