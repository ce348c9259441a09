use Rattle.std.proofs.Common.{subst, sym}
use Rattle.alone_calls.specs.AloneCalls.{EndsWrite}
use Rattle.ssd_geo.specs.declared.reply.Reply.{Reply}
use Rattle.std.specs.Prelude.{Ok}
use Rattle.alone_calls.proofs.WholeCalls.{write_finds_room, write_stopped, write_whole}
use Rattle.alone_calls.proofs.writing.write.Goals as goal

pub returns-in-Ok-clause-room : goal.returns-in-Ok-clause-room
returns-in-Ok-clause-room g c =
    write_finds_room c.args.worker.now (g.S.Steps.view c.args.steps.now) (g.S.Steps.view c.write.new.steps)
    (g.S.Steps.stands c.args.steps.now) (g.S.Steps.stands c.write.new.steps) c.args.tag c.copies_alone_are_copies.ensures
    c.requires.alone c.args.row
    c.args.bytes.now c.requires.may c.write.result c.write.ensures.made

pub returns-in-Ok-clause-ends : goal.returns-in-Ok-clause-ends
returns-in-Ok-clause-ends g c =
    subst (λ (reply : Reply). EndsWrite c.args.worker.now (g.S.Steps.view c.args.steps.now) (g.S.Steps.view c.write.new.steps)
    (g.S.Steps.stands c.args.steps.now) c.args.tag c.args.row c.args.bytes.now (Ok reply)) (sym c.reply_to_write.ensures)
    (write_whole c.args.worker.now (g.S.Steps.view c.args.steps.now) (g.S.Steps.view c.write.new.steps)
    (g.S.Steps.stands c.args.steps.now) (g.S.Steps.stands c.write.new.steps) c.args.tag c.copies_alone_are_copies.ensures
    c.requires.alone c.args.row
    c.args.bytes.now c.requires.none_open c.write.ensures.goes_on c.in-Ok.ended
    c.in-Ok.ensures.made)

pub returns-in-Err-clause-room : goal.returns-in-Err-clause-room
returns-in-Err-clause-room g c =
    write_finds_room c.args.worker.now (g.S.Steps.view c.args.steps.now) (g.S.Steps.view c.write.new.steps)
    (g.S.Steps.stands c.args.steps.now) (g.S.Steps.stands c.write.new.steps) c.args.tag c.copies_alone_are_copies.ensures
    c.requires.alone c.args.row
    c.args.bytes.now c.requires.may c.write.result c.write.ensures.made

pub returns-in-Err-clause-ends : goal.returns-in-Err-clause-ends
returns-in-Err-clause-ends g c =
    write_stopped c.args.worker.now (g.S.Steps.view c.args.steps.now) (g.S.Steps.view c.write.new.steps)
    (g.S.Steps.stands c.args.steps.now) (g.S.Steps.stands c.write.new.steps) c.args.tag c.copies_alone_are_copies.ensures
    c.requires.alone c.args.row
    c.args.bytes.now c.requires.none_open c.write.ensures.goes_on c.in-Err.stop
    c.in-Err.ensures.made
