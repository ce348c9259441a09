use Rattle.std.proofs.Common.{subst, sym}
use Rattle.alone_calls.specs.AloneCalls.{EndsCollect}
use Rattle.ssd_geo.specs.declared.reply.Reply.{Reply}
use Rattle.std.specs.Prelude.{Ok}
use Rattle.alone_calls.proofs.WholeCalls.{collect_finds_room, collect_stopped, collect_whole}
use Rattle.alone_calls.proofs.collecting.collect.Goals as goal

pub returns-in-Ok-clause-room : goal.returns-in-Ok-clause-room
returns-in-Ok-clause-room g c =
    collect_finds_room c.args.worker.now (g.S.Steps.view c.args.steps.now) (g.S.Steps.view c.collect.new.steps)
    (g.S.Steps.stands c.args.steps.now) (g.S.Steps.stands c.collect.new.steps) c.args.tag c.copies_alone_are_copies.ensures
    c.requires.alone
    c.requires.may c.collect.result c.collect.ensures.made

pub returns-in-Ok-clause-ends : goal.returns-in-Ok-clause-ends
returns-in-Ok-clause-ends g c =
    subst (λ (reply : Reply). EndsCollect c.args.worker.now (g.S.Steps.view c.args.steps.now) (g.S.Steps.view c.collect.new.steps)
    (g.S.Steps.stands c.args.steps.now) c.args.tag (Ok reply)) (sym c.reply_to_collect.ensures)
    (collect_whole c.args.worker.now (g.S.Steps.view c.args.steps.now) (g.S.Steps.view c.collect.new.steps)
    (g.S.Steps.stands c.args.steps.now) (g.S.Steps.stands c.collect.new.steps) c.args.tag c.copies_alone_are_copies.ensures
    c.requires.alone
    c.requires.none_open c.collect.ensures.goes_on c.in-Ok.ended
    c.in-Ok.ensures.made)

pub returns-in-Err-clause-room : goal.returns-in-Err-clause-room
returns-in-Err-clause-room g c =
    collect_finds_room c.args.worker.now (g.S.Steps.view c.args.steps.now) (g.S.Steps.view c.collect.new.steps)
    (g.S.Steps.stands c.args.steps.now) (g.S.Steps.stands c.collect.new.steps) c.args.tag c.copies_alone_are_copies.ensures
    c.requires.alone
    c.requires.may c.collect.result c.collect.ensures.made

pub returns-in-Err-clause-ends : goal.returns-in-Err-clause-ends
returns-in-Err-clause-ends g c =
    collect_stopped c.args.worker.now (g.S.Steps.view c.args.steps.now) (g.S.Steps.view c.collect.new.steps)
    (g.S.Steps.stands c.args.steps.now) (g.S.Steps.stands c.collect.new.steps) c.args.tag c.copies_alone_are_copies.ensures
    c.requires.alone
    c.requires.none_open c.collect.ensures.goes_on c.in-Err.stop
    c.in-Err.ensures.made
