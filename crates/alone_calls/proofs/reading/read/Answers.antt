use Rattle.std.proofs.Common.{inr, sym, subst}
use Rattle.ssd_geo.specs.declared.reply.Reply.{Reply}
use Rattle.chan_calls.specs.Calls.{ReadsFor, reply_of}
use Rattle.alone_calls.proofs.RepliedReads.{reads_are_replied}
use Rattle.alone_calls.proofs.reading.read.Goals as goal

pub returns-in-Ok-clause-ok : goal.returns-in-Ok-clause-ok
returns-in-Ok-clause-ok g c = λ start contents works is_of stood.
    let old = g.S.Steps.view c.args.steps.now in
    let new = g.S.Steps.view c.read.new.steps in
    reads_are_replied old c.args.tag c.args.row c.requires.alone new.seen c.in-Ok.reply start contents
    (subst (λ (reply : Reply). ReadsFor start contents old c.args.tag c.args.row new.seen reply) (sym c.in-Ok.ensures)
    (c.in_ok-answer.ensures.ok start contents works is_of stood))

-- memory for a copy of the data was refused: the read was made whole
pub returns-in-Err-clause-memory : goal.returns-in-Err-clause-memory
returns-in-Err-clause-memory g c =
    let old = g.S.Steps.view c.args.steps.now in
    let new = g.S.Steps.view c.read.new.steps in
    let reply : Reply = reply_of c.in_ok-answer.answer c.read.new.self.data_bytes in
    inr (
      reply,
      λ start contents works is_of stood.
          reads_are_replied old c.args.tag c.args.row c.requires.alone new.seen reply start contents
          (c.in_ok-answer.ensures.ok start contents works is_of stood),
    )
