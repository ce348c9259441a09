use Rattle.std.proofs.Common.{sym, ◌∙◌}
use Rattle.ctl.proofs.ServedCalls.{no_put_is, put_is}
use Rattle.ctl.proofs.serving.put_hint.Goals as goal

-- a page whose reply is a hint waits behind the others, where there is room
pub returns-then-is_hint : goal.returns-then-is_hint
returns-then-is_hint c =
    put_is c.args.page c.args.reply.now c.args.hints.now c.put.new.self c.put.result (sym c.is_hint.ensures ∙ c.if-is_hint.true)
    c.put.ensures.room c.put.ensures.after

pub returns-else-is_hint : goal.returns-else-is_hint
returns-else-is_hint c =
    no_put_is c.args.page c.args.reply.now c.args.hints.now (sym c.is_hint.ensures ∙ c.if-is_hint.false)
