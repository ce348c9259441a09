use Rattle.std.proofs.Common.{Global, Vec}
use Rattle.ssd_geo.specs.declared.reply.Reply.{Reply}
use Rattle.ssd_top.proofs.TraceRuns.{reply_added}
use Rattle.ssd_top.proofs.serving.add_reply.Goals as goal

pub returns : goal.returns
returns c =
    reply_added {V =
    Vec Reply Global} (λ list. list.items) c.args.replies.now.items c.args.actor c.args.reply
    c.index_mut.result.now c.push.new.self
    c.requires c.index_mut.ensures.value c.in-Ok.ensures.items
