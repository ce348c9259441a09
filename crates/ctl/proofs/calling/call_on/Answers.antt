use Rattle.std.proofs.Common.{◌≡◌, ◌∙◌, [], Err, ap, refl, rules, subst}
use Rattle.std.specs.Prelude.{ℕ}
use Rattle.chan_calls.specs.Alone.{view_of_lent}
use Rattle.chan_calls.specs.Workers.{MayCall}
use Rattle.chan_state.specs.ChannelState.{StandsFor}
use Rattle.collector.specs.Writes.{MayWrite}
use Rattle.ssd_formats.specs.TraceText.{content_bytes}
use Rattle.ssd_geo.specs.declared.reply.Reply.{Reply}
use Rattle.ssd_geo.specs.declared.trace.Verb.{Verb}
use Rattle.ssd_histories.specs.History.{open_looks}
use Rattle.ctl.specs.Asked.{settings}
use Rattle.ctl.specs.ChannelCalls.{EndsOn, IsServedOn, MayServeOn}
use Rattle.ctl.proofs.LentChannels.{has_aged, has_collected, has_read, has_trimmed, held, may_call, may_write, trim_is_stopped, wrote}
use Rattle.ctl.proofs.SeenChannels.{seen_by}
use Rattle.ctl.proofs.calling.call_on.Goals as goal

-- the channel that was lent may be written to with the data of the call
pub write-requires-clause-may : goal.write-requires-clause-may
write-requires-clause-may g c =
    held (λ old new. MayWrite c.args.worker.now (view_of_lent new.kept c.new-steps.result.channel.ghost_name)
    (StandsFor new.kept (g.P.Policy.told new.policy)) c.args.call.now.tag c.content_into.new.out)
    c.args.channel.now c.args.channel.now c.args.channel.now c.new-steps.result.channel.now refl c.new-steps.ensures.channel
    (may_write c.args.worker.now (seen_by g.P.Policy.told c.args.channel.now) c.new-steps.result.channel.ghost_name
    c.args.call.now.tag c.in-Write.page c.in-Write.content c.content_into.new.out
    (c.content_into.ensures ∙ ap (λ (n : ℕ). content_bytes n c.in-Write.content) c.requires.bytes)
    (subst (λ (verb : Verb). MayServeOn (settings c.args.worker.now) (seen_by g.P.Policy.told c.args.channel.now)
    c.args.call.now.tag verb) c.in-Write.is c.requires.may))

-- no look of it is open
pub write-requires-clause-none_open : goal.write-requires-clause-none_open
write-requires-clause-none_open g c =
    held (λ old new. open_looks new.kept.past ≡ []) c.args.channel.now c.args.channel.now c.args.channel.now
    c.new-steps.result.channel.now refl c.new-steps.ensures.channel c.requires.may.none_open

-- and read
pub read-requires-clause-may : goal.read-requires-clause-may
read-requires-clause-may g c =
    held (λ old new. MayCall c.args.worker.now (view_of_lent new.kept c.new-steps.result.channel.ghost_name)
    (StandsFor new.kept (g.P.Policy.told new.policy)))
    c.args.channel.now c.args.channel.now c.args.channel.now c.new-steps.result.channel.now refl c.new-steps.ensures.channel
    (may_call c.args.worker.now (seen_by g.P.Policy.told c.args.channel.now) c.new-steps.result.channel.ghost_name
    c.args.call.now.tag c.args.call.now.verb c.requires.may)

-- and collected
pub collect-requires-clause-may : goal.collect-requires-clause-may
collect-requires-clause-may g c =
    held (λ old new. MayCall c.args.worker.now (view_of_lent new.kept c.new-steps.result.channel.ghost_name)
    (StandsFor new.kept (g.P.Policy.told new.policy)))
    c.args.channel.now c.args.channel.now c.args.channel.now c.new-steps.result.channel.now refl c.new-steps.ensures.channel
    (may_call c.args.worker.now (seen_by g.P.Policy.told c.args.channel.now) c.new-steps.result.channel.ghost_name
    c.args.call.now.tag c.args.call.now.verb c.requires.may)

pub collect-requires-clause-none_open : goal.collect-requires-clause-none_open
collect-requires-clause-none_open g c =
    held (λ old new. open_looks new.kept.past ≡ []) c.args.channel.now c.args.channel.now c.args.channel.now
    c.new-steps.result.channel.now refl c.new-steps.ensures.channel c.requires.may.none_open

-- the channel that was lent has what the write added
pub returns-in-Write-clause-ends : goal.returns-in-Write-clause-ends
returns-in-Write-clause-ends g c =
    let before = c.new-steps.result.channel.now in
    let after = c.write.new.steps.channel.now in
    held (λ old new. EndsOn (settings c.args.worker.now) c.args.channels (seen_by g.P.Policy.told old)
    (seen_by g.P.Policy.told new)
    c.args.call.now.tag c.args.call.now.verb c.write.result)
    before after c.args.channel.now _ c.new-steps.ensures.channel (search rules)
    (wrote c.args.worker.now (seen_by g.P.Policy.told before) c.new-steps.result.channel.ghost_name c.args.call.now.tag
    (seen_by g.P.Policy.told after) c.write.new.steps.channel.ghost_name c.args.channels c.args.call.now.verb c.row_of.result
    c.in-Write.page c.row_of.ensures c.in-Write.content c.in-Write.is c.content_into.new.out
    (c.content_into.ensures ∙ ap (λ (n : ℕ). content_bytes n c.in-Write.content) c.requires.bytes)
    (held (λ old new. MayServeOn (settings c.args.worker.now) (seen_by g.P.Policy.told new) c.args.call.now.tag c.args.call.now.verb)
    c.args.channel.now c.args.channel.now c.args.channel.now before refl c.new-steps.ensures.channel c.requires.may)
    c.write.result c.write.ensures.goes_on c.write.ensures.room c.write.ensures.ends)

-- what the read added
pub returns-in-Read-clause-ends : goal.returns-in-Read-clause-ends
returns-in-Read-clause-ends g c =
    let before = c.new-steps.result.channel.now in
    let after = c.read.new.steps.channel.now in
    held (λ old new. EndsOn (settings c.args.worker.now) c.args.channels (seen_by g.P.Policy.told old)
    (seen_by g.P.Policy.told new)
    c.args.call.now.tag c.args.call.now.verb c.read.result)
    before after c.args.channel.now _ c.new-steps.ensures.channel (search rules)
    (has_read c.args.worker.now (seen_by g.P.Policy.told before) c.new-steps.result.channel.ghost_name c.args.call.now.tag
    (seen_by g.P.Policy.told after) c.read.new.steps.channel.ghost_name c.args.channels c.args.call.now.verb
    c.row_of-in-Read.result
    c.in-Read.page c.row_of-in-Read.ensures c.in-Read.is c.read.result c.read.ensures.goes_on
    c.read.ensures.room c.read.ensures.memory c.read.ensures.ok)

-- what the trim added, or that it stopped
pub returns-in-Ok-clause-ends : goal.returns-in-Ok-clause-ends
returns-in-Ok-clause-ends g c =
    let before = c.new-steps.result.channel.now in
    let after = c.trim.new.steps.channel.now in
    held (λ old new. IsServedOn (settings c.args.worker.now) c.args.channels (seen_by g.P.Policy.told old)
    (seen_by g.P.Policy.told new)
    c.args.call.now.tag c.args.call.now.verb Reply.Ok)
    before after c.args.channel.now _ c.new-steps.ensures.channel (search rules)
    (has_trimmed c.args.worker.now (seen_by g.P.Policy.told before) c.new-steps.result.channel.ghost_name c.args.call.now.tag
    (seen_by g.P.Policy.told after) c.trim.new.steps.channel.ghost_name c.args.channels c.args.call.now.verb
    c.row_of-in-Trim.result
    c.in-Trim.page c.row_of-in-Trim.ensures c.in-Trim.is c.in-Ok.ensures.goes_on c.in-Ok.ensures.room c.in-Ok.ensures.ok)

pub returns-in-Err-clause-ends : goal.returns-in-Err-clause-ends
returns-in-Err-clause-ends g c =
    let before = c.new-steps.result.channel.now in
    let after = c.trim.new.steps.channel.now in
    held (λ old new. EndsOn (settings c.args.worker.now) c.args.channels (seen_by g.P.Policy.told old)
    (seen_by g.P.Policy.told new)
    c.args.call.now.tag c.args.call.now.verb (Err c.in-Err.stop))
    before after c.args.channel.now _ c.new-steps.ensures.channel (search rules)
    (trim_is_stopped c.args.worker.now (seen_by g.P.Policy.told before) c.new-steps.result.channel.ghost_name
    c.args.call.now.tag
    (seen_by g.P.Policy.told after) c.trim.new.steps.channel.ghost_name c.args.channels c.args.call.now.verb
    c.row_of-in-Trim.result
    c.in-Trim.page c.row_of-in-Trim.ensures c.in-Trim.is c.in-Err.ensures.goes_on c.in-Err.stop c.in-Err.ensures.room
    c.in-Err.ensures.memory)

-- what the collect added
pub returns-in-Collect-clause-ends : goal.returns-in-Collect-clause-ends
returns-in-Collect-clause-ends g c =
    let before = c.new-steps.result.channel.now in
    let after = c.collect.new.steps.channel.now in
    held (λ old new. EndsOn (settings c.args.worker.now) c.args.channels (seen_by g.P.Policy.told old)
    (seen_by g.P.Policy.told new)
    c.args.call.now.tag c.args.call.now.verb c.collect.result)
    before after c.args.channel.now _ c.new-steps.ensures.channel (search rules)
    (has_collected c.args.worker.now (seen_by g.P.Policy.told before) c.new-steps.result.channel.ghost_name c.args.call.now.tag
    (seen_by g.P.Policy.told after) c.collect.new.steps.channel.ghost_name c.args.channels c.args.call.now.verb
    c.in-Collect.channel c.in-Collect.is
    (held (λ old new. MayServeOn (settings c.args.worker.now) (seen_by g.P.Policy.told new) c.args.call.now.tag c.args.call.now.verb)
    c.args.channel.now c.args.channel.now c.args.channel.now before refl c.new-steps.ensures.channel c.requires.may)
    c.collect.result c.collect.ensures.goes_on c.collect.ensures.room c.collect.ensures.ends)

-- what the ageing added
pub returns-in-Age-clause-ends : goal.returns-in-Age-clause-ends
returns-in-Age-clause-ends g c =
    let before = c.new-steps.result.channel.now in
    let after = c.age.new.steps.channel.now in
    held (λ old new. EndsOn (settings c.args.worker.now) c.args.channels (seen_by g.P.Policy.told old)
    (seen_by g.P.Policy.told new)
    c.args.call.now.tag c.args.call.now.verb c.age.result)
    before after c.args.channel.now _ c.new-steps.ensures.channel (search rules)
    (has_aged c.args.worker.now (seen_by g.P.Policy.told before) c.new-steps.result.channel.ghost_name c.args.call.now.tag
    (seen_by g.P.Policy.told after) c.age.new.steps.channel.ghost_name c.args.channels c.args.call.now.verb
    c.in-Age.channel c.in-Age.die c.in-Age.sb c.in-Age.amount c.in-Age.is c.age.result c.age.ensures.goes_on c.age.ensures.room
    c.age.ensures.memory c.age.ensures.ok)
