use Rattle.std.proofs.Common.{refl, rules}
use Rattle.chan_calls.specs.Alone.{view_of_lent}
use Rattle.chan_calls.specs.Workers.{MayCall}
use Rattle.chan_state.specs.ChannelState.{StandsFor}
use Rattle.ctl.specs.Asked.{settings}
use Rattle.ctl.specs.ChannelCalls.{RefreshEndsOn}
use Rattle.ctl.proofs.LentChannels.{held, may_refresh, refresh_ends}
use Rattle.ctl.proofs.SeenChannels.{seen_by}
use Rattle.ctl.proofs.calling.refresh_on.Goals as goal

-- the channel that was lent may be refreshed
pub refresh-requires-clause-may : goal.refresh-requires-clause-may
refresh-requires-clause-may g c =
    held (λ old new. MayCall c.args.worker.now (view_of_lent new.kept c.new-steps.result.channel.ghost_name)
    (StandsFor new.kept (g.P.Policy.told new.policy)))
    c.args.channel.now c.args.channel.now c.args.channel.now c.new-steps.result.channel.now refl c.new-steps.ensures.channel
    (may_refresh c.args.worker.now (seen_by g.P.Policy.told c.args.channel.now) c.new-steps.result.channel.ghost_name
    c.args.tag c.requires.may)

-- and has what the refresh added
pub returns-clause-ends : goal.returns-clause-ends
returns-clause-ends g c =
    let before = c.new-steps.result.channel.now in
    let after = c.refresh.new.steps.channel.now in
    held (λ old new. RefreshEndsOn (settings c.args.worker.now) (seen_by g.P.Policy.told old) (seen_by g.P.Policy.told new)
    c.args.tag c.args.row c.refresh.result)
    before after c.args.channel.now _ c.new-steps.ensures.channel (search rules)
    (refresh_ends c.args.worker.now (seen_by g.P.Policy.told before) c.new-steps.result.channel.ghost_name c.args.tag
    (seen_by g.P.Policy.told after) c.refresh.new.steps.channel.ghost_name 1 c.args.row c.refresh.result
    c.refresh.ensures.goes_on c.refresh.ensures.room c.refresh.ensures.memory c.refresh.ensures.ok)
