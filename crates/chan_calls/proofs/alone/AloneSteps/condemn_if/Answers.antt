use Rattle.std.proofs.Common.{ℕ, Option}
use Rattle.chan_calls.proofs.AloneCollects.{condemns_alone}
use Rattle.chan_calls.proofs.AloneSteps.{same_drive}
use Rattle.chan_state.specs.ChannelState.{ChannelState}
use Rattle.ssd_geo.specs.declared.policy_view.PolicyView.{PolicyView}
use Rattle.chan_calls.proofs.alone.AloneSteps.condemn_if.Goals as goal

pub returns-clause-same : goal.returns-clause-same
returns-clause-same g c =
    let old : ChannelState = c.args.self.now.channel.now.kept in
    let new : ChannelState = c.condemn_if.new.self.kept in
    let lent : ℕ = c.args.self.now.channel.ghost_name in
    same_drive old new lent c.args.tag c.condemn_if.ensures.entry.same_drive

pub returns-clause-made : goal.returns-clause-made
returns-clause-made g c =
    let old : ChannelState = c.args.self.now.channel.now.kept in
    let new : ChannelState = c.condemn_if.new.self.kept in
    let lent : ℕ = c.args.self.now.channel.ghost_name in
    let was : Option PolicyView = g.P.Policy.told c.args.self.now.channel.now.policy in
    let now : Option PolicyView = g.P.Policy.told c.condemn_if.new.self.policy in
    condemns_alone old new was lent c.args.tag now c.args.at c.condemn_if.result
    c.condemn_if.ensures.entry c.condemn_if.ensures.stands c.condemn_if.ensures.view
