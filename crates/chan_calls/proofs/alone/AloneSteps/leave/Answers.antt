use Rattle.std.proofs.Common.{ℕ, Option}
use Rattle.chan_calls.proofs.AloneHosts.{leaves_alone}
use Rattle.chan_calls.proofs.AloneSteps.{same_drive}
use Rattle.chan_state.specs.ChannelState.{ChannelState}
use Rattle.ssd_geo.specs.declared.policy_view.PolicyView.{PolicyView}
use Rattle.chan_calls.proofs.alone.AloneSteps.leave.Goals as goal

pub returns-clause-same : goal.returns-clause-same
returns-clause-same g c =
    let old : ChannelState = c.args.self.now.channel.now.kept in
    let new : ChannelState = c.leave.new.self.kept in
    let lent : ℕ = c.args.self.now.channel.ghost_name in
    same_drive old new lent c.args.tag c.leave.ensures.entry.same_drive

pub returns-clause-made : goal.returns-clause-made
returns-clause-made g c =
    let old : ChannelState = c.args.self.now.channel.now.kept in
    let new : ChannelState = c.leave.new.self.kept in
    let lent : ℕ = c.args.self.now.channel.ghost_name in
    let was : Option PolicyView = g.P.Policy.told c.args.self.now.channel.now.policy in
    let now : Option PolicyView = g.P.Policy.told c.leave.new.self.policy in
    leaves_alone old new was lent c.args.tag now c.args.at c.leave.ensures.entry
    c.leave.ensures.stands c.leave.ensures.view
