use Rattle.std.proofs.Common.{ℕ, Option, None}
use Rattle.chan_calls.proofs.AloneCollects.{move_keeps, moves_alone}
use Rattle.chan_state.specs.ChannelState.{ChannelState}
use Rattle.ssd_geo.specs.declared.policy_view.PolicyView.{PolicyView}
use Rattle.chan_calls.proofs.alone.AloneSteps.move_if.Goals as goal

pub returns-clause-same : goal.returns-clause-same
returns-clause-same g c =
    let old : ChannelState = c.args.self.now.channel.now.kept in
    let new : ChannelState = c.move_if.new.self.kept in
    let lent : ℕ = c.args.self.now.channel.ghost_name in
    move_keeps old new None lent c.args.tag c.args.at c.move_if.result c.move_if.ensures.entry

pub returns-clause-made : goal.returns-clause-made
returns-clause-made g c =
    let old : ChannelState = c.args.self.now.channel.now.kept in
    let new : ChannelState = c.move_if.new.self.kept in
    let lent : ℕ = c.args.self.now.channel.ghost_name in
    let was : Option PolicyView = g.P.Policy.told c.args.self.now.channel.now.policy in
    let now : Option PolicyView = g.P.Policy.told c.move_if.new.self.policy in
    moves_alone old new was lent c.args.tag now c.args.at c.args.word.now c.move_if.result
    c.move_if.ensures.entry c.move_if.ensures.stands c.move_if.ensures.view
