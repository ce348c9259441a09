use Rattle.std.proofs.Common.{ℕ, Option, None, FitsSigned, w16, rules}
use Rattle.std.proofs.lemmas.Int.{to_z-of_z}
use Rattle.chan_calls.proofs.AloneHosts.{sense_keeps, senses_alone}
use Rattle.chan_state.specs.ChannelState.{ChannelState}
use Rattle.ssd_geo.specs.declared.policy_view.PolicyView.{PolicyView}
use Rattle.chan_calls.proofs.alone.AloneSteps.sense.Goals as goal

pub returns-clause-same : goal.returns-clause-same
returns-clause-same g c =
    let old : ChannelState = c.args.self.now.channel.now.kept in
    let new : ChannelState = c.sense.new.self.kept in
    let lent : ℕ = c.args.self.now.channel.ghost_name in
    let fits : FitsSigned w16 c.args.level = search rules in
    sense_keeps old new None lent c.args.tag c.args.at c.args.place c.args.level c.args.out.now
    c.sense.new.out c.sense.result (simp to_z-of_z at c.sense.ensures.entry)

pub returns-clause-made : goal.returns-clause-made
returns-clause-made g c =
    let old : ChannelState = c.args.self.now.channel.now.kept in
    let new : ChannelState = c.sense.new.self.kept in
    let lent : ℕ = c.args.self.now.channel.ghost_name in
    let was : Option PolicyView = g.P.Policy.told c.args.self.now.channel.now.policy in
    let now : Option PolicyView = g.P.Policy.told c.sense.new.self.policy in
    let fits : FitsSigned w16 c.args.level = search rules in
    senses_alone old new was lent c.args.tag c.args.at c.args.place c.args.level c.args.out.now
    c.sense.new.out now c.sense.result (simp to_z-of_z at c.sense.ensures.entry)
    (simp to_z-of_z at c.sense.ensures.bits) (simp to_z-of_z at c.sense.ensures.stands)
    c.sense.ensures.view
