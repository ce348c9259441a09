use Rattle.std.proofs.Common.{ℕ, Option, None}
use Rattle.chan_calls.proofs.AloneHosts.{look_keeps, look_makes}
use Rattle.chan_calls.proofs.AloneSteps.{goes_on_alone, keeps_view, look_room, same_after, step_made}
use Rattle.chan_calls.specs.Caller.{HasLookRoom}
use Rattle.chan_calls.specs.Stepping.{MakesLook}
use Rattle.chan_state.specs.ChannelState.{ChannelState}
use Rattle.chan_state.specs.Steps.{LooksAt}
use Rattle.chan_tables.specs.declared.answers.LookAnswer.{LookAnswer}
use Rattle.ssd_geo.specs.declared.policy_view.PolicyView.{PolicyView}
use Rattle.chan_calls.proofs.alone.AloneSteps.look.Goals as goal

pub returns-clause-same : goal.returns-clause-same
returns-clause-same g c =
    let old : ChannelState = c.args.self.now.channel.now.kept in
    let new : ChannelState = c.look.new.self.kept in
    let lent : ℕ = c.args.self.now.channel.ghost_name in
    same_after old new lent c.args.tag (λ (answer : LookAnswer). LooksAt old new c.args.tag c.args.row answer) c.look.result
    (look_keeps old new None lent c.args.tag c.args.row) c.look.ensures.ok c.look.ensures.err

pub returns-clause-made : goal.returns-clause-made
returns-clause-made g c =
    let old : ChannelState = c.args.self.now.channel.now.kept in
    let new : ChannelState = c.look.new.self.kept in
    let lent : ℕ = c.args.self.now.channel.ghost_name in
    step_made old new lent c.args.tag HasLookRoom (MakesLook old.shape c.args.tag c.args.row)
    (λ (answer : LookAnswer). LooksAt old new c.args.tag c.args.row answer) c.look.result
    (look_room old new lent c.args.tag c.look.result c.keeps_looks.ensures c.look.ensures.room)
    (look_makes old new None lent c.args.tag c.args.row) c.look.ensures.ok c.look.ensures.err

pub returns-clause-goes_on : goal.returns-clause-goes_on
returns-clause-goes_on g c =
    let old : ChannelState = c.args.self.now.channel.now.kept in
    let new : ChannelState = c.look.new.self.kept in
    let lent : ℕ = c.args.self.now.channel.ghost_name in
    let was : Option PolicyView = g.P.Policy.told c.args.self.now.channel.now.policy in
    let now : Option PolicyView = g.P.Policy.told c.look.new.self.policy in
    goes_on_alone old new lent c.args.tag was now (keeps_view old new lent c.args.tag was now
    c.look.ensures.stands c.look.ensures.view)
