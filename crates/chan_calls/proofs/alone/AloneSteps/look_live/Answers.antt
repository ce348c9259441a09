use Rattle.std.proofs.Common.{ℕ, Option, None}
use Rattle.chan_calls.proofs.AloneCollects.{live_keeps, live_makes}
use Rattle.chan_calls.proofs.AloneSteps.{goes_on_alone, keeps_view, look_room, same_after, step_made}
use Rattle.chan_calls.specs.Alone.{view_of_lent}
use Rattle.chan_calls.specs.Caller.{HasLookRoom}
use Rattle.chan_calls.specs.Collecting.{MakesLive}
use Rattle.chan_calls.specs.Stepping.{OfEachBase}
use Rattle.chan_state.specs.ChannelState.{ChannelState, StandsFor}
use Rattle.chan_state.specs.Collecting.{LooksLive}
use Rattle.chan_tables.specs.declared.answers.LiveAnswer.{LiveAnswer}
use Rattle.ssd_geo.specs.declared.policy_view.PolicyView.{PolicyView}
use Rattle.chan_calls.proofs.alone.AloneSteps.look_live.Goals as goal

pub returns-clause-same : goal.returns-clause-same
returns-clause-same g c =
    let old : ChannelState = c.args.self.now.channel.now.kept in
    let new : ChannelState = c.look_live.new.self.kept in
    let lent : ℕ = c.args.self.now.channel.ghost_name in
    same_after old new lent c.args.tag (λ (answer : LiveAnswer). LooksLive old new c.args.tag c.args.sb answer) c.look_live.result
    (live_keeps old new None lent c.args.tag c.args.sb) c.look_live.ensures.ok c.look_live.ensures.err

pub returns-clause-made : goal.returns-clause-made
returns-clause-made g c =
    let old : ChannelState = c.args.self.now.channel.now.kept in
    let new : ChannelState = c.look_live.new.self.kept in
    let lent : ℕ = c.args.self.now.channel.ghost_name in
    let was : Option PolicyView = g.P.Policy.told c.args.self.now.channel.now.policy in
    let now : Option PolicyView = g.P.Policy.told c.look_live.new.self.policy in
    step_made old new lent c.args.tag HasLookRoom (MakesLive (OfEachBase (view_of_lent old lent) (StandsFor old was)) old.shape c.args.tag c.args.sb)
    (λ (answer : LiveAnswer). LooksLive old new c.args.tag c.args.sb answer) c.look_live.result
    (look_room old new lent c.args.tag c.look_live.result c.keeps_looks.ensures c.look_live.ensures.room)
    (live_makes old new was lent c.args.tag c.args.sb) c.look_live.ensures.ok c.look_live.ensures.err

pub returns-clause-goes_on : goal.returns-clause-goes_on
returns-clause-goes_on g c =
    let old : ChannelState = c.args.self.now.channel.now.kept in
    let new : ChannelState = c.look_live.new.self.kept in
    let lent : ℕ = c.args.self.now.channel.ghost_name in
    let was : Option PolicyView = g.P.Policy.told c.args.self.now.channel.now.policy in
    let now : Option PolicyView = g.P.Policy.told c.look_live.new.self.policy in
    goes_on_alone old new lent c.args.tag was now (keeps_view old new lent c.args.tag was now
    c.look_live.ensures.stands c.look_live.ensures.view)
