use Rattle.std.proofs.Common.{ℕ, Option, None}
use Rattle.chan_calls.proofs.AloneCollects.{pick_keeps, pick_makes}
use Rattle.chan_calls.proofs.AloneSteps.{goes_on_alone, same_after, step_made, step_room}
use Rattle.chan_calls.specs.Alone.{view_of_lent}
use Rattle.chan_calls.specs.Caller.{HasStepRoom}
use Rattle.chan_calls.specs.Collecting.{MakesPick}
use Rattle.chan_calls.specs.Stepping.{OfEachBase}
use Rattle.chan_state.specs.ChannelState.{ChannelState, StandsFor}
use Rattle.chan_state.specs.Collecting.{Picks}
use Rattle.chan_state.specs.declared.answers.PickAnswer.{PickAnswer}
use Rattle.ssd_geo.specs.declared.policy_view.PolicyView.{PolicyView}
use Rattle.chan_calls.proofs.alone.AloneSteps.pick.Goals as goal

pub returns-clause-same : goal.returns-clause-same
returns-clause-same g c =
    let old : ChannelState = c.args.self.now.channel.now.kept in
    let new : ChannelState = c.pick.new.self.kept in
    let lent : ℕ = c.args.self.now.channel.ghost_name in
    same_after old new lent c.args.tag (λ (answer : PickAnswer). Picks old new c.args.tag answer) c.pick.result
    (pick_keeps old new None lent c.args.tag) c.pick.ensures.ok c.pick.ensures.err

pub returns-clause-made : goal.returns-clause-made
returns-clause-made g c =
    let old : ChannelState = c.args.self.now.channel.now.kept in
    let new : ChannelState = c.pick.new.self.kept in
    let lent : ℕ = c.args.self.now.channel.ghost_name in
    let was : Option PolicyView = g.P.Policy.told c.args.self.now.channel.now.policy in
    let now : Option PolicyView = g.P.Policy.told c.pick.new.self.policy in
    step_made old new lent c.args.tag HasStepRoom (MakesPick (OfEachBase (view_of_lent old lent) (StandsFor old was)) c.args.tag)
    (λ (answer : PickAnswer). Picks old new c.args.tag answer) c.pick.result
    (step_room old new lent c.args.tag c.pick.result c.keeps_looks.ensures c.pick.ensures.room)
    (pick_makes old new was lent c.args.tag) c.pick.ensures.ok c.pick.ensures.err

pub returns-clause-goes_on : goal.returns-clause-goes_on
returns-clause-goes_on g c =
    let old : ChannelState = c.args.self.now.channel.now.kept in
    let new : ChannelState = c.pick.new.self.kept in
    let lent : ℕ = c.args.self.now.channel.ghost_name in
    let was : Option PolicyView = g.P.Policy.told c.args.self.now.channel.now.policy in
    let now : Option PolicyView = g.P.Policy.told c.pick.new.self.policy in
    goes_on_alone old new lent c.args.tag was now c.pick.ensures.stands
