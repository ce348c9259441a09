use Rattle.std.proofs.Common.{ℕ, List, Option, None, refl}
use Rattle.chan_calls.proofs.AloneCollects.{pick_keeps, pick_makes}
use Rattle.chan_calls.proofs.AloneSteps.{goes_on_alone, same_after, step_made, step_room}
use Rattle.chan_calls.specs.Alone.{view_of_lent}
use Rattle.chan_calls.specs.Caller.{HasStepRoom}
use Rattle.chan_calls.specs.Collecting.{MakesPick}
use Rattle.chan_calls.specs.Stepping.{OfEachBase}
use Rattle.chan_state.specs.ChannelState.{ChannelState, StandsFor}
use Rattle.chan_state.specs.Collecting.{Picks}
use Rattle.chan_state.specs.declared.answers.PickAnswer.{PickAnswer}
use Rattle.shared_steps.proofs.TracedSteps.{goes_on_of, pick_of, same_of}
use Rattle.shared_steps.specs.Tracing.{TracedState}
use Rattle.ssd_geo.specs.declared.policy_view.PolicyView.{PolicyView}
use Rattle.ssd_geo.specs.declared.tag.Tag.{Tag}
use Rattle.shared_steps.proofs.traced.TracedSteps.pick.Goals as goal

pub invariant_of-self : goal.invariant_of-self
invariant_of-self g c =
    let old : ChannelState = c.self.inside.channel.kept in
    let new : ChannelState = c.pick.new.self.kept in
    let told : Option PolicyView = g.P.Policy.told c.self.inside.channel.policy in
    let tells : Option PolicyView = g.P.Policy.told c.pick.new.self.policy in
    let contents : List (Tag × List ℕ) = g.J.Contents.contents in
    let was : TracedState = record { channel = old; told = told; start = c.self.inside.beginning } in
    let after : TracedState = record { channel = new; told = tells; start = c.self.inside.beginning } in
    c.pick.ensures.stands c.self.inside.beginning contents c.self.invariant

pub returns-clause-same : goal.returns-clause-same
returns-clause-same g c =
    let old : ChannelState = c.self.inside.channel.kept in
    let new : ChannelState = c.pick.new.self.kept in
    let told : Option PolicyView = g.P.Policy.told c.self.inside.channel.policy in
    let tells : Option PolicyView = g.P.Policy.told c.pick.new.self.policy in
    let contents : List (Tag × List ℕ) = g.J.Contents.contents in
    let was : TracedState = record { channel = old; told = told; start = c.self.inside.beginning } in
    let after : TracedState = record { channel = new; told = tells; start = c.self.inside.beginning } in
    same_of was c.args.self.now after c.self.view_is contents c.args.tag c.self.invariant refl
    (same_after old new 0 c.args.tag (λ (answer : PickAnswer). Picks old new c.args.tag answer) c.pick.result
    (pick_keeps old new None 0 c.args.tag) c.pick.ensures.ok c.pick.ensures.err)

pub returns-clause-made : goal.returns-clause-made
returns-clause-made g c =
    let old : ChannelState = c.self.inside.channel.kept in
    let new : ChannelState = c.pick.new.self.kept in
    let told : Option PolicyView = g.P.Policy.told c.self.inside.channel.policy in
    let tells : Option PolicyView = g.P.Policy.told c.pick.new.self.policy in
    let contents : List (Tag × List ℕ) = g.J.Contents.contents in
    let was : TracedState = record { channel = old; told = told; start = c.self.inside.beginning } in
    let after : TracedState = record { channel = new; told = tells; start = c.self.inside.beginning } in
    pick_of was c.args.self.now after c.self.view_is contents c.args.tag c.self.invariant refl c.pick.result
    (step_made old new 0 c.args.tag HasStepRoom (MakesPick (OfEachBase (view_of_lent old 0) (StandsFor old told)) c.args.tag)
    (λ (answer : PickAnswer). Picks old new c.args.tag answer) c.pick.result
    (step_room old new 0 c.args.tag c.pick.result c.keeps_looks.ensures c.pick.ensures.room)
    (pick_makes old new told 0 c.args.tag) c.pick.ensures.ok c.pick.ensures.err)

pub returns-clause-goes_on : goal.returns-clause-goes_on
returns-clause-goes_on g c =
    let old : ChannelState = c.self.inside.channel.kept in
    let new : ChannelState = c.pick.new.self.kept in
    let told : Option PolicyView = g.P.Policy.told c.self.inside.channel.policy in
    let tells : Option PolicyView = g.P.Policy.told c.pick.new.self.policy in
    let contents : List (Tag × List ℕ) = g.J.Contents.contents in
    let was : TracedState = record { channel = old; told = told; start = c.self.inside.beginning } in
    let after : TracedState = record { channel = new; told = tells; start = c.self.inside.beginning } in
    goes_on_of was c.args.self.now after c.self.view_is contents c.args.tag c.self.invariant refl
    (goes_on_alone old new 0 c.args.tag told tells (c.pick.ensures.stands))
