use Rattle.std.proofs.Common.{ℕ, List, Option, None, refl}
use Rattle.chan_calls.proofs.AloneCollects.{live_keeps, live_makes}
use Rattle.chan_calls.proofs.AloneSteps.{goes_on_alone, keeps_view, look_room, same_after, step_made}
use Rattle.chan_calls.specs.Alone.{view_of_lent}
use Rattle.chan_calls.specs.Caller.{HasLookRoom}
use Rattle.chan_calls.specs.Collecting.{MakesLive}
use Rattle.chan_calls.specs.Stepping.{OfEachBase}
use Rattle.chan_state.specs.ChannelState.{ChannelState, StandsFor}
use Rattle.chan_state.specs.Collecting.{LooksLive}
use Rattle.chan_tables.specs.declared.answers.LiveAnswer.{LiveAnswer}
use Rattle.shared_steps.proofs.TracedSteps.{goes_on_of, live_of, same_of}
use Rattle.shared_steps.specs.Tracing.{TracedState}
use Rattle.ssd_geo.specs.declared.policy_view.PolicyView.{PolicyView}
use Rattle.ssd_geo.specs.declared.tag.Tag.{Tag}
use Rattle.shared_steps.proofs.traced.TracedSteps.look_live.Goals as goal

pub invariant_of-self : goal.invariant_of-self
invariant_of-self g c =
    let old : ChannelState = c.self.inside.channel.kept in
    let new : ChannelState = c.look_live.new.self.kept in
    let told : Option PolicyView = g.P.Policy.told c.self.inside.channel.policy in
    let tells : Option PolicyView = g.P.Policy.told c.look_live.new.self.policy in
    let contents : List (Tag × List ℕ) = g.J.Contents.contents in
    let was : TracedState = record { channel = old; told = told; start = c.self.inside.beginning } in
    let after : TracedState = record { channel = new; told = tells; start = c.self.inside.beginning } in
    keeps_view old new 0 c.args.tag told tells c.look_live.ensures.stands c.look_live.ensures.view c.self.inside.beginning
    contents c.self.invariant

pub returns-clause-same : goal.returns-clause-same
returns-clause-same g c =
    let old : ChannelState = c.self.inside.channel.kept in
    let new : ChannelState = c.look_live.new.self.kept in
    let told : Option PolicyView = g.P.Policy.told c.self.inside.channel.policy in
    let tells : Option PolicyView = g.P.Policy.told c.look_live.new.self.policy in
    let contents : List (Tag × List ℕ) = g.J.Contents.contents in
    let was : TracedState = record { channel = old; told = told; start = c.self.inside.beginning } in
    let after : TracedState = record { channel = new; told = tells; start = c.self.inside.beginning } in
    same_of was c.args.self.now after c.self.view_is contents c.args.tag c.self.invariant refl
    (same_after old new 0 c.args.tag (λ (answer : LiveAnswer). LooksLive old new c.args.tag c.args.sb answer)
    c.look_live.result
    (live_keeps old new None 0 c.args.tag c.args.sb) c.look_live.ensures.ok c.look_live.ensures.err)

pub returns-clause-made : goal.returns-clause-made
returns-clause-made g c =
    let old : ChannelState = c.self.inside.channel.kept in
    let new : ChannelState = c.look_live.new.self.kept in
    let told : Option PolicyView = g.P.Policy.told c.self.inside.channel.policy in
    let tells : Option PolicyView = g.P.Policy.told c.look_live.new.self.policy in
    let contents : List (Tag × List ℕ) = g.J.Contents.contents in
    let was : TracedState = record { channel = old; told = told; start = c.self.inside.beginning } in
    let after : TracedState = record { channel = new; told = tells; start = c.self.inside.beginning } in
    live_of was c.args.self.now after c.self.view_is contents c.args.tag c.self.invariant refl c.args.sb c.look_live.result
    (step_made old new 0 c.args.tag HasLookRoom (MakesLive (OfEachBase (view_of_lent old 0) (StandsFor old told)) old.shape
    c.args.tag c.args.sb)
    (λ (answer : LiveAnswer). LooksLive old new c.args.tag c.args.sb answer) c.look_live.result
    (look_room old new 0 c.args.tag c.look_live.result c.keeps_looks.ensures c.look_live.ensures.room)
    (live_makes old new told 0 c.args.tag c.args.sb) c.look_live.ensures.ok c.look_live.ensures.err)

pub returns-clause-goes_on : goal.returns-clause-goes_on
returns-clause-goes_on g c =
    let old : ChannelState = c.self.inside.channel.kept in
    let new : ChannelState = c.look_live.new.self.kept in
    let told : Option PolicyView = g.P.Policy.told c.self.inside.channel.policy in
    let tells : Option PolicyView = g.P.Policy.told c.look_live.new.self.policy in
    let contents : List (Tag × List ℕ) = g.J.Contents.contents in
    let was : TracedState = record { channel = old; told = told; start = c.self.inside.beginning } in
    let after : TracedState = record { channel = new; told = tells; start = c.self.inside.beginning } in
    goes_on_of was c.args.self.now after c.self.view_is contents c.args.tag c.self.invariant refl
    (goes_on_alone old new 0 c.args.tag told tells (keeps_view old new 0 c.args.tag told tells c.look_live.ensures.stands
    c.look_live.ensures.view))
