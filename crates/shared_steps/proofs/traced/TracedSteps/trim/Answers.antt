use Rattle.std.proofs.Common.{ℕ, List, Option, None, refl}
use Rattle.chan_calls.proofs.AloneHosts.{if_ok}
use Rattle.chan_calls.proofs.AloneSteps.{goes_on_alone, keeps_view, same_after, same_drive, step_made, step_room}
use Rattle.chan_calls.specs.Caller.{HasStepRoom}
use Rattle.chan_calls.specs.Stepping.{MakesTrim}
use Rattle.chan_state.specs.ChannelState.{ChannelState}
use Rattle.chan_state.specs.Steps.{AddsEntry}
use Rattle.shared_steps.proofs.TracedSteps.{goes_on_of, same_of, trim_of}
use Rattle.shared_steps.specs.Tracing.{TracedState}
use Rattle.ssd_geo.specs.declared.kind.Kind.{Kind}
use Rattle.ssd_geo.specs.declared.policy_view.PolicyView.{PolicyView}
use Rattle.ssd_geo.specs.declared.tag.Tag.{Tag}
use Rattle.shared_steps.proofs.traced.TracedSteps.trim.Goals as goal

pub invariant_of-self : goal.invariant_of-self
invariant_of-self g c =
    let old : ChannelState = c.self.inside.channel.kept in
    let new : ChannelState = c.trim.new.self.kept in
    let told : Option PolicyView = g.P.Policy.told c.self.inside.channel.policy in
    let tells : Option PolicyView = g.P.Policy.told c.trim.new.self.policy in
    let contents : List (Tag × List ℕ) = g.J.Contents.contents in
    let was : TracedState = record { channel = old; told = told; start = c.self.inside.beginning } in
    let after : TracedState = record { channel = new; told = tells; start = c.self.inside.beginning } in
    keeps_view old new 0 c.args.tag told tells c.trim.ensures.stands c.trim.ensures.view c.self.inside.beginning contents
    c.self.invariant

pub returns-clause-same : goal.returns-clause-same
returns-clause-same g c =
    let old : ChannelState = c.self.inside.channel.kept in
    let new : ChannelState = c.trim.new.self.kept in
    let told : Option PolicyView = g.P.Policy.told c.self.inside.channel.policy in
    let tells : Option PolicyView = g.P.Policy.told c.trim.new.self.policy in
    let contents : List (Tag × List ℕ) = g.J.Contents.contents in
    let was : TracedState = record { channel = old; told = told; start = c.self.inside.beginning } in
    let after : TracedState = record { channel = new; told = tells; start = c.self.inside.beginning } in
    same_of was c.args.self.now after c.self.view_is contents c.args.tag c.self.invariant refl
    (same_after old new 0 c.args.tag (λ (answer : Unit {0}). AddsEntry old new c.args.tag (Kind.Trim c.args.row))
    c.trim.result
    (λ (answer : Unit {0}) (adds : AddsEntry old new c.args.tag (Kind.Trim c.args.row)). same_drive old new 0 c.args.tag
    adds.same_drive) (if_ok (AddsEntry old new c.args.tag (Kind.Trim c.args.row)) c.trim.result c.trim.ensures.ok)
    c.trim.ensures.err)

pub returns-clause-made : goal.returns-clause-made
returns-clause-made g c =
    let old : ChannelState = c.self.inside.channel.kept in
    let new : ChannelState = c.trim.new.self.kept in
    let told : Option PolicyView = g.P.Policy.told c.self.inside.channel.policy in
    let tells : Option PolicyView = g.P.Policy.told c.trim.new.self.policy in
    let contents : List (Tag × List ℕ) = g.J.Contents.contents in
    let was : TracedState = record { channel = old; told = told; start = c.self.inside.beginning } in
    let after : TracedState = record { channel = new; told = tells; start = c.self.inside.beginning } in
    trim_of was c.args.self.now after c.self.view_is contents c.args.tag c.self.invariant refl c.args.row c.trim.result
    (step_made old new 0 c.args.tag HasStepRoom (MakesTrim c.args.tag c.args.row)
    (λ (answer : Unit {0}). AddsEntry old new c.args.tag (Kind.Trim c.args.row)) c.trim.result
    (step_room old new 0 c.args.tag c.trim.result c.keeps_looks.ensures c.trim.ensures.room)
    (λ (answer : Unit {0}) (adds : AddsEntry old new c.args.tag (Kind.Trim c.args.row)). adds.past_is) (if_ok (AddsEntry old
    new c.args.tag (Kind.Trim c.args.row)) c.trim.result c.trim.ensures.ok) c.trim.ensures.err)

pub returns-clause-goes_on : goal.returns-clause-goes_on
returns-clause-goes_on g c =
    let old : ChannelState = c.self.inside.channel.kept in
    let new : ChannelState = c.trim.new.self.kept in
    let told : Option PolicyView = g.P.Policy.told c.self.inside.channel.policy in
    let tells : Option PolicyView = g.P.Policy.told c.trim.new.self.policy in
    let contents : List (Tag × List ℕ) = g.J.Contents.contents in
    let was : TracedState = record { channel = old; told = told; start = c.self.inside.beginning } in
    let after : TracedState = record { channel = new; told = tells; start = c.self.inside.beginning } in
    goes_on_of was c.args.self.now after c.self.view_is contents c.args.tag c.self.invariant refl
    (goes_on_alone old new 0 c.args.tag told tells (keeps_view old new 0 c.args.tag told tells c.trim.ensures.stands
    c.trim.ensures.view))
