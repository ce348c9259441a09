use Rattle.std.proofs.Common.{ℕ, List, Option, None, refl}
use Rattle.chan_calls.proofs.AloneHosts.{age_keeps, age_makes}
use Rattle.chan_calls.proofs.AloneSteps.{counts_err, goes_on_alone, keeps_view, same_after, step_made, step_room}
use Rattle.chan_calls.specs.Caller.{HasStepRoom}
use Rattle.chan_calls.specs.Stepping.{MakesAge}
use Rattle.chan_state.specs.ChannelState.{ChannelState}
use Rattle.chan_state.specs.Steps.{Ages, fault_of_age}
use Rattle.chan_state.specs.declared.answers.AgeAnswer.{AgeAnswer}
use Rattle.shared_steps.proofs.TracedSteps.{age_of, goes_on_of, same_of}
use Rattle.shared_steps.specs.Tracing.{TracedState}
use Rattle.ssd_geo.specs.declared.policy_view.PolicyView.{PolicyView}
use Rattle.ssd_geo.specs.declared.tag.Tag.{Tag}
use Rattle.shared_steps.proofs.traced.TracedSteps.age.Goals as goal

pub invariant_of-self : goal.invariant_of-self
invariant_of-self g c =
    let old : ChannelState = c.self.inside.channel.kept in
    let new : ChannelState = c.age.new.self.kept in
    let told : Option PolicyView = g.P.Policy.told c.self.inside.channel.policy in
    let tells : Option PolicyView = g.P.Policy.told c.age.new.self.policy in
    let contents : List (Tag × List ℕ) = g.J.Contents.contents in
    let was : TracedState = record { channel = old; told = told; start = c.self.inside.beginning } in
    let after : TracedState = record { channel = new; told = tells; start = c.self.inside.beginning } in
    keeps_view old new 0 c.args.tag told tells c.age.ensures.stands c.age.ensures.view c.self.inside.beginning contents
    c.self.invariant

pub returns-clause-same : goal.returns-clause-same
returns-clause-same g c =
    let old : ChannelState = c.self.inside.channel.kept in
    let new : ChannelState = c.age.new.self.kept in
    let told : Option PolicyView = g.P.Policy.told c.self.inside.channel.policy in
    let tells : Option PolicyView = g.P.Policy.told c.age.new.self.policy in
    let contents : List (Tag × List ℕ) = g.J.Contents.contents in
    let was : TracedState = record { channel = old; told = told; start = c.self.inside.beginning } in
    let after : TracedState = record { channel = new; told = tells; start = c.self.inside.beginning } in
    same_of was c.args.self.now after c.self.view_is contents c.args.tag c.self.invariant refl
    (same_after old new 0 c.args.tag (λ (answer : AgeAnswer). Ages old new c.args.tag c.args.die c.args.sb c.args.amount
    answer) c.age.result
    (age_keeps old new None 0 c.args.tag c.args.die c.args.sb c.args.amount) c.age.ensures.ok (counts_err old new 0
    c.args.tag fault_of_age c.age.result c.age.ensures.faults))

pub returns-clause-made : goal.returns-clause-made
returns-clause-made g c =
    let old : ChannelState = c.self.inside.channel.kept in
    let new : ChannelState = c.age.new.self.kept in
    let told : Option PolicyView = g.P.Policy.told c.self.inside.channel.policy in
    let tells : Option PolicyView = g.P.Policy.told c.age.new.self.policy in
    let contents : List (Tag × List ℕ) = g.J.Contents.contents in
    let was : TracedState = record { channel = old; told = told; start = c.self.inside.beginning } in
    let after : TracedState = record { channel = new; told = tells; start = c.self.inside.beginning } in
    age_of was c.args.self.now after c.self.view_is contents c.args.tag c.self.invariant refl c.args.die c.args.sb
    c.args.amount c.age.result
    (step_made old new 0 c.args.tag HasStepRoom (MakesAge c.args.tag c.args.die c.args.sb c.args.amount)
    (λ (answer : AgeAnswer). Ages old new c.args.tag c.args.die c.args.sb c.args.amount answer) c.age.result
    (step_room old new 0 c.args.tag c.age.result c.keeps_looks.ensures c.age.ensures.room)
    (age_makes old new None 0 c.args.tag c.args.die c.args.sb c.args.amount) c.age.ensures.ok (counts_err old new 0
    c.args.tag fault_of_age c.age.result c.age.ensures.faults))

pub returns-clause-goes_on : goal.returns-clause-goes_on
returns-clause-goes_on g c =
    let old : ChannelState = c.self.inside.channel.kept in
    let new : ChannelState = c.age.new.self.kept in
    let told : Option PolicyView = g.P.Policy.told c.self.inside.channel.policy in
    let tells : Option PolicyView = g.P.Policy.told c.age.new.self.policy in
    let contents : List (Tag × List ℕ) = g.J.Contents.contents in
    let was : TracedState = record { channel = old; told = told; start = c.self.inside.beginning } in
    let after : TracedState = record { channel = new; told = tells; start = c.self.inside.beginning } in
    goes_on_of was c.args.self.now after c.self.view_is contents c.args.tag c.self.invariant refl
    (goes_on_alone old new 0 c.args.tag told tells (keeps_view old new 0 c.args.tag told tells c.age.ensures.stands
    c.age.ensures.view))
