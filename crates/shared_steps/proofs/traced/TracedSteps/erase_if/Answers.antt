use Rattle.std.proofs.Common.{ℕ, List, Option, None, refl}
use Rattle.chan_calls.proofs.AloneCollects.{erase_keeps, erase_makes}
use Rattle.chan_calls.proofs.AloneSteps.{counts_err, goes_on_alone, same_after, step_made, step_room}
use Rattle.chan_calls.specs.Alone.{view_of_lent}
use Rattle.chan_calls.specs.Caller.{HasStepRoom}
use Rattle.chan_calls.specs.Collecting.{MakesErase}
use Rattle.chan_calls.specs.Stepping.{OfEachBase}
use Rattle.chan_state.specs.ChannelState.{ChannelState, StandsFor}
use Rattle.chan_state.specs.Collecting.{Erases, fault_of_erase}
use Rattle.chan_state.specs.declared.answers.EraseAnswer.{EraseAnswer}
use Rattle.shared_steps.proofs.TracedSteps.{erase_of, goes_on_of, same_of}
use Rattle.shared_steps.specs.Tracing.{TracedState}
use Rattle.ssd_geo.specs.declared.policy_view.PolicyView.{PolicyView}
use Rattle.ssd_geo.specs.declared.tag.Tag.{Tag}
use Rattle.shared_steps.proofs.traced.TracedSteps.erase_if.Goals as goal

pub invariant_of-self : goal.invariant_of-self
invariant_of-self g c =
    let old : ChannelState = c.self.inside.channel.kept in
    let new : ChannelState = c.erase_if.new.self.kept in
    let told : Option PolicyView = g.P.Policy.told c.self.inside.channel.policy in
    let tells : Option PolicyView = g.P.Policy.told c.erase_if.new.self.policy in
    let contents : List (Tag × List ℕ) = g.J.Contents.contents in
    let was : TracedState = record { channel = old; told = told; start = c.self.inside.beginning } in
    let after : TracedState = record { channel = new; told = tells; start = c.self.inside.beginning } in
    c.erase_if.ensures.stands c.self.inside.beginning contents c.self.invariant

pub returns-clause-same : goal.returns-clause-same
returns-clause-same g c =
    let old : ChannelState = c.self.inside.channel.kept in
    let new : ChannelState = c.erase_if.new.self.kept in
    let told : Option PolicyView = g.P.Policy.told c.self.inside.channel.policy in
    let tells : Option PolicyView = g.P.Policy.told c.erase_if.new.self.policy in
    let contents : List (Tag × List ℕ) = g.J.Contents.contents in
    let was : TracedState = record { channel = old; told = told; start = c.self.inside.beginning } in
    let after : TracedState = record { channel = new; told = tells; start = c.self.inside.beginning } in
    same_of was c.args.self.now after c.self.view_is contents c.args.tag c.self.invariant refl
    (same_after old new 0 c.args.tag (λ (answer : EraseAnswer). Erases old new c.args.tag c.args.sb answer) c.erase_if.result
    (erase_keeps old new None 0 c.args.tag c.args.sb) c.erase_if.ensures.ok (counts_err old new 0 c.args.tag fault_of_erase
    c.erase_if.result c.erase_if.ensures.faults))

pub returns-clause-made : goal.returns-clause-made
returns-clause-made g c =
    let old : ChannelState = c.self.inside.channel.kept in
    let new : ChannelState = c.erase_if.new.self.kept in
    let told : Option PolicyView = g.P.Policy.told c.self.inside.channel.policy in
    let tells : Option PolicyView = g.P.Policy.told c.erase_if.new.self.policy in
    let contents : List (Tag × List ℕ) = g.J.Contents.contents in
    let was : TracedState = record { channel = old; told = told; start = c.self.inside.beginning } in
    let after : TracedState = record { channel = new; told = tells; start = c.self.inside.beginning } in
    erase_of was c.args.self.now after c.self.view_is contents c.args.tag c.self.invariant refl c.args.sb c.erase_if.result
    (step_made old new 0 c.args.tag HasStepRoom (MakesErase (OfEachBase (view_of_lent old 0) (StandsFor old told)) c.args.tag
    c.args.sb)
    (λ (answer : EraseAnswer). Erases old new c.args.tag c.args.sb answer) c.erase_if.result
    (step_room old new 0 c.args.tag c.erase_if.result c.keeps_looks.ensures c.erase_if.ensures.room)
    (erase_makes old new told 0 c.args.tag c.args.sb) c.erase_if.ensures.ok (counts_err old new 0 c.args.tag fault_of_erase
    c.erase_if.result c.erase_if.ensures.faults))

pub returns-clause-goes_on : goal.returns-clause-goes_on
returns-clause-goes_on g c =
    let old : ChannelState = c.self.inside.channel.kept in
    let new : ChannelState = c.erase_if.new.self.kept in
    let told : Option PolicyView = g.P.Policy.told c.self.inside.channel.policy in
    let tells : Option PolicyView = g.P.Policy.told c.erase_if.new.self.policy in
    let contents : List (Tag × List ℕ) = g.J.Contents.contents in
    let was : TracedState = record { channel = old; told = told; start = c.self.inside.beginning } in
    let after : TracedState = record { channel = new; told = tells; start = c.self.inside.beginning } in
    goes_on_of was c.args.self.now after c.self.view_is contents c.args.tag c.self.invariant refl
    (goes_on_alone old new 0 c.args.tag told tells (c.erase_if.ensures.stands))
