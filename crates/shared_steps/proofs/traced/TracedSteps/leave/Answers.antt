use Rattle.std.proofs.Common.{◌≡◌, ℕ, List, Option, None, refl, sym, subst}
use Rattle.chan_calls.proofs.AloneHosts.{leaves_alone}
use Rattle.chan_calls.proofs.AloneSteps.{is_of_standing, same_drive}
use Rattle.chan_calls.specs.Caller.{IsOwn}
use Rattle.chan_state.specs.ChannelState.{ChannelState}
use Rattle.shared_steps.proofs.TracedSteps.{leaves_of, same_of}
use Rattle.shared_steps.specs.Tracing.{TracedState, view_of_traced}
use Rattle.ssd_geo.specs.Coding.{coding_of}
use Rattle.ssd_geo.specs.Ladder.{has_answer}
use Rattle.ssd_geo.specs.declared.policy_view.PolicyView.{PolicyView}
use Rattle.ssd_geo.specs.declared.tag.Tag.{Tag}
use Rattle.ssd_histories.specs.Lawful.{has_fault_sense}
use Rattle.ssd_histories.specs.PastPages.{ladder_of}
use Rattle.std.specs.Prelude.{IsTrue, ◌||◌}
use Rattle.shared_steps.proofs.traced.TracedSteps.leave.Goals as goal

pub invariant_of-self : goal.invariant_of-self
invariant_of-self g c =
    let old : ChannelState = c.self.inside.channel.kept in
    let new : ChannelState = c.leave.new.self.kept in
    let told : Option PolicyView = g.P.Policy.told c.self.inside.channel.policy in
    let tells : Option PolicyView = g.P.Policy.told c.leave.new.self.policy in
    let contents : List (Tag × List ℕ) = g.J.Contents.contents in
    let was : TracedState = record { channel = old; told = told; start = c.self.inside.beginning } in
    let after : TracedState = record { channel = new; told = tells; start = c.self.inside.beginning } in
    ((leaves_alone old new told 0 c.args.tag tells c.args.at c.leave.ensures.entry c.leave.ensures.stands
    c.leave.ensures.view).goes_on was.start contents
    (is_of_standing old 0 told was.start contents c.self.invariant) c.self.invariant (subst (λ (traced : TracedState). IsTrue
    (has_answer (ladder_of (coding_of traced.start.base) traced.start contents traced.channel.past c.args.at)
    || has_fault_sense traced.channel.past c.args.at)) (sym c.self.view_is) c.requires.may)).2

pub returns-clause-same : goal.returns-clause-same
returns-clause-same g c =
    let old : ChannelState = c.self.inside.channel.kept in
    let new : ChannelState = c.leave.new.self.kept in
    let told : Option PolicyView = g.P.Policy.told c.self.inside.channel.policy in
    let tells : Option PolicyView = g.P.Policy.told c.leave.new.self.policy in
    let contents : List (Tag × List ℕ) = g.J.Contents.contents in
    let was : TracedState = record { channel = old; told = told; start = c.self.inside.beginning } in
    let after : TracedState = record { channel = new; told = tells; start = c.self.inside.beginning } in
    same_of was c.args.self.now after c.self.view_is contents c.args.tag c.self.invariant refl
    (same_drive old new 0 c.args.tag c.leave.ensures.entry.same_drive)

pub returns-clause-made : goal.returns-clause-made
returns-clause-made g c =
    let old : ChannelState = c.self.inside.channel.kept in
    let new : ChannelState = c.leave.new.self.kept in
    let told : Option PolicyView = g.P.Policy.told c.self.inside.channel.policy in
    let tells : Option PolicyView = g.P.Policy.told c.leave.new.self.policy in
    let contents : List (Tag × List ℕ) = g.J.Contents.contents in
    let was : TracedState = record { channel = old; told = told; start = c.self.inside.beginning } in
    let after : TracedState = record { channel = new; told = tells; start = c.self.inside.beginning } in
    leaves_of was c.args.self.now after c.self.view_is contents c.args.tag c.self.invariant refl
    c.args.at
    (subst (λ (traced : TracedState). IsOwn (view_of_traced traced contents) c.args.tag c.args.at) (sym c.self.view_is)
    c.requires.open)
    (leaves_alone old new told 0 c.args.tag tells c.args.at c.leave.ensures.entry c.leave.ensures.stands c.leave.ensures.view)
