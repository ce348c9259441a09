use Rattle.std.proofs.Common.{◌≡◌, ℕ, List, Option, None, refl, sym, subst}
use Rattle.chan_calls.proofs.AloneCollects.{condemns_alone}
use Rattle.chan_calls.proofs.AloneSteps.{is_of_standing, same_drive}
use Rattle.chan_calls.specs.Caller.{IsOwn}
use Rattle.chan_state.specs.ChannelState.{ChannelState}
use Rattle.shared_steps.proofs.TracedSteps.{condemns_of, same_of}
use Rattle.shared_steps.specs.Tracing.{TracedState, view_of_traced}
use Rattle.ssd_geo.specs.Coding.{coding_of}
use Rattle.ssd_geo.specs.Ladder.{uncorrectable}
use Rattle.ssd_geo.specs.declared.policy_view.PolicyView.{PolicyView}
use Rattle.ssd_geo.specs.declared.tag.Tag.{Tag}
use Rattle.ssd_histories.specs.PastPages.{ladder_of}
use Rattle.shared_steps.proofs.traced.TracedSteps.condemn_if.Goals as goal

pub invariant_of-self : goal.invariant_of-self
invariant_of-self g c =
    let old : ChannelState = c.self.inside.channel.kept in
    let new : ChannelState = c.condemn_if.new.self.kept in
    let told : Option PolicyView = g.P.Policy.told c.self.inside.channel.policy in
    let tells : Option PolicyView = g.P.Policy.told c.condemn_if.new.self.policy in
    let contents : List (Tag × List ℕ) = g.J.Contents.contents in
    let was : TracedState = record { channel = old; told = told; start = c.self.inside.beginning } in
    let after : TracedState = record { channel = new; told = tells; start = c.self.inside.beginning } in
    ((condemns_alone old new told 0 c.args.tag tells c.args.at c.condemn_if.result c.condemn_if.ensures.entry
    c.condemn_if.ensures.stands c.condemn_if.ensures.view).goes_on was.start contents
    (is_of_standing old 0 told was.start contents c.self.invariant) c.self.invariant (subst (λ (traced : TracedState).
    ladder_of (coding_of traced.start.base) traced.start contents traced.channel.past c.args.at ≡ uncorrectable)
    (sym c.self.view_is) c.requires.uncorrectable)).2

pub returns-clause-same : goal.returns-clause-same
returns-clause-same g c =
    let old : ChannelState = c.self.inside.channel.kept in
    let new : ChannelState = c.condemn_if.new.self.kept in
    let told : Option PolicyView = g.P.Policy.told c.self.inside.channel.policy in
    let tells : Option PolicyView = g.P.Policy.told c.condemn_if.new.self.policy in
    let contents : List (Tag × List ℕ) = g.J.Contents.contents in
    let was : TracedState = record { channel = old; told = told; start = c.self.inside.beginning } in
    let after : TracedState = record { channel = new; told = tells; start = c.self.inside.beginning } in
    same_of was c.args.self.now after c.self.view_is contents c.args.tag c.self.invariant refl
    (same_drive old new 0 c.args.tag c.condemn_if.ensures.entry.same_drive)

pub returns-clause-made : goal.returns-clause-made
returns-clause-made g c =
    let old : ChannelState = c.self.inside.channel.kept in
    let new : ChannelState = c.condemn_if.new.self.kept in
    let told : Option PolicyView = g.P.Policy.told c.self.inside.channel.policy in
    let tells : Option PolicyView = g.P.Policy.told c.condemn_if.new.self.policy in
    let contents : List (Tag × List ℕ) = g.J.Contents.contents in
    let was : TracedState = record { channel = old; told = told; start = c.self.inside.beginning } in
    let after : TracedState = record { channel = new; told = tells; start = c.self.inside.beginning } in
    condemns_of was c.args.self.now after c.self.view_is contents c.args.tag c.self.invariant refl
    c.args.at c.condemn_if.result
    (subst (λ (traced : TracedState). IsOwn (view_of_traced traced contents) c.args.tag c.args.at) (sym c.self.view_is)
    c.requires.may.is_open)
    (condemns_alone old new told 0 c.args.tag tells c.args.at c.condemn_if.result c.condemn_if.ensures.entry
    c.condemn_if.ensures.stands c.condemn_if.ensures.view)
