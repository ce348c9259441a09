use Rattle.std.proofs.Common.{◌≡◌, ℕ, List, Option, None, FitsSigned, w16, refl, rules, sym, subst}
use Rattle.chan_calls.proofs.AloneHosts.{sense_keeps, senses_alone}
use Rattle.chan_calls.proofs.AloneSteps.{is_of_standing}
use Rattle.chan_calls.specs.Caller.{IsOwn}
use Rattle.chan_state.specs.ChannelState.{ChannelState}
use Rattle.shared_steps.proofs.TracedSteps.{same_of, senses_of}
use Rattle.shared_steps.specs.Tracing.{TracedState, view_of_traced}
use Rattle.ssd_geo.specs.Coding.{coding_of}
use Rattle.ssd_geo.specs.Ladder.{asks}
use Rattle.ssd_geo.specs.declared.policy_view.PolicyView.{PolicyView}
use Rattle.ssd_geo.specs.declared.tag.Tag.{Tag}
use Rattle.ssd_histories.specs.PastPages.{ladder_of}
use Rattle.std.proofs.lemmas.Int.{to_z-of_z}
use Rattle.shared_steps.proofs.traced.TracedSteps.sense.Goals as goal

pub invariant_of-self : goal.invariant_of-self
invariant_of-self g c =
    let old : ChannelState = c.self.inside.channel.kept in
    let new : ChannelState = c.sense.new.self.kept in
    let told : Option PolicyView = g.P.Policy.told c.self.inside.channel.policy in
    let tells : Option PolicyView = g.P.Policy.told c.sense.new.self.policy in
    let contents : List (Tag × List ℕ) = g.J.Contents.contents in
    let was : TracedState = record { channel = old; told = told; start = c.self.inside.beginning } in
    let after : TracedState = record { channel = new; told = tells; start = c.self.inside.beginning } in
    let fits : FitsSigned w16 c.args.level = search rules in
    ((senses_alone old new told 0 c.args.tag c.args.at c.args.place c.args.level c.args.out.now c.sense.new.out tells
    c.sense.result
    (simp to_z-of_z at c.sense.ensures.entry) (simp to_z-of_z at c.sense.ensures.bits) (simp to_z-of_z at
    c.sense.ensures.stands)
    c.sense.ensures.view).goes_on was.start contents
    (is_of_standing old 0 told was.start contents c.self.invariant) c.self.invariant (subst (λ (traced : TracedState).
    ladder_of (coding_of traced.start.base) traced.start contents traced.channel.past c.args.at
    ≡ asks c.args.place c.args.level) (sym c.self.view_is) c.requires.asked)).3

pub returns-clause-same : goal.returns-clause-same
returns-clause-same g c =
    let old : ChannelState = c.self.inside.channel.kept in
    let new : ChannelState = c.sense.new.self.kept in
    let told : Option PolicyView = g.P.Policy.told c.self.inside.channel.policy in
    let tells : Option PolicyView = g.P.Policy.told c.sense.new.self.policy in
    let contents : List (Tag × List ℕ) = g.J.Contents.contents in
    let was : TracedState = record { channel = old; told = told; start = c.self.inside.beginning } in
    let after : TracedState = record { channel = new; told = tells; start = c.self.inside.beginning } in
    let fits : FitsSigned w16 c.args.level = search rules in
    same_of was c.args.self.now after c.self.view_is contents c.args.tag c.self.invariant refl
    (sense_keeps old new None 0 c.args.tag c.args.at c.args.place c.args.level c.args.out.now c.sense.new.out c.sense.result
    (simp to_z-of_z at c.sense.ensures.entry))

pub returns-clause-made : goal.returns-clause-made
returns-clause-made g c =
    let old : ChannelState = c.self.inside.channel.kept in
    let new : ChannelState = c.sense.new.self.kept in
    let told : Option PolicyView = g.P.Policy.told c.self.inside.channel.policy in
    let tells : Option PolicyView = g.P.Policy.told c.sense.new.self.policy in
    let contents : List (Tag × List ℕ) = g.J.Contents.contents in
    let was : TracedState = record { channel = old; told = told; start = c.self.inside.beginning } in
    let after : TracedState = record { channel = new; told = tells; start = c.self.inside.beginning } in
    let fits : FitsSigned w16 c.args.level = search rules in
    senses_of was c.args.self.now after c.self.view_is contents c.args.tag c.self.invariant refl
    c.args.at c.args.place c.args.level c.args.out.now c.sense.new.out c.sense.result
    (subst (λ (traced : TracedState). IsOwn (view_of_traced traced contents) c.args.tag c.args.at) (sym c.self.view_is)
    c.requires.may.is_open)
    (senses_alone old new told 0 c.args.tag c.args.at c.args.place c.args.level c.args.out.now c.sense.new.out tells
    c.sense.result
    (simp to_z-of_z at c.sense.ensures.entry) (simp to_z-of_z at c.sense.ensures.bits) (simp to_z-of_z at
    c.sense.ensures.stands)
    c.sense.ensures.view)
