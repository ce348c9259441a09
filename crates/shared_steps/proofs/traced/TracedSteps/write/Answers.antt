use Rattle.std.proofs.Common.{ℕ, List, Option, None, refl, sym, subst}
use Rattle.chan_calls.proofs.AloneHosts.{write_keeps, write_makes, writes_on}
use Rattle.chan_calls.proofs.AloneSteps.{counts_err, is_of_standing, same_after, step_made, step_room}
use Rattle.chan_calls.specs.Alone.{view_of_lent}
use Rattle.chan_calls.specs.Caller.{HasStepRoom}
use Rattle.chan_calls.specs.Stepping.{MakesWrite, OfEachBase}
use Rattle.chan_state.specs.ChannelState.{ChannelState, StandsFor}
use Rattle.chan_state.specs.Steps.{IsWordOf}
use Rattle.chan_state.specs.Writing.{Writes, fault_of_write}
use Rattle.chan_state.specs.declared.answers.WriteAnswer.{WriteAnswer}
use Rattle.shared_steps.proofs.TracedSteps.{same_of, write_of, writes_on_of}
use Rattle.shared_steps.specs.Tracing.{TracedState}
use Rattle.ssd_geo.specs.declared.policy_view.PolicyView.{PolicyView}
use Rattle.ssd_geo.specs.declared.tag.Tag.{Tag}
use Rattle.shared_steps.proofs.traced.TracedSteps.write.Goals as goal

pub invariant_of-self : goal.invariant_of-self
invariant_of-self g c =
    let old : ChannelState = c.self.inside.channel.kept in
    let new : ChannelState = c.write.new.self.kept in
    let told : Option PolicyView = g.P.Policy.told c.self.inside.channel.policy in
    let tells : Option PolicyView = g.P.Policy.told c.write.new.self.policy in
    let contents : List (Tag × List ℕ) = g.J.Contents.contents in
    let was : TracedState = record { channel = old; told = told; start = c.self.inside.beginning } in
    let after : TracedState = record { channel = new; told = tells; start = c.self.inside.beginning } in
    let is_word : IsWordOf was.start contents c.args.tag c.args.row c.args.word.now =
    subst (λ (traced : TracedState). IsWordOf traced.start contents c.args.tag c.args.row c.args.word.now) (sym
    c.self.view_is) c.requires.of_call in
    ((writes_on old new told 0 c.args.tag tells c.args.row c.args.word.now c.write.ensures.stands c.write.ensures.view)
    was.start contents
    (is_of_standing old 0 told was.start contents c.self.invariant) c.self.invariant is_word).1

pub returns-clause-same : goal.returns-clause-same
returns-clause-same g c =
    let old : ChannelState = c.self.inside.channel.kept in
    let new : ChannelState = c.write.new.self.kept in
    let told : Option PolicyView = g.P.Policy.told c.self.inside.channel.policy in
    let tells : Option PolicyView = g.P.Policy.told c.write.new.self.policy in
    let contents : List (Tag × List ℕ) = g.J.Contents.contents in
    let was : TracedState = record { channel = old; told = told; start = c.self.inside.beginning } in
    let after : TracedState = record { channel = new; told = tells; start = c.self.inside.beginning } in
    same_of was c.args.self.now after c.self.view_is contents c.args.tag c.self.invariant refl
    (same_after old new 0 c.args.tag (λ (answer : WriteAnswer). Writes old new c.args.tag c.args.row answer) c.write.result
    (write_keeps old new None 0 c.args.tag c.args.row) c.write.ensures.ok (counts_err old new 0 c.args.tag fault_of_write
    c.write.result c.write.ensures.faults))

pub returns-clause-made : goal.returns-clause-made
returns-clause-made g c =
    let old : ChannelState = c.self.inside.channel.kept in
    let new : ChannelState = c.write.new.self.kept in
    let told : Option PolicyView = g.P.Policy.told c.self.inside.channel.policy in
    let tells : Option PolicyView = g.P.Policy.told c.write.new.self.policy in
    let contents : List (Tag × List ℕ) = g.J.Contents.contents in
    let was : TracedState = record { channel = old; told = told; start = c.self.inside.beginning } in
    let after : TracedState = record { channel = new; told = tells; start = c.self.inside.beginning } in
    write_of was c.args.self.now after c.self.view_is contents c.args.tag c.self.invariant refl c.args.row c.write.result
    (step_made old new 0 c.args.tag HasStepRoom (MakesWrite (OfEachBase (view_of_lent old 0) (StandsFor old told)) c.args.tag
    c.args.row)
    (λ (answer : WriteAnswer). Writes old new c.args.tag c.args.row answer) c.write.result
    (step_room old new 0 c.args.tag c.write.result c.keeps_looks.ensures c.write.ensures.room)
    (write_makes old new told 0 c.args.tag c.args.row) c.write.ensures.ok (counts_err old new 0 c.args.tag fault_of_write
    c.write.result c.write.ensures.faults))

pub returns-clause-goes_on : goal.returns-clause-goes_on
returns-clause-goes_on g c =
    let old : ChannelState = c.self.inside.channel.kept in
    let new : ChannelState = c.write.new.self.kept in
    let told : Option PolicyView = g.P.Policy.told c.self.inside.channel.policy in
    let tells : Option PolicyView = g.P.Policy.told c.write.new.self.policy in
    let contents : List (Tag × List ℕ) = g.J.Contents.contents in
    let was : TracedState = record { channel = old; told = told; start = c.self.inside.beginning } in
    let after : TracedState = record { channel = new; told = tells; start = c.self.inside.beginning } in
    writes_on_of was c.args.self.now after c.self.view_is contents c.args.tag c.self.invariant refl c.args.row c.args.word.now
    (writes_on old new told 0 c.args.tag tells c.args.row c.args.word.now c.write.ensures.stands c.write.ensures.view)
