use Rattle.std.proofs.Common.{ℕ, Option}
use Rattle.chan_calls.proofs.AloneHosts.{if_ok}
use Rattle.chan_calls.proofs.AloneSteps.{goes_on_alone, keeps_view, same_after, same_drive, step_made, step_room}
use Rattle.chan_calls.specs.Caller.{HasStepRoom}
use Rattle.chan_calls.specs.Stepping.{MakesTrim}
use Rattle.chan_state.specs.ChannelState.{ChannelState}
use Rattle.chan_state.specs.Steps.{AddsEntry}
use Rattle.ssd_geo.specs.declared.kind.Kind.{Kind}
use Rattle.ssd_geo.specs.declared.policy_view.PolicyView.{PolicyView}
use Rattle.chan_calls.proofs.alone.AloneSteps.trim.Goals as goal

pub returns-clause-same : goal.returns-clause-same
returns-clause-same g c =
    let old : ChannelState = c.args.self.now.channel.now.kept in
    let new : ChannelState = c.trim.new.self.kept in
    let lent : ℕ = c.args.self.now.channel.ghost_name in
    same_after old new lent c.args.tag (λ (answer : Unit {0}). AddsEntry old new c.args.tag (Kind.Trim c.args.row)) c.trim.result
    (λ (answer : Unit {0}) (adds : AddsEntry old new c.args.tag (Kind.Trim c.args.row)).
    same_drive old new lent c.args.tag adds.same_drive) (if_ok (AddsEntry old new c.args.tag (Kind.Trim c.args.row)) c.trim.result
    c.trim.ensures.ok) c.trim.ensures.err

pub returns-clause-made : goal.returns-clause-made
returns-clause-made g c =
    let old : ChannelState = c.args.self.now.channel.now.kept in
    let new : ChannelState = c.trim.new.self.kept in
    let lent : ℕ = c.args.self.now.channel.ghost_name in
    step_made old new lent c.args.tag HasStepRoom (MakesTrim c.args.tag c.args.row)
    (λ (answer : Unit {0}). AddsEntry old new c.args.tag (Kind.Trim c.args.row)) c.trim.result
    (step_room old new lent c.args.tag c.trim.result c.keeps_looks.ensures c.trim.ensures.room)
    (λ (answer : Unit {0}) (adds : AddsEntry old new c.args.tag (Kind.Trim c.args.row)). adds.past_is) (if_ok (AddsEntry old new c.args.tag (Kind.Trim c.args.row)) c.trim.result
    c.trim.ensures.ok) c.trim.ensures.err

pub returns-clause-goes_on : goal.returns-clause-goes_on
returns-clause-goes_on g c =
    let old : ChannelState = c.args.self.now.channel.now.kept in
    let new : ChannelState = c.trim.new.self.kept in
    let lent : ℕ = c.args.self.now.channel.ghost_name in
    let was : Option PolicyView = g.P.Policy.told c.args.self.now.channel.now.policy in
    let now : Option PolicyView = g.P.Policy.told c.trim.new.self.policy in
    goes_on_alone old new lent c.args.tag was now (keeps_view old new lent c.args.tag was now
    c.trim.ensures.stands c.trim.ensures.view)
