use Rattle.std.proofs.Common.{ℕ, Option, None}
use Rattle.chan_calls.proofs.AloneHosts.{age_keeps, age_makes}
use Rattle.chan_calls.proofs.AloneSteps.{counts_err, goes_on_alone, keeps_view, same_after, step_made, step_room}
use Rattle.chan_calls.specs.Caller.{HasStepRoom}
use Rattle.chan_calls.specs.Stepping.{MakesAge}
use Rattle.chan_state.specs.ChannelState.{ChannelState}
use Rattle.chan_state.specs.Steps.{Ages, fault_of_age}
use Rattle.chan_state.specs.declared.answers.AgeAnswer.{AgeAnswer}
use Rattle.ssd_geo.specs.declared.policy_view.PolicyView.{PolicyView}
use Rattle.chan_calls.proofs.alone.AloneSteps.age.Goals as goal

pub returns-clause-same : goal.returns-clause-same
returns-clause-same g c =
    let old : ChannelState = c.args.self.now.channel.now.kept in
    let new : ChannelState = c.age.new.self.kept in
    let lent : ℕ = c.args.self.now.channel.ghost_name in
    same_after old new lent c.args.tag (λ (answer : AgeAnswer). Ages old new c.args.tag c.args.die c.args.sb c.args.amount answer) c.age.result
    (age_keeps old new None lent c.args.tag c.args.die c.args.sb c.args.amount) c.age.ensures.ok (counts_err old new lent c.args.tag fault_of_age c.age.result
    c.age.ensures.faults)

pub returns-clause-made : goal.returns-clause-made
returns-clause-made g c =
    let old : ChannelState = c.args.self.now.channel.now.kept in
    let new : ChannelState = c.age.new.self.kept in
    let lent : ℕ = c.args.self.now.channel.ghost_name in
    step_made old new lent c.args.tag HasStepRoom (MakesAge c.args.tag c.args.die c.args.sb c.args.amount)
    (λ (answer : AgeAnswer). Ages old new c.args.tag c.args.die c.args.sb c.args.amount answer) c.age.result
    (step_room old new lent c.args.tag c.age.result c.keeps_looks.ensures c.age.ensures.room)
    (age_makes old new None lent c.args.tag c.args.die c.args.sb c.args.amount) c.age.ensures.ok (counts_err old new lent c.args.tag fault_of_age c.age.result
    c.age.ensures.faults)

pub returns-clause-goes_on : goal.returns-clause-goes_on
returns-clause-goes_on g c =
    let old : ChannelState = c.args.self.now.channel.now.kept in
    let new : ChannelState = c.age.new.self.kept in
    let lent : ℕ = c.args.self.now.channel.ghost_name in
    let was : Option PolicyView = g.P.Policy.told c.args.self.now.channel.now.policy in
    let now : Option PolicyView = g.P.Policy.told c.age.new.self.policy in
    goes_on_alone old new lent c.args.tag was now (keeps_view old new lent c.args.tag was now
    c.age.ensures.stands c.age.ensures.view)
