use Rattle.std.proofs.Common.{ℕ, Option, None}
use Rattle.chan_calls.proofs.AloneHosts.{write_keeps, write_makes, writes_on}
use Rattle.chan_calls.proofs.AloneSteps.{counts_err, same_after, step_made, step_room}
use Rattle.chan_calls.specs.Alone.{view_of_lent}
use Rattle.chan_calls.specs.Caller.{HasStepRoom}
use Rattle.chan_calls.specs.Stepping.{MakesWrite, OfEachBase}
use Rattle.chan_state.specs.ChannelState.{ChannelState, StandsFor}
use Rattle.chan_state.specs.Writing.{Writes, fault_of_write}
use Rattle.chan_state.specs.declared.answers.WriteAnswer.{WriteAnswer}
use Rattle.ssd_geo.specs.declared.policy_view.PolicyView.{PolicyView}
use Rattle.chan_calls.proofs.alone.AloneSteps.write.Goals as goal

pub returns-clause-same : goal.returns-clause-same
returns-clause-same g c =
    let old : ChannelState = c.args.self.now.channel.now.kept in
    let new : ChannelState = c.write.new.self.kept in
    let lent : ℕ = c.args.self.now.channel.ghost_name in
    same_after old new lent c.args.tag (λ (answer : WriteAnswer). Writes old new c.args.tag c.args.row answer) c.write.result
    (write_keeps old new None lent c.args.tag c.args.row) c.write.ensures.ok (counts_err old new lent c.args.tag fault_of_write c.write.result
    c.write.ensures.faults)

pub returns-clause-made : goal.returns-clause-made
returns-clause-made g c =
    let old : ChannelState = c.args.self.now.channel.now.kept in
    let new : ChannelState = c.write.new.self.kept in
    let lent : ℕ = c.args.self.now.channel.ghost_name in
    let was : Option PolicyView = g.P.Policy.told c.args.self.now.channel.now.policy in
    let now : Option PolicyView = g.P.Policy.told c.write.new.self.policy in
    step_made old new lent c.args.tag HasStepRoom (MakesWrite (OfEachBase (view_of_lent old lent) (StandsFor old was)) c.args.tag c.args.row)
    (λ (answer : WriteAnswer). Writes old new c.args.tag c.args.row answer) c.write.result
    (step_room old new lent c.args.tag c.write.result c.keeps_looks.ensures c.write.ensures.room)
    (write_makes old new was lent c.args.tag c.args.row) c.write.ensures.ok (counts_err old new lent c.args.tag fault_of_write c.write.result
    c.write.ensures.faults)

pub returns-clause-goes_on : goal.returns-clause-goes_on
returns-clause-goes_on g c =
    let old : ChannelState = c.args.self.now.channel.now.kept in
    let new : ChannelState = c.write.new.self.kept in
    let lent : ℕ = c.args.self.now.channel.ghost_name in
    let was : Option PolicyView = g.P.Policy.told c.args.self.now.channel.now.policy in
    let now : Option PolicyView = g.P.Policy.told c.write.new.self.policy in
    writes_on old new was lent c.args.tag now c.args.row c.args.word.now c.write.ensures.stands
    c.write.ensures.view
