use Rattle.std.proofs.Common.{ℕ, Option, None}
use Rattle.chan_calls.proofs.AloneCollects.{erase_keeps, erase_makes}
use Rattle.chan_calls.proofs.AloneSteps.{counts_err, goes_on_alone, same_after, step_made, step_room}
use Rattle.chan_calls.specs.Alone.{view_of_lent}
use Rattle.chan_calls.specs.Caller.{HasStepRoom}
use Rattle.chan_calls.specs.Collecting.{MakesErase}
use Rattle.chan_calls.specs.Stepping.{OfEachBase}
use Rattle.chan_state.specs.ChannelState.{ChannelState, StandsFor}
use Rattle.chan_state.specs.Collecting.{Erases, fault_of_erase}
use Rattle.chan_state.specs.declared.answers.EraseAnswer.{EraseAnswer}
use Rattle.ssd_geo.specs.declared.policy_view.PolicyView.{PolicyView}
use Rattle.chan_calls.proofs.alone.AloneSteps.erase_if.Goals as goal

pub returns-clause-same : goal.returns-clause-same
returns-clause-same g c =
    let old : ChannelState = c.args.self.now.channel.now.kept in
    let new : ChannelState = c.erase_if.new.self.kept in
    let lent : ℕ = c.args.self.now.channel.ghost_name in
    same_after old new lent c.args.tag (λ (answer : EraseAnswer). Erases old new c.args.tag c.args.sb answer) c.erase_if.result
    (erase_keeps old new None lent c.args.tag c.args.sb) c.erase_if.ensures.ok (counts_err old new lent c.args.tag fault_of_erase c.erase_if.result
    c.erase_if.ensures.faults)

pub returns-clause-made : goal.returns-clause-made
returns-clause-made g c =
    let old : ChannelState = c.args.self.now.channel.now.kept in
    let new : ChannelState = c.erase_if.new.self.kept in
    let lent : ℕ = c.args.self.now.channel.ghost_name in
    let was : Option PolicyView = g.P.Policy.told c.args.self.now.channel.now.policy in
    let now : Option PolicyView = g.P.Policy.told c.erase_if.new.self.policy in
    step_made old new lent c.args.tag HasStepRoom (MakesErase (OfEachBase (view_of_lent old lent) (StandsFor old was)) c.args.tag c.args.sb)
    (λ (answer : EraseAnswer). Erases old new c.args.tag c.args.sb answer) c.erase_if.result
    (step_room old new lent c.args.tag c.erase_if.result c.keeps_looks.ensures c.erase_if.ensures.room)
    (erase_makes old new was lent c.args.tag c.args.sb) c.erase_if.ensures.ok (counts_err old new lent c.args.tag fault_of_erase c.erase_if.result
    c.erase_if.ensures.faults)

pub returns-clause-goes_on : goal.returns-clause-goes_on
returns-clause-goes_on g c =
    let old : ChannelState = c.args.self.now.channel.now.kept in
    let new : ChannelState = c.erase_if.new.self.kept in
    let lent : ℕ = c.args.self.now.channel.ghost_name in
    let was : Option PolicyView = g.P.Policy.told c.args.self.now.channel.now.policy in
    let now : Option PolicyView = g.P.Policy.told c.erase_if.new.self.policy in
    goes_on_alone old new lent c.args.tag was now c.erase_if.ensures.stands
