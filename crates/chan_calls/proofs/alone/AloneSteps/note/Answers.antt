use Rattle.std.proofs.Common.{ℕ, Option, None}
use Rattle.chan_calls.proofs.AloneCollects.{note_keeps, note_makes}
use Rattle.chan_calls.proofs.AloneSteps.{goes_on_alone, keeps_view, same_after, step_made, step_room}
use Rattle.chan_calls.specs.Caller.{HasStepRoom}
use Rattle.chan_calls.specs.Collecting.{MakesNote}
use Rattle.chan_state.specs.ChannelState.{ChannelState}
use Rattle.chan_state.specs.Noting.{Notes}
use Rattle.chan_tables.specs.declared.answers.Note.{Note}
use Rattle.ssd_geo.specs.declared.policy_view.PolicyView.{PolicyView}
use Rattle.chan_calls.proofs.alone.AloneSteps.note.Goals as goal

pub returns-clause-same : goal.returns-clause-same
returns-clause-same g c =
    let old : ChannelState = c.args.self.now.channel.now.kept in
    let new : ChannelState = c.note.new.self.kept in
    let lent : ℕ = c.args.self.now.channel.ghost_name in
    same_after old new lent c.args.tag (λ (note : Note). Notes old new c.args.tag note) c.note.result
    (note_keeps old new None lent c.args.tag) c.note.ensures.ok c.note.ensures.err

pub returns-clause-made : goal.returns-clause-made
returns-clause-made g c =
    let old : ChannelState = c.args.self.now.channel.now.kept in
    let new : ChannelState = c.note.new.self.kept in
    let lent : ℕ = c.args.self.now.channel.ghost_name in
    step_made old new lent c.args.tag HasStepRoom (MakesNote c.args.tag)
    (λ (note : Note). Notes old new c.args.tag note) c.note.result
    (step_room old new lent c.args.tag c.note.result c.keeps_looks.ensures c.note.ensures.room)
    (note_makes old new None lent c.args.tag) c.note.ensures.ok c.note.ensures.err

pub returns-clause-goes_on : goal.returns-clause-goes_on
returns-clause-goes_on g c =
    let old : ChannelState = c.args.self.now.channel.now.kept in
    let new : ChannelState = c.note.new.self.kept in
    let lent : ℕ = c.args.self.now.channel.ghost_name in
    let was : Option PolicyView = g.P.Policy.told c.args.self.now.channel.now.policy in
    let now : Option PolicyView = g.P.Policy.told c.note.new.self.policy in
    goes_on_alone old new lent c.args.tag was now (keeps_view old new lent c.args.tag was now
    c.note.ensures.stands c.note.ensures.view)
