use Rattle.std.proofs.Common.{◌≡◌, ℕ, List, refl}
use Rattle.shared_steps.proofs.AddedEntries.{leave_adds}
use Rattle.shared_steps.proofs.SharedSteps.{after_is, at_most_one, may_leave, owns, served_by, turn_with}
use Rattle.shared_steps.proofs.TurnSteps.{leaves_shared}
use Rattle.shared_steps.specs.Sharing.{IsTurnOf, pass_held}
use Rattle.shared_steps.specs.Tracing.{TracedState, stands_just_for, view_of_traced}
use Rattle.ssd_geo.specs.declared.tag.Tag.{Tag}
use Rattle.ssd_histories.specs.History.{history_of}
use Rattle.ssd_histories.specs.Start.{Start}
use Rattle.turn_table.specs.Passes.{LockState, PassState, TurnState, having_seen, with_value}
use Rattle.shared_steps.proofs.shared.SharedSteps.leave.Goals as goal

pub leave-requires : goal.leave-requires
leave-requires g c =
    let lock : LockState Start = c.args.self.now.turns.now in
    let contents : List (Tag × List ℕ) = g.J.Contents.contents in
    let pass : PassState = pass_held lock.lock c.args.self.now.pass in
    let found : TracedState = c.value.result.now in
    let turn : TurnState TracedState = with_value c.enter-turn.result found in
    let is : IsTurnOf lock contents pass turn =
    turn_with lock contents pass c.enter-turn.result found c.value.ensures.value c.enter-turn.ensures in
    let number : c.args.tag.actor ≡ pass.number = served_by pass.number c.args.tag.actor is.has_number c.requires.actor in
    record {
      actor = tt;
      «open» = owns lock contents pass turn is c.args.tag number c.args.at c.requires.open;
      may = may_leave lock contents pass turn is c.args.tag number c.args.at c.requires.open c.requires.may;
    }

pub give-requires-clause-list : goal.give-requires-clause-list
give-requires-clause-list g c =
    let lock : LockState Start = c.args.self.now.turns.now in
    let contents : List (Tag × List ℕ) = g.J.Contents.contents in
    let pass : PassState = pass_held lock.lock c.args.self.now.pass in
    let found : TracedState = c.value.result.now in
    let turn : TurnState TracedState = with_value c.enter-turn.result found in
    let is : IsTurnOf lock contents pass turn =
    turn_with lock contents pass c.enter-turn.result found c.value.ensures.value c.enter-turn.ensures in
    let number : c.args.tag.actor ≡ pass.number = served_by pass.number c.args.tag.actor is.has_number c.requires.actor in
    let traced : TracedState = c.leave.new.self in
    at_most_one pass turn.pass c.args.tag found.channel.past traced.channel.past is.pass_is number
    (leave_adds c.args.tag (view_of_traced found contents) (view_of_traced traced contents) refl
    (stands_just_for found.start contents) (stands_just_for traced.start contents)
    c.args.at c.leave.ensures.made)

pub returns-clause-made : goal.returns-clause-made
returns-clause-made g c =
    let lock : LockState Start = c.args.self.now.turns.now in
    let contents : List (Tag × List ℕ) = g.J.Contents.contents in
    let pass : PassState = pass_held lock.lock c.args.self.now.pass in
    let found : TracedState = c.value.result.now in
    let turn : TurnState TracedState = with_value c.enter-turn.result found in
    let is : IsTurnOf lock contents pass turn =
    turn_with lock contents pass c.enter-turn.result found c.value.ensures.value c.enter-turn.ensures in
    let number : c.args.tag.actor ≡ pass.number = served_by pass.number c.args.tag.actor is.has_number c.requires.actor in
    let traced : TracedState = c.leave.new.self in
    let seen : c.give.result ≡ having_seen pass (history_of traced.channel.past) =
    after_is pass turn.pass c.give.result found.channel.past traced.channel.past is.pass_is c.give.ensures in
    leaves_shared lock contents pass c.give.result turn traced is c.args.tag number seen c.args.at c.requires.open
    c.leave.ensures.made
