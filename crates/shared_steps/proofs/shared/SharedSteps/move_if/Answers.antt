use Rattle.std.proofs.Common.{◌≡◌, ℕ, List, refl, length}
use Rattle.chan_calls.specs.Moving.{IsRecoveredAs}
use Rattle.shared_steps.proofs.AddedEntries.{moves_add}
use Rattle.shared_steps.proofs.SharedSteps.{after_is, at_most_one, has_come, in_shape, may_move, served_by, turn_with}
use Rattle.shared_steps.proofs.TurnSteps.{moves_shared}
use Rattle.shared_steps.specs.Sharing.{IsTurnOf, pass_held}
use Rattle.shared_steps.specs.Tracing.{TracedState, stands_just_for, view_of_traced}
use Rattle.ssd_geo.specs.Coding.{word_bytes_in}
use Rattle.ssd_geo.specs.declared.shape.Shape.{Shape}
use Rattle.ssd_geo.specs.declared.tag.Tag.{Tag}
use Rattle.ssd_histories.specs.History.{history_of}
use Rattle.ssd_histories.specs.Start.{Start}
use Rattle.turn_table.specs.Passes.{LockState, PassState, TurnState, having_seen, with_value}
use Rattle.shared_steps.proofs.shared.SharedSteps.move_if.Goals as goal

pub move_if-answer-requires-clause-may : goal.move_if-answer-requires-clause-may
move_if-answer-requires-clause-may g c =
    let lock : LockState Start = c.args.self.now.turns.now in
    let contents : List (Tag × List ℕ) = g.J.Contents.contents in
    let pass : PassState = pass_held lock.lock c.args.self.now.pass in
    let found : TracedState = c.value.result.now in
    let turn : TurnState TracedState = with_value c.enter-turn.result found in
    let is : IsTurnOf lock contents pass turn =
    turn_with lock contents pass c.enter-turn.result found c.value.ensures.value c.enter-turn.ensures in
    let number : c.args.tag.actor ≡ pass.number = served_by pass.number c.args.tag.actor is.has_number c.requires.actor in
    may_move lock contents pass turn is c.args.tag number c.args.at c.requires.may

pub move_if-answer-requires-clause-word : goal.move_if-answer-requires-clause-word
move_if-answer-requires-clause-word g c =
    let lock : LockState Start = c.args.self.now.turns.now in
    let contents : List (Tag × List ℕ) = g.J.Contents.contents in
    let pass : PassState = pass_held lock.lock c.args.self.now.pass in
    let found : TracedState = c.value.result.now in
    let turn : TurnState TracedState = with_value c.enter-turn.result found in
    let is : IsTurnOf lock contents pass turn =
    turn_with lock contents pass c.enter-turn.result found c.value.ensures.value c.enter-turn.ensures in
    let number : c.args.tag.actor ≡ pass.number = served_by pass.number c.args.tag.actor is.has_number c.requires.actor in
    in_shape lock contents pass turn is c.args.tag number (λ (shape : Shape). length c.args.word.now ≡ word_bytes_in shape)
    c.requires.word

pub move_if-answer-requires-clause-recovered : goal.move_if-answer-requires-clause-recovered
move_if-answer-requires-clause-recovered g c =
    let lock : LockState Start = c.args.self.now.turns.now in
    let contents : List (Tag × List ℕ) = g.J.Contents.contents in
    let pass : PassState = pass_held lock.lock c.args.self.now.pass in
    let found : TracedState = c.value.result.now in
    let turn : TurnState TracedState = with_value c.enter-turn.result found in
    let is : IsTurnOf lock contents pass turn =
    turn_with lock contents pass c.enter-turn.result found c.value.ensures.value c.enter-turn.ensures in
    let number : c.args.tag.actor ≡ pass.number = served_by pass.number c.args.tag.actor is.has_number c.requires.actor in
    has_come lock contents pass turn is c.args.tag number (IsRecoveredAs c.args.word.now) c.args.at c.requires.may.is_open
    c.requires.recovered

pub give-requires-clause-list : goal.give-requires-clause-list
give-requires-clause-list g c =
    let lock : LockState Start = c.args.self.now.turns.now in
    let contents : List (Tag × List ℕ) = g.J.Contents.contents in
    let pass : PassState = pass_held lock.lock c.args.self.now.pass in
    let found : TracedState = c.value.result.now in
    let turn : TurnState TracedState = with_value c.enter-turn.result found in
    let is : IsTurnOf lock contents pass turn =
    turn_with lock contents pass c.enter-turn.result found c.value.ensures.value c.enter-turn.ensures in
    let number : c.args.tag.actor ≡ pass.number = served_by pass.number c.args.tag.actor is.has_number c.requires.actor in
    let traced : TracedState = c.move_if-answer.new.self in
    at_most_one pass turn.pass c.args.tag found.channel.past traced.channel.past is.pass_is number
    (moves_add c.args.tag (view_of_traced found contents) (view_of_traced traced contents) refl
    (stands_just_for found.start contents) (stands_just_for traced.start contents)
    c.args.at c.args.word.now c.move_if-answer.result c.move_if-answer.ensures.made)

pub returns-clause-made : goal.returns-clause-made
returns-clause-made g c =
    let lock : LockState Start = c.args.self.now.turns.now in
    let contents : List (Tag × List ℕ) = g.J.Contents.contents in
    let pass : PassState = pass_held lock.lock c.args.self.now.pass in
    let found : TracedState = c.value.result.now in
    let turn : TurnState TracedState = with_value c.enter-turn.result found in
    let is : IsTurnOf lock contents pass turn =
    turn_with lock contents pass c.enter-turn.result found c.value.ensures.value c.enter-turn.ensures in
    let number : c.args.tag.actor ≡ pass.number = served_by pass.number c.args.tag.actor is.has_number c.requires.actor in
    let traced : TracedState = c.move_if-answer.new.self in
    let seen : c.give.result ≡ having_seen pass (history_of traced.channel.past) =
    after_is pass turn.pass c.give.result found.channel.past traced.channel.past is.pass_is c.give.ensures in
    moves_shared lock contents pass c.give.result turn traced is c.args.tag number seen c.args.at c.args.word.now
    c.move_if-answer.result c.requires.may.is_open
    c.move_if-answer.ensures.made
