use Rattle.std.proofs.Common.{◌≡◌, ℕ, List, refl, FitsSigned, length, rules, w16}
use Rattle.shared_steps.proofs.AddedEntries.{sense_adds}
use Rattle.shared_steps.proofs.SharedSteps.{after_is, at_most_one, has_come, in_shape, may_sense, served_by, turn_with}
use Rattle.shared_steps.proofs.TurnSteps.{senses_shared}
use Rattle.shared_steps.specs.Sharing.{IsTurnOf, pass_held}
use Rattle.shared_steps.specs.Tracing.{TracedState, stands_just_for, view_of_traced}
use Rattle.ssd_geo.specs.Coding.{word_bytes_in}
use Rattle.ssd_geo.specs.Ladder.{LadderState, asks}
use Rattle.ssd_geo.specs.declared.shape.Shape.{Shape}
use Rattle.ssd_geo.specs.declared.tag.Tag.{Tag}
use Rattle.ssd_histories.specs.History.{history_of}
use Rattle.ssd_histories.specs.Ranges.{has_place}
use Rattle.ssd_histories.specs.Start.{Start}
use Rattle.std.proofs.lemmas.Int.{to_z-of_z}
use Rattle.std.specs.Prelude.{IsTrue}
use Rattle.turn_table.specs.Passes.{LockState, PassState, TurnState, having_seen, with_value}
use Rattle.shared_steps.proofs.shared.SharedSteps.sense.Goals as goal

pub sense-answer-requires-clause-may : goal.sense-answer-requires-clause-may
sense-answer-requires-clause-may g c =
    let lock : LockState Start = c.args.self.now.turns.now in
    let contents : List (Tag × List ℕ) = g.J.Contents.contents in
    let pass : PassState = pass_held lock.lock c.args.self.now.pass in
    let found : TracedState = c.value.result.now in
    let turn : TurnState TracedState = with_value c.enter-turn.result found in
    let is : IsTurnOf lock contents pass turn =
    turn_with lock contents pass c.enter-turn.result found c.value.ensures.value c.enter-turn.ensures in
    let number : c.args.tag.actor ≡ pass.number = served_by pass.number c.args.tag.actor is.has_number c.requires.actor in
    may_sense lock contents pass turn is c.args.tag number c.args.at c.requires.may

pub sense-answer-requires-clause-place : goal.sense-answer-requires-clause-place
sense-answer-requires-clause-place g c =
    let lock : LockState Start = c.args.self.now.turns.now in
    let contents : List (Tag × List ℕ) = g.J.Contents.contents in
    let pass : PassState = pass_held lock.lock c.args.self.now.pass in
    let found : TracedState = c.value.result.now in
    let turn : TurnState TracedState = with_value c.enter-turn.result found in
    let is : IsTurnOf lock contents pass turn =
    turn_with lock contents pass c.enter-turn.result found c.value.ensures.value c.enter-turn.ensures in
    let number : c.args.tag.actor ≡ pass.number = served_by pass.number c.args.tag.actor is.has_number c.requires.actor in
    in_shape lock contents pass turn is c.args.tag number (λ (shape : Shape). IsTrue (has_place shape c.args.place))
    c.requires.place

pub sense-answer-requires-clause-word : goal.sense-answer-requires-clause-word
sense-answer-requires-clause-word g c =
    let lock : LockState Start = c.args.self.now.turns.now in
    let contents : List (Tag × List ℕ) = g.J.Contents.contents in
    let pass : PassState = pass_held lock.lock c.args.self.now.pass in
    let found : TracedState = c.value.result.now in
    let turn : TurnState TracedState = with_value c.enter-turn.result found in
    let is : IsTurnOf lock contents pass turn =
    turn_with lock contents pass c.enter-turn.result found c.value.ensures.value c.enter-turn.ensures in
    let number : c.args.tag.actor ≡ pass.number = served_by pass.number c.args.tag.actor is.has_number c.requires.actor in
    in_shape lock contents pass turn is c.args.tag number (λ (shape : Shape). length c.args.out.now ≡ word_bytes_in shape)
    c.requires.word

pub sense-answer-requires-clause-asked : goal.sense-answer-requires-clause-asked
sense-answer-requires-clause-asked g c =
    let lock : LockState Start = c.args.self.now.turns.now in
    let contents : List (Tag × List ℕ) = g.J.Contents.contents in
    let pass : PassState = pass_held lock.lock c.args.self.now.pass in
    let found : TracedState = c.value.result.now in
    let turn : TurnState TracedState = with_value c.enter-turn.result found in
    let is : IsTurnOf lock contents pass turn =
    turn_with lock contents pass c.enter-turn.result found c.value.ensures.value c.enter-turn.ensures in
    let number : c.args.tag.actor ≡ pass.number = served_by pass.number c.args.tag.actor is.has_number c.requires.actor in
    let fits : FitsSigned w16 c.args.level = search rules in
    simp to_z-of_z (has_come lock contents pass turn is c.args.tag number (λ (state : LadderState). state ≡ asks c.args.place
    c.args.level) c.args.at c.requires.may.is_open c.requires.asked)

pub give-requires-clause-list : goal.give-requires-clause-list
give-requires-clause-list g c =
    let lock : LockState Start = c.args.self.now.turns.now in
    let contents : List (Tag × List ℕ) = g.J.Contents.contents in
    let pass : PassState = pass_held lock.lock c.args.self.now.pass in
    let found : TracedState = c.value.result.now in
    let turn : TurnState TracedState = with_value c.enter-turn.result found in
    let is : IsTurnOf lock contents pass turn =
    turn_with lock contents pass c.enter-turn.result found c.value.ensures.value c.enter-turn.ensures in
    let number : c.args.tag.actor ≡ pass.number = served_by pass.number c.args.tag.actor is.has_number c.requires.actor in
    let traced : TracedState = c.sense-answer.new.self in
    let fits : FitsSigned w16 c.args.level = search rules in
    at_most_one pass turn.pass c.args.tag found.channel.past traced.channel.past is.pass_is number
    (sense_adds c.args.tag (view_of_traced found contents) (view_of_traced traced contents) refl
    (stands_just_for found.start contents) (stands_just_for traced.start contents)
    c.args.at c.args.place c.args.level c.args.out.now c.sense-answer.new.out c.sense-answer.result (simp to_z-of_z at
    c.sense-answer.ensures.made))

pub returns-clause-made : goal.returns-clause-made
returns-clause-made g c =
    let lock : LockState Start = c.args.self.now.turns.now in
    let contents : List (Tag × List ℕ) = g.J.Contents.contents in
    let pass : PassState = pass_held lock.lock c.args.self.now.pass in
    let found : TracedState = c.value.result.now in
    let turn : TurnState TracedState = with_value c.enter-turn.result found in
    let is : IsTurnOf lock contents pass turn =
    turn_with lock contents pass c.enter-turn.result found c.value.ensures.value c.enter-turn.ensures in
    let number : c.args.tag.actor ≡ pass.number = served_by pass.number c.args.tag.actor is.has_number c.requires.actor in
    let traced : TracedState = c.sense-answer.new.self in
    let seen : c.give.result ≡ having_seen pass (history_of traced.channel.past) =
    after_is pass turn.pass c.give.result found.channel.past traced.channel.past is.pass_is c.give.ensures in
    let fits : FitsSigned w16 c.args.level = search rules in
    senses_shared lock contents pass c.give.result turn traced is c.args.tag number seen c.args.at c.args.place c.args.level
    c.args.out.now c.sense-answer.new.out c.sense-answer.result c.requires.may.is_open
    (simp to_z-of_z at c.sense-answer.ensures.made)
