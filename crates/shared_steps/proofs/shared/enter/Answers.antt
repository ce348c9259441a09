use Rattle.std.proofs.Common.{◌≡◌, ◌≢◌, List, ℕ, Option, Some, rules, subst, sym}
use Rattle.ssd_geo.specs.declared.tag.Tag.{Tag}
use Rattle.ssd_histories.specs.Start.{Start}
use Rattle.turn_table.specs.Passes.{LockState, PassState, with_value}
use Rattle.shared_steps.specs.Sharing.{IsTurnOf, pass_held}
use Rattle.shared_steps.proofs.SharedSteps.{turn_of}
use Rattle.shared_steps.proofs.shared.enter.Goals as goal

pub returns : goal.returns
returns g c =
    let lock : LockState Start = c.args.turns.now in
    let contents : List (Tag × List ℕ) = g.J.Contents.contents in
    let held : c.args.pass.now ≡ Some c.unwrap.result = search rules in
    subst (λ (pass : Option PassState). IsTurnOf lock contents (pass_held lock.lock pass) (with_value c.take-turn.result
    c.value.result.now)) (sym held)
    (turn_of lock contents c.unwrap.result c.take-turn.result c.value.result.now c.value.ensures.value
    (subst (λ (pass : Option PassState). (pass_held lock.lock pass).number ≢ 255) held c.requires.number)
    c.take-turn.ensures.pass c.take-turn.ensures.list c.take-turn.ensures.start c.keeps_standing.ensures)
