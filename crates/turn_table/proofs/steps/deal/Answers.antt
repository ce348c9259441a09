use Rattle.std.proofs.Common.{◌≤◌, ◌<◌, [], ap, refl, ◌∙◌, arith}
use Rattle.turn_table.specs.Steps.{Knower, split_left, split_right}
use Rattle.turn_table.specs.declared.view.View.{View}
use Rattle.turn_table.proofs.Dealing.{all_dealt, dealt_one, dealt_pass, given_one, last_pass, nothing_left}
use Rattle.turn_table.proofs.steps.deal.Goals as goal

pub loop-preserved : goal.loop-preserved
loop-preserved g c =
    let low : c.loop.counter < c.args.count = omega arith in
    let least : 1 ≤ c.loop.counter = omega arith in
    let me = c.loop.invariant.gives in
    let V : Type 0 = g.row.V.Denot in record {
      table = c.cut-fresh.ensures.first.0 ∙ c.loop.invariant.table;
      gives = c.cut-fresh.ensures.first.1
          ∙ (ap (λ (m : Knower V). (split_left m.0, m.1)) me ∙ ap (λ (v : View). (v, [])) (given_one c.loop.counter c.args.count low));
      dealt = c.in-Ok-push.ensures.items
          ∙ dealt_one c.args.board.now.table_id c.loop.counter c.loop.passes.items c.of.result least c.loop.invariant.dealt
          (c.of.ensures ∙ dealt_pass c.args.board.now.table_id c.cut-fresh.result.table_id c.cut-fresh.result.me.0 c.loop.counter c.args.count
          (c.cut-fresh.ensures.second.0 ∙ c.loop.invariant.table)
          (ap (λ (m : Knower V). m.0) c.cut-fresh.ensures.second.1 ∙ ap (λ (m : Knower V). split_right m.0) me) low);
    }

pub of-requires-2 : goal.of-requires-2
of-requires-2 g c =
    let high : c.args.count ≤ c.loop.counter = omega arith in
    (refl, nothing_left c.loop.first.me c.loop.counter c.args.count c.loop.invariant.gives high)

pub returns : goal.returns
returns g c =
    let high : c.args.count ≤ c.loop.counter = omega arith in
    let low : c.loop.counter ≤ c.args.count = omega arith in
    let V : Type 0 = g.row.V.Denot in
    c.in-Ok-insert.ensures.items
    ∙ all_dealt c.args.board.now.table_id c.loop.counter c.args.count c.loop.passes.items c.of-2.result c.requires.some high low c.loop.invariant.dealt
    (c.of-2.ensures ∙ last_pass c.args.board.now.table_id c.loop.first.table_id c.loop.first.me.0 c.loop.counter c.args.count c.loop.invariant.table (ap (λ (m : Knower V). m.0) c.loop.invariant.gives))
