use Rattle.std.proofs.Common.{rules, arith, ◌≡◌, ◌∷◌, ◌++◌, [], Err, length-append}
use Rattle.std.proofs.lemmas.Grind.{common_steps}
use Rattle.history_text.proofs.HistorySteps.{entries_end, entries_go_on, entries_stop}
use Rattle.history_text.proofs.read.entries.read_entries.Goals as goal

pub returns-in_err-entry : goal.returns-in_err-entry
returns-in_err-entry c =
    let loop = c.loop-position in
    let is : c.from_residual.result ≡ Err c.in_err-entry.field-0.0 = search rules in
    rw is
    (entries_stop c.in_err-entry.field-0.0 _ c.args.count loop.position loop.entries.items loop.lines
    (omega arith) loop.invariant.count loop.invariant.rest c.in_err-entry.ensures)

pub loop-position-preserved : goal.loop-position-preserved
loop-position-preserved c =
    let loop = c.loop-position in
    let before = loop.entries.items in
    let entry = c.in_ok-entry.entry in
    let pushed : c.push.new.self.items ≡ before ++ entry ∷ [] = grind (arith, common_steps) in
    let count = loop.invariant.count in
    record {
      count = rw pushed (omega (arith, length-append before (entry ∷ []), count));
      rest = rw pushed
          (entries_go_on _ c.args.count loop.position before loop.lines entry _
          (omega arith) count loop.invariant.rest c.in_ok-entry.ensures);
    }

pub returns : goal.returns
returns c =
    let loop = c.loop-position in
    rw c.new.ensures
    (entries_end _ c.args.count loop.position loop.entries.items loop.lines (omega arith) loop.invariant.rest)
