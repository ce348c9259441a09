use Rattle.std.proofs.Common.{rules, arith, ◌≡◌, ◌∷◌, ◌++◌, [], Err, length-append}
use Rattle.std.proofs.lemmas.Grind.{common_steps}
use Rattle.history_text.proofs.HistorySteps.{histories_end, histories_go_on, histories_stop}
use Rattle.history_text.proofs.read.histories.read_channels.Goals as goal

pub returns-in_err-history : goal.returns-in_err-history
returns-in_err-history c =
    let loop = c.loop-channel in
    let is : c.from_residual.result ≡ Err c.in_err-history.field-0.0 = search rules in
    rw is
    (histories_stop c.in_err-history.field-0.0 _ c.args.channels loop.channel loop.histories.items loop.lines
    (omega arith) loop.invariant.count loop.invariant.rest c.in_err-history.ensures)

pub loop-channel-preserved : goal.loop-channel-preserved
loop-channel-preserved c =
    let loop = c.loop-channel in
    let before = loop.histories.items in
    let history = c.in_ok-history.history in
    let pushed : c.push.new.self.items ≡ before ++ history ∷ [] = grind (arith, common_steps) in
    let count = loop.invariant.count in
    record {
      count = rw pushed (omega (arith, length-append before (history ∷ []), count));
      rest = rw pushed
          (histories_go_on _ c.args.channels loop.channel before loop.lines history _
          (omega arith) count loop.invariant.rest c.in_ok-history.ensures);
    }

pub returns : goal.returns
returns c =
    let loop = c.loop-channel in
    histories_end _ c.args.channels loop.channel loop.histories.items loop.lines (omega arith)
    loop.invariant.rest
