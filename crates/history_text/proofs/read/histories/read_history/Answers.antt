use Rattle.std.proofs.Common.{rules, ◌≡◌, Err}
use Rattle.history_text.proofs.HistorySteps.{stopped}
use Rattle.history_text.proofs.read.histories.read_history.Goals as goal

pub returns-in_err-histories-clause-fault : goal.returns-in_err-histories-clause-fault
returns-in_err-histories-clause-fault c =
    let is : c.from_residual.result ≡ Err c.in_err-histories.field-0.0 = search rules in
    let stop = rw c.new-lines.ensures at c.in_err-histories.ensures in
    rw is (stopped c.in_err-histories.field-0.0 c.args.head.now.shape.channels c.args.text.now stop)
