use Rattle.std.proofs.Common.{decimal}
use Rattle.ssd_io.proofs.WriteSteps.{fails_early, writes_then, wrote}
use Rattle.ssd_gen.proofs.line.put_data.Goals as goal

pub returns-in_err-put : goal.returns-in_err-put
returns-in_err-put g c = fails_early (decimal c.args.number) _ c.from_residual.ensures.0 c.in_err-put.ensures

pub returns : goal.returns
returns g c = writes_then _ (wrote c.in_ok-put.ensures) c.put_number.ensures
