use Rattle.ssd_gen.specs.TraceParts.{calls_text, trace_text}
use Rattle.ssd_io.proofs.WriteSteps.{fails_early, writes_then, wrote}
use Rattle.ssd_gen.proofs.trace.put_trace.Goals as goal

pub returns-in_err-put : goal.returns-in_err-put
unfolding trace_text
returns-in_err-put g c = fails_early (calls_text c.args.noise.now) _ c.from_residual.ensures.0 c.in_err-put.ensures

pub returns : goal.returns
unfolding trace_text
returns g c = writes_then _ (wrote c.in_ok-put.ensures) c.put_calls.ensures
