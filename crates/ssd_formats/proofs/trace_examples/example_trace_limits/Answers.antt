use Rattle.std.specs.Prelude.{refl}
use Rattle.ssd_formats.specs.TraceText.{calls_of_lines}
use Rattle.ssd_formats.proofs.trace_examples.example_trace_limits.Goals as goal

pub returns-clause-last_byte : goal.returns-clause-last_byte
unfolding calls_of_lines
returns-clause-last_byte c = refl

pub returns-clause-past_last_byte : goal.returns-clause-past_last_byte
unfolding calls_of_lines
returns-clause-past_last_byte c = refl

pub returns-clause-skipped : goal.returns-clause-skipped
unfolding calls_of_lines
returns-clause-skipped c = refl

pub returns-clause-last_read : goal.returns-clause-last_read
unfolding calls_of_lines
returns-clause-last_read c = refl

pub returns-clause-past_last_read : goal.returns-clause-past_last_read
unfolding calls_of_lines
returns-clause-past_last_read c = refl
