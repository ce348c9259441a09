use Rattle.std.specs.Prelude.{refl}
use Rattle.ssd_formats.specs.TraceText.{calls_of_lines, trace_of_lines}
use Rattle.ssd_formats.proofs.trace_examples.example_trace_faults.Goals as goal

pub returns-clause-first_lines : goal.returns-clause-first_lines
unfolding calls_of_lines trace_of_lines
returns-clause-first_lines c = refl

pub returns-clause-calls : goal.returns-clause-calls
unfolding calls_of_lines trace_of_lines
returns-clause-calls c = refl
