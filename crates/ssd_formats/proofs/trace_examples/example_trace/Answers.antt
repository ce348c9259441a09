use Rattle.std.specs.Prelude.{refl}
use Rattle.ssd_formats.specs.TraceText.{calls_of_lines, trace_of_lines}
use Rattle.ssd_formats.proofs.trace_examples.example_trace.Goals as goal

pub returns-clause-read : goal.returns-clause-read
unfolding calls_of_lines trace_of_lines
returns-clause-read c = refl

pub returns-clause-last_page : goal.returns-clause-last_page
unfolding calls_of_lines trace_of_lines
returns-clause-last_page c = refl
