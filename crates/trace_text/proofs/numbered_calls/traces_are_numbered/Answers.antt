use Rattle.trace_text.proofs.Numbering.{traces_are_numbered}
use Rattle.trace_text.proofs.numbered_calls.traces_are_numbered.Goals as goal

pub returns : goal.returns
returns c = traces_are_numbered
