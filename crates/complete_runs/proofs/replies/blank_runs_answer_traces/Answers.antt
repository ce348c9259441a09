use Rattle.complete_runs.proofs.TraceAnswers.{blank_runs_answer_traces}
use Rattle.complete_runs.proofs.replies.blank_runs_answer_traces.Goals as goal

pub returns : goal.returns
returns c = blank_runs_answer_traces
