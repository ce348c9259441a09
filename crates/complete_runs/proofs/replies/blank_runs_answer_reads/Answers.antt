use Rattle.complete_runs.proofs.AnsweredCalls.{blank_runs_answer_reads, first_senses_answer_reads}
use Rattle.complete_runs.proofs.UnagedCalls.{unaged_calls_age_none}
use Rattle.complete_runs.proofs.replies.blank_runs_answer_reads.Goals as goal

pub returns : goal.returns
returns c = record {
  unaged = unaged_calls_age_none;
  words = first_senses_answer_reads;
  reads = blank_runs_answer_reads;
}
