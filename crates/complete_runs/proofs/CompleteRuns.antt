-- A run whose calls are in order is complete, and so is one of which the statement holds.
use Rattle.complete_runs.specs.CompleteRuns.{OrderedRunsAreComplete, RunsAreComplete}
use Rattle.complete_runs.proofs.AnsweredCalls.{blank_runs_answer_reads}
use Rattle.complete_runs.proofs.FaultlessReplies.{uncounted_runs_reply_no_fault}
use Rattle.complete_runs.proofs.TakenWrites.{blank_runs_take_writes}
use Rattle.complete_runs.proofs.TraceAnswers.{blank_runs_answer_traces}

pub ordered_runs_are_complete : OrderedRunsAreComplete
ordered_runs_are_complete head run some blank has_calls ordered = record {
  no_fault = λ none. uncounted_runs_reply_no_fault head run ordered none some;
  writes = λ no_contents none none_weak. blank_runs_take_writes head run (blank no_contents) none_weak ordered none;
  reads = λ no_contents none apart unaged.
      blank_runs_answer_reads head run (blank no_contents) apart has_calls ordered none unaged;
  traces = λ no_contents none none_weak apart unaged ended.
      blank_runs_answer_traces head run (blank no_contents) none_weak apart has_calls ordered ended none unaged;
}

pub runs_are_complete : RunsAreComplete
runs_are_complete head run some blank has_calls headline =
    ordered_runs_are_complete head run some blank has_calls
    (record {
      as_many_pasts = headline.as_many_pasts;
      are_pasts = headline.are_pasts;
      are_counted = headline.are_counted;
      in_order = headline.in_order;
      are_replies = headline.are_replies;
    })
