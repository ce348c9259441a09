use Rattle.past_examples.proofs.MissedRuns.{entry_of_earlier_fails, left_open_fails, two_unanswered_fails, unknown_call_fails, wrong_rung_fails}
use Rattle.past_examples.proofs.run_examples.runs_that_just_miss.Goals as goal

pub returns : goal.returns
returns c = record { rung = wrong_rung_fails; unknown = unknown_call_fails; unanswered = two_unanswered_fails; not_left = left_open_fails; earlier = entry_of_earlier_fails }
