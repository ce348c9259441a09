use Rattle.complete_runs.proofs.DieCounts.{uncounted_dies_count_none}
use Rattle.complete_runs.proofs.FaultlessPasts.{uncounted_runs_are_faultless}
use Rattle.complete_runs.proofs.FaultlessReplies.{uncounted_runs_reply_no_fault}
use Rattle.complete_runs.proofs.replies.uncounted_runs_tell_no_fault.Goals as goal

pub returns : goal.returns
returns c = record { dies = uncounted_dies_count_none; entries = uncounted_runs_are_faultless; replies = uncounted_runs_reply_no_fault }
