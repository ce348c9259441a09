use Rattle.recovery_laws.proofs.AnsweredReads.{calls_give_last_writes}
use Rattle.recovery_laws.proofs.ReadReplies.{reads_give_last_writes}
use Rattle.recovery_laws.proofs.read_replies.reads_give_last_writes.Goals as goal

pub returns : goal.returns
returns c = record { reads = reads_give_last_writes; calls = calls_give_last_writes }
