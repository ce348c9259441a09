use Rattle.recovery_laws.proofs.EmptyReads.{empty_reads_held_nothing}
use Rattle.recovery_laws.proofs.read_replies.empty_reads_held_nothing.Goals as goal

pub returns : goal.returns
returns c = empty_reads_held_nothing
