use Rattle.recovery_laws.proofs.RecoveredReads.{recovered_reads_are_plain}
use Rattle.recovery_laws.proofs.recovered_reads.recovered_reads_are_plain.Goals as goal

pub returns : goal.returns
returns c = recovered_reads_are_plain
