use Rattle.recovery_laws.proofs.RecoveredReads.{recovered_pages_stay}
use Rattle.recovery_laws.proofs.recovered_reads.recovered_pages_stay.Goals as goal

pub returns : goal.returns
returns c = recovered_pages_stay
