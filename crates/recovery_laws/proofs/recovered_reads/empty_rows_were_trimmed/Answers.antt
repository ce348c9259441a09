use Rattle.recovery_laws.proofs.RecoveredReads.{empty_rows_were_trimmed, trimmed_rows_have_no_page}
use Rattle.recovery_laws.proofs.recovered_reads.empty_rows_were_trimmed.Goals as goal

pub returns : goal.returns
returns c = record { rows = empty_rows_were_trimmed; looks = trimmed_rows_have_no_page }
