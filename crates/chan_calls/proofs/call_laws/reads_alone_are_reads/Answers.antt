use Rattle.chan_calls.proofs.ReadsAlone.{reads_are_reads}
use Rattle.chan_calls.proofs.call_laws.reads_alone_are_reads.Goals as goal

pub returns : goal.returns
returns c = reads_are_reads
