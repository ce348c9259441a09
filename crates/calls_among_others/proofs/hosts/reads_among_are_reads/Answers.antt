use Rattle.calls_among_others.proofs.AmongHosts.{reads_among}
use Rattle.calls_among_others.proofs.hosts.reads_among_are_reads.Goals as goal

pub returns : goal.returns
returns c = reads_among
