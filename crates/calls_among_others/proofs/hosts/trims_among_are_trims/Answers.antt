use Rattle.calls_among_others.proofs.AmongHosts.{trims_among}
use Rattle.calls_among_others.proofs.hosts.trims_among_are_trims.Goals as goal

pub returns : goal.returns
returns c = trims_among
