use Rattle.calls_among_others.proofs.AmongHosts.{ages_among}
use Rattle.calls_among_others.proofs.hosts.ages_among_are_ages.Goals as goal

pub returns : goal.returns
returns c = ages_among
