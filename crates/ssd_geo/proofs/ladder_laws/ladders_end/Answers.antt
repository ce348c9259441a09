use Rattle.ssd_geo.proofs.LadderBound.{ladders_end}
use Rattle.ssd_geo.proofs.ladder_laws.ladders_end.Goals as goal

pub returns : goal.returns
returns c = ladders_end
