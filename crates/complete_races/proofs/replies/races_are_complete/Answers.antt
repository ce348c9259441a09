use Rattle.complete_races.proofs.CompleteRaces.{races_are_complete}
use Rattle.complete_races.proofs.replies.races_are_complete.Goals as goal

pub returns : goal.returns
returns c = races_are_complete
