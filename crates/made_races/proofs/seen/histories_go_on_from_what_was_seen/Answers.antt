use Rattle.made_races.proofs.SeenPasts.{histories_go_on}
use Rattle.made_races.proofs.seen.histories_go_on_from_what_was_seen.Goals as goal

pub returns : goal.returns
returns c = histories_go_on
