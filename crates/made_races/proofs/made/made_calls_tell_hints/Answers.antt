use Rattle.made_races.proofs.MadeHints.{made_calls_tell_hints}
use Rattle.made_races.proofs.made.made_calls_tell_hints.Goals as goal

pub returns : goal.returns
returns c = made_calls_tell_hints
