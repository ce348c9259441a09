use Rattle.run_laws.proofs.SpelledPasts.{lawful_pasts_are_spelled}
use Rattle.run_laws.proofs.spelled.lawful_pasts_are_spelled.Goals as goal

pub returns : goal.returns
returns c = lawful_pasts_are_spelled
