use Rattle.retry_ladder.proofs.LadderSteps.{runs_are_ladders, runs_go_on}
use Rattle.retry_ladder.proofs.ladder_laws.runs_are_ladders.Goals as goal

pub returns : goal.returns
returns c = record { ladders = runs_are_ladders; steps = runs_go_on }
