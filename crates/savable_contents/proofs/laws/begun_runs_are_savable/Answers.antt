use Rattle.savable_contents.proofs.SavableStarts.{contents_are_savable, runs_of_contents_are_savable}
use Rattle.savable_contents.proofs.laws.begun_runs_are_savable.Goals as goal

pub returns : goal.returns
returns c = record { contents = contents_are_savable; runs = runs_of_contents_are_savable }
