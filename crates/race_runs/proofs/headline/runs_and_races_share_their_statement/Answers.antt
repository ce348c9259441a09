use Rattle.race_runs.proofs.RaceHeadline.{headlines_are_of_races, races_that_found_room_are_runs}
use Rattle.race_runs.proofs.headline.runs_and_races_share_their_statement.Goals as goal

pub returns : goal.returns
returns c = record { runs = headlines_are_of_races; races = races_that_found_room_are_runs }
