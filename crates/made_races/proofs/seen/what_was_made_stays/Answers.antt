use Rattle.made_races.proofs.SeenPasts.{made_so_far_stays, room_stays, stops_stay}
use Rattle.made_races.proofs.seen.what_was_made_stays.Goals as goal

pub returns : goal.returns
returns c = record { made = made_so_far_stays; room = room_stays; stops = stops_stay }
