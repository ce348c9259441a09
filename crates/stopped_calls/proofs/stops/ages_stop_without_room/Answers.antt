use Rattle.stopped_calls.proofs.StoppedCalls.{ages_stop}
use Rattle.stopped_calls.proofs.stops.ages_stop_without_room.Goals as goal

pub returns : goal.returns
returns c = ages_stop
