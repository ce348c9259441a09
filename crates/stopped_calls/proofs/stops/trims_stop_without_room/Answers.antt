use Rattle.stopped_calls.proofs.StoppedCalls.{trims_stop}
use Rattle.stopped_calls.proofs.stops.trims_stop_without_room.Goals as goal

pub returns : goal.returns
returns c = trims_stop
