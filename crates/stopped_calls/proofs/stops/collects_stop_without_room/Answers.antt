use Rattle.stopped_calls.proofs.StoppedCalls.{collects_stop}
use Rattle.stopped_calls.proofs.stops.collects_stop_without_room.Goals as goal

pub returns : goal.returns
returns c = collects_stop
