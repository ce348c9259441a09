use Rattle.stopped_calls.proofs.StoppedCalls.{refreshes_stop}
use Rattle.stopped_calls.proofs.stops.refreshes_stop_without_room.Goals as goal

pub returns : goal.returns
returns c = refreshes_stop
