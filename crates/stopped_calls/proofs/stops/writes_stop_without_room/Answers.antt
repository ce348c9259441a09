use Rattle.stopped_calls.proofs.StoppedCalls.{writes_stop}
use Rattle.stopped_calls.proofs.stops.writes_stop_without_room.Goals as goal

pub returns : goal.returns
returns c = writes_stop
