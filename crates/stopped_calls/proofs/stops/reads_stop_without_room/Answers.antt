use Rattle.stopped_calls.proofs.StoppedCalls.{reads_stop}
use Rattle.stopped_calls.proofs.stops.reads_stop_without_room.Goals as goal

pub returns : goal.returns
returns c = reads_stop
