use Rattle.retry_ladder.proofs.Standing.{fed_ladders_stand, ladders_tell_their_state}
use Rattle.retry_ladder.proofs.ladder_laws.ladders_stand.Goals as goal

pub returns : goal.returns
returns c = record { fed = fed_ladders_stand; state = ladders_tell_their_state }
