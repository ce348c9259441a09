use Rattle.history_laws.proofs.KeptReserve.{picks_are_reserved, reserve_stays}
use Rattle.history_laws.proofs.reserve.reserve_stays.Goals as goal

pub returns : goal.returns
returns c = record { stays = reserve_stays; picks = picks_are_reserved }
