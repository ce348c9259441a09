use Rattle.ssd_histories.proofs.ReserveLaws.{picks_leave_reserve, reserve_is_not_worn}
use Rattle.ssd_histories.proofs.block_laws.reserve_is_not_worn.Goals as goal

pub returns : goal.returns
returns c = record { worn = reserve_is_not_worn; picks = picks_leave_reserve }
