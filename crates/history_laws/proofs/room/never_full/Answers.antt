use Rattle.history_laws.proofs.NeverFull.{fitting_rows_leave_room, never_full}
use Rattle.history_laws.proofs.room.never_full.Goals as goal

pub returns : goal.returns
returns c = record { fits = fitting_rows_leave_room; stays = never_full }
