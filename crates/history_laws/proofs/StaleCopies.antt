-- Stale copies leave rows: the proof of the law of specs/StaleCopies.antt.
use Rattle.recovery_laws.proofs.HeldLooks.{stale_copies_change_nothing}
use Rattle.recovery_laws.proofs.StartPages.{starts_have_named_pages}
use Rattle.history_laws.specs.StaleCopies.{StaleCopiesLeaveRows}

-- rows name used slots from each start
pub stale_copies_leave_rows : StaleCopiesLeaveRows
stale_copies_leave_rows ladder start past tag at slot row is_start lawful rewritten =
    stale_copies_change_nothing ladder start.base past tag at slot row (starts_have_named_pages start is_start).rows_name_used
    lawful rewritten
