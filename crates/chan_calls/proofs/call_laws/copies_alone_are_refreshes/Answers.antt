use Rattle.chan_calls.proofs.CopiesAlone.{copies_are_refreshes}
use Rattle.chan_calls.proofs.call_laws.copies_alone_are_refreshes.Goals as goal

pub returns : goal.returns
returns c = copies_are_refreshes
