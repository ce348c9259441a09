use Rattle.chan_calls.proofs.CopiesAlone.{copies_are_copies}
use Rattle.chan_calls.proofs.call_laws.copies_alone_are_copies.Goals as goal

pub returns : goal.returns
returns c = copies_are_copies
