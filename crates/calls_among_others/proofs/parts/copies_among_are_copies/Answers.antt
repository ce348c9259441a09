use Rattle.calls_among_others.proofs.AmongCopies.{copies_among}
use Rattle.calls_among_others.proofs.parts.copies_among_are_copies.Goals as goal

pub returns : goal.returns
returns c = copies_among
