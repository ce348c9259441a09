use Rattle.std.proofs.Common.{◌∙◌, sym}
use Rattle.victim.proofs.First.{after_is}
use Rattle.victim.proofs.candidates.first_after.Goals as goal

pub returns : goal.returns
returns c =
    c.narrowed.ensures
    ∙ sym (after_is c.args.table.now c.args.last c.first_from.result (rw c.from_after.ensures at c.first_from.ensures))
