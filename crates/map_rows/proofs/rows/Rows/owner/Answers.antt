use Rattle.std.proofs.Common.{◌∙◌, sym}
use Rattle.map_rows.proofs.Owners.{owner_only}
use Rattle.map_rows.proofs.rows.Rows.owner.Goals as goal

pub returns-in-Some-clause-only : goal.returns-in-Some-clause-only
returns-in-Some-clause-only c =
    rw (← c.self.view_is)
    (λ row named. sym c.in-Some.is ∙ c.place_of.ensures
    ∙ rw c.deref.ensures.value (owner_only _ c.args.slot row c.self.invariant.2 named))

pub returns-in-None-clause-only : goal.returns-in-None-clause-only
returns-in-None-clause-only c =
    rw (← c.self.view_is)
    (λ row named. sym c.in-None.is ∙ c.place_of.ensures
    ∙ rw c.deref.ensures.value (owner_only _ c.args.slot row c.self.invariant.2 named))
