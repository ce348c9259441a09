use Rattle.std.proofs.Common.{◌∙◌, refl}
use Rattle.victim.proofs.First.{missing_is}
use Rattle.victim.proofs.oldest.OldestPolicy.pick.Goals as goal
use Rattle.victim.proofs.oldest.OldestPolicy.pick.Goals.{in-None, in-Some}

pub returns-clause-answer : goal.returns-clause-answer
returns-clause-answer c =
    let first = missing_is c.args.table.now _ _ _ c.first_unlisted.result c.self.invariant c.first_unlisted.ensures in
    elim c.match-first_unlisted.branch [
      | in-Some w ↦ rw (← c.self.view_is, w.result-is, first ∙ w.in-Some.is) refl
      | in-None w ↦ rw (← c.self.view_is, w.result-is, first ∙ w.in-None.is, w.unwrap_or.ensures, w.first_listed.ensures) refl
    ]
