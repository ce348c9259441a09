use Rattle.std.proofs.lemmas.List.{length-set}
use Rattle.map_rows.proofs.Setting.{apart-set, within-set}
use Rattle.map_rows.proofs.rows.Rows.set.Goals as goal

pub invariant_of-self : goal.invariant_of-self
invariant_of-self c =
    let lt = rw (← c.self.view_is) at c.requires.row_in_range in
    let new = rw (← c.self.view_is) at c.requires.slot_in_range in
    let unnamed = rw (← c.self.view_is) at c.requires.unnamed in (
      rw length-set c.self.invariant.0,
      within-set _ _ _ _ _ lt c.self.invariant.1 new,
      apart-set _ _ _ lt unnamed c.self.invariant.2,
    )
