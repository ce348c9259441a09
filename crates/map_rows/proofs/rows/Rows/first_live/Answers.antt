use Rattle.std.proofs.Common.{◌∙◌, ap, refl, sym}
use Rattle.std.specs.Prelude.{option_map}
use Rattle.ssd_histories.specs.PageMap.{slot_at}
use Rattle.map_rows.proofs.FirstLive.{first_live_none, least_is_live}
use Rattle.map_rows.proofs.rows.Rows.first_live.Goals as goal

pub returns-in-Some-clause-none : goal.returns-in-Some-clause-none
returns-in-Some-clause-none c =
    let least = sym c.in-Some.is ∙ c.least_index.ensures in
    rw (← c.self.view_is)
    (first_live_none c.self.inside.rows.items c.args.sb _ (rw c.deref.ensures.value at (ap (option_map (slot_at c.args.sb)) least)))

pub returns-in-None-clause-none : goal.returns-in-None-clause-none
returns-in-None-clause-none c =
    let least = sym c.in-None.is ∙ c.least_index.ensures in
    rw (← c.self.view_is)
    (first_live_none c.self.inside.rows.items c.args.sb _ (rw c.deref.ensures.value at (ap (option_map (slot_at c.args.sb)) least)))

pub returns-in-Some-clause-within : goal.returns-in-Some-clause-within
returns-in-Some-clause-within c =
    let least = rw c.deref.ensures.value at (sym c.least_index.ensures ∙ c.in-Some.is) in
    rw (← c.self.view_is)
    (refl, (least_is_live _ _ _ c.args.sb c.in-Some.index c.self.invariant.1 c.self.invariant.2 least).within)

pub returns-in-Some-clause-owned : goal.returns-in-Some-clause-owned
returns-in-Some-clause-owned c =
    let least = rw c.deref.ensures.value at (sym c.least_index.ensures ∙ c.in-Some.is) in
    rw (← c.self.view_is)
    (least_is_live _ _ _ c.args.sb c.in-Some.index c.self.invariant.1 c.self.invariant.2 least).owned
