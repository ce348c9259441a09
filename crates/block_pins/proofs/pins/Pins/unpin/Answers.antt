use Rattle.std.proofs.Common.{◌∙◌, ap, Some, sym}
use Rattle.block_pins.proofs.Places.{not_open, open_at}
use Rattle.block_pins.proofs.pins.Pins.unpin.Goals as goal

pub returns-in-Some-clause-value : goal.returns-in-Some-clause-value
returns-in-Some-clause-value c =
    let open_one = open_at c.deref.result.now c.args.at c.in-Some.place c.remove.result
    (sym c.place_of.ensures ∙ c.in-Some.is) in
    rw (← c.self.view_is, ← c.deref.ensures.value)
    (sym (open_one.found ∙ ap (λ p. Some p) (sym (rw (← c.deref.ensures.value) at c.remove.ensures.value))))

pub returns-in-Some-clause-after : goal.returns-in-Some-clause-after
returns-in-Some-clause-after c =
    let open_one = open_at c.deref.result.now c.args.at c.in-Some.place c.remove.result
    (sym c.place_of.ensures ∙ c.in-Some.is) in
    rw (← c.self.view_is, c.remove.ensures.items, ← c.deref.ensures.value) (sym open_one.rest)

pub returns-in-None-clause-value : goal.returns-in-None-clause-value
returns-in-None-clause-value c =
    rw (← c.self.view_is, ← c.deref.ensures.value)
    (sym (not_open c.deref.result.now c.args.at (sym c.place_of.ensures ∙ c.in-None.is)).found)

pub returns-in-None-clause-after : goal.returns-in-None-clause-after
returns-in-None-clause-after c =
    rw (← c.self.view_is, ← c.deref.ensures.value)
    (sym (not_open c.deref.result.now c.args.at (sym c.place_of.ensures ∙ c.in-None.is)).rest)
