use Rattle.std.proofs.Common.{◌∙◌, ap, Some, sym}
use Rattle.block_pins.proofs.Places.{not_open, open_at}
use Rattle.block_pins.proofs.pins.Pins.find.Goals as goal

pub returns-in-Some : goal.returns-in-Some
returns-in-Some c =
    let open_one = open_at c.deref.result.now c.args.at c.in-Some.place c.index.result.now
    (sym c.place_of.ensures ∙ c.in-Some.is) in
    rw (← c.self.view_is, ← c.deref.ensures.value)
    (sym (open_one.found ∙ ap (λ p. Some p) (sym (rw (← c.deref.ensures.value) at c.index.ensures))))

pub returns-in-None : goal.returns-in-None
returns-in-None c =
    rw (← c.self.view_is, ← c.deref.ensures.value)
    (sym (not_open c.deref.result.now c.args.at (sym c.place_of.ensures ∙ c.in-None.is)).found)
