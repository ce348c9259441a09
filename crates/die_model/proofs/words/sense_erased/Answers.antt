use Rattle.std.proofs.Common.{◌≡◌, ◌∙◌, Bool, true, false, cond, ap, sym, length, replicate, arith}
use Rattle.std.proofs.lemmas.Int.{ints}
use Rattle.ssd_geo.specs.Cells.{sensed_bit}
use Rattle.die_model.proofs.WordLemmas.{sensed_same}
use Rattle.die_model.proofs.words.sense_erased.Goals as goal

pub returns-then-erased-level : goal.returns-then-erased-level
returns-then-erased-level c =
    let below : sensed_bit c.args.level c.args.erased ≡ true = let t = c.if-erased-level.true in grind (arith, ints) in
    c.fill.ensures ∙ sym (sensed_same c.args.level c.args.erased (length c.args.out.now)
    ∙ ap (λ (bit : Bool). replicate (length c.args.out.now) (cond bit 255 0)) below)

pub returns-else-erased-level : goal.returns-else-erased-level
returns-else-erased-level c =
    let above : sensed_bit c.args.level c.args.erased ≡ false = let t = c.if-erased-level.false in grind (arith, ints) in
    c.fill-else-erased-level.ensures ∙ sym (sensed_same c.args.level c.args.erased (length c.args.out.now)
    ∙ ap (λ (bit : Bool). replicate (length c.args.out.now) (cond bit 255 0)) above)
