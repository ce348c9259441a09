use Rattle.std.proofs.Common.{rules, Some, ◌∷◌, sym, ap, ◌∙◌}
use Rattle.atomic_table.specs.Table.{rest}
use Rattle.turn_table.proofs.turns.Turns.take_begun.Goals as goal

pub exchange-value-requires : goal.exchange-value-requires
exchange-value-requires g c =
    let me = c.wait.ensures.3.1 in (
      c.wait.ensures.3.0 ∙ (c.draw-ticket.ensures.2.0 ∙ search rules),
      (Some c.wait.ensures.0, ap (λ m. m.1) me ∙ sym (ap (λ m. (0, Some c.wait.ensures.0) ∷ rest m.1) me)),
    )
