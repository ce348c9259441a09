use Rattle.std.proofs.Common.{◌≡◌, ◌⊎◌, Some, [], ◌∷◌, ◌++◌, sym, ap, subst, ◌∙◌, arith}
use Rattle.atomic_table.specs.Table.{rest}
use Rattle.ssd_geo.specs.declared.entry.Entry.{Entry}
use Rattle.turn_table.specs.declared.view.View.{View}
use Rattle.turn_table.proofs.Ending.{ends}
use Rattle.turn_table.proofs.steps.end.Goals as goal

pub fetch_add-requires : goal.fetch_add-requires
fetch_add-requires g c =
    let was = c.requires.in_turn.1 in
    let now = c.exchange.ensures.3 in
    let view = ap (λ m. m.0) now in (
      c.exchange.ensures.0 ∙ c.requires.table,
      omega arith,
      ends _ _ _ _ _ _ _ c.args.value
          (ap (λ v. v.stage) view ∙ ap (λ m. m.0.stage) was)
          (ap (λ v. v.joined) view ∙ ap (λ m. m.0.joined) was)
          (ap (λ m. m.1) now ∙ ap (λ m. (0, Some c.args.value) ∷ rest m.1) was)
          c.requires.start
          (subst (λ (v : View). (g.V.Standing.entries c.args.value ≡ v.seen) ⊎ ((entry : Entry) × (entry.tag.actor ≡ v.number) × (g.V.Standing.entries c.args.value ≡ v.seen ++ entry ∷ []))) (sym view) c.requires.list),
    )
