use Rattle.std.proofs.Common.{◌≡◌, Some, sym, refl, subst, ◌∙◌}
use Rattle.turn_table.specs.Places.{IsLeft}
use Rattle.turn_table.proofs.Closing.{closes}
use Rattle.turn_table.proofs.steps.value_left.Goals as goal

pub unwrap-requires : goal.unwrap-requires
unwrap-requires g c =
    let left = closes g.V.Standing.entries g.V.Standing.start c.args.table.shared.key.passes (g.V.Standing.start c.args.table.shared.key.value.value) _ _ _ _ _ c.requires.away c.requires.numbers c.close_with-closed.ensures.values.2 c.take-value.ensures.value in
    rw left.1 refl

pub returns : goal.returns
returns g c =
    let entries = g.V.Standing.entries in
    let start = g.V.Standing.start in
    let passes = c.args.table.shared.key.passes in
    let begun = start c.args.table.shared.key.value.value in
    let left = closes entries start passes begun _ _ _ _ _ c.requires.away c.requires.numbers c.close_with-closed.ensures.values.2 c.take-value.ensures.value in
    let found : Some left.0 ≡ Some c.unwrap.result = sym left.1 ∙ c.unwrap.ensures in
    let same : left.0 ≡ c.unwrap.result = cc in
    subst (IsLeft entries start passes begun c.args.seat.me.0) same left.2
