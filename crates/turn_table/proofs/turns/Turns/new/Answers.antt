use Rattle.std.proofs.Common.{rules, ◌≡◌, [], ◌∷◌, Some}
use Rattle.turn_table.proofs.Making.{makes}
use Rattle.turn_table.proofs.turns.Turns.new.Goals as goal

pub new-requires : goal.new-requires
new-requires g c =
    let entries = g.V.Standing.entries in
    let start = g.V.Standing.start in
    let slots : c.push_reserved.new.self.items ≡ Some c.args.value ∷ [] = search rules in
    rw (slots, c.of.ensures) (makes entries start c.args.passes c.args.value c.requires.some c.requires.few c.requires.empty)
