use Rattle.std.proofs.Common.{◌≡◌, ℕ}
use Rattle.cell_law.proofs.FreshLemmas.{lowest_lane}
use Rattle.cell_law.proofs.fresh.lowest_levels.Goals as goal
use Rattle.shared_lemmas.proofs.Lists.{eight_equal}

pub returns : goal.returns
returns c =
    let byte = c.args.byte in
    let one = c.args.of_one in
    let zero = c.args.of_zero in
    let given = c.from.result in
    let same : given ≡ byte = c.from.ensures in
    let f = c.ranges.of_one in
    let g = c.ranges.of_zero in
    eight_equal (lowest_lane given byte 0 one zero same f g) (lowest_lane given byte 1 one zero same f g) (lowest_lane given byte 2 one zero same f g)
    (lowest_lane given byte 3 one zero same f g) (lowest_lane given byte 4 one zero same f g) (lowest_lane given byte 5 one zero same f g)
    (lowest_lane given byte 6 one zero same f g) (lowest_lane given byte 7 one zero same f g)
