use Rattle.std.proofs.Common.{ℕ, max, cond, get_or, ltb, ◌≡◌, arith}
use Rattle.std.proofs.lemmas.Bool.Decides.{nat_tests}
use Rattle.lane_layer.proofs.LaneValues.{HasLanes-same, HasLanes-select}
use Rattle.lane_layer.proofs.lanes.greater.Goals as goal

is_greater : (a b : ℕ) → cond (ltb a b) b a ≡ max a b
is_greater a b = grind (arith, nat_tests)

pub returns : goal.returns
returns g c =
    let a = c.args.a in
    let b = c.args.b in
    HasLanes-same g.row.L _ _ _ (HasLanes-select g.row.L ltb a b b a c.fits-a.0 c.fits-b.0 c.fits-b.0 c.fits-a.0) (λ k l. is_greater (get_or a k 0) (get_or b k 0))
