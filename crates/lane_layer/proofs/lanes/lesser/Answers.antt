use Rattle.std.proofs.Common.{ℕ, min, cond, get_or, ltb, ◌≡◌, arith}
use Rattle.std.proofs.lemmas.Bool.Decides.{nat_tests}
use Rattle.lane_layer.proofs.LaneValues.{HasLanes-same, HasLanes-select}
use Rattle.lane_layer.proofs.lanes.lesser.Goals as goal

is_lesser : (a b : ℕ) → cond (ltb a b) a b ≡ min a b
is_lesser a b = grind (arith, nat_tests)

pub returns : goal.returns
returns g c =
    let a = c.args.a in
    let b = c.args.b in
    HasLanes-same g.row.L _ _ _ (HasLanes-select g.row.L ltb a b a b c.fits-a.0 c.fits-b.0 c.fits-a.0 c.fits-b.0) (λ k l. is_lesser (get_or a k 0) (get_or b k 0))
