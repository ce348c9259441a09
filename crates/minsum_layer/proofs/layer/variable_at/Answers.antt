use Rattle.std.proofs.Common.{◌≡◌, ℕ, ◌+◌, ◌*◌, ◌-◌, ◌%◌, ◌<◌, ◌≤◌, rules, arith}
use Rattle.std.proofs.Math.Nat.{mod-eq_of_lt, mod-eq-sub-mod}
use Rattle.minsum_layer.proofs.layer.variable_at.Goals as goal
use Rattle.minsum_layer.proofs.layer.variable_at.Goals.{then-turned-z, else-turned-z}

at_place : (z sum column block place : ℕ) → column ≡ block → place ≡ sum % z → column * z + place ≡ block * z + sum % z
at_place z sum column block place e f = cc

turned_once : (z sum : ℕ) → z ≤ sum → sum < z + z → sum - z ≡ sum % z
turned_once z sum h k =
    let e : sum % z ≡ (sum - z) % z = mod-eq-sub-mod h in
    let f : (sum - z) % z ≡ sum - z = mod-eq_of_lt (omega arith) in
    cc

pub returns : goal.returns
returns c =
    let z = c.args.z in
    let sum = c.args.t + c.args.block.1 in
    let column = c.args.block.0 in
    elim c.if-turned-z.branch [
      | then-turned-z w ↦
          let e : sum % z ≡ sum = mod-eq_of_lt (omega arith) in
          at_place z sum _ column _ (search rules) (omega arith)
      | else-turned-z w ↦
          let e : sum - z ≡ sum % z = turned_once z sum (omega arith) (omega arith) in
          at_place z sum _ column _ (search rules) (omega arith)
    ]
