use Rattle.std.proofs.Common.{◌≡◌, ◌≤◌, drop, fold}
use Rattle.ssd_geo.specs.RowRule.{differ, is_product_negative}
use Rattle.minsum_layer.proofs.TwoLeast.{keep}
use Rattle.minsum_layer.proofs.row.extremes_of.Given as goal

abbrev pub invariant-loop-x : goal.invariant-loop-x
invariant-loop-x l =
    (l.least ≤ 127) × (l.second ≤ 127) × (fold keep (l.least, l.second) (drop l.x-index l.q) ≡ fold keep (127, 127) l.q) × (differ l.negative (is_product_negative (drop l.x-index l.q)) ≡ is_product_negative l.q)
