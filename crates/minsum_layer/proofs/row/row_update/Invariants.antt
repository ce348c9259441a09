use Rattle.std.proofs.Common.{◌≡◌, ℕ, ◌<◌, get_or, pos}
use Rattle.std.specs.List.{remove}
use Rattle.ssd_geo.specs.RowRule.{told_by}
use Rattle.minsum_layer.proofs.row.row_update.Given as goal

abbrev pub invariant-loop-i : goal.invariant-loop-i
invariant-loop-i l = (k : ℕ) → k < l.i → get_or l.r_out k (pos 0) ≡ told_by (remove l.q k)
