use Rattle.std.proofs.Common.{◌≡◌, ℕ, ◌+◌, ◌*◌, ◌<◌, get_or, pos}
use Rattle.ssd_geo.specs.RowRule.{row_rule}
use Rattle.lane_layer.specs.Rows.{TellRows, number_of, row_of}
use Rattle.lane_layer.proofs.tile.tell.Given as goal

abbrev pub invariant-loop-e : goal.invariant-loop-e
invariant-loop-e g l = record {
  before : TellRows l.given l.z l.degree l.told l.t;
  now : (e k : ℕ) → e < l.e → k < g.row.L → number_of (get_or l.told (e * l.z + (l.t + k)) 0) ≡ get_or (row_rule (row_of l.given l.z (l.t + k) l.degree)) e (pos 0);
}
