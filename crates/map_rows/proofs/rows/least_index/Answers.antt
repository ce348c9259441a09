use Rattle.std.proofs.Common.{arith}
use Rattle.std.proofs.Common.{ap, Some}
use Rattle.ssd_histories.specs.PageMap.{index_in}
use Rattle.ssd_geo.specs.declared.row.Row.TheVariants.{Empty}
use Rattle.map_rows.proofs.Least.{least_more}
use Rattle.map_rows.proofs.rows.least_index.Goals as goal
use Rattle.map_rows.proofs.rows.least_index.Goals.{in-Some, in_default}

pub loop-row-preserved : goal.loop-row-preserved
loop-row-preserved c =
    let more = least_more (index_in c.args.sb) c.args.rows.now c.loop-row.row-index Empty c.loop-row-test.true in
    elim c.match-index_of.branch [ in-Some w ↦ rw (w.least-is, more, ← c.loop-row.invariant, ← w.in-Some.ensures) (ap (λ n. Some n) w.lesser.ensures) | in_default w ↦ grind (arith, more) ]
