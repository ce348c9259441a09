use Rattle.std.proofs.Common.{◌≡◌, take}
use Rattle.std.specs.Prelude.{filter_map}
use Rattle.ssd_histories.specs.PageMap.{index_in, least_of}
use Rattle.map_rows.proofs.rows.least_index.Given as goal

abbrev pub invariant-loop-row : goal.invariant-loop-row
invariant-loop-row l = l.least ≡ least_of (filter_map (index_in l.sb) (take l.row-index l.rows))
