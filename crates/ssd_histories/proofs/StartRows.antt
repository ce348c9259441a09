-- The page map of a start is that before the first entry.
use Rattle.std.proofs.Common.{◌≡◌, [], sym, ◌∙◌, arith}
use Rattle.std.proofs.lemmas.List.{ext_get_or}
use Rattle.std.proofs.lemmas.List.FromFn.{get_or-map-range_with_len, length-map-range_with_len}
use Rattle.ssd_histories.specs.PastRows.{row_of, rows_of}
use Rattle.ssd_histories.specs.Standing.{IsStart}
use Rattle.ssd_histories.specs.Start.{Start}
use Rattle.ssd_geo.specs.declared.row.Row.{Row}

-- the page map and the superblocks of the base are those before the first entry
pub rows_at_start : (start : Start) → IsStart start → start.base.rows ≡ rows_of start.base []
rows_at_start start is_start =
    ext_get_or Row.Empty start.base.rows (rows_of start.base [])
    (is_start.rows_count ∙ sym (length-map-range_with_len (row_of start.base []) 0 start.base.shape.rows))
    (λ row lt. sym (get_or-map-range_with_len (row_of start.base []) 0 start.base.shape.rows row row Row.Empty (omega (arith, is_start.rows_count)) (omega arith)))
