use Rattle.std.proofs.Common.{◌≡◌}
use Rattle.std.specs.Prelude.{filter_map}
use Rattle.std.specs.List.{range_with_len}
use Rattle.ssd_geo.specs.BaseMatrix.{block_of_entry, entry_at}
use Rattle.qc_matrix.specs.Entries.{matrix_of}
use Rattle.qc_matrix.proofs.layers.layer_of_row.Given as goal

-- the blocks of the columns so far
abbrev pub invariant-loop-column : goal.invariant-loop-column
invariant-loop-column l =
    l.blocks.items ≡ filter_map (λ column. block_of_entry column (entry_at (matrix_of l.entries) l.i column)) (range_with_len 0 l.column)
