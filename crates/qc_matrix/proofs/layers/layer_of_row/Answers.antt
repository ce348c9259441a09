-- The next column gives its block, or none.
use Rattle.std.proofs.Common.{◌++◌, ℕ, ap, ◌∙◌}
use Rattle.std.specs.Prelude.{Option, option_to_list}
use Rattle.ssd_geo.specs.BaseMatrix.{block_of_entry, entry_at}
use Rattle.qc_matrix.specs.Entries.{matrix_of}
use Rattle.qc_matrix.proofs.Ranges.{filter_map-pushed}
use Rattle.qc_matrix.proofs.layers.layer_of_row.Goals as goal

pub loop-column-preserved : goal.loop-column-preserved
loop-column-preserved c =
    filter_map-pushed (λ column. block_of_entry column (entry_at (matrix_of c.args.entries.now) c.args.i column)) c.loop-column.column c.loop-column.blocks.items
    c.push_some.new.blocks.items c.loop-column.invariant
    (c.in_ok-push_some.ensures ∙ ap (λ (o : Option (ℕ × ℕ)). c.loop-column.blocks.items ++ option_to_list o) c.block.ensures)
