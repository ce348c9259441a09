use Rattle.std.proofs.Common.{◌≡◌}
use Rattle.image_file.proofs.SizeRanges.{is_within_limit, sizes_are_within}
use Rattle.image_file.specs.Sizes.{AreFirst, AreSizes, first_of}
use Rattle.ssd_geo.specs.Limits.{Sizes}
use Rattle.image_file.proofs.sizes.read_sizes.Goals as goal

pub invariant_of-result : goal.invariant_of-result
invariant_of-result g c =
    let first = c.in_ok-first.first in
    let are : AreFirst (first_of first) = c.in_ok-first.ensures.range in
    let sizes : Sizes = record (first_of first) { nb = c.in_ok-nb.nb; bytes = c.in_ok-bytes.bytes; rows = c.in_ok-rows.rows } in
    let known : AreSizes sizes = record {
      first = record { words = are.words; channels = are.channels; dies = are.dies; superblocks = are.superblocks; pages = are.pages; lifting = are.lifting; base_rows = are.base_rows };
      base_columns = c.in_ok-nb.ensures.range;
      bytes = is_within_limit _ _ _ _ c.data_limit.ensures c.in_ok-bytes.ensures.range;
      rows = is_within_limit _ _ _ _ c.row_limit-most_rows.ensures c.in_ok-rows.ensures.range;
    } in
    record { within = sizes_are_within sizes known }
