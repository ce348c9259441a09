-- The head of an image is read in parts.
use Rattle.std.proofs.Common.{◌≡◌, [], List, ℕ, refl}
use Rattle.std.specs.Int.{w16}
use Rattle.ssd_formats.specs.Fields.{number_field, is_any, level_fields}
use Rattle.ssd_formats.specs.ImageHead.{read_head, fixed_fields, from_beginning, matrix_field, weak_records, bad_records}
use Rattle.image_file.specs.HeadParts.{block_fields, head_fields}
use Rattle.image_file.proofs.FixedParts.{ahead, then_same}

pub head_in_parts : (bytes : List ℕ) → read_head bytes ≡ head_fields (from_beginning bytes)
unfolding read_head head_fields block_fields
head_in_parts bytes =
    then_same (fixed_fields (from_beginning bytes)) _ _ (λ fixed.
    then_same (level_fields fixed.0.levels [] fixed.1) _ _ (λ levels.
    then_same (matrix_field fixed.0.sizes levels.1) _ _ (λ entries.
    ahead (number_field w16 is_any entries.1) _ _ _ (λ weak_count.
    ahead (weak_records fixed.0.sizes weak_count.0 [] weak_count.1) _ _ _ (λ weak.
    ahead (number_field w16 is_any weak.1) _ _ _ (λ bad_count.
    ahead (bad_records fixed.0.sizes bad_count.0 [] bad_count.1) _ _ _ (λ bad. refl)))))))
