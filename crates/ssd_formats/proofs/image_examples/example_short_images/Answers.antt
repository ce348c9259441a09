use Rattle.std.specs.Prelude.{refl}
use Rattle.ssd_formats.specs.Fields.{level_fields}
use Rattle.ssd_formats.specs.ImageHead.{read_head, words_field, first_sizes, fixed_fields, matrix_field, weak_record, weak_records, bad_record, bad_records}
use Rattle.ssd_formats.proofs.image_examples.example_short_images.Goals as goal

pub returns-clause-first : goal.returns-clause-first
unfolding read_head words_field first_sizes fixed_fields level_fields matrix_field weak_record weak_records bad_record bad_records
returns-clause-first c = refl

pub returns-clause-second : goal.returns-clause-second
unfolding read_head words_field first_sizes fixed_fields level_fields matrix_field weak_record weak_records bad_record bad_records
returns-clause-second c = refl
