use Rattle.std.specs.Prelude.{refl}
use Rattle.ssd_formats.specs.Fields.{level_fields}
use Rattle.ssd_formats.specs.ImageHead.{read_head, head_bytes, first_head_bytes, words_field, first_sizes, fixed_fields, matrix_field, weak_record, weak_records, bad_record, bad_records}
use Rattle.ssd_formats.proofs.image_examples.example_image.Goals as goal

pub returns-clause-read : goal.returns-clause-read
unfolding read_head words_field first_sizes fixed_fields level_fields matrix_field weak_record weak_records bad_record bad_records
returns-clause-read c = refl

pub returns-clause-written : goal.returns-clause-written
unfolding first_head_bytes
returns-clause-written c = refl

pub returns-clause-second_read : goal.returns-clause-second_read
unfolding read_head words_field first_sizes fixed_fields level_fields matrix_field weak_record weak_records bad_record bad_records
returns-clause-second_read c = refl

pub returns-clause-second_written : goal.returns-clause-second_written
unfolding head_bytes
returns-clause-second_written c = refl
