use Rattle.std.specs.Prelude.{refl}
use Rattle.ssd_formats.specs.Fields.{level_fields}
use Rattle.ssd_formats.specs.ImageHead.{read_head, words_field, first_sizes, fixed_fields, matrix_field, weak_record, weak_records, bad_record, bad_records}
use Rattle.ssd_formats.proofs.image_examples.example_image_faults.Goals as goal

pub returns-clause-magic : goal.returns-clause-magic
unfolding read_head words_field first_sizes fixed_fields level_fields matrix_field weak_record weak_records bad_record bad_records
returns-clause-magic c = refl

pub returns-clause-channels : goal.returns-clause-channels
unfolding read_head words_field first_sizes fixed_fields level_fields matrix_field weak_record weak_records bad_record bad_records
returns-clause-channels c = refl

pub returns-clause-base_rows : goal.returns-clause-base_rows
unfolding read_head words_field first_sizes fixed_fields level_fields matrix_field weak_record weak_records bad_record bad_records
returns-clause-base_rows c = refl

pub returns-clause-base_columns : goal.returns-clause-base_columns
unfolding read_head words_field first_sizes fixed_fields level_fields matrix_field weak_record weak_records bad_record bad_records
returns-clause-base_columns c = refl

pub returns-clause-programmed : goal.returns-clause-programmed
unfolding read_head words_field first_sizes fixed_fields level_fields matrix_field weak_record weak_records bad_record bad_records
returns-clause-programmed c = refl

pub returns-clause-entry : goal.returns-clause-entry
unfolding read_head words_field first_sizes fixed_fields level_fields matrix_field weak_record weak_records bad_record bad_records
returns-clause-entry c = refl

pub returns-clause-parity : goal.returns-clause-parity
unfolding read_head words_field first_sizes fixed_fields level_fields matrix_field weak_record weak_records bad_record bad_records
returns-clause-parity c = refl

pub returns-clause-diagonal : goal.returns-clause-diagonal
unfolding read_head words_field first_sizes fixed_fields level_fields matrix_field weak_record weak_records bad_record bad_records
returns-clause-diagonal c = refl

pub returns-clause-contents : goal.returns-clause-contents
unfolding read_head words_field first_sizes fixed_fields level_fields matrix_field weak_record weak_records bad_record bad_records
returns-clause-contents c = refl

pub returns-clause-third_version : goal.returns-clause-third_version
unfolding read_head words_field first_sizes fixed_fields level_fields matrix_field weak_record weak_records bad_record bad_records
returns-clause-third_version c = refl

pub returns-clause-second_channels : goal.returns-clause-second_channels
unfolding read_head words_field first_sizes fixed_fields level_fields matrix_field weak_record weak_records bad_record bad_records
returns-clause-second_channels c = refl

pub returns-clause-second_entry : goal.returns-clause-second_entry
unfolding read_head words_field first_sizes fixed_fields level_fields matrix_field weak_record weak_records bad_record bad_records
returns-clause-second_entry c = refl

pub returns-clause-second_contents : goal.returns-clause-second_contents
unfolding read_head words_field first_sizes fixed_fields level_fields matrix_field weak_record weak_records bad_record bad_records
returns-clause-second_contents c = refl
