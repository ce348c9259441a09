use Rattle.std.specs.Prelude.{refl}
use Rattle.ssd_formats.specs.Fields.{level_fields}
use Rattle.ssd_formats.specs.ImageHead.{read_head, head_bytes, words_field, first_sizes, fixed_fields, matrix_field, weak_record, weak_records, bad_record, bad_records}
use Rattle.ssd_formats.proofs.image_examples.example_two_words_image.Goals as goal

pub returns-clause-read : goal.returns-clause-read
unfolding read_head words_field first_sizes fixed_fields level_fields matrix_field weak_record weak_records bad_record bad_records
returns-clause-read c = refl

pub returns-clause-written : goal.returns-clause-written
unfolding head_bytes
returns-clause-written c = refl

pub returns-clause-no_words : goal.returns-clause-no_words
unfolding read_head words_field first_sizes fixed_fields level_fields matrix_field weak_record weak_records bad_record bad_records
returns-clause-no_words c = refl

pub returns-clause-three_words : goal.returns-clause-three_words
unfolding read_head words_field first_sizes fixed_fields level_fields matrix_field weak_record weak_records bad_record bad_records
returns-clause-three_words c = refl

pub returns-clause-five_words : goal.returns-clause-five_words
unfolding read_head words_field first_sizes fixed_fields level_fields matrix_field weak_record weak_records bad_record bad_records
returns-clause-five_words c = refl

pub returns-clause-short_words : goal.returns-clause-short_words
unfolding read_head words_field first_sizes fixed_fields level_fields matrix_field weak_record weak_records bad_record bad_records
returns-clause-short_words c = refl

pub returns-clause-data_bytes : goal.returns-clause-data_bytes
unfolding read_head words_field first_sizes fixed_fields level_fields matrix_field weak_record weak_records bad_record bad_records
returns-clause-data_bytes c = refl
