use Rattle.std.specs.Prelude.{refl}
use Rattle.ssd_formats.specs.Fields.{level_fields}
use Rattle.ssd_formats.specs.ImageHead.{read_head, words_field, first_sizes, fixed_fields, matrix_field, weak_record, weak_records, bad_record, bad_records}
use Rattle.ssd_formats.proofs.image_examples.example_image_lists.Goals as goal

pub returns-clause-lists : goal.returns-clause-lists
unfolding read_head words_field first_sizes fixed_fields level_fields matrix_field weak_record weak_records bad_record bad_records
returns-clause-lists c = refl

pub returns-clause-weak_die : goal.returns-clause-weak_die
unfolding read_head words_field first_sizes fixed_fields level_fields matrix_field weak_record weak_records bad_record bad_records
returns-clause-weak_die c = refl

pub returns-clause-weak_superblock : goal.returns-clause-weak_superblock
unfolding read_head words_field first_sizes fixed_fields level_fields matrix_field weak_record weak_records bad_record bad_records
returns-clause-weak_superblock c = refl

pub returns-clause-weak_order : goal.returns-clause-weak_order
unfolding read_head words_field first_sizes fixed_fields level_fields matrix_field weak_record weak_records bad_record bad_records
returns-clause-weak_order c = refl

pub returns-clause-weak_twice : goal.returns-clause-weak_twice
unfolding read_head words_field first_sizes fixed_fields level_fields matrix_field weak_record weak_records bad_record bad_records
returns-clause-weak_twice c = refl

pub returns-clause-weak_short : goal.returns-clause-weak_short
unfolding read_head words_field first_sizes fixed_fields level_fields matrix_field weak_record weak_records bad_record bad_records
returns-clause-weak_short c = refl

pub returns-clause-bad_zero : goal.returns-clause-bad_zero
unfolding read_head words_field first_sizes fixed_fields level_fields matrix_field weak_record weak_records bad_record bad_records
returns-clause-bad_zero c = refl

pub returns-clause-bad_order : goal.returns-clause-bad_order
unfolding read_head words_field first_sizes fixed_fields level_fields matrix_field weak_record weak_records bad_record bad_records
returns-clause-bad_order c = refl

pub returns-clause-bad_fit : goal.returns-clause-bad_fit
unfolding read_head words_field first_sizes fixed_fields level_fields matrix_field weak_record weak_records bad_record bad_records
returns-clause-bad_fit c = refl
