use Rattle.std.specs.Prelude.{refl}
use Rattle.ssd_formats.specs.Fields.{level_fields}
use Rattle.ssd_formats.specs.ImageHead.{read_head, words_field, first_sizes, fixed_fields, matrix_field, weak_record, weak_records, bad_record, bad_records, head_bytes}
use Rattle.ssd_formats.specs.ImageContents.{read_image, read_channels, channel_fields, blocks_fields, block_fields, programmed_fields, page_fields, die_fields, row_fields, row_field, page_row, channel_bytes}
use Rattle.ssd_formats.proofs.image_examples.example_saved_image.Goals as goal

pub returns-clause-blank : goal.returns-clause-blank
unfolding read_head words_field first_sizes fixed_fields level_fields matrix_field weak_record weak_records bad_record bad_records read_image read_channels channel_fields blocks_fields block_fields programmed_fields page_fields die_fields row_fields row_field page_row
returns-clause-blank c = refl

pub returns-clause-saved : goal.returns-clause-saved
unfolding head_bytes channel_bytes
returns-clause-saved c = refl

pub returns-clause-read : goal.returns-clause-read
unfolding read_head words_field first_sizes fixed_fields level_fields matrix_field weak_record weak_records bad_record bad_records read_image read_channels channel_fields blocks_fields block_fields programmed_fields page_fields die_fields row_fields row_field page_row
returns-clause-read c = refl
