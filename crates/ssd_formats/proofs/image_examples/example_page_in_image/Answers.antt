use Rattle.std.specs.Prelude.{refl}
use Rattle.ssd_formats.specs.Fields.{level_fields}
use Rattle.ssd_formats.specs.ImageHead.{read_head, words_field, first_sizes, fixed_fields, matrix_field, weak_record, weak_records, bad_record, bad_records, head_bytes}
use Rattle.ssd_formats.specs.ImageContents.{read_image, read_channels, channel_fields, blocks_fields, block_fields, programmed_fields, page_fields, die_fields, row_fields, row_field, page_row, channel_bytes}
use Rattle.ssd_formats.proofs.image_examples.example_page_in_image.Goals as goal

pub returns-clause-length : goal.returns-clause-length
unfolding head_bytes channel_bytes
returns-clause-length c = refl

pub returns-clause-read : goal.returns-clause-read
unfolding read_head words_field first_sizes fixed_fields level_fields matrix_field weak_record weak_records bad_record bad_records read_image read_channels channel_fields blocks_fields block_fields programmed_fields page_fields die_fields row_fields row_field page_row head_bytes channel_bytes
returns-clause-read c = refl

pub returns-clause-two_words : goal.returns-clause-two_words
unfolding read_head words_field first_sizes fixed_fields level_fields matrix_field weak_record weak_records bad_record bad_records read_image read_channels channel_fields blocks_fields block_fields programmed_fields page_fields die_fields row_fields row_field page_row head_bytes channel_bytes
returns-clause-two_words c = refl

pub returns-clause-no_codeword : goal.returns-clause-no_codeword
unfolding read_head words_field first_sizes fixed_fields level_fields matrix_field weak_record weak_records bad_record bad_records read_image read_channels channel_fields blocks_fields block_fields programmed_fields page_fields die_fields row_fields row_field page_row head_bytes channel_bytes
returns-clause-no_codeword c = refl
