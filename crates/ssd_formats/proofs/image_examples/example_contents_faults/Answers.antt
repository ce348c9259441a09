use Rattle.std.specs.Prelude.{refl}
use Rattle.ssd_formats.specs.Fields.{level_fields}
use Rattle.ssd_formats.specs.ImageHead.{read_head, words_field, first_sizes, fixed_fields, matrix_field, weak_record, weak_records, bad_record, bad_records, head_bytes}
use Rattle.ssd_formats.specs.ImageContents.{read_image, read_channels, channel_fields, blocks_fields, block_fields, programmed_fields, page_fields, die_fields, row_fields, row_field, page_row, channel_bytes}
use Rattle.ssd_formats.proofs.image_examples.example_contents_faults.Goals as goal

pub returns-clause-state : goal.returns-clause-state
unfolding read_head words_field first_sizes fixed_fields level_fields matrix_field weak_record weak_records bad_record bad_records read_image read_channels channel_fields blocks_fields block_fields programmed_fields page_fields die_fields row_fields row_field page_row head_bytes channel_bytes
returns-clause-state c = refl

pub returns-clause-erases : goal.returns-clause-erases
unfolding read_head words_field first_sizes fixed_fields level_fields matrix_field weak_record weak_records bad_record bad_records read_image read_channels channel_fields blocks_fields block_fields programmed_fields page_fields die_fields row_fields row_field page_row head_bytes channel_bytes
returns-clause-erases c = refl

pub returns-clause-used : goal.returns-clause-used
unfolding read_head words_field first_sizes fixed_fields level_fields matrix_field weak_record weak_records bad_record bad_records read_image read_channels channel_fields blocks_fields block_fields programmed_fields page_fields die_fields row_fields row_field page_row head_bytes channel_bytes
returns-clause-used c = refl

pub returns-clause-programmed : goal.returns-clause-programmed
unfolding read_head words_field first_sizes fixed_fields level_fields matrix_field weak_record weak_records bad_record bad_records read_image read_channels channel_fields blocks_fields block_fields programmed_fields page_fields die_fields row_fields row_field page_row head_bytes channel_bytes
returns-clause-programmed c = refl

pub returns-clause-bad_programmed : goal.returns-clause-bad_programmed
unfolding read_head words_field first_sizes fixed_fields level_fields matrix_field weak_record weak_records bad_record bad_records read_image read_channels channel_fields blocks_fields block_fields programmed_fields page_fields die_fields row_fields row_field page_row head_bytes channel_bytes
returns-clause-bad_programmed c = refl

pub returns-clause-level : goal.returns-clause-level
unfolding read_head words_field first_sizes fixed_fields level_fields matrix_field weak_record weak_records bad_record bad_records read_image read_channels channel_fields blocks_fields block_fields programmed_fields page_fields die_fields row_fields row_field page_row head_bytes channel_bytes
returns-clause-level c = refl

pub returns-clause-second_frontier : goal.returns-clause-second_frontier
unfolding read_head words_field first_sizes fixed_fields level_fields matrix_field weak_record weak_records bad_record bad_records read_image read_channels channel_fields blocks_fields block_fields programmed_fields page_fields die_fields row_fields row_field page_row head_bytes channel_bytes
returns-clause-second_frontier c = refl

pub returns-clause-no_codeword : goal.returns-clause-no_codeword
unfolding read_head words_field first_sizes fixed_fields level_fields matrix_field weak_record weak_records bad_record bad_records read_image read_channels channel_fields blocks_fields block_fields programmed_fields page_fields die_fields row_fields row_field page_row head_bytes channel_bytes
returns-clause-no_codeword c = refl

pub returns-clause-row_kind : goal.returns-clause-row_kind
unfolding read_head words_field first_sizes fixed_fields level_fields matrix_field weak_record weak_records bad_record bad_records read_image read_channels channel_fields blocks_fields block_fields programmed_fields page_fields die_fields row_fields row_field page_row head_bytes channel_bytes
returns-clause-row_kind c = refl

pub returns-clause-row_superblock : goal.returns-clause-row_superblock
unfolding read_head words_field first_sizes fixed_fields level_fields matrix_field weak_record weak_records bad_record bad_records read_image read_channels channel_fields blocks_fields block_fields programmed_fields page_fields die_fields row_fields row_field page_row head_bytes channel_bytes
returns-clause-row_superblock c = refl

pub returns-clause-row_index : goal.returns-clause-row_index
unfolding read_head words_field first_sizes fixed_fields level_fields matrix_field weak_record weak_records bad_record bad_records read_image read_channels channel_fields blocks_fields block_fields programmed_fields page_fields die_fields row_fields row_field page_row head_bytes channel_bytes
returns-clause-row_index c = refl

pub returns-clause-row_repeated : goal.returns-clause-row_repeated
unfolding read_head words_field first_sizes fixed_fields level_fields matrix_field weak_record weak_records bad_record bad_records read_image read_channels channel_fields blocks_fields block_fields programmed_fields page_fields die_fields row_fields row_field page_row head_bytes channel_bytes
returns-clause-row_repeated c = refl

pub returns-clause-row_short : goal.returns-clause-row_short
unfolding read_head words_field first_sizes fixed_fields level_fields matrix_field weak_record weak_records bad_record bad_records read_image read_channels channel_fields blocks_fields block_fields programmed_fields page_fields die_fields row_fields row_field page_row head_bytes channel_bytes
returns-clause-row_short c = refl
