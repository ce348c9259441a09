use Rattle.std.specs.Prelude.{refl}
use Rattle.ssd_formats.specs.Fields.{level_fields}
use Rattle.ssd_formats.specs.ImageHead.{read_head, words_field, first_sizes, fixed_fields, matrix_field, weak_record, weak_records, bad_record, bad_records}
use Rattle.ssd_formats.specs.ImageContents.{read_image, read_channels, channel_fields, blocks_fields, block_fields, programmed_fields, page_fields, die_fields, row_fields, row_field, page_row}
use Rattle.ssd_formats.specs.TraceText.{calls_of_lines, trace_of_lines}
use Rattle.ssd_formats.specs.Input.{read_input}
use Rattle.ssd_formats.proofs.image_examples.example_input.Goals as goal

pub returns-clause-given : goal.returns-clause-given
unfolding read_input read_head words_field first_sizes fixed_fields level_fields matrix_field weak_record weak_records bad_record bad_records read_image read_channels channel_fields blocks_fields block_fields programmed_fields page_fields die_fields row_fields row_field page_row calls_of_lines trace_of_lines
returns-clause-given c = refl

pub returns-clause-no_image : goal.returns-clause-no_image
unfolding read_input read_head words_field first_sizes fixed_fields level_fields matrix_field weak_record weak_records bad_record bad_records read_image read_channels channel_fields blocks_fields block_fields programmed_fields page_fields die_fields row_fields row_field page_row calls_of_lines trace_of_lines
returns-clause-no_image c = refl

pub returns-clause-no_trace : goal.returns-clause-no_trace
unfolding read_input read_head words_field first_sizes fixed_fields level_fields matrix_field weak_record weak_records bad_record bad_records read_image read_channels channel_fields blocks_fields block_fields programmed_fields page_fields die_fields row_fields row_field page_row calls_of_lines trace_of_lines
returns-clause-no_trace c = refl

pub returns-clause-no_page : goal.returns-clause-no_page
unfolding read_input read_head words_field first_sizes fixed_fields level_fields matrix_field weak_record weak_records bad_record bad_records read_image read_channels channel_fields blocks_fields block_fields programmed_fields page_fields die_fields row_fields row_field page_row calls_of_lines trace_of_lines
returns-clause-no_page c = refl
