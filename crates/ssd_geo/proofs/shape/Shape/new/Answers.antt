use Rattle.std.proofs.Common.{rules}
use Rattle.ssd_geo.proofs.shape.Shape.new.Goals as goal

-- src/shape.rt:98:13
pub invariant_of-result : goal.invariant_of-result
invariant_of-result c = record {
  within = record {
    words_low = search rules;
    words_high = search rules;
    words_not_three = search rules;
    channels_low = search rules;
    channels_high = search rules;
    dies_low = search rules;
    dies_high = search rules;
    superblocks_low = search rules;
    superblocks_high = search rules;
    pages_low = search rules;
    pages_high = search rules;
    lifting_low = search rules;
    lifting_high = search rules;
    base_rows_low = search rules;
    base_rows_high = search rules;
    base_columns_low = search rules;
    base_columns_high = search rules;
    whole_payload_bytes = search rules;
    whole_word_bytes = search rules;
    cells_high = search rules;
    bytes_low = search rules;
    bytes_high = search rules;
    rows_low = search rules;
    rows_high = search rules;
  };
}
