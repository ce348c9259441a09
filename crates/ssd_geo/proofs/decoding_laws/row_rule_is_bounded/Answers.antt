use Rattle.ssd_geo.proofs.DecodingBounds.{row_rule_within}
use Rattle.ssd_geo.proofs.decoding_laws.row_rule_is_bounded.Goals as goal

pub returns : goal.returns
returns c = row_rule_within
