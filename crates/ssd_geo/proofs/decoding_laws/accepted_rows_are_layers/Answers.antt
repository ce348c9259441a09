use Rattle.ssd_geo.proofs.AcceptedLayers.{accepted_layer, accepted_columns}
use Rattle.ssd_geo.proofs.ApartRows.{one_block_and_row}
use Rattle.ssd_geo.proofs.decoding_laws.accepted_rows_are_layers.Goals as goal

pub returns-clause-layers : goal.returns-clause-layers
returns-clause-layers c = accepted_layer

pub returns-clause-columns : goal.returns-clause-columns
returns-clause-columns c = accepted_columns

pub returns-clause-apart : goal.returns-clause-apart
returns-clause-apart c = one_block_and_row
