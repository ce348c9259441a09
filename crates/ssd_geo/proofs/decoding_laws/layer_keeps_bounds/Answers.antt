use Rattle.ssd_geo.proofs.DecodingBounds.{rows_variables_within, rows_edges_within}
use Rattle.ssd_geo.proofs.decoding_laws.layer_keeps_bounds.Goals as goal

pub returns-clause-variables : goal.returns-clause-variables
returns-clause-variables c = λ layer z p r h. rows_variables_within layer z z (p, r) h

pub returns-clause-edges : goal.returns-clause-edges
returns-clause-edges c = λ layer z p r h. rows_edges_within layer z z (p, r) h
