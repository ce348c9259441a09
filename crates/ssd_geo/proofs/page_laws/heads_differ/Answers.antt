use Rattle.ssd_geo.proofs.Payloads.{heads_differ, serials_name_their_calls}
use Rattle.ssd_geo.proofs.page_laws.heads_differ.Goals as goal

pub returns : goal.returns
returns c = record { heads = heads_differ; serials = serials_name_their_calls }
