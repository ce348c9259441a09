use Rattle.ssd_geo.proofs.Payloads.{only_payloads_give_bytes, payloads_give_their_bytes, payloads_have_their_length}
use Rattle.ssd_geo.proofs.page_laws.payloads_give_their_bytes.Goals as goal

pub returns : goal.returns
returns c =
    record { length = payloads_have_their_length; back = payloads_give_their_bytes; alone = only_payloads_give_bytes }
