use Rattle.ssd_geo.specs.Shape.{sizes_of}
use Rattle.page_head.proofs.PutParts.{part_fits}
use Rattle.chan_calls.proofs.EncodedPages.{one_encoded}
use Rattle.std.proofs.Common.{◌∙◌}
use Rattle.chan_calls.proofs.encoding.encode_page.Goals as goal

pub returns-then-shape-eq1 : goal.returns-then-shape-eq1
returns-then-shape-eq1 c =
    one_encoded (sizes_of c.args.shape.now) c.args.code.now c.args.payload.now c.encode_into.new.out
    c.if-shape-eq1.true (part_fits (sizes_of c.args.shape.now)) c.requires.payload
    (c.encode_into.auto.out ∙ c.requires.word) c.encode_into.ensures.word
