use Rattle.ssd_geo.specs.Shape.{sizes_of}
use Rattle.page_head.proofs.PutParts.{part_fits, stands_within}
use Rattle.page_head.proofs.parts.standing_of.Goals as goal

pub returns-clause-within : goal.returns-clause-within
returns-clause-within c =
    rw (c.payload_bytes.ensures.bytes, c.code_bytes.ensures.bytes)
    (stands_within (sizes_of c.args.shape.now) c.args.f (part_fits (sizes_of c.args.shape.now)) c.requires).parity
