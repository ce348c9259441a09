use Rattle.std.proofs.Common.{◌∙◌, ℕ, ap}
use Rattle.ssd_geo.specs.Limits.{code_bytes_of}
use Rattle.ssd_geo.specs.Senses.{five_senses, soft_values}
use Rattle.ssd_geo.specs.Shape.{sizes_of}
use Rattle.retry_ladder.proofs.PageCodes.{only_parts}
use Rattle.retry_ladder.proofs.codeword.soft_values_into.Goals as goal

pub returns-then-shape-eq1 : goal.returns-then-shape-eq1
returns-then-shape-eq1 c =
    c.soft_values.ensures
    ∙ ap (λ (n : ℕ). soft_values n (five_senses n c.args.five.now)) c.code_bytes.ensures.bytes
    ∙ ap (soft_values (code_bytes_of (sizes_of c.args.shape.now))) (only_parts (sizes_of c.args.shape.now) c.args.five.now c.args.f
    c.if-shape-eq1.true c.requires.codeword c.requires.five_len)
