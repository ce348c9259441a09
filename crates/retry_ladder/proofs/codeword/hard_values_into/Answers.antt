use Rattle.std.proofs.Common.{◌∙◌, ap, sym}
use Rattle.ssd_geo.specs.Senses.{hard_values}
use Rattle.ssd_geo.specs.Shape.{sizes_of}
use Rattle.retry_ladder.proofs.PageCodes.{only_code}
use Rattle.retry_ladder.proofs.codeword.hard_values_into.Goals as goal

pub returns-then-shape-eq1 : goal.returns-then-shape-eq1
returns-then-shape-eq1 c =
    c.hard_values.ensures
    ∙ ap hard_values (sym (only_code (sizes_of c.args.shape.now) c.args.sense.now c.args.f c.if-shape-eq1.true
    c.requires.codeword c.requires.sense_len))
