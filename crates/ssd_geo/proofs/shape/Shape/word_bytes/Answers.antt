use Rattle.std.proofs.Common.{ℕ, ◌*◌, ◌∙◌, ap}
use Rattle.ssd_geo.proofs.Sizes.{eight_times}
use Rattle.ssd_geo.proofs.shape.Shape.word_bytes.Goals as goal

pub returns-clause-bits : goal.returns-clause-bits
returns-clause-bits c =
    eight_times c.args.self.now.words c.code_bytes.result
    ∙ ap (λ (n : ℕ). c.args.self.now.words * n) c.code_bytes.ensures.bits
