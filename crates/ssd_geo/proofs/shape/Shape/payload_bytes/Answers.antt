use Rattle.std.proofs.Common.{ℕ, ◌*◌, ◌-◌, ◌/◌, ◌∙◌, ap}
use Rattle.ssd_geo.proofs.Sizes.{eight_times, whole_eighths}
use Rattle.ssd_geo.proofs.shape.Shape.payload_bytes.Goals as goal

pub returns-clause-bits : goal.returns-clause-bits
returns-clause-bits c =
    let bits : ℕ = (c.args.self.now.nb - c.args.self.now.mb) * c.args.self.now.z in
    eight_times c.args.self.now.words (bits / 8)
    ∙ ap (λ (n : ℕ). c.args.self.now.words * n) (whole_eighths bits c.args.self.now.within.whole_payload_bytes)
