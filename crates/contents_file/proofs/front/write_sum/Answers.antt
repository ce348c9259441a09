use Rattle.std.proofs.Common.{◌≡◌, Bool, true, List, ℕ, [], sym, ap, ◌∙◌}
use Rattle.std.specs.Prelude.{if◌then◌else◌}
use Rattle.ssd_formats.specs.ImageContents.{is_stripe_open}
use Rattle.ssd_geo.specs.Shape.{sizes_of}
use Rattle.ssd_io.proofs.WriteSteps.{writes_is}
use Rattle.contents_file.proofs.front.write_sum.Goals as goal

pub returns-then-has_open_stripe : goal.returns-then-has_open_stripe
returns-then-has_open_stripe g c =
    let sum : List ℕ = c.args.sum.now in
    let open_is : is_stripe_open (sizes_of c.args.shape.now) c.args.block.now ≡ true = sym c.has_open_stripe.ensures ∙ c.if-has_open_stripe.true in
    writes_is (if is_stripe_open (sizes_of c.args.shape.now) c.args.block.now then sum else [])
    (ap (λ (b : Bool). if b then sum else []) open_is) c.put.ensures
