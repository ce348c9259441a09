use Rattle.std.proofs.Common.{◌∙◌, ◌<◌, ◌≢◌, ℕ, List, Option, ap, arith, below_more}
use Rattle.ssd_geo.specs.BaseMatrix.{BaseMatrix}
use Rattle.ssd_geo.specs.Shape.{sizes_of}
use Rattle.retry_ladder.specs.Kept.{finds_in, found_or_kept, kept_at}
use Rattle.retry_ladder.proofs.KeptCodes.{all_decoded}
use Rattle.retry_ladder.proofs.found.keep_found.Goals as goal

pub loop-f-preserved : goal.loop-f-preserved
loop-f-preserved g c =
    let sizes = sizes_of c.args.shape.now in
    let f : ℕ = c.loop-f.f in
    let below : f < c.args.shape.now.words = c.loop-f-test.true in
    let matrix = g.C.Decode.matrix c.args.decoder.now in
    let limit : ℕ = g.C.Decode.limit c.args.decoder.now in
    let senses : List ℕ = c.args.senses.now in
    let was : Option (List ℕ) = kept_at sizes c.loop-f.kept c.loop-f.word f in
    record {
      decoded =
          below_more _ _
          (λ j before.
          let other : j ≢ f = omega (arith, before) in
          c.keep_code.ensures.others j (omega (arith, before, below)) other ∙ c.loop-f.invariant.decoded j before)
          (c.keep_code.ensures.own
          ∙ ap (λ (m : BaseMatrix). found_or_kept (finds_in sizes m (g.C.Decode.limit c.loop-f.decoder) c.args.part senses) f was)
          c.loop-f.invariant.matrix
          ∙ ap (λ (n : ℕ). found_or_kept (finds_in sizes matrix n c.args.part senses) f was) c.loop-f.invariant.limit
          ∙ ap (found_or_kept (finds_in sizes matrix limit c.args.part senses) f)
          (c.loop-f.invariant.left f (omega arith) below));
      left =
          λ j after within.
          let other : j ≢ f = omega (arith, after) in
          c.keep_code.ensures.others j within other ∙ c.loop-f.invariant.left j (omega (arith, after)) within;
      matrix = c.keep_code.ensures.matrix ∙ c.loop-f.invariant.matrix;
      limit = c.keep_code.ensures.limit ∙ c.loop-f.invariant.limit;
    }

pub returns-clause-kept : goal.returns-clause-kept
returns-clause-kept g c =
    all_decoded (sizes_of c.args.shape.now) _ c.args.kept.now c.loop-f.kept c.args.word.now c.loop-f.word
    (λ f below. c.loop-f.invariant.decoded f (omega (arith, below, c.loop-f-test.false)))
