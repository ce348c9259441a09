use Rattle.std.proofs.Common.{◌≡◌, List, ℕ, sym, ap, ◌∙◌, arith, rules}
use Rattle.ssd_geo.specs.Codewords.{failed_checks}
use Rattle.ssd_geo.specs.PageWord.{code_in}
use Rattle.ssd_geo.specs.Shape.{sizes_of}
use Rattle.image_contents.proofs.PageCodes.{are_codewords_below, codeword_fails, codewords_more}
use Rattle.image_contents.proofs.sum.has_codewords.Goals as goal

pub loop-f-preserved : goal.loop-f-preserved
loop-f-preserved c =
    let m = c.args.code.now in
    let sizes = sizes_of c.args.shape.now in
    let word : List ℕ = c.args.word.now in
    let checked : c.failed_checks.result ≡ failed_checks m (code_in sizes word c.loop-f.f) = cc in
    record {
      so_far = codewords_more m sizes word c.loop-f.f c.loop-f.invariant.so_far (omega (arith, checked));
      length = search rules;
    }

pub returns-then-failed_checks-ne0 : goal.returns-then-failed_checks-ne0
returns-then-failed_checks-ne0 c =
    let m = c.args.code.now in
    let sizes = sizes_of c.args.shape.now in
    let word : List ℕ = c.args.word.now in
    let checked : c.failed_checks.result ≡ failed_checks m (code_in sizes word c.loop-f.f) = cc in
    sym (codeword_fails m sizes word c.loop-f.f (omega arith) (λ none. omega (arith, checked ∙ none)))

pub returns : goal.returns
returns c =
    let m = c.args.code.now in
    let sizes = sizes_of c.args.shape.now in
    let word : List ℕ = c.args.word.now in
    let all : sizes.words ≡ c.loop-f.f = omega arith in
    sym (ap (λ (n : ℕ). are_codewords_below m sizes word n) all ∙ c.loop-f.invariant.so_far)
