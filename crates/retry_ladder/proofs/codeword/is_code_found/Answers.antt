use Rattle.std.proofs.Common.{◌≡◌, ◌∙◌, sym, subst, None, Some, Bool}
use Rattle.std.specs.Prelude.{MatchBool}
use Rattle.ssd_geo.specs.Coding.{code_found}
use Rattle.ssd_geo.specs.PageWord.{code_in}
use Rattle.ssd_geo.specs.Shape.{sizes_of}
use Rattle.retry_ladder.proofs.PageCodes.{found_there, only_code}
use Rattle.retry_ladder.proofs.codeword.is_code_found.Goals as goal

pub returns-then-shape-eq1-clause-answer : goal.returns-then-shape-eq1-clause-answer
returns-then-shape-eq1-clause-answer g c =
    let sizes = sizes_of c.args.shape.now in
    let found = code_found (g.C.Decode.matrix c.args.decoder.now) (g.C.Decode.limit c.args.decoder.now) c.args.values.now in
    let code = code_in sizes c.decode.new.word c.args.f in
    subst (λ (b : Bool). MatchBool b (found ≡ Some code) (found ≡ None)) (sym c.is_some.ensures)
    (found_there _ c.args.word.now c.decode.new.word code c.decode.result c.decode.ensures.answer
    (sym (only_code sizes c.decode.new.word c.args.f c.if-shape-eq1.true c.requires.codeword
    (c.decode.auto.word ∙ c.requires.word_len))))
