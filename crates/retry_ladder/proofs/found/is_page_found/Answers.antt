use Rattle.std.proofs.Common.{◌∙◌, ap, false, List, Option, refl, sym, true, ℕ}
use Rattle.ssd_geo.specs.Coding.{coding_in}
use Rattle.ssd_geo.specs.Ladder.{partly}
use Rattle.ssd_geo.specs.Shape.{sizes_of}
use Rattle.std.specs.Prelude.{[], length}
use Rattle.retry_ladder.specs.Decoder.{is_expected}
use Rattle.retry_ladder.specs.Kept.{finds_in, kept_in}
use Rattle.retry_ladder.proofs.KeptCodes.{none_is_kept, page_goes_on, page_tested}
use Rattle.retry_ladder.proofs.found.is_page_found.Goals as goal

pub returns-then-not-are_kept-clause-answer : goal.returns-then-not-are_kept-clause-answer
returns-then-not-are_kept-clause-answer g c =
    let shape = c.args.shape.now in
    let matrix = g.C.Decode.matrix c.args.decoder.now in
    let limit : ℕ = g.C.Decode.limit c.args.decoder.now in
    page_goes_on (coding_in shape [] 0 matrix limit) (is_expected shape c.args.head)
    (finds_in (sizes_of shape) matrix limit c.args.part c.args.senses.now) (sizes_of shape) c.keep_found.new.kept
    c.keep_found.new.word (kept_in (sizes_of shape) c.args.kept.now c.args.word.now) c.keep_found.ensures.kept
    (sym c.are_kept.ensures ∙ c.if-not-are_kept.true)

pub returns-then-is_expected-clause-answer : goal.returns-then-is_expected-clause-answer
returns-then-is_expected-clause-answer g c =
    let shape = c.args.shape.now in
    let matrix = g.C.Decode.matrix c.args.decoder.now in
    let limit : ℕ = g.C.Decode.limit c.args.decoder.now in
    page_tested (coding_in shape [] 0 matrix limit) (is_expected shape c.args.head)
    (finds_in (sizes_of shape) matrix limit c.args.part c.args.senses.now) (sizes_of shape) c.keep_found.new.kept
    c.keep_found.new.word (kept_in (sizes_of shape) c.args.kept.now c.args.word.now) true c.keep_found.ensures.kept
    (sym c.are_kept.ensures ∙ c.if-not-are_kept.false) refl (c.keep_found.auto.word ∙ c.requires.word_len)
    (sym c.is_expected.ensures ∙ c.if-is_expected.true)

pub returns-clause-answer : goal.returns-clause-answer
returns-clause-answer g c =
    let shape = c.args.shape.now in
    let matrix = g.C.Decode.matrix c.args.decoder.now in
    let limit : ℕ = g.C.Decode.limit c.args.decoder.now in
    page_tested (coding_in shape [] 0 matrix limit) (is_expected shape c.args.head)
    (finds_in (sizes_of shape) matrix limit c.args.part c.args.senses.now) (sizes_of shape) c.keep_found.new.kept
    c.keep_found.new.word (kept_in (sizes_of shape) c.args.kept.now c.args.word.now) false c.keep_found.ensures.kept
    (sym c.are_kept.ensures ∙ c.if-not-are_kept.false) refl (c.keep_found.auto.word ∙ c.requires.word_len)
    (sym c.is_expected.ensures ∙ c.if-is_expected.false)
    ∙ ap (λ (kept : List (Option (List ℕ))). partly kept)
    (sym (none_is_kept (sizes_of shape) c.fill.new.self (length c.keep_found.new.kept) c.keep_found.new.word
    (c.fill.ensures.after (λ y e. e))))
