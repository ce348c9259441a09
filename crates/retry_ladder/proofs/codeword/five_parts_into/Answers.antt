use Rattle.std.proofs.Common.{◌≡◌, ◌∙◌, ◌*◌, ◌+◌, ◌-◌, ◌≤◌, ℕ, ap, arith, length, length-drop, length-take-le, map, subst, sym, drop}
use Rattle.std.specs.List.{range_with_len}
use Rattle.ssd_geo.specs.Shape.{sizes_of}
use Rattle.ssd_geo.specs.PageWord.{code_in}
use Rattle.ssd_geo.specs.Senses.{sense_in}
use Rattle.retry_ladder.proofs.PageCodes.{all_parts, one_more_part, parts_so_far, sense_fits}
use Rattle.retry_ladder.proofs.PutSenses.{one_more_sense}
use Rattle.retry_ladder.proofs.codeword.five_parts_into.Goals as goal

pub loop-k-preserved : goal.loop-k-preserved
loop-k-preserved c =
    let sizes = sizes_of c.args.shape.now in
    let page : ℕ = c.word_bytes-page.result in
    let code : ℕ = c.code_bytes-code.result in
    let k : ℕ = c.loop-k.k in
    let as_long : length c.loop-k.bits ≡ 5 * code =
    c.loop-k.auto.bits ∙ c.requires.bits_len ∙ ap (λ (n : ℕ). 5 * n) (sym c.code_bytes-code.ensures.bytes) in
    let fits : k * code + code ≤ length c.loop-k.bits = sense_fits k code c.loop-k.bits c.loop-k-test.true as_long in
    let width : k * code + code - k * code ≡ code = omega arith in
    let part_length : length c.part_into.new.out ≡ code =
    c.part_into.auto.out
    ∙ length-take-le (k * code + code - k * code) (drop (k * code) c.loop-k.bits)
    (omega (arith, length-drop (k * code) c.loop-k.bits, fits))
    ∙ width in
    one_more_sense code k (k * code + code - k * code) c.loop-k.bits c.part_into.new.out
    (code_in sizes (sense_in page c.args.five.now k) c.args.f) c.part_into.ensures
    (ap length (sym c.part_into.ensures) ∙ part_length) fits
    ∙ one_more_part sizes page c.args.five.now c.args.f k (map (sense_in code c.loop-k.bits) (range_with_len 0 k))
    c.loop-k.invariant

pub returns : goal.returns
returns c =
    let sizes = sizes_of c.args.shape.now in
    let page : ℕ = c.word_bytes-page.result in
    let code : ℕ = c.code_bytes-code.result in
    let all : c.loop-k.k ≡ 5 = omega (arith, c.loop-k-test.false, c.loop-k.auto.k-end) in
    all_parts sizes page code c.args.five.now c.loop-k.bits c.args.f c.word_bytes-page.ensures.bytes
    c.code_bytes-code.ensures.bytes
    (subst (λ (k : ℕ). map (sense_in code c.loop-k.bits) (range_with_len 0 k)
    ≡ parts_so_far sizes page c.args.five.now c.args.f k) all c.loop-k.invariant)
