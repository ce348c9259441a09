use Rattle.std.proofs.Common.{◌≡◌, ◌≢◌, ℕ, ◌<◌, ◌+◌, ◌*◌, ◌/◌, ◌∙◌, List, ℤ, length, take, drop, get_or-set_other, get_or-set_same, below_more, ap, sym, arith}
use Rattle.std.proofs.lemmas.List.{length-map, take-map, drop-map}
use Rattle.std.proofs.lemmas.List.FromFn.{fill_by_all}
use Rattle.ssd_geo.specs.Bits.{byte_of, number_of}
use Rattle.ssd_geo.specs.Decoding.{decided}
use Rattle.ssd_geo.specs.RowRule.{is_negative}
use Rattle.code_tests.proofs.ladders.any_word.decide.Goals as goal

-- the values of one byte
byte_from : (values : List ℤ) (j n : ℕ) → n ≡ 8
    → number_of (decided (take n (drop (8 * j) values))) ≡ byte_of (decided values) j
byte_from values j n e =
    ap (λ (m : ℕ). number_of (decided (take m (drop (8 * j) values)))) e
    ∙ ap number_of (sym (take-map is_negative 8 (drop (8 * j) values))
    ∙ ap (take 8) (sym (drop-map is_negative (8 * j) values)))

pub loop-j-preserved : goal.loop-j-preserved
loop-j-preserved c =
    let j = c.loop-j.j in
    below_more _ _
    (λ k h. let ne : k ≢ j = omega arith in rw get_or-set_other (c.loop-j.invariant k h))
    (let lt : j < length c.loop-j.word = omega arith in
    rw get_or-set_same (c.packed.ensures ∙ byte_from c.args.values.now j _ (omega arith)))

pub returns : goal.returns
returns c =
    let values = c.args.values.now in
    let same : length (decided values) ≡ length values = length-map values is_negative in
    fill_by_all (byte_of (decided values)) c.loop-j.word ((length (decided values) + 7) / 8) 0
    (omega arith) (λ k h. c.loop-j.invariant k (omega arith))
