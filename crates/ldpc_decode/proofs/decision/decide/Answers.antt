use Rattle.std.proofs.Common.{◌≡◌, ◌≢◌, ◌<◌, ◌+◌, ◌/◌, ◌∙◌, length, get_or-set_other, get_or-set_same, below_more, arith}
use Rattle.std.proofs.lemmas.List.{length-map}
use Rattle.std.proofs.lemmas.List.FromFn.{fill_by_all}
use Rattle.ssd_geo.specs.Bits.{byte_of}
use Rattle.ssd_geo.specs.Decoding.{decided}
use Rattle.ssd_geo.specs.RowRule.{is_negative}
use Rattle.ldpc_decode.proofs.Packing.{byte_from}
use Rattle.ldpc_decode.proofs.decision.decide.Goals as goal

pub loop-j-preserved : goal.loop-j-preserved
loop-j-preserved c =
    let j = c.loop-j.j in
    below_more _ _
    (λ k h. let ne : k ≢ j = omega arith in rw get_or-set_other (c.loop-j.invariant k h))
    (let lt : j < length c.loop-j.word = omega arith in
    rw get_or-set_same (c.packed.ensures ∙ byte_from c.args.p.now j c.min-to.result (omega arith) c.min-to.ensures))

pub returns : goal.returns
returns c =
    let p = c.args.p.now in
    let same : length (decided p) ≡ length p = length-map p is_negative in
    fill_by_all (byte_of (decided p)) c.loop-j.word ((length (decided p) + 7) / 8) 0 (omega arith) (λ k h. c.loop-j.invariant k (omega arith))
