-- The message, the sums of rows and the first parity block are the word, and that is the only codeword.
use Rattle.std.proofs.Common.{◌≡◌, ℕ, ◌-◌, ◌*◌, List, ap, ◌∙◌, subst, sym, arith}
use Rattle.ssd_geo.specs.BaseMatrix.{BaseMatrix}
use Rattle.ssd_geo.specs.Codewords.{IsOnlyCodewordOf, code_of, payload_bits}
use Rattle.qc_matrix.proofs.OddSums.{bit_of-zeros}
use Rattle.ldpc_encode.proofs.Encoded.{word-is}
use Rattle.ldpc_encode.proofs.TheWord.{only-codeword}
use Rattle.ldpc_encode.proofs.encode.encode_into.Goals as goal

pub add_sums-requires-clause-blank : goal.add_sums-requires-clause-blank
add_sums-requires-clause-blank c = λ r _. bit_of-zeros 128 r

encoded : (c : goal.After-slice_known-4-1) → c.add_first_parity.new.out ≡ code_of c.args.code.now c.args.payload.now
encoded c =
    let m : BaseMatrix = c.args.code.now in
    let kb : c.nb.result - c.mb.result ≡ m.nb - m.mb = omega (arith, c.nb.ensures.value, c.mb.ensures.value) in
    let bits : payload_bits m ≡ (c.nb.result - c.mb.result) * c.z-z.result =
    sym (ap (λ (k : ℕ). k * c.z-z.result) kb ∙ ap (λ (z : ℕ). (m.nb - m.mb) * z) c.z-z.ensures.value) in
    word-is m c.z-z.ensures.accepted c.args.payload.now c.copy_message.new.out c.add_sums.new.out c.add_first_parity.new.out c.add_sums.new.sum
    (λ v h. c.copy_message.ensures.message v (omega (arith, bits)))
    (λ v h. c.copy_message.ensures.rest v (omega (arith, bits)))
    c.add_sums.ensures.added c.add_sums.ensures.sum c.add_first_parity.ensures
    (omega arith) (λ i. omega (arith, c.type_inv.out i))

pub returns-clause-word : goal.returns-clause-word
returns-clause-word c = encoded c

pub returns-clause-only : goal.returns-clause-only
returns-clause-only c =
    subst (λ (word : List ℕ). IsOnlyCodewordOf c.args.code.now c.args.payload.now word) (sym (encoded c))
    (only-codeword c.args.code.now c.z-z.ensures.accepted c.args.payload.now)
