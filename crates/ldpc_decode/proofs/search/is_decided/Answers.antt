use Rattle.std.proofs.Common.{List, ℕ, ap, ◌∙◌, arith}
use Rattle.std.proofs.lemmas.List.{length-map}
use Rattle.ssd_geo.specs.Bits.{bits_of}
use Rattle.ssd_geo.specs.Codewords.{is_codeword, word_bits}
use Rattle.ssd_geo.specs.Decoding.{decided}
use Rattle.ssd_geo.specs.RowRule.{is_negative}
use Rattle.ssd_geo.proofs.BitsOfBytes.{bits_of-bytes_of}
use Rattle.ldpc_decode.proofs.search.is_decided.Goals as goal

pub returns-clause-answer : goal.returns-clause-answer
returns-clause-answer c =
    let m = c.args.code.now in
    let p = c.args.p.now in
    c.is_codeword.ensures
    ∙ ap (λ (word : List ℕ). is_codeword m (bits_of (word_bits m) word)) c.decide.ensures
    ∙ ap (is_codeword m) (bits_of-bytes_of (word_bits m) (decided p) (omega (arith, length-map p is_negative)))
