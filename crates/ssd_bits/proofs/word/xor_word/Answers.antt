-- The eight bytes are written as those of the sum with the word.
use Rattle.std.proofs.Common.{◌≡◌, ◌+◌, ◌-◌, arith, rules}
use Rattle.ssd_bits.proofs.Words.{AddsBits-word}
use Rattle.ssd_bits.proofs.word.xor_word.Goals as goal

pub returns : goal.returns
returns c =
    let width : c.args.at + 8 - c.args.at ≡ 8 = omega arith in
    rw width (AddsBits-word c.args.bytes.now c.copy_from_slice.new.self c.args.at c.word_at.result c.args.word c.requires c.word_at.ensures (search rules))
