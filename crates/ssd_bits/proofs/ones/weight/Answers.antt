-- The ones so far are those of the first bits, and a word or a byte has the ones of the next bits.
use Rattle.std.proofs.Common.{◌≡◌, ◌+◌, ◌*◌, get_or, length, ap, sym, ◌∙◌, arith}
use Rattle.std.specs.Prelude.{count_ones}
use Rattle.ssd_bits.proofs.Counting.{count_to, count_to-more, count_to_le, is_one-byte, weight_of-bits_of}
use Rattle.ssd_geo.specs.Bits.{bit_of}
use Rattle.ssd_bits.proofs.ones.weight.Goals as goal

-- the ones with those of the next word, or the next byte
word_more : (c : goal.After-word_at) → c.loop-w.ones + count_ones c.word_at.result ≡ count_to (bit_of c.args.bytes.now) (64 * (c.loop-w.w + 1))
word_more c =
    let before : c.loop-w.ones ≡ count_to (bit_of c.args.bytes.now) (64 * c.loop-w.w) = c.loop-w.invariant in
    let start : 8 * (8 * c.loop-w.w) ≡ 64 * c.loop-w.w = omega arith in
    let more : count_to (bit_of c.args.bytes.now) (8 * (8 * c.loop-w.w) + 64) ≡ count_to (bit_of c.args.bytes.now) (8 * (8 * c.loop-w.w)) + count_ones c.word_at.result =
    count_to-more c.args.bytes.now (8 * (8 * c.loop-w.w)) 64 c.word_at.result c.word_at.type_inv c.word_at.ensures in
    let end : 64 * (c.loop-w.w + 1) ≡ 8 * (8 * c.loop-w.w) + 64 = omega arith in
    rw end (omega (arith, ap (count_to (bit_of c.args.bytes.now)) start))

byte_more : (c : goal.After-shared_slice_known-in-loop-i-1) → c.loop-i.ones + count_ones (get_or c.args.bytes.now c.loop-i.i 0) ≡ count_to (bit_of c.args.bytes.now) (8 * (c.loop-i.i + 1))
byte_more c =
    let before : c.loop-i.ones ≡ count_to (bit_of c.args.bytes.now) (8 * c.loop-i.i) = c.loop-i.invariant in
    let more : count_to (bit_of c.args.bytes.now) (8 * c.loop-i.i + 8) ≡ count_to (bit_of c.args.bytes.now) (8 * c.loop-i.i) + count_ones (get_or c.args.bytes.now c.loop-i.i 0) =
    count_to-more c.args.bytes.now (8 * c.loop-i.i) 8 (get_or c.args.bytes.now c.loop-i.i 0) (omega (arith, c.type_inv.bytes c.loop-i.i))
    (λ k h. is_one-byte c.args.bytes.now c.loop-i.i k h) in
    let end : 8 * (c.loop-i.i + 1) ≡ 8 * c.loop-i.i + 8 = omega arith in
    rw end (omega arith)

pub overflow_add-ones : goal.overflow_add-ones
overflow_add-ones c = omega (arith, word_more c, count_to_le (bit_of c.args.bytes.now) (64 * (c.loop-w.w + 1)))

pub loop-w-preserved : goal.loop-w-preserved
loop-w-preserved c = word_more c

pub overflow_add-ones-in-loop-i : goal.overflow_add-ones-in-loop-i
overflow_add-ones-in-loop-i c = omega (arith, byte_more c, count_to_le (bit_of c.args.bytes.now) (8 * (c.loop-i.i + 1)))

pub loop-i-preserved : goal.loop-i-preserved
loop-i-preserved c = byte_more c

pub loop-i-init : goal.loop-i-init
loop-i-init c =
    let before : c.loop-w.ones ≡ count_to (bit_of c.args.bytes.now) (64 * c.loop-w.w) = c.loop-w.invariant in
    before ∙ ap (count_to (bit_of c.args.bytes.now)) (omega arith)

pub returns : goal.returns
returns c =
    let before : c.loop-i.ones ≡ count_to (bit_of c.args.bytes.now) (8 * c.loop-i.i) = c.loop-i.invariant in
    before ∙ ap (count_to (bit_of c.args.bytes.now)) (omega arith) ∙ sym (weight_of-bits_of c.args.bytes.now (8 * length c.args.bytes.now))
