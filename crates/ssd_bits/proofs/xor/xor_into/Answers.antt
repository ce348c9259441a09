-- Each word is the next run of the source, and so is what is left.
use Rattle.std.proofs.Common.{ℕ, ◌+◌, ◌*◌, ◌/◌, ◌%◌, length, refl, arith}
use Rattle.ssd_bits.proofs.Sums.{bytes_sum-from_run}
use Rattle.ssd_bits.proofs.Words.{AddsRun-bits, AddsRun-chain, AddsRun-none}
use Rattle.ssd_bits.specs.Runs.{is_one}
use Rattle.ssd_bits.proofs.xor.xor_into.Goals as goal

pub loop-w-init : goal.loop-w-init
loop-w-init c = record {
  bytes = λ i. omega (arith, c.type_inv.dst i);
  added = AddsRun-none c.args.dst.now c.args.src.now 0 0;
}

pub loop-w-preserved : goal.loop-w-preserved
loop-w-preserved c = record {
  bytes = c.loop-w.invariant.bytes;
  added =
      AddsRun-chain c.args.dst.now c.loop-w.dst c.xor_word.new.bytes c.args.src.now 0 0 (64 * c.loop-w.w) (8 * (8 * c.loop-w.w)) (8 * (8 * c.loop-w.w)) 64
      (64 * (c.loop-w.w + 1)) c.loop-w.invariant.added
      (AddsRun-bits c.loop-w.dst c.xor_word.new.bytes c.args.src.now (8 * (8 * c.loop-w.w)) (8 * (8 * c.loop-w.w)) 64 (is_one c.word_at.result)
      c.xor_word.ensures c.word_at.ensures)
      (omega arith) (omega arith) (omega arith);
}

pub returns : goal.returns
returns c =
    let words : ℕ = length c.args.src.now / 8 in
    bytes_sum-from_run c.args.dst.now c.xor_rest.new.dst c.args.src.now (8 * length c.args.dst.now) (omega arith) c.requires refl
    c.loop-w.invariant.bytes (λ i. omega (arith, c.type_inv.dst i)) (λ i. omega (arith, c.type_inv.src i))
    (AddsRun-chain c.args.dst.now c.loop-w.dst c.xor_rest.new.dst c.args.src.now 0 0 (64 * c.loop-w.w) (8 * (8 * words) + 0) (8 * (8 * words) + 0)
    (8 * (length c.args.src.now % 8)) (8 * length c.args.dst.now) c.loop-w.invariant.added c.xor_rest.ensures (omega arith) (omega arith) (omega arith))
