-- One more row is summed, and the sum is put into the next parity block.
use Rattle.std.proofs.Common.{◌≡◌, ℕ, ◌+◌, ◌-◌, ◌*◌, ◌≤◌, ◌<◌, length, ap, sym, ◌∙◌, subst, arith}
use Rattle.ssd_geo.specs.Bits.{bit_of}
use Rattle.ssd_geo.specs.BaseMatrix.{BaseMatrix, message_columns}
use Rattle.ssd_bits.specs.Runs.{AddsBits, AddsRotated}
use Rattle.ldpc_encode.proofs.Made.{block-room, sum-next, sums-next}
use Rattle.ldpc_encode.proofs.Rows.{columns}
use Rattle.ldpc_encode.specs.Encoding.{message_sum_bit, rows_sum_bit}
use Rattle.ldpc_encode.proofs.encode.add_sums.Goals as goal

pub rotate_xor_into-requires-clause-dst_room : goal.rotate_xor_into-requires-clause-dst_room
rotate_xor_into-requires-clause-dst_room c =
    let m : BaseMatrix = c.args.code.now in
    let kb : message_columns m ≡ c.nb.result - c.mb.result = omega (arith, c.nb.ensures.value, c.mb.ensures.value) in
    let room : (message_columns m + (c.loop-i.i + 1)) * m.z + m.z ≤ 8 * length c.loop-i.out =
    block-room m (columns m c.z-z.ensures.accepted) (c.loop-i.i + 1) (length c.loop-i.out) (omega (arith, c.mb-i-end.ensures.value)) (omega arith) in
    subst (λ (k : ℕ). (k + (c.loop-i.i + 1)) * c.z-z.result + c.z-z.result ≤ 8 * length c.loop-i.out) kb
    (subst (λ (z : ℕ). (message_columns m + (c.loop-i.i + 1)) * z + z ≤ 8 * length c.loop-i.out) (sym c.z-z.ensures.value) room)

pub loop-i-preserved : goal.loop-i-preserved
loop-i-preserved c =
    let m : BaseMatrix = c.args.code.now in
    let kb : c.nb.result - c.mb.result ≡ message_columns m = omega (arith, c.nb.ensures.value, c.mb.ensures.value) in
    let sum : (r : ℕ) → r < m.z → bit_of c.add_message_sum.new.sum r ≡ rows_sum_bit m c.args.payload.now (c.loop-i.i + 1) r =
    sum-next m c.args.payload.now c.loop-i.sum c.add_message_sum.new.sum c.loop-i.i c.add_message_sum.ensures c.loop-i.invariant.sum in
    let adds : AddsRotated c.loop-i.out c.rotate_xor_into.new.dst ((message_columns m + (c.loop-i.i + 1)) * m.z) c.add_message_sum.new.sum 0 m.z 0 =
    subst (λ (k : ℕ). AddsRotated c.loop-i.out c.rotate_xor_into.new.dst ((k + (c.loop-i.i + 1)) * m.z) c.add_message_sum.new.sum 0 m.z 0) kb
    (subst (λ (z : ℕ). AddsRotated c.loop-i.out c.rotate_xor_into.new.dst ((c.nb.result - c.mb.result + (c.loop-i.i + 1)) * z) c.add_message_sum.new.sum 0 z 0) c.z-z.ensures.value
    c.rotate_xor_into.ensures) in
    record {
      added =
          sums-next m (columns m c.z-z.ensures.accepted) c.args.payload.now c.args.out.now c.loop-i.out c.rotate_xor_into.new.dst c.add_message_sum.new.sum c.loop-i.i
          (omega (arith, c.mb-i-end.ensures.value)) c.loop-i.invariant.added adds sum;
      sum = sum;
    }

pub returns-clause-sum : goal.returns-clause-sum
returns-clause-sum c =
    let m : BaseMatrix = c.args.code.now in
    let last : c.mb-2.result - 1 ≡ c.loop-i.i = omega (arith, c.mb-i-end.ensures.value, c.mb-2.ensures.value) in
    let all : c.loop-i.i + 1 ≡ m.mb = omega (arith, c.mb-i-end.ensures.value, c.mb-2.ensures.value, c.z-z.ensures.accepted.within.mb_low) in
    let adds : AddsBits c.loop-i.sum c.add_message_sum-2.new.sum 0 m.z (message_sum_bit m c.args.payload.now c.loop-i.i) =
    subst (λ (i : ℕ). AddsBits c.loop-i.sum c.add_message_sum-2.new.sum 0 m.z (message_sum_bit m c.args.payload.now i)) last c.add_message_sum-2.ensures in
    λ r low.
    sum-next m c.args.payload.now c.loop-i.sum c.add_message_sum-2.new.sum c.loop-i.i adds c.loop-i.invariant.sum r low
    ∙ ap (λ (i : ℕ). rows_sum_bit m c.args.payload.now i r) all
