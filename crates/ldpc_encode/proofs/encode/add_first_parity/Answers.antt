-- The first parity block is put in its place, and then added to one block after the other.
use Rattle.std.proofs.Common.{◌≡◌, ℕ, ◌+◌, ◌-◌, ◌*◌, ◌%◌, ◌≤◌, Bool, false, cond, length, refl, ap, sym, ◌∙◌, subst, arith}
use Rattle.std.specs.Prelude.{◌||◌, nat_lt}
use Rattle.std.proofs.lemmas.Bool.{le-ltb}
use Rattle.ssd_geo.specs.Bits.{bit_of, bit_sum}
use Rattle.ssd_geo.specs.BaseMatrix.{BaseMatrix, has_middle_before, message_columns, parity_entry}
use Rattle.ssd_geo.specs.Codewords.{shift_of}
use Rattle.ssd_bits.specs.Runs.{AddsBits, AddsRotated}
use Rattle.ldpc_encode.proofs.Solved.{middle_more}
use Rattle.ldpc_encode.proofs.Made.{block-room, first-begun, first-next}
use Rattle.ldpc_encode.proofs.Rows.{columns, first-shift}
use Rattle.ldpc_encode.proofs.Steps.{AddsToParity-none}
use Rattle.ldpc_encode.specs.Encoding.{first_added}
use Rattle.ldpc_encode.proofs.encode.add_first_parity.Goals as goal

pub loop-t-init : goal.loop-t-init
loop-t-init c =
    let m : BaseMatrix = c.args.code.now in
    let kb : c.nb.result - c.mb.result ≡ message_columns m + 0 = omega (arith, c.nb.ensures.value, c.mb.ensures.value) in
    let adds : AddsRotated c.args.out.now c.rotate_xor_into.new.dst ((message_columns m + 0) * m.z) c.args.first.now 0 m.z 0 =
    subst (λ (k : ℕ). AddsRotated c.args.out.now c.rotate_xor_into.new.dst (k * m.z) c.args.first.now 0 m.z 0) kb
    (subst (λ (z : ℕ). AddsRotated c.args.out.now c.rotate_xor_into.new.dst ((c.nb.result - c.mb.result) * z) c.args.first.now 0 z 0) c.z-z.ensures.value
    c.rotate_xor_into.ensures) in
    record {
      added =
          first-begun m (columns m c.z-z.ensures.accepted) c.args.out.now c.rotate_xor_into.new.dst c.args.first.now (omega (arith, c.z-z.ensures.accepted.within.mb_low))
          (AddsToParity-none m (columns m c.z-z.ensures.accepted) c.args.out.now (λ t r. cond (nat_lt t 0) (first_added m c.args.first.now t r) false)
          (λ t r _ _. ap (λ (b : Bool). cond b (first_added m c.args.first.now t r) false) (le-ltb t 0 (omega arith))))
          adds;
      middle = refl;
    }

pub add_first-requires-clause-turned : goal.add_first-requires-clause-turned
add_first-requires-clause-turned c =
    omega (arith, first-shift c.args.code.now c.z-z.ensures.accepted, c.parity_shift-shift.ensures, c.z-z.ensures.value)

pub add_first-requires-clause-room : goal.add_first-requires-clause-room
add_first-requires-clause-room c =
    let m : BaseMatrix = c.args.code.now in
    let kb : message_columns m ≡ c.nb.result - c.mb.result = omega (arith, c.nb.ensures.value, c.mb.ensures.value) in
    let room : (message_columns m + c.loop-t.t) * m.z + m.z ≤ 8 * length c.loop-t.out =
    block-room m (columns m c.z-z.ensures.accepted) c.loop-t.t (length c.loop-t.out) (omega (arith, c.mb-t-end.ensures.value)) (omega arith) in
    subst (λ (k : ℕ). (k + c.loop-t.t) * c.z-z.result + c.z-z.result ≤ 8 * length c.loop-t.out) kb
    (subst (λ (z : ℕ). (message_columns m + c.loop-t.t) * z + z ≤ 8 * length c.loop-t.out) (sym c.z-z.ensures.value) room)

pub loop-t-preserved : goal.loop-t-preserved
loop-t-preserved c =
    let m : BaseMatrix = c.args.code.now in
    let kb : c.nb.result - c.mb.result ≡ message_columns m = omega (arith, c.nb.ensures.value, c.mb.ensures.value) in
    let bits : ℕ → ℕ → ℕ → Bool =
    λ z s r. bit_sum (bit_of c.args.first.now ((r + s) % z)) (cond c.loop-t.middle (bit_of c.args.first.now r) false) in
    let adds : AddsBits c.loop-t.out c.add_first.new.out ((message_columns m + c.loop-t.t) * m.z) m.z (bits m.z (shift_of (parity_entry m 0))) =
    subst (λ (k : ℕ). AddsBits c.loop-t.out c.add_first.new.out ((k + c.loop-t.t) * m.z) m.z (bits m.z (shift_of (parity_entry m 0)))) kb
    (subst (λ (s : ℕ). AddsBits c.loop-t.out c.add_first.new.out ((c.nb.result - c.mb.result + c.loop-t.t) * m.z) m.z (bits m.z s)) c.parity_shift-shift.ensures
    (subst (λ (z : ℕ). AddsBits c.loop-t.out c.add_first.new.out ((c.nb.result - c.mb.result + c.loop-t.t) * z) z (bits z c.parity_shift-shift.result)) c.z-z.ensures.value
    c.add_first.ensures)) in
    record {
      added =
          first-next m (columns m c.z-z.ensures.accepted) c.args.out.now c.loop-t.out c.add_first.new.out c.args.first.now c.loop-t.t (omega arith)
          (omega (arith, c.mb-t-end.ensures.value)) c.loop-t.middle c.loop-t.invariant.middle c.loop-t.invariant.added adds;
      middle =
          ap (λ (b : Bool). b || c.has_zero_shift-middle.result) c.loop-t.invariant.middle
          ∙ ap (λ (b : Bool). has_middle_before m c.loop-t.t || b) c.has_zero_shift-middle.ensures
          ∙ sym (middle_more m c.loop-t.t (omega arith));
    }
