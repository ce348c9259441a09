-- The block is added turned, and then straight or not at all.
use Rattle.std.proofs.Common.{ℕ, ◌+◌, ◌%◌, Bool, cond, false, ap, sym, ◌∙◌}
use Rattle.ssd_geo.specs.Bits.{bit_of, bit_sum}
use Rattle.ssd_bits.proofs.Words.{bit_sum-false}
use Rattle.ldpc_encode.proofs.Steps.{AddsBits-add, AddsBits-same, AddsBits-straight, AddsBits-turned}
use Rattle.ldpc_encode.proofs.parity.add_first.Goals as goal

pub returns-then-straight : goal.returns-then-straight
returns-then-straight c =
    let f : ℕ → Bool = λ r. bit_of c.args.first.now ((r + c.args.shift) % c.args.z) in
    AddsBits-same c.args.out.now c.rotate_xor_into-then-straight.new.dst c.args.at c.args.z (λ r. bit_sum (f r) (bit_of c.args.first.now r))
    (λ r. bit_sum (f r) (cond c.args.straight (bit_of c.args.first.now r) false))
    (AddsBits-add c.args.out.now c.rotate_xor_into.new.dst c.rotate_xor_into-then-straight.new.dst c.args.at c.args.z f (bit_of c.args.first.now)
    (AddsBits-turned c.args.out.now c.rotate_xor_into.new.dst c.args.first.now c.args.at c.args.z c.args.shift c.rotate_xor_into.ensures)
    (AddsBits-straight c.rotate_xor_into.new.dst c.rotate_xor_into-then-straight.new.dst c.args.first.now c.args.at c.args.z c.rotate_xor_into-then-straight.ensures))
    (λ r _. ap (λ (b : Bool). bit_sum (f r) (cond b (bit_of c.args.first.now r) false)) (sym c.if-straight.true))

pub returns-else-straight : goal.returns-else-straight
returns-else-straight c =
    let f : ℕ → Bool = λ r. bit_of c.args.first.now ((r + c.args.shift) % c.args.z) in
    AddsBits-same c.args.out.now c.rotate_xor_into.new.dst c.args.at c.args.z f (λ r. bit_sum (f r) (cond c.args.straight (bit_of c.args.first.now r) false))
    (AddsBits-turned c.args.out.now c.rotate_xor_into.new.dst c.args.first.now c.args.at c.args.z c.args.shift c.rotate_xor_into.ensures)
    (λ r _. sym (ap (λ (b : Bool). bit_sum (f r) (cond b (bit_of c.args.first.now r) false)) c.if-straight.false ∙ bit_sum-false (f r)))
