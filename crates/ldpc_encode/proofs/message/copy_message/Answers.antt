-- The whole bytes are copied, and then the bits of a last one that isn't whole.
use Rattle.std.proofs.Common.{◌≡◌, ℕ, ◌+◌, ◌-◌, ◌*◌, ◌/◌, ◌%◌, ◌<◌, Bool, false, eqb, ap, sym, ◌∙◌, inl, inr, arith}
use Rattle.std.specs.Int.{bit_at}
use Rattle.std.proofs.Math.Nat.{mod-eq_of_lt}
use Rattle.std.proofs.lemmas.Bool.{cases_lt}
use Rattle.std.proofs.lemmas.Nat.Bits.{bit_at-zero}
use Rattle.ssd_geo.specs.Bits.{bit_of, bit_sum}
use Rattle.ldpc_encode.proofs.message.copy_message.Goals as goal

pub returns-then-bits-gt0-clause-message : goal.returns-then-bits-gt0-clause-message
returns-then-bits-gt0-clause-message c = λ v below.
    let w : ℕ = c.args.bits / 8 in
    elim (cases_lt v (8 * w)) [
      | inl copied ↦
          c.rotate_xor_into.ensures.outside v (inl copied)
          ∙ ap (λ (x : ℕ). eqb (bit_at x (v % 8)) 1) (c.loop-i.invariant.copied (v / 8) (omega arith))
      | inr last ↦
          let r : ℕ = v - 8 * w in
          let here : 8 * w + r ≡ v = omega arith in
          let within : r < c.args.bits % 8 = omega arith in
          let straight : (r + 0) % (c.args.bits % 8) ≡ r =
          ap (λ (k : ℕ). k % (c.args.bits % 8)) (let e : r + 0 ≡ r = omega arith in e) ∙ mod-eq_of_lt within in
          let blank : bit_of c.loop-i.out (8 * w + r) ≡ false =
          ap (λ (x : ℕ). eqb (bit_at x ((8 * w + r) % 8)) 1) (c.loop-i.invariant.blank ((8 * w + r) / 8) (omega arith))
          ∙ ap (λ (x : ℕ). eqb x 1) (bit_at-zero ((8 * w + r) % 8)) in
          ap (bit_of c.rotate_xor_into.new.dst) (sym here)
          ∙ c.rotate_xor_into.ensures.inside r within
          ∙ ap (λ (b : Bool). bit_sum b (bit_of c.args.payload.now (8 * w + (r + 0) % (c.args.bits % 8)))) blank
          ∙ ap (λ (k : ℕ). bit_of c.args.payload.now (8 * w + k)) straight
          ∙ ap (bit_of c.args.payload.now) here
    ]
