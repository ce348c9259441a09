-- What the parity blocks are, one after the other: from the first rows' sums up to a row, with the first parity block
-- turned, and added once more after the middle row.
use Rattle.std.proofs.Common.{◌≡◌, ℕ, zero, suc, ◌+◌, ◌<◌, ◌≤◌, Bool, true, false, cond, refl, ap, sym, ◌∙◌, arith}
use Rattle.std.specs.Prelude.{◌||◌}
use Rattle.ssd_geo.specs.Bits.{bit_sum}
use Rattle.ssd_bits.proofs.Words.{bit_sum-false}
use Rattle.ldpc_encode.proofs.Sums.{sum_over, sum_over-push}

reorder : (l a s b c : Bool) → bit_sum (bit_sum l (bit_sum (bit_sum a s) b)) c ≡ bit_sum (bit_sum (bit_sum a l) s) (bit_sum b c)
reorder true true true true true = refl
reorder true true true true false = refl
reorder true true true false true = refl
reorder true true true false false = refl
reorder true true false true true = refl
reorder true true false true false = refl
reorder true true false false true = refl
reorder true true false false false = refl
reorder true false true true true = refl
reorder true false true true false = refl
reorder true false true false true = refl
reorder true false true false false = refl
reorder true false false true true = refl
reorder true false false true false = refl
reorder true false false false true = refl
reorder true false false false false = refl
reorder false true true true true = refl
reorder false true true true false = refl
reorder false true true false true = refl
reorder false true true false false = refl
reorder false true false true true = refl
reorder false true false true false = refl
reorder false true false false true = refl
reorder false true false false false = refl
reorder false false true true true = refl
reorder false false true true false = refl
reorder false false true false true = refl
reorder false false true false false = refl
reorder false false false true true = refl
reorder false false false true false = refl
reorder false false false false true = refl
reorder false false false false false = refl

-- a term that is added before or now, and never twice
once : (before now term : Bool) → (before ≡ true → now ≡ false) → bit_sum (cond before term false) (cond now term false) ≡ cond (before || now) term false
once true now term apart = ap (λ (b : Bool). bit_sum term (cond b term false)) (apart refl) ∙ bit_sum-false term
once false now term apart = refl

module _ (sums block : ℕ → Bool) (middle before : ℕ → Bool) (turned first : Bool) (n : ℕ)
    (start : block 1 ≡ bit_sum (sums 0) turned)
    (step : (t : ℕ) → 1 ≤ t → t < n → block (t + 1) ≡ bit_sum (bit_sum (sums t) (block t)) (cond (middle t) first false))
    (none : before 1 ≡ false)
    (more : (t : ℕ) → 1 ≤ t → t < n → before (t + 1) ≡ (before t || middle t))
    (apart : (t : ℕ) → 1 ≤ t → t < n → before t ≡ true → middle t ≡ false) where
  -- parity block t, from the sums of the rows before it
  pub block-sums : (t : ℕ) → t < n → block (t + 1) ≡ bit_sum (bit_sum (sum_over sums 0 (t + 1)) turned) (cond (before (t + 1)) first false)
  block-sums zero h =
      start ∙ ap (λ (x : Bool). bit_sum x turned) (sym (bit_sum-false (sums 0)))
      ∙ sym (bit_sum-false (bit_sum (bit_sum (sums 0) false) turned))
      ∙ ap (λ (b : Bool). bit_sum (bit_sum (bit_sum (sums 0) false) turned) (cond b first false)) (sym none)
  block-sums (suc t) h =
      let e : suc t ≡ t + 1 = omega arith in
      rw e
      (step (t + 1) (omega arith) (omega arith)
      ∙ ap (λ (x : Bool). bit_sum (bit_sum (sums (t + 1)) x) (cond (middle (t + 1)) first false)) (block-sums t (omega arith))
      ∙ reorder (sums (t + 1)) (sum_over sums 0 (t + 1)) turned (cond (before (t + 1)) first false) (cond (middle (t + 1)) first false)
      ∙ ap (bit_sum (bit_sum (bit_sum (sum_over sums 0 (t + 1)) (sums (t + 1))) turned))
      (once (before (t + 1)) (middle (t + 1)) first (apart (t + 1) (omega arith) (omega arith))
      ∙ ap (λ (b : Bool). cond b first false) (sym (more (t + 1) (omega arith) (omega arith))))
      ∙ ap (λ (x : Bool). bit_sum (bit_sum x turned) (cond (before (t + 1 + 1)) first false)) (sym (sum_over-push sums (t + 1))))
