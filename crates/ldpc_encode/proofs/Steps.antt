-- Bits added to a block step by step, and what they leave of a word.
use Rattle.std.proofs.Common.{◌≡◌, ℕ, ◌+◌, ◌*◌, ◌%◌, ◌<◌, ◌≤◌, ◌⊎◌, Bool, false, List, refl, ap, sym, ◌∙◌, subst, inl, inr, arith}
use Rattle.std.proofs.Math.Nat.{mod-eq_of_lt, mul-le-mul_right}
use Rattle.std.proofs.lemmas.Bool.{cases_eq, cases_order}
use Rattle.std.proofs.lemmas.Nat.{row_fits}
use Rattle.ssd_geo.specs.Bits.{bit_of, bit_sum}
use Rattle.ssd_geo.specs.BaseMatrix.{BaseMatrix, message_columns}
use Rattle.ssd_geo.specs.Codewords.{payload_bits}
use Rattle.qc_matrix.proofs.OddSums.{bit_sum-assoc}
use Rattle.ssd_bits.proofs.Words.{bit_sum-false}
use Rattle.ssd_bits.specs.Runs.{AddsBits, AddsRotated}
use Rattle.ldpc_encode.specs.Encoding.{AddsToParity}

-- bits are added, and then others at the same place
pub AddsBits-add : (old mid new : List ℕ) (at n : ℕ) (f g : ℕ → Bool) → AddsBits old mid at n f → AddsBits mid new at n g → AddsBits old new at n (λ r. bit_sum (f r) (g r))
AddsBits-add old mid new at n f g first second = record {
  inside = λ r h.
      second.inside r h ∙ ap (λ (b : Bool). bit_sum b (g r)) (first.inside r h) ∙ bit_sum-assoc (bit_of old (at + r)) (f r) (g r);
  outside = λ i away. second.outside i away ∙ first.outside i away;
}

-- the same bits are added by another function that gives them
pub AddsBits-same : (old new : List ℕ) (at n : ℕ) (f g : ℕ → Bool) → AddsBits old new at n f → ((r : ℕ) → r < n → f r ≡ g r) → AddsBits old new at n g
AddsBits-same old new at n f g adds same = record {
  inside = λ r h. adds.inside r h ∙ ap (bit_sum (bit_of old (at + r))) (same r h);
  outside = adds.outside;
}

pub AddsBits-none : (old : List ℕ) (at n : ℕ) (f : ℕ → Bool) → ((r : ℕ) → r < n → f r ≡ false) → AddsBits old old at n f
AddsBits-none old at n f none = record {
  inside = λ r h. sym (ap (bit_sum (bit_of old (at + r))) (none r h) ∙ bit_sum-false (bit_of old (at + r)));
  outside = λ i away. refl;
}

-- a block that isn't turned
pub AddsBits-straight : (old new src : List ℕ) (at z : ℕ) → AddsRotated old new at src 0 z 0 → AddsBits old new at z (bit_of src)
AddsBits-straight old new src at z adds =
    AddsBits-same old new at z (λ r. bit_of src (0 + (r + 0) % z)) (bit_of src) adds
    (λ r h.
    let none : r + 0 ≡ r = omega arith in
    let start : 0 + (r + 0) % z ≡ r = (let e : 0 + (r + 0) % z ≡ (r + 0) % z = omega arith in e ∙ ap (λ (k : ℕ). k % z) none ∙ mod-eq_of_lt h) in
    ap (bit_of src) start)

-- a block that is turned, from the start of the source
pub AddsBits-turned : (old new src : List ℕ) (at z shift : ℕ) → AddsRotated old new at src 0 z shift → AddsBits old new at z (λ r. bit_of src ((r + shift) % z))
AddsBits-turned old new src at z shift adds =
    AddsBits-same old new at z (λ r. bit_of src (0 + (r + shift) % z)) (λ r. bit_of src ((r + shift) % z)) adds
    (λ r _. ap (bit_of src) (let e : 0 + (r + shift) % z ≡ (r + shift) % z = omega arith in e))

-- a bit of one block stands in no other
apart : (a b z r : ℕ) → (a ≡ b → ⊥) → r < z → (a * z + r < b * z) ⊎ (b * z + z ≤ a * z + r)
apart a b z r differ low = elim (cases_order a b) [
  | inl same ↦ absurd (differ same)
  | inr other ↦ elim other [
    | inl below ↦ inl (let fits : a * z + z ≤ b * z = row_fits a z b z below (omega arith) in omega arith)
    | inr above ↦ inr (let fits : b * z + z ≤ a * z = row_fits b z a z above (omega arith) in omega arith)
  ]
]

module _ (m : BaseMatrix) (columns : message_columns m + m.mb ≡ m.nb) where
  -- nothing is added yet
  pub AddsToParity-none : (old : List ℕ) (added : ℕ → ℕ → Bool) → ((t r : ℕ) → t < m.mb → r < m.z → added t r ≡ false) → AddsToParity m old old added
  AddsToParity-none old added none = record {
    message = λ v h. refl;
    parity = λ t r h low.
        sym (ap (bit_sum (bit_of old ((message_columns m + t) * m.z + r))) (none t r h low) ∙ bit_sum-false (bit_of old ((message_columns m + t) * m.z + r)));
    rest = λ v h. refl;
  }

  -- more bits are added, to parity block t
  pub AddsToParity-more : (old mid new : List ℕ) (added more : ℕ → ℕ → Bool) (t : ℕ) (f : ℕ → Bool) → t < m.mb → AddsToParity m old mid added
      → AddsBits mid new ((message_columns m + t) * m.z) m.z f
      → ((r : ℕ) → r < m.z → more t r ≡ bit_sum (added t r) (f r))
      → ((k r : ℕ) → k < m.mb → r < m.z → (k ≡ t → ⊥) → more k r ≡ added k r)
      → AddsToParity m old new more
  AddsToParity-more old mid new added more t f row before adds here others = record {
    message = λ v h.
        let front : payload_bits m ≤ (message_columns m + t) * m.z = mul-le-mul_right m.z (omega arith) in
        adds.outside v (inl (omega arith)) ∙ before.message v h;
    parity = λ k r h low. elim (cases_eq k t) [
      | inl same ↦
          let at_t : bit_of new ((message_columns m + t) * m.z + r) ≡ bit_sum (bit_of old ((message_columns m + t) * m.z + r)) (more t r) =
          adds.inside r low ∙ ap (λ (b : Bool). bit_sum b (f r)) (before.parity t r row low)
          ∙ bit_sum-assoc (bit_of old ((message_columns m + t) * m.z + r)) (added t r) (f r)
          ∙ ap (bit_sum (bit_of old ((message_columns m + t) * m.z + r))) (sym (here r low)) in
          subst (λ (j : ℕ). bit_of new ((message_columns m + j) * m.z + r) ≡ bit_sum (bit_of old ((message_columns m + j) * m.z + r)) (more j r)) (sym same) at_t
      | inr other ↦
          adds.outside ((message_columns m + k) * m.z + r) (apart (message_columns m + k) (message_columns m + t) m.z r (λ same. other (omega arith)) low)
          ∙ before.parity k r h low
          ∙ ap (bit_sum (bit_of old ((message_columns m + k) * m.z + r))) (sym (others k r h low other))
    ];
    rest = λ v h.
        let past : (message_columns m + t) * m.z + m.z ≤ m.nb * m.z = row_fits (message_columns m + t) m.z m.nb m.z (omega arith) (omega arith) in
        adds.outside v (inr (omega arith)) ∙ before.rest v h;
  }
