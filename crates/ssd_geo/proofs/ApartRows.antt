-- The check rows of a layer share no variable: each block is a permutation, and each column stands once.
use Rattle.std.proofs.Common.{◌≡◌, ℕ, zero, suc, ◌+◌, ◌-◌, ◌%◌, ◌<◌, ◌≤◌, List, map, length, get_or, subst, ◌⊎◌, inl, inr, sym, ap, ◌∙◌, arith}
use Rattle.std.specs.List.Sorted.{IsStrictlyIncreasing}
use Rattle.std.proofs.lemmas.Bool.{cases_lt}
use Rattle.std.proofs.lemmas.List.{get_or-map, length-map}
use Rattle.std.proofs.lemmas.Nat.{same_from_place}
use Rattle.std.proofs.Math.Nat.{mod-eq_of_lt, mod-eq-sub-mod, mod-lt}
use Rattle.ssd_geo.specs.Layer.{variable_of}
use Rattle.ssd_geo.specs.LayerNumbers.{IsLayer}

-- of two places in a strictly rising list the earlier has the lesser number
rising_apart : (xs : List ℕ) → IsStrictlyIncreasing xs → (i n : ℕ) → i + suc n < length xs → get_or xs i 0 < get_or xs (i + suc n) 0
rising_apart xs h i zero l =
    let next : i + 1 ≡ i + suc 0 = omega arith in
    subst (λ (k : ℕ). get_or xs i 0 < get_or xs k 0) next (h i (omega arith))
rising_apart xs h i (suc n) l =
    let before = rising_apart xs h i n (omega arith) in
    let last = h (i + suc n) (omega arith) in
    let next : i + suc n + 1 ≡ i + suc (suc n) = omega arith in
    subst (λ (k : ℕ). get_or xs i 0 < get_or xs k 0) next (omega arith)

same_place : (xs : List ℕ) → IsStrictlyIncreasing xs → (i j : ℕ) → i < length xs → j < length xs → get_or xs i 0 ≡ get_or xs j 0 → i ≡ j
same_place xs h i j in_i in_j e =
    elim (cases_lt i j) [
      | inl below ↦
          let n = j - suc i in
          let there : i + suc n ≡ j = omega arith in
          let less = subst (λ (k : ℕ). get_or xs i 0 < get_or xs k 0) there (rising_apart xs h i n (omega arith)) in
          absurd (omega arith)
      | inr not_below ↦
          elim (cases_lt j i) [
            | inl above ↦
                let n = i - suc j in
                let there : j + suc n ≡ i = omega arith in
                let less = subst (λ (k : ℕ). get_or xs j 0 < get_or xs k 0) there (rising_apart xs h j n (omega arith)) in
                absurd (omega arith)
            | inr not_above ↦ omega arith
          ]
    ]

-- what a shift turns a row to
turned : (z x : ℕ) → x < z + z → (x < z) × (x % z ≡ x) ⊎ (z ≤ x) × (x % z ≡ x - z)
turned z x h =
    elim (cases_lt x z) [
      | inl low ↦ inl (low, mod-eq_of_lt low)
      | inr high ↦ inr (high, mod-eq-sub-mod high ∙ mod-eq_of_lt (omega arith))
    ]

same_row : (z s t u : ℕ) → s < z → t < z → u < z → (t + s) % z ≡ (u + s) % z → t ≡ u
same_row z s t u in_s in_t in_u e =
    elim (turned z (t + s) (omega arith)) [
      | inl a ↦ elim (turned z (u + s) (omega arith)) [ inl b ↦ omega (arith, a.1, b.1) | inr b ↦ omega (arith, a.0, a.1, b.0, b.1) ]
      | inr a ↦ elim (turned z (u + s) (omega arith)) [ inl b ↦ omega (arith, a.0, a.1, b.0, b.1) | inr b ↦ omega (arith, a.0, a.1, b.0, b.1) ]
    ]

-- a variable of a layer belongs to one block and one check row
pub one_block_and_row : (z : ℕ) (layer : List (ℕ × ℕ)) → IsLayer z layer → (i j t u : ℕ) → i < length layer → j < length layer → t < z → u < z → variable_of z t (get_or layer i (0, 0)) ≡ variable_of z u (get_or layer j (0, 0)) → (i ≡ j) × (t ≡ u)
one_block_and_row z layer h i j t u in_i in_j in_t in_u e =
    let b = get_or layer i (0, 0) in
    let c = get_or layer j (0, 0) in
    let place = same_from_place (b.0) ((t + b.1) % z) (c.0) ((u + c.1) % z) z (mod-lt (t + b.1) (omega arith)) (mod-lt (u + c.1) (omega arith)) e in
    let columns = map (λ (block : ℕ × ℕ). block.0) layer in
    let long : length columns ≡ length layer = length-map layer (λ (block : ℕ × ℕ). block.0) in
    let at_i : get_or columns i 0 ≡ b.0 = get_or-map (λ (block : ℕ × ℕ). block.0) layer i (0, 0) 0 in_i in
    let at_j : get_or columns j 0 ≡ c.0 = get_or-map (λ (block : ℕ × ℕ). block.0) layer j (0, 0) 0 in_j in
    let same : i ≡ j = same_place columns h.rising i j (omega arith) (omega arith) (at_i ∙ place.0 ∙ sym at_j) in
    let shift : b.1 ≡ c.1 = ap (λ (k : ℕ). (get_or layer k (0, 0)).1) same in
    let turn : (t + b.1) % z ≡ (u + b.1) % z = place.1 ∙ ap (λ (s : ℕ). (u + s) % z) (sym shift) in
    (same, same_row z (b.1) t u (h.shifts i (0, 0) in_i) in_t in_u turn)
