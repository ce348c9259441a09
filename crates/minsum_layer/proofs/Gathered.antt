-- What a check row is given, edge by edge.
use Rattle.std.proofs.Common.{◌≡◌, ℕ, zero, suc, ◌+◌, ◌*◌, ◌<◌, List, [], ◌∷◌, map, length, get_or, ℤ, pos, ◌-ℤ◌, All, refl, ap, ◌∙◌, arith}
use Rattle.std.specs.List.{range_with_len}
use Rattle.std.proofs.lemmas.List.Elements.{All-head, All-tail}
use Rattle.ssd_geo.specs.Decoding.{clamped, edges_of, given_of, picked}
use Rattle.ssd_geo.specs.Layer.{variable_of, variables_of}
use Rattle.ssd_geo.specs.RowRule.{IsWithin}

-- what row t is given on its edge k
abbrev pub given_at : List (ℕ × ℕ) → ℕ → ℕ → List ℤ → List ℤ → ℕ → ℤ
given_at layer z t p r k =
    clamped (get_or p (variable_of z t (get_or layer k (0, 0))) (pos 0) -ℤ get_or r (k * z + t) (pos 0))

-- the same over the part of a layer that begins with block `from`
gathered_from : (layer : List (ℕ × ℕ)) (z t : ℕ) (p r given : List ℤ) (from : ℕ) → length given ≡ length layer → ((k : ℕ) → k < length layer → get_or given k (pos 0) ≡ clamped (get_or p (variable_of z t (get_or layer k (0, 0))) (pos 0) -ℤ get_or r ((from + k) * z + t) (pos 0))) → given ≡ given_of (picked p (variables_of layer z t)) (picked r (map (λ e. e * z + t) (range_with_len from (length layer))))
gathered_from [] z t p r [] from l h = refl
gathered_from [] z t p r (g ∷ given) from l h = absurd (omega arith)
gathered_from (b ∷ layer) z t p r [] from l h = absurd (omega arith)
gathered_from (b ∷ layer) z t p r (g ∷ given) from l h =
    let at = λ (block : ℕ × ℕ) (n : ℕ). clamped (get_or p (variable_of z t block) (pos 0) -ℤ get_or r (n * z + t) (pos 0)) in
    let first : g ≡ at b from = h 0 (omega arith) ∙ ap (at b) (omega arith) in
    let rest = gathered_from layer z t p r given (from + 1) (omega arith) (λ k q. h (suc k) (omega arith) ∙ ap (at (get_or layer k (0, 0))) (omega arith)) in
    ap (λ x. x ∷ given) first ∙ ap (λ xs. at b from ∷ xs) rest

pub gathered : (layer : List (ℕ × ℕ)) (z t : ℕ) (p r given : List ℤ) → length given ≡ length layer → ((k : ℕ) → k < length layer → get_or given k (pos 0) ≡ given_at layer z t p r k) → given ≡ given_of (picked p (variables_of layer z t)) (picked r (edges_of (length layer) z t))
gathered layer z t p r given l h = gathered_from layer z t p r given 0 l (λ k q. h k q ∙ ap (λ n. clamped (get_or p (variable_of z t (get_or layer k (0, 0))) (pos 0) -ℤ get_or r (n * z + t) (pos 0))) (omega arith))

-- a number at any place is within the bound of a list, since 0 stands past its end
pub within_at : (bound : ℕ) (xs : List ℤ) (i : ℕ) → All (IsWithin bound) xs → IsWithin bound (get_or xs i (pos 0))
within_at bound [] i h = omega arith
within_at bound (x ∷ xs) zero h = All-head (IsWithin bound) x xs h
within_at bound (x ∷ xs) (suc i) h = within_at bound xs i (All-tail (IsWithin bound) x xs h)
