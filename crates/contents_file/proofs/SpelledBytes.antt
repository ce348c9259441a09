-- The bytes of a number and of levels, one by one.
use Rattle.std.proofs.Common.{◌≡◌, ℕ, ℤ, pos, ◌+◌, ◌*◌, ◌%◌, ◌^◌, ◌<◌, List, [], ◌∷◌, ◌++◌, length, drop, take, set, refl, get_or, ap, sym, ◌∙◌, append_assoc, length-set, arith}
use Rattle.std.specs.Int.{w8, to_le_bytes}
use Rattle.std.specs.Prelude.{flat_map}
use Rattle.std.proofs.lemmas.List.{take_more_set}
use Rattle.ssd_formats.specs.Fields.{bytes_of_signed}
use Rattle.ssd_io.proofs.WriteSteps.{items_more}
use Rattle.shared_lemmas.proofs.Lists.{taken_front}

-- a number below 256 is its own byte
pub byte_spelled : (n : ℕ) → n < 2 ^ 8 → to_le_bytes w8 n ≡ n ∷ []
byte_spelled n small = let same : n % 256 ≡ n = omega arith in ap (λ b. b ∷ []) same

-- two bytes more
two_more : (bytes : List ℕ) (i low high : ℕ) → 2 * i + 1 < length bytes
    → take (2 * (i + 1)) (set (set bytes (2 * i) low) (2 * i + 1) high) ≡ take (2 * i) bytes ++ low ∷ high ∷ []
two_more bytes i low high within =
    let twice : 2 * (i + 1) ≡ 2 * i + 1 + 1 = omega arith in
    ap (λ (n : ℕ). take n (set (set bytes (2 * i) low) (2 * i + 1) high)) twice
    ∙ take_more_set (set bytes (2 * i) low) (2 * i + 1) high (omega (arith, length-set bytes (2 * i) low))
    ∙ ap (λ (l : List ℕ). l ++ high ∷ []) (take_more_set bytes (2 * i) low (omega arith))
    ∙ append_assoc (take (2 * i) bytes) (low ∷ []) (high ∷ [])

-- one level more is spelled
pub level_more : (levels : List ℤ) (bytes : List ℕ) (i low high : ℕ) → i < length levels → 2 * i + 1 < length bytes
    → take (2 * i) bytes ≡ flat_map bytes_of_signed (take i levels) → low ∷ high ∷ [] ≡ bytes_of_signed (get_or levels i (pos 0))
    → take (2 * (i + 1)) (set (set bytes (2 * i) low) (2 * i + 1) high) ≡ flat_map bytes_of_signed (take (i + 1) levels)
level_more levels bytes i low high below within so_far spelled =
    two_more bytes i low high within
    ∙ ap (λ (l : List ℕ). l ++ low ∷ high ∷ []) so_far
    ∙ ap (λ (l : List ℕ). flat_map bytes_of_signed (take i levels) ++ l) spelled
    ∙ sym (items_more bytes_of_signed levels i (pos 0) below)
