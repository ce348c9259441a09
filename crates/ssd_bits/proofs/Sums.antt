-- Byte lists with the same bits are one list, and a list with all bits of another one added is the sum of the two.
use Rattle.std.proofs.Common.{◌≡◌, ℕ, zero, suc, ◌+◌, ◌*◌, ◌/◌, ◌%◌, ◌<◌, inl, inr, List, [], ◌∷◌, length, get_or, eqb, refl, ap, sym, ◌∙◌, subst, arith}
use Rattle.std.specs.Prelude.{bit_xor}
use Rattle.std.specs.Int.{bit_at}
use Rattle.std.proofs.lemmas.Bool.{eqb-true, eqb-false, cases_Bool}
use Rattle.std.proofs.lemmas.List.{ext_get_or}
use Rattle.std.proofs.lemmas.Nat.{xor_of_8}
use Rattle.std.proofs.lemmas.Nat.Bits.{bit_at-lt, same_from_bits_below}
use Rattle.ssd_bits.specs.Runs.{AddsRun, is_one}
use Rattle.ssd_bits.proofs.Words.{is_one-xor}
use Rattle.ssd_geo.specs.Bits.{bit_of, bit_sum, bytes_sum}
use Rattle.ssd_geo.proofs.WordSums.{length-bytes_sum}

-- two digits that are 1 together are equal
same-digit : (a b : ℕ) → a < 2 → b < 2 → eqb a 1 ≡ eqb b 1 → a ≡ b
same-digit a b h g same = elim (cases_Bool (eqb b 1)) [
  | inl one ↦ omega (arith, eqb-true a 1 (same ∙ one), eqb-true b 1 one)
  | inr none ↦
      let p : a ≡ 1 → ⊥ = eqb-false a 1 (same ∙ none) in
      let q : b ≡ 1 → ⊥ = eqb-false b 1 none in
      omega arith
]

-- byte lists of one length with the same bits are equal
pub same-bytes : (xs ys : List ℕ) → length xs ≡ length ys → ((i : ℕ) → get_or xs i 0 < 256) → ((i : ℕ) → get_or ys i 0 < 256)
    → ((i : ℕ) → i < 8 * length xs → bit_of xs i ≡ bit_of ys i) → xs ≡ ys
same-bytes xs ys long small_x small_y same =
    ext_get_or 0 xs ys long
    (λ j within.
    same_from_bits_below 8 (get_or xs j 0) (get_or ys j 0) (small_x j) (small_y j)
    (λ k low.
    let q : (8 * j + k) / 8 ≡ j = omega arith in
    let m : (8 * j + k) % 8 ≡ k = omega arith in
    let here : bit_of xs (8 * j + k) ≡ bit_of ys (8 * j + k) = same (8 * j + k) (omega arith) in
    same-digit (bit_at (get_or xs j 0) k) (bit_at (get_or ys j 0) k) (bit_at-lt (get_or xs j 0) k) (bit_at-lt (get_or ys j 0) k) (rw (q, m) at here)))

pub get_or-bytes_sum : (xs ys : List ℕ) (i : ℕ) → length xs ≡ length ys → get_or (bytes_sum xs ys) i 0 ≡ bit_xor (get_or xs i 0) (get_or ys i 0)
get_or-bytes_sum [] [] i h = refl
get_or-bytes_sum [] (y ∷ ys) i h = absurd (omega arith)
get_or-bytes_sum (x ∷ xs) [] i h = absurd (omega arith)
get_or-bytes_sum (x ∷ xs) (y ∷ ys) zero h = refl
get_or-bytes_sum (x ∷ xs) (y ∷ ys) (suc i) h = get_or-bytes_sum xs ys i (omega arith)

-- a bit of a sum is the sum of the bits
pub bit_of-bytes_sum : (xs ys : List ℕ) (i : ℕ) → length xs ≡ length ys → bit_of (bytes_sum xs ys) i ≡ bit_sum (bit_of xs i) (bit_of ys i)
bit_of-bytes_sum xs ys i h =
    ap (λ (x : ℕ). is_one x (i % 8)) (get_or-bytes_sum xs ys (i / 8) h) ∙ is_one-xor (get_or xs (i / 8) 0) (get_or ys (i / 8) 0) (i % 8)

-- the sum of all bits is the sum of the lists
pub bytes_sum-from_run : (old new src : List ℕ) (n : ℕ) → length new ≡ length old → length old ≡ length src → n ≡ 8 * length old
    → ((i : ℕ) → get_or old i 0 < 256) → ((i : ℕ) → get_or new i 0 < 256) → ((i : ℕ) → get_or src i 0 < 256)
    → AddsRun old new 0 src 0 n → new ≡ bytes_sum old src
bytes_sum-from_run old new src n long same whole small_old small_new small_src adds =
    same-bytes new (bytes_sum old src) (omega (arith, length-bytes_sum old src (sym same))) small_new
    (λ i. subst (λ (x : ℕ). x < 256) (sym (get_or-bytes_sum old src i same)) (xor_of_8 (get_or old i 0) (get_or src i 0) (small_old i) (small_src i)))
    (λ i h.
    let none : 0 + i ≡ i = omega arith in
    let here : bit_of new (0 + i) ≡ bit_sum (bit_of old (0 + i)) (bit_of src (0 + i)) = adds.inside i (omega arith) in
    (rw none at here) ∙ sym (bit_of-bytes_sum old src i same))
