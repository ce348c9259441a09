-- The pieces of the numbers from 0, up to one of them and behind it.
use Rattle.std.proofs.Common.{◌≡◌, ℕ, zero, suc, ◌+◌, ◌-◌, ◌<◌, List, [], ◌∷◌, ◌++◌, sym, ap, ◌∙◌, append-nil, arith}
use Rattle.std.proofs.lemmas.Grind.{flat_map-append}
use Rattle.std.specs.List.{range_with_len}
use Rattle.std.specs.Prelude.{flat_map}

-- numbers in order, in two parts
range_parts : (a m n : ℕ) → range_with_len a (m + n) ≡ range_with_len a m ++ range_with_len (a + m) n
range_parts a zero n =
    let none : 0 + n ≡ n = omega arith in
    let same : a + 0 ≡ a = omega arith in
    ap (range_with_len a) none ∙ ap (λ b. range_with_len b n) (sym same)
range_parts a (suc m) n =
    let one : suc m + n ≡ suc (m + n) = omega arith in
    let same : a + 1 + m ≡ a + suc m = omega arith in
    ap (range_with_len a) one ∙ ap (λ l. a ∷ l) (range_parts (a + 1) m n ∙ ap (λ b. range_with_len (a + 1) m ++ range_with_len b n) same)

-- the numbers below n + 1
pub range_more : (n : ℕ) → range_with_len 0 (n + 1) ≡ range_with_len 0 n ++ n ∷ []
range_more n =
    let same : 0 + n ≡ n = omega arith in
    range_parts 0 n 1 ∙ ap (λ b. range_with_len 0 n ++ b ∷ []) same

-- the numbers before one, itself, and those behind it
range_at : (i n : ℕ) → i < n → range_with_len 0 n ≡ range_with_len 0 i ++ i ∷ range_with_len (i + 1) (n - suc i)
range_at i n within =
    let rest = n - suc i in
    let e : n ≡ i + suc rest = omega arith in
    let same : 0 + i ≡ i = omega arith in
    ap (range_with_len 0) e ∙ range_parts 0 i (suc rest) ∙ ap (λ b. range_with_len 0 i ++ range_with_len b (suc rest)) same

-- their pieces
pub numbers_more : (piece : ℕ → List ℕ) (n : ℕ) → flat_map piece (range_with_len 0 (n + 1)) ≡ flat_map piece (range_with_len 0 n) ++ piece n
numbers_more piece n =
    ap (flat_map piece) (range_more n) ∙ flat_map-append piece (range_with_len 0 n) (n ∷ []) ∙ ap (λ l. flat_map piece (range_with_len 0 n) ++ l) (append-nil (piece n))

-- the pieces of the numbers behind one
abbrev pub numbers_behind : (ℕ → List ℕ) → ℕ → ℕ → List ℕ
numbers_behind piece i n = flat_map piece (range_with_len (i + 1) (n - suc i))

pub numbers_at : (piece : ℕ → List ℕ) (i n : ℕ) → i < n → flat_map piece (range_with_len 0 n) ≡ flat_map piece (range_with_len 0 i) ++ (piece i ++ numbers_behind piece i n)
numbers_at piece i n within = ap (flat_map piece) (range_at i n within) ∙ flat_map-append piece (range_with_len 0 i) (i ∷ range_with_len (i + 1) (n - suc i))
