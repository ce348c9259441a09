-- Sums modulo 2 over a range of columns and over a list of blocks.
use Rattle.std.proofs.Common.{◌≡◌, ℕ, zero, suc, ◌+◌, ◌<◌, ◌≤◌, ◌⊎◌, Bool, true, false, cond, List, [], ◌∷◌, ◌++◌, length, get_or, take, eqb, ℤ, pos, negsuc, refl, ap, sym, ◌∙◌, inl, inr, arith}
use Rattle.std.specs.Prelude.{filter_map, slice_index_or}
use Rattle.std.specs.List.{range_with_len, cons_option}
use Rattle.std.proofs.lemmas.List.{take_more}
use Rattle.std.proofs.lemmas.Bool.{cases_eq, eq-eqb, ne_eqb}
use Rattle.ssd_geo.specs.Bits.{bit_sum}
use Rattle.ssd_geo.specs.BaseMatrix.{block_of_entry}
use Rattle.ssd_geo.specs.Codewords.{is_odd_sum}
use Rattle.ssd_geo.specs.Layer.{variable_of, variables_of}
use Rattle.qc_matrix.proofs.OddSums.{bit_sum-assoc, bit_sum_comm}
use Rattle.ssd_bits.proofs.Words.{bit_sum-false}

pub bit_sum-self : (a : Bool) → bit_sum a a ≡ false
bit_sum-self true = refl
bit_sum-self false = refl

-- the two middle ones of four change places
pub bit_sum-swap : (a b c d : Bool) → bit_sum (bit_sum a b) (bit_sum c d) ≡ bit_sum (bit_sum a c) (bit_sum b d)
bit_sum-swap a b c d =
    bit_sum-assoc a b (bit_sum c d)
    ∙ ap (bit_sum a) (sym (bit_sum-assoc b c d) ∙ ap (λ (x : Bool). bit_sum x d) (bit_sum_comm b c) ∙ bit_sum-assoc c b d)
    ∙ sym (bit_sum-assoc a c (bit_sum b d))

-- the sum of f over n numbers from a on
abbrev pub sum_over : (ℕ → Bool) → ℕ → ℕ → Bool
sum_over f a zero = false
sum_over f a (suc n) = bit_sum (f a) (sum_over f (a + 1) n)

pub sum_over-same : (f g : ℕ → Bool) (a n : ℕ) → ((j : ℕ) → a ≤ j → j < a + n → f j ≡ g j) → sum_over f a n ≡ sum_over g a n
sum_over-same f g a zero same = refl
sum_over-same f g a (suc n) same =
    ap (λ (x : Bool). bit_sum x (sum_over f (a + 1) n)) (same a (omega arith) (omega arith))
    ∙ ap (bit_sum (g a)) (sum_over-same f g (a + 1) n (λ j low high. same j (omega arith) (omega arith)))

pub sum_over-none : (f : ℕ → Bool) (a n : ℕ) → ((j : ℕ) → a ≤ j → j < a + n → f j ≡ false) → sum_over f a n ≡ false
sum_over-none f a zero none = refl
sum_over-none f a (suc n) none =
    ap (λ (x : Bool). bit_sum x (sum_over f (a + 1) n)) (none a (omega arith) (omega arith))
    ∙ sum_over-none f (a + 1) n (λ j low high. none j (omega arith) (omega arith))

pub sum_over-split : (f : ℕ → Bool) (a n k : ℕ) → sum_over f a (n + k) ≡ bit_sum (sum_over f a n) (sum_over f (a + n) k)
sum_over-split f a zero k =
    let e : zero + k ≡ k = omega arith in
    let g : a + zero ≡ a = omega arith in
    rw (e, g) refl
sum_over-split f a (suc n) k =
    let e : suc n + k ≡ suc (n + k) = omega arith in
    let g : a + suc n ≡ a + 1 + n = omega arith in
    rw (e, g)
    (ap (bit_sum (f a)) (sum_over-split f (a + 1) n k)
    ∙ sym (bit_sum-assoc (f a) (sum_over f (a + 1) n) (sum_over f (a + 1 + n) k)))

pub sum_over-last : (f : ℕ → Bool) (a n : ℕ) → sum_over f a (n + 1) ≡ bit_sum (sum_over f a n) (f (a + n))
sum_over-last f a n = sum_over-split f a n 1 ∙ ap (bit_sum (sum_over f a n)) (bit_sum-false (f (a + n)))

pub sum_over-push : (f : ℕ → Bool) (n : ℕ) → sum_over f 0 (n + 1) ≡ bit_sum (sum_over f 0 n) (f n)
sum_over-push f n = sum_over-last f 0 n ∙ ap (λ (k : ℕ). bit_sum (sum_over f 0 n) (f k)) (let e : 0 + n ≡ n = omega arith in e)

pub sum_over-add : (f g : ℕ → Bool) (a n : ℕ) → sum_over (λ j. bit_sum (f j) (g j)) a n ≡ bit_sum (sum_over f a n) (sum_over g a n)
sum_over-add f g a zero = refl
sum_over-add f g a (suc n) =
    ap (bit_sum (bit_sum (f a) (g a))) (sum_over-add f g (a + 1) n) ∙ bit_sum-swap (f a) (g a) (sum_over f (a + 1) n) (sum_over g (a + 1) n)

-- the numbers from a + b on are those from b on, a further on
pub sum_over-moved : (f : ℕ → Bool) (a b n c : ℕ) → c ≡ a + b → sum_over f c n ≡ sum_over (λ k. f (a + k)) b n
sum_over-moved f a b zero c e = refl
sum_over-moved f a b (suc n) c e =
    ap (λ (k : ℕ). bit_sum (f k) (sum_over f (c + 1) n)) e ∙ ap (bit_sum (f (a + b))) (sum_over-moved f a (b + 1) n (c + 1) (omega arith))

-- f at the number c alone
abbrev pub only_at : ℕ → (ℕ → Bool) → ℕ → Bool
only_at c f j = cond (eqb c j) (f j) false

only-other : (c j : ℕ) (f : ℕ → Bool) → (c ≡ j → ⊥) → only_at c f j ≡ false
only-other c j f apart = ap (λ (b : Bool). cond b (f j) false) (ne_eqb c j apart)

only-same : (c : ℕ) (f : ℕ → Bool) → only_at c f c ≡ f c
only-same c f = ap (λ (b : Bool). cond b (f c) false) (eq-eqb c c refl)

pub sum_over-only : (c : ℕ) (f : ℕ → Bool) (a n : ℕ) → a ≤ c → c < a + n → sum_over (only_at c f) a n ≡ f c
sum_over-only c f a zero low high = absurd (omega arith)
sum_over-only c f a (suc n) low high = elim (cases_eq c a) [
  | inl here ↦
      ap (λ (k : ℕ). bit_sum (only_at c f k) (sum_over (only_at c f) (a + 1) n)) (sym here)
      ∙ ap (λ (x : Bool). bit_sum x (sum_over (only_at c f) (a + 1) n)) (only-same c f)
      ∙ ap (bit_sum (f c)) (sum_over-none (only_at c f) (a + 1) n (λ j above _. only-other c j f (λ same. absurd (omega arith))))
      ∙ bit_sum-false (f c)
  | inr apart ↦
      ap (λ (x : Bool). bit_sum x (sum_over (only_at c f) (a + 1) n)) (only-other c a f apart)
      ∙ sum_over-only c f (a + 1) n (omega arith) (omega arith)
]

pub sum_over-only_outside : (c : ℕ) (f : ℕ → Bool) (a n : ℕ) → (j : ℕ) → j ≡ a + n → (c < a) ⊎ (j ≤ c) → sum_over (only_at c f) a n ≡ false
sum_over-only_outside c f a n j end away =
    sum_over-none (only_at c f) a n
    (λ k low high. only-other c k f (λ same. elim away [ inl below ↦ absurd (omega arith) | inr above ↦ absurd (omega arith) ]))

-- the sum of f over the blocks of a list
abbrev pub sum_blocks : (ℕ × ℕ → Bool) → List (ℕ × ℕ) → Bool
sum_blocks f [] = false
sum_blocks f (block ∷ blocks) = bit_sum (f block) (sum_blocks f blocks)

pub sum_blocks-push : (f : ℕ × ℕ → Bool) (blocks : List (ℕ × ℕ)) (block : ℕ × ℕ) → sum_blocks f (blocks ++ block ∷ []) ≡ bit_sum (sum_blocks f blocks) (f block)
sum_blocks-push f [] block = bit_sum-false (f block)
sum_blocks-push f (first ∷ blocks) block =
    ap (bit_sum (f first)) (sum_blocks-push f blocks block) ∙ sym (bit_sum-assoc (f first) (sum_blocks f blocks) (f block))

pub sum_blocks-more : (f : ℕ × ℕ → Bool) (blocks : List (ℕ × ℕ)) (k : ℕ) (d : ℕ × ℕ) → k < length blocks
    → sum_blocks f (take (k + 1) blocks) ≡ bit_sum (sum_blocks f (take k blocks)) (f (get_or blocks k d))
sum_blocks-more f blocks k d h = ap (sum_blocks f) (take_more blocks k d h) ∙ sum_blocks-push f (take k blocks) (get_or blocks k d)

-- f at the block that an entry makes in its column, if it makes one
abbrev pub at_entry : (ℕ × ℕ → Bool) → ℕ → ℤ → Bool
at_entry f column (pos shift) = f (column, shift)
at_entry f column (negsuc n) = false

first-column : (f : ℕ × ℕ → Bool) (entry : ℕ → ℤ) (a n : ℕ) (e : ℤ)
    → sum_blocks f (filter_map (λ column. block_of_entry column (entry column)) (range_with_len (a + 1) n)) ≡ sum_over (λ column. at_entry f column (entry column)) (a + 1) n
    → sum_blocks f (cons_option (block_of_entry a e) (filter_map (λ column. block_of_entry column (entry column)) (range_with_len (a + 1) n)))
    ≡ bit_sum (at_entry f a e) (sum_over (λ column. at_entry f column (entry column)) (a + 1) n)
first-column f entry a n (pos shift) rest = ap (bit_sum (f (a, shift))) rest
first-column f entry a n (negsuc k) rest = rest

-- a sum over the blocks of a row is one over its columns
pub sum_blocks-columns : (f : ℕ × ℕ → Bool) (entry : ℕ → ℤ) (a n : ℕ)
    → sum_blocks f (filter_map (λ column. block_of_entry column (entry column)) (range_with_len a n)) ≡ sum_over (λ column. at_entry f column (entry column)) a n
sum_blocks-columns f entry a zero = refl
sum_blocks-columns f entry a (suc n) = first-column f entry a n (entry a) (sum_blocks-columns f entry (a + 1) n)

-- a check row's sum is one over the blocks of its layer
pub is_odd_sum-blocks : (bits : List Bool) (z r : ℕ) (layer : List (ℕ × ℕ))
    → is_odd_sum bits (variables_of layer z r) ≡ sum_blocks (λ block. slice_index_or bits (variable_of z r block) false) layer
is_odd_sum-blocks bits z r [] = refl
is_odd_sum-blocks bits z r (block ∷ layer) = ap (bit_sum (slice_index_or bits (variable_of z r block) false)) (is_odd_sum-blocks bits z r layer)
