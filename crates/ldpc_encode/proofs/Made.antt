-- The steps of the encoder's loops: one more row is summed, one more parity block is made.
use Rattle.std.proofs.Common.{◌≡◌, ℕ, suc, ◌+◌, ◌*◌, ◌/◌, ◌%◌, ◌<◌, ◌≤◌, Bool, true, false, cond, List, refl, ap, sym, ◌∙◌, arith, inl, inr}
use Rattle.std.specs.Prelude.{nat_le, nat_lt, ◌&&◌}
use Rattle.std.proofs.lemmas.Bool.{cases_lt, le-leb, le-ltb, lt-leb, lt-ltb}
use Rattle.std.proofs.lemmas.Nat.{row_fits}
use Rattle.ssd_geo.specs.Bits.{bit_of, bit_sum}
use Rattle.ssd_geo.specs.BaseMatrix.{BaseMatrix, has_middle_before, message_columns, parity_entry}
use Rattle.ssd_geo.specs.Codewords.{shift_of, word_bits}
use Rattle.ssd_bits.specs.Runs.{AddsBits, AddsRotated}
use Rattle.ldpc_encode.specs.Encoding.{AddsToParity, first_added, message_sum_bit, rows_sum_bit}
use Rattle.ldpc_encode.proofs.Steps.{AddsBits-straight, AddsToParity-more}

-- a parity block stands in the word
pub block-room : (m : BaseMatrix) → message_columns m + m.mb ≡ m.nb → (t bytes : ℕ) → t < m.mb → bytes ≡ (word_bits m + 7) / 8 → (message_columns m + t) * m.z + m.z ≤ 8 * bytes
block-room m columns t bytes row whole =
    let inside : (message_columns m + t) * m.z + m.z ≤ m.nb * m.z = row_fits (message_columns m + t) m.z m.nb m.z (omega arith) (omega arith) in
    omega arith

-- the sum with one more row
pub sum-next : (m : BaseMatrix) (payload sum new : List ℕ) (i : ℕ) → AddsBits sum new 0 m.z (message_sum_bit m payload i)
    → ((r : ℕ) → r < m.z → bit_of sum r ≡ rows_sum_bit m payload i r) → (r : ℕ) → r < m.z → bit_of new r ≡ rows_sum_bit m payload (i + 1) r
sum-next m payload sum new i adds before r low =
    let none : 0 + r ≡ r = omega arith in
    let more : i + 1 ≡ suc i = omega arith in
    ap (bit_of new) (sym none) ∙ adds.inside r low
    ∙ ap (λ (k : ℕ). bit_sum (bit_of sum k) (message_sum_bit m payload i r)) none
    ∙ ap (λ (b : Bool). bit_sum b (message_sum_bit m payload i r)) (before r low)
    ∙ ap (λ (k : ℕ). rows_sum_bit m payload k r) (sym more)

-- whether parity block t is among those made
made : ℕ → ℕ → Bool
made i t = nat_lt 0 t && nat_le t i

made-now : (i : ℕ) → made (i + 1) (i + 1) ≡ true
unfolding made
made-now i = ap (λ (b : Bool). b && nat_le (i + 1) (i + 1)) (lt-ltb 0 (i + 1) (omega arith)) ∙ le-leb (i + 1) (i + 1) (omega arith)

made-not : (i : ℕ) → made i (i + 1) ≡ false
unfolding made
made-not i = ap (λ (b : Bool). b && nat_le (i + 1) i) (lt-ltb 0 (i + 1) (omega arith)) ∙ lt-leb (i + 1) i (omega arith)

made-other : (i t : ℕ) → (t ≡ i + 1 → ⊥) → made (i + 1) t ≡ made i t
unfolding made
made-other i t apart = elim (cases_lt i t) [
  | inl above ↦ ap (λ (b : Bool). nat_lt 0 t && b) (lt-leb t (i + 1) (omega arith) ∙ sym (lt-leb t i above))
  | inr below ↦ ap (λ (b : Bool). nat_lt 0 t && b) (le-leb t (i + 1) (omega arith) ∙ sym (le-leb t i below))
]

-- the next block is made
pub sums-next : (m : BaseMatrix) → message_columns m + m.mb ≡ m.nb → (payload old mid new sum : List ℕ) (i : ℕ) → i + 1 < m.mb
    → AddsToParity m old mid (λ t r. cond (nat_lt 0 t && nat_le t i) (rows_sum_bit m payload t r) false)
    → AddsRotated mid new ((message_columns m + (i + 1)) * m.z) sum 0 m.z 0
    → ((r : ℕ) → r < m.z → bit_of sum r ≡ rows_sum_bit m payload (i + 1) r)
    → AddsToParity m old new (λ t r. cond (nat_lt 0 t && nat_le t (i + 1)) (rows_sum_bit m payload t r) false)
unfolding made
sums-next m columns payload old mid new sum i row before adds now =
    AddsToParity-more m columns old mid new (λ t r. cond (nat_lt 0 t && nat_le t i) (rows_sum_bit m payload t r) false)
    (λ t r. cond (nat_lt 0 t && nat_le t (i + 1)) (rows_sum_bit m payload t r) false) (i + 1) (bit_of sum) row before
    (AddsBits-straight mid new sum ((message_columns m + (i + 1)) * m.z) m.z adds)
    (λ r low.
    ap (λ (b : Bool). cond b (rows_sum_bit m payload (i + 1) r) false) (made-now i)
    ∙ sym (now r low)
    ∙ ap (λ (b : Bool). bit_sum (cond b (rows_sum_bit m payload (i + 1) r) false) (bit_of sum r)) (sym (made-not i)))
    (λ k r _ _ apart. ap (λ (b : Bool). cond b (rows_sum_bit m payload k r) false) (made-other i k apart))

-- the first block is in its place
pub first-begun : (m : BaseMatrix) → message_columns m + m.mb ≡ m.nb → (old new first : List ℕ) → 1 < m.mb
    → AddsToParity m old old (λ t r. cond (nat_lt t 0) (first_added m first t r) false)
    → AddsRotated old new ((message_columns m + 0) * m.z) first 0 m.z 0
    → AddsToParity m old new (λ t r. cond (nat_lt t 1) (first_added m first t r) false)
first-begun m columns old new first row none adds =
    AddsToParity-more m columns old old new (λ t r. cond (nat_lt t 0) (first_added m first t r) false) (λ t r. cond (nat_lt t 1) (first_added m first t r) false) 0 (bit_of first)
    (omega arith) none (AddsBits-straight old new first ((message_columns m + 0) * m.z) m.z adds)
    (λ r low. refl)
    (λ k r _ _ apart.
    ap (λ (b : Bool). cond b (first_added m first k r) false) (le-ltb k 1 (omega arith) ∙ sym (le-ltb k 0 (omega arith))))

-- one more block has the first block added
pub first-next : (m : BaseMatrix) → message_columns m + m.mb ≡ m.nb → (old mid new first : List ℕ) (t : ℕ) → 1 ≤ t → t < m.mb → (middle : Bool) → middle ≡ has_middle_before m t
    → AddsToParity m old mid (λ k r. cond (nat_lt k t) (first_added m first k r) false)
    → AddsBits mid new ((message_columns m + t) * m.z) m.z
    (λ r. bit_sum (bit_of first ((r + shift_of (parity_entry m 0)) % m.z)) (cond middle (bit_of first r) false))
    → AddsToParity m old new (λ k r. cond (nat_lt k (t + 1)) (first_added m first k r) false)
first-next m columns old mid new first t low row middle is before adds =
    AddsToParity-more m columns old mid new (λ k r. cond (nat_lt k t) (first_added m first k r) false) (λ k r. cond (nat_lt k (t + 1)) (first_added m first k r) false) t
    (λ r. bit_sum (bit_of first ((r + shift_of (parity_entry m 0)) % m.z)) (cond middle (bit_of first r) false)) row before adds
    (λ r _.
    ap (λ (b : Bool). cond b (first_added m first t r) false) (lt-ltb t (t + 1) (omega arith))
    ∙ ap (λ (b : Bool). cond b (bit_sum (bit_of first ((r + shift_of (parity_entry m 0)) % m.z)) (cond (has_middle_before m t) (bit_of first r) false)) (bit_of first r)) (lt-ltb 0 t (omega arith))
    ∙ ap (λ (b : Bool). bit_sum (bit_of first ((r + shift_of (parity_entry m 0)) % m.z)) (cond b (bit_of first r) false)) (sym is)
    ∙ ap (λ (b : Bool). bit_sum (cond b (first_added m first t r) false) (bit_sum (bit_of first ((r + shift_of (parity_entry m 0)) % m.z)) (cond middle (bit_of first r) false)))
    (sym (le-ltb t t (omega arith))))
    (λ k r _ _ apart. elim (cases_lt k t) [
      | inl below ↦ ap (λ (b : Bool). cond b (first_added m first k r) false) (lt-ltb k (t + 1) (omega arith) ∙ sym (lt-ltb k t below))
      | inr above ↦ ap (λ (b : Bool). cond b (first_added m first k r) false) (le-ltb k (t + 1) (omega arith) ∙ sym (le-ltb k t above))
    ])
