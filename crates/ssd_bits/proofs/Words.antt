-- The bits of a number made of bytes, of a sum and of a shifted number.
use Rattle.std.proofs.Common.{◌≡◌, ℕ, zero, suc, ◌+◌, ◌-◌, ◌*◌, ◌/◌, ◌%◌, ◌^◌, ◌<◌, ◌≤◌, ◌⊎◌, ◌≢◌, inl, inr, List, ◌++◌, length, get_or, set, take, drop, Bool, true, false, eqb, refl, ap, sym, ◌∙◌, subst, arith}
use Rattle.std.specs.Int.{bit_at, to_le_bytes}
use Rattle.std.specs.Int.{w64}
use Rattle.std.specs.Prelude.{bit_xor, bit_and}
use Rattle.std.proofs.lemmas.Nat.Bits.{bit_at_xor, bit_at-lt, bit_at_cat_low, bit_at_cat_high, bit_at_above, bit_at-zero, bit_at_lowest, shr_and_one, ones_shr}
use Rattle.std.proofs.lemmas.Nat.{shr-shr, shr_split, and_mask, and_le_r, mod_below, pow_pos}
use Rattle.std.proofs.lemmas.List.{get_or-set_same, get_or-set_other, get_or_append_left, get_or-take, get_or-append-add, get_or-append_right, get_or-drop, length-take-le}
use borrow.Rule.Slice.PartMut.{put_mid}
use Rattle.std.proofs.lemmas.Bool.{cases_lt, cases_eq}
use Rattle.std.proofs.Math.Nat.{mod-eq_of_lt, add-mod_right}
use Rattle.ssd_bits.specs.Runs.{AddsBits, AddsRun, AddsRotated, is_one}
use Rattle.ssd_geo.specs.Bits.{bit_of, bit_sum}

-- a number below 2 is 0 or 1
zero_or_one : (n : ℕ) → n < 2 → (n ≡ 0) ⊎ (n ≡ 1)
zero_or_one zero h = inl refl
zero_or_one (suc zero) h = inr refl
zero_or_one (suc (suc n)) h = inl (omega arith)

odd_sum : (a b : ℕ) → a < 2 → b < 2 → eqb ((a + b) % 2) 1 ≡ bit_sum (eqb a 1) (eqb b 1)
odd_sum a b h g =
    elim (zero_or_one a h) [
      | inl p ↦ elim (zero_or_one b g) [ inl q ↦ rw (p, q) refl | inr q ↦ rw (p, q) refl ]
      | inr p ↦ elim (zero_or_one b g) [ inl q ↦ rw (p, q) refl | inr q ↦ rw (p, q) refl ]
    ]

-- a bit of a sum is the sum of the bits
pub is_one-xor : (a b k : ℕ) → is_one (bit_xor a b) k ≡ bit_sum (is_one a k) (is_one b k)
is_one-xor a b k = rw bit_at_xor (odd_sum (bit_at a k) (bit_at b k) (bit_at-lt a k) (bit_at-lt b k))

-- the number made of n bytes, the first one lowest
abbrev pub number_from : (ℕ → ℕ) → ℕ → ℕ
number_from byte zero = 0
number_from byte (suc n) = number_from (λ j. byte (suc j)) n * 2 ^ 8 + byte 0

-- bit k of it is bit k mod 8 of byte k div 8
pub bit_at-number_from : (byte : ℕ → ℕ) (n k : ℕ) → ((j : ℕ) → byte j < 256) → k < 8 * n → bit_at (number_from byte n) k ≡ bit_at (byte (k / 8)) (k % 8)
bit_at-number_from byte zero k small h = absurd (omega arith)
bit_at-number_from byte (suc n) k small h =
    elim (cases_lt k 8) [
      | inl low ↦
          let q : k / 8 ≡ 0 = omega arith in
          let r : k % 8 ≡ k = omega arith in
          rw (q, r) (bit_at_cat_low (number_from (λ j. byte (suc j)) n) 8 (byte 0) k low)
      | inr high ↦
          let q : k / 8 ≡ suc ((k - 8) / 8) = omega arith in
          let r : k % 8 ≡ (k - 8) % 8 = omega arith in
          rw (q, r)
          (bit_at_cat_high (number_from (λ j. byte (suc j)) n) 8 (byte 0) k (small 0) high
          ∙ bit_at-number_from (λ j. byte (suc j)) n (k - 8) (λ j. small (suc j)) (omega arith))
    ]

-- the eight bytes from a place on, as one number
abbrev pub word_from : List ℕ → ℕ → ℕ
word_from bytes at = number_from (λ j. get_or bytes (at + j) 0) 8

-- a bit of them is the bit of the byte list there
pub is_one-word_from : (bytes : List ℕ) (at k : ℕ) → ((j : ℕ) → get_or bytes j 0 < 256) → k < 64 → is_one (word_from bytes at) k ≡ bit_of bytes (8 * at + k)
is_one-word_from bytes at k small h =
    let q : (8 * at + k) / 8 ≡ at + k / 8 = omega arith in
    let r : (8 * at + k) % 8 ≡ k % 8 = omega arith in
    rw (q, r) (ap (λ (bit : ℕ). eqb bit 1) (bit_at-number_from (λ j. get_or bytes (at + j) 0) 8 k (λ j. small (at + j)) (omega arith)))

-- a number shifted down
pub bit_at-shr : (n s k : ℕ) → bit_at (n / 2 ^ s) k ≡ bit_at n (s + k)
bit_at-shr n s k = ap (λ (x : ℕ). x % 2) (shr-shr n s k)

-- the lowest bits of a number
pub bit_at-low : (n m k : ℕ) → k < m → bit_at (n % 2 ^ m) k ≡ bit_at n k
bit_at-low n m k h = sym (bit_at_cat_low (n / 2 ^ m) m (n % 2 ^ m) k h) ∙ ap (λ (x : ℕ). bit_at x k) (shr_split n m)

-- one byte of a number
byte-bit : (n s k : ℕ) → k < 8 → bit_at (n / 2 ^ s % 2 ^ 8) k ≡ bit_at n (s + k)
byte-bit n s k h = bit_at-low (n / 2 ^ s) 8 k h ∙ bit_at-shr n s k

-- a bit of a number's bytes is the bit of the number there
pub bit_at-stored : (n j k : ℕ) → j < 8 → k < 8 → bit_at (get_or (to_le_bytes w64 n) j 0) k ≡ bit_at n (8 * j + k)
bit_at-stored n zero k h g = bit_at-low n 8 k g ∙ ap (λ (i : ℕ). bit_at n i) (omega arith)
bit_at-stored n (suc zero) k h g = byte-bit n 8 k g
bit_at-stored n (suc (suc zero)) k h g = byte-bit n 16 k g
bit_at-stored n (suc (suc (suc zero))) k h g = byte-bit n 24 k g
bit_at-stored n (suc (suc (suc (suc zero)))) k h g = byte-bit n 32 k g
bit_at-stored n (suc (suc (suc (suc (suc zero))))) k h g = byte-bit n 40 k g
bit_at-stored n (suc (suc (suc (suc (suc (suc zero)))))) k h g = byte-bit n 48 k g
bit_at-stored n (suc (suc (suc (suc (suc (suc (suc zero))))))) k h g = byte-bit n 56 k g
bit_at-stored n (suc (suc (suc (suc (suc (suc (suc (suc j)))))))) k h g = absurd (omega arith)

-- a byte of a list with a part written: in the part, before it and after it
module _ (bytes part : List ℕ) (at n : ℕ) (whole : length part ≡ n) (room : at + n ≤ length bytes) where
  front : length (take at bytes) ≡ at
  front = length-take-le at bytes (omega arith)

  pub get_or-written : (j : ℕ) → j < n → get_or (put_mid at n bytes part) (at + j) 0 ≡ get_or part j 0
  get_or-written j h =
      subst (λ (a : ℕ). get_or (put_mid at n bytes part) (a + j) 0 ≡ get_or part j 0) front
      (get_or-append-add (take at bytes) (part ++ drop n (drop at bytes)) j 0
      ∙ get_or_append_left part (drop n (drop at bytes)) 0 j (omega arith))

  pub get_or-written_before : (j : ℕ) → j < at → get_or (put_mid at n bytes part) j 0 ≡ get_or bytes j 0
  get_or-written_before j h =
      let g : j < length (take at bytes) = omega (arith, front) in
      get_or_append_left (take at bytes) (part ++ drop n (drop at bytes)) 0 j g ∙ get_or-take at bytes j 0 h

  pub get_or-written_after : (j : ℕ) → at + n ≤ j → get_or (put_mid at n bytes part) j 0 ≡ get_or bytes j 0
  get_or-written_after j h =
      get_or-append_right (take at bytes) (part ++ drop n (drop at bytes)) at j 0 front (omega arith)
      ∙ get_or-append_right part (drop n (drop at bytes)) n (j - at) 0 whole (omega arith)
      ∙ get_or-drop n (drop at bytes) (j - at - n) 0
      ∙ get_or-drop at bytes (n + (j - at - n)) 0
      ∙ ap (λ (i : ℕ). get_or bytes i 0) (omega arith)

-- eight bytes written as the bytes of a sum: the 64 bits there have the word's bits added
pub AddsBits-word : (bytes part : List ℕ) (at before word : ℕ) → at + 8 ≤ length bytes
    → ((k : ℕ) → k < 64 → is_one before k ≡ bit_of bytes (8 * at + k))
    → part ≡ to_le_bytes w64 (bit_xor before word)
    → AddsBits bytes (put_mid at 8 bytes part) (8 * at) 64 (is_one word)
AddsBits-word bytes part at before word room read stored =
    let whole : length part ≡ 8 = ap length stored in
    record {
      inside = λ r h.
          let q : (8 * at + r) / 8 ≡ at + r / 8 = omega arith in
          let m : (8 * at + r) % 8 ≡ r % 8 = omega arith in
          let below : r / 8 < 8 = omega arith in
          let place : 8 * (r / 8) + r % 8 ≡ r = omega arith in
          rw (q, m)
          (ap (λ (x : ℕ). eqb (bit_at x (r % 8)) 1) (get_or-written bytes part at 8 whole room (r / 8) below)
          ∙ ap (λ (xs : List ℕ). eqb (bit_at (get_or xs (r / 8) 0) (r % 8)) 1) stored
          ∙ ap (λ (x : ℕ). eqb x 1) (bit_at-stored (bit_xor before word) (r / 8) (r % 8) below (omega arith))
          ∙ ap (λ (k : ℕ). is_one (bit_xor before word) k) place
          ∙ is_one-xor before word r
          ∙ ap (λ (x : Bool). bit_sum x (is_one word r)) (read r h ∙ ap (λ (x : ℕ). eqb x 1) (rw (q, m) refl)));
      outside = λ i away. elim away [
        | inl low ↦ ap (λ (x : ℕ). eqb (bit_at x (i % 8)) 1) (get_or-written_before bytes part at 8 whole room (i / 8) (omega arith))
        | inr high ↦ ap (λ (x : ℕ). eqb (bit_at x (i % 8)) 1) (get_or-written_after bytes part at 8 whole room (i / 8) (omega arith))
      ];
    }

pub bit_sum-false : (bit : Bool) → bit_sum bit false ≡ bit
bit_sum-false true = refl
bit_sum-false false = refl

-- n bits of a number from a place on, moved to another place of a word
abbrev pub moved_bits : ℕ → ℕ → ℕ → ℕ → ℕ
moved_bits w from n to = bit_and (w / 2 ^ from) ((2 ^ 64 - 1) / 2 ^ (64 - n)) * 2 ^ to % 2 ^ 64

module _ (w from n to : ℕ) (fits : to + n ≤ 64) where
  masked : bit_and (w / 2 ^ from) ((2 ^ 64 - 1) / 2 ^ (64 - n)) ≡ w / 2 ^ from % 2 ^ n
  masked =
      ap (λ (mask : ℕ). bit_and (w / 2 ^ from) mask)
      (ones_shr 64 (64 - n) (omega arith) ∙ ap (λ (k : ℕ). 2 ^ k - 1) (let e : 64 - (64 - n) ≡ n = omega arith in e))
      ∙ and_mask (w / 2 ^ from) n

  raised : (j : ℕ) → j < 64 → bit_at (moved_bits w from n to) j ≡ bit_at (w / 2 ^ from % 2 ^ n * 2 ^ to + 0) j
  raised j h =
      bit_at-low (bit_and (w / 2 ^ from) ((2 ^ 64 - 1) / 2 ^ (64 - n)) * 2 ^ to) 64 j h
      ∙ ap (λ (x : ℕ). bit_at x j) (ap (λ (x : ℕ). x * 2 ^ to) masked ∙ omega arith)

  -- a bit of the run
  pub is_one-moved : (r : ℕ) → r < n → is_one (moved_bits w from n to) (to + r) ≡ is_one w (from + r)
  is_one-moved r h =
      ap (λ (x : ℕ). eqb x 1)
      (raised (to + r) (omega arith)
      ∙ bit_at_cat_high (w / 2 ^ from % 2 ^ n) to 0 (to + r) (pow_pos to) (omega arith)
      ∙ ap (λ (k : ℕ). bit_at (w / 2 ^ from % 2 ^ n) k) (let e : to + r - to ≡ r = omega arith in e)
      ∙ bit_at-low (w / 2 ^ from) n r h
      ∙ bit_at-shr w from r)

  -- a bit outside the run is 0
  pub is_one-moved_outside : (j : ℕ) → j < 64 → (j < to) ⊎ (to + n ≤ j) → is_one (moved_bits w from n to) j ≡ false
  is_one-moved_outside j h away = elim away [
    | inl low ↦ ap (λ (x : ℕ). eqb x 1) (raised j h ∙ bit_at_cat_low (w / 2 ^ from % 2 ^ n) to 0 j low ∙ bit_at-zero j)
    | inr high ↦
        ap (λ (x : ℕ). eqb x 1)
        (raised j h
        ∙ bit_at_cat_high (w / 2 ^ from % 2 ^ n) to 0 j (pow_pos to) (omega arith)
        ∙ bit_at_above (w / 2 ^ from % 2 ^ n) n (j - to) (mod_below (w / 2 ^ from) (2 ^ n) (pow_pos n)) (omega arith))
  ]

-- a word with a run moved to its place is added: the run is added
pub AddsRun-step : (old new src : List ℕ) (to_byte to from_byte from n w : ℕ) → to + n ≤ 64 → from + n ≤ 64
    → ((k : ℕ) → k < 64 → is_one w k ≡ bit_of src (8 * from_byte + k))
    → AddsBits old new (8 * to_byte) 64 (is_one (moved_bits w from n to))
    → AddsRun old new (8 * to_byte + to) src (8 * from_byte + from) n
AddsRun-step old new src to_byte to from_byte from n w to_fits from_fits read adds = record {
  inside = λ r h.
      let place : 8 * to_byte + to + r ≡ 8 * to_byte + (to + r) = omega arith in
      let source : 8 * from_byte + (from + r) ≡ 8 * from_byte + from + r = omega arith in
      rw place
      (adds.inside (to + r) (omega arith)
      ∙ ap (λ (x : Bool). bit_sum (bit_of old (8 * to_byte + (to + r))) x)
      (is_one-moved w from n to to_fits r h ∙ read (from + r) (omega arith) ∙ ap (λ (i : ℕ). bit_of src i) source));
  outside = λ i away.
      elim (cases_lt i (8 * to_byte)) [
        | inl low ↦ adds.outside i (inl low)
        | inr above ↦ elim (cases_lt i (8 * to_byte + 64)) [
          | inl within ↦
              let j : 8 * to_byte + (i - 8 * to_byte) ≡ i = omega arith in
              let apart : (i - 8 * to_byte < to) ⊎ (to + n ≤ i - 8 * to_byte) =
              elim away [ inl x ↦ inl (omega arith) | inr x ↦ inr (omega arith) ] in
              let same : bit_of new (8 * to_byte + (i - 8 * to_byte)) ≡ bit_of old (8 * to_byte + (i - 8 * to_byte)) =
              adds.inside (i - 8 * to_byte) (omega arith)
              ∙ ap (λ (x : Bool). bit_sum (bit_of old (8 * to_byte + (i - 8 * to_byte))) x)
              (is_one-moved_outside w from n to to_fits (i - 8 * to_byte) (omega arith) apart)
              ∙ bit_sum-false (bit_of old (8 * to_byte + (i - 8 * to_byte))) in
              subst (λ (k : ℕ). bit_of new k ≡ bit_of old k) j same
          | inr past ↦ adds.outside i (inr past)
        ]
      ];
}

-- one bit moved to a place of a byte
module _ (one k : ℕ) (bit : one < 2) (low : k < 8) where
  placed : (j : ℕ) → j < 8 → bit_at (one * 2 ^ k % 2 ^ 8) j ≡ bit_at (one * 2 ^ k + 0) j
  placed j h = bit_at-low (one * 2 ^ k) 8 j h ∙ ap (λ (x : ℕ). bit_at x j) (omega arith)

  is_one-placed : is_one (one * 2 ^ k % 2 ^ 8) k ≡ is_one one 0
  is_one-placed =
      ap (λ (x : ℕ). eqb x 1)
      (placed k low ∙ bit_at_cat_high one k 0 k (pow_pos k) (omega arith) ∙ ap (λ (j : ℕ). bit_at one j) (let e : k - k ≡ 0 = omega arith in e))

  is_one-placed_other : (j : ℕ) → j < 8 → j ≢ k → is_one (one * 2 ^ k % 2 ^ 8) j ≡ false
  is_one-placed_other j h apart = elim (cases_lt j k) [
    | inl below ↦ ap (λ (x : ℕ). eqb x 1) (placed j h ∙ bit_at_cat_low one k 0 j below ∙ bit_at-zero j)
    | inr above ↦
        ap (λ (x : ℕ). eqb x 1)
        (placed j h ∙ bit_at_cat_high one k 0 j (pow_pos k) above ∙ bit_at_above one 1 (j - k) bit (omega arith))
  ]

-- one more bit of a run is added
module _ (old cur : List ℕ) (at r byte k one : ℕ) (run : ℕ → Bool) (adds : AddsBits old cur at r run)
    (within : byte < length cur) (low : k < 8) (place : 8 * byte + k ≡ at + r) (bit : one < 2) (is : is_one one 0 ≡ run r) where
  after : List ℕ
  after = set cur byte (bit_xor (get_or cur byte 0) (one * 2 ^ k % 2 ^ 8))

  same_elsewhere : (i : ℕ) → i ≢ at + r → bit_of after i ≡ bit_of cur i
  unfolding after
  same_elsewhere i apart = elim (cases_eq (i / 8) byte) [
    | inl here ↦
        let other : i % 8 ≢ k = omega arith in
        rw here
        (ap (λ (x : ℕ). eqb (bit_at x (i % 8)) 1) (get_or-set_same cur byte (bit_xor (get_or cur byte 0) (one * 2 ^ k % 2 ^ 8)) 0 within)
        ∙ is_one-xor (get_or cur byte 0) (one * 2 ^ k % 2 ^ 8) (i % 8)
        ∙ ap (λ (x : Bool). bit_sum (is_one (get_or cur byte 0) (i % 8)) x) (is_one-placed_other one k bit low (i % 8) (omega arith) other)
        ∙ bit_sum-false (is_one (get_or cur byte 0) (i % 8)))
    | inr there ↦
        ap (λ (x : ℕ). eqb (bit_at x (i % 8)) 1)
        (get_or-set_other cur byte (i / 8) (bit_xor (get_or cur byte 0) (one * 2 ^ k % 2 ^ 8)) 0 there)
  ]

  changed_here : bit_of after (at + r) ≡ bit_sum (bit_of cur (at + r)) (run r)
  unfolding after
  changed_here =
      let q : (at + r) / 8 ≡ byte = omega arith in
      let m : (at + r) % 8 ≡ k = omega arith in
      rw (q, m)
      (ap (λ (x : ℕ). eqb (bit_at x k) 1) (get_or-set_same cur byte (bit_xor (get_or cur byte 0) (one * 2 ^ k % 2 ^ 8)) 0 within)
      ∙ is_one-xor (get_or cur byte 0) (one * 2 ^ k % 2 ^ 8) k
      ∙ ap (λ (x : Bool). bit_sum (is_one (get_or cur byte 0) k) x) (is_one-placed one k bit low ∙ is))

  pub AddsBits-more : AddsBits old (set cur byte (bit_xor (get_or cur byte 0) (one * 2 ^ k % 2 ^ 8))) at (r + 1) run
  unfolding after
  AddsBits-more = record {
    inside = λ j h. elim (cases_eq j r) [
      | inl here ↦
          rw here
          (changed_here ∙ ap (λ (x : Bool). bit_sum x (run r)) (adds.outside (at + r) (inr (omega arith))))
      | inr other ↦
          same_elsewhere (at + j) (omega arith) ∙ adds.inside j (omega arith)
    ];
    outside = λ i away.
        let apart : i ≢ at + r = elim away [ inl x ↦ omega arith | inr x ↦ omega arith ] in
        same_elsewhere i apart ∙ adds.outside i (elim away [ inl x ↦ inl x | inr x ↦ inr (omega arith) ]);
  }

-- the lowest bit of a byte shifted down is the bit of the list there
pub is_one-source : (src : List ℕ) (byte k i : ℕ) → k < 8 → 8 * byte + k ≡ i → is_one (bit_and (get_or src byte 0 / 2 ^ k) 1) 0 ≡ bit_of src i
is_one-source src byte k i low place =
    let q : i / 8 ≡ byte = omega arith in
    let m : i % 8 ≡ k = omega arith in
    rw (q, m)
    (ap (λ (x : ℕ). eqb x 1)
    (bit_at_lowest (bit_and (get_or src byte 0 / 2 ^ k) 1)
    ∙ ap (λ (x : ℕ). x % 2) (shr_and_one (get_or src byte 0) k)
    ∙ (let e : bit_at (get_or src byte 0) k % 2 ≡ bit_at (get_or src byte 0) k = omega arith in e)))

pub lowest_bit : (x : ℕ) → bit_and x 1 < 2
lowest_bit x = omega (arith, and_le_r x 1)

-- two runs, the second right after the first, are one run
pub AddsRun-chain : (old mid new src : List ℕ) (to from n to' from' k m : ℕ) → AddsRun old mid to src from n → AddsRun mid new to' src from' k
    → to' ≡ to + n → from' ≡ from + n → m ≡ n + k → AddsRun old new to src from m
AddsRun-chain old mid new src to from n to' from' k m first second there source whole = record {
  inside = λ r h. elim (cases_lt r n) [
    | inl low ↦ second.outside (to + r) (inl (omega arith)) ∙ first.inside r low
    | inr high ↦
        let at : to' + (r - n) ≡ to + r = omega arith in
        let bit : from' + (r - n) ≡ from + r = omega arith in
        let moved : bit_of new (to + r) ≡ bit_sum (bit_of mid (to + r)) (bit_of src (from + r)) =
        subst (λ (i : ℕ). bit_of new i ≡ bit_sum (bit_of mid i) (bit_of src (from + r))) at
        (second.inside (r - n) (omega arith) ∙ ap (λ (i : ℕ). bit_sum (bit_of mid (to' + (r - n))) (bit_of src i)) bit) in
        moved ∙ ap (λ (x : Bool). bit_sum x (bit_of src (from + r))) (first.outside (to + r) (inr (omega arith)))
  ];
  outside = λ i away.
      second.outside i (elim away [ inl x ↦ inl (omega arith) | inr x ↦ inr (omega arith) ])
      ∙ first.outside i (elim away [ inl x ↦ inl x | inr x ↦ inr (omega arith) ]);
}

-- nothing is added yet
pub AddsRun-none : (old src : List ℕ) (to from : ℕ) → AddsRun old old to src from 0
AddsRun-none old src to from = record { inside = λ r h. absurd (omega arith); outside = λ i away. refl }

-- a turned block is two runs: from the shift on, and then what stands before it
pub AddsRotated-runs : (old mid new src : List ℕ) (to from z shift to₁ from₁ to₂ from₂ : ℕ) → shift < z
    → AddsRun old mid to₁ src from₁ (z - shift) → AddsRun mid new to₂ src from₂ shift
    → to₁ ≡ to → from₁ ≡ from + shift → to₂ ≡ to + (z - shift) → from₂ ≡ from → AddsRotated old new to src from z shift
AddsRotated-runs old mid new src to from z shift to₁ from₁ to₂ from₂ low first second e₁ e₂ e₃ e₄ = record {
  inside = λ r h. elim (cases_lt r (z - shift)) [
    | inl front ↦
        let turned : (r + shift) % z ≡ r + shift = mod-eq_of_lt (let g : r + shift < z = omega arith in g) in
        let at : to₁ + r ≡ to + r = omega arith in
        let bit : from₁ + r ≡ from + (r + shift) = omega arith in
        let added : bit_of mid (to + r) ≡ bit_sum (bit_of old (to + r)) (bit_of src (from + (r + shift))) =
        subst (λ (i : ℕ). bit_of mid i ≡ bit_sum (bit_of old i) (bit_of src (from + (r + shift)))) at
        (first.inside r front ∙ ap (λ (i : ℕ). bit_sum (bit_of old (to₁ + r)) (bit_of src i)) bit) in
        second.outside (to + r) (inl (omega arith)) ∙ added
        ∙ ap (λ (i : ℕ). bit_sum (bit_of old (to + r)) (bit_of src (from + i))) (sym turned)
    | inr back ↦
        let whole : r + shift ≡ (r - (z - shift)) + z = omega arith in
        let turned : (r + shift) % z ≡ r - (z - shift) =
        ap (λ (i : ℕ). i % z) whole ∙ add-mod_right (r - (z - shift)) z ∙ mod-eq_of_lt (let g : r - (z - shift) < z = omega arith in g) in
        let at : to₂ + (r - (z - shift)) ≡ to + r = omega arith in
        let bit : from₂ + (r - (z - shift)) ≡ from + (r - (z - shift)) = omega arith in
        let added : bit_of new (to + r) ≡ bit_sum (bit_of mid (to + r)) (bit_of src (from + (r - (z - shift)))) =
        subst (λ (i : ℕ). bit_of new i ≡ bit_sum (bit_of mid i) (bit_of src (from + (r - (z - shift))))) at
        (second.inside (r - (z - shift)) (omega arith) ∙ ap (λ (i : ℕ). bit_sum (bit_of mid (to₂ + (r - (z - shift)))) (bit_of src i)) bit) in
        added
        ∙ ap (λ (x : Bool). bit_sum x (bit_of src (from + (r - (z - shift))))) (first.outside (to + r) (inr (omega arith)))
        ∙ ap (λ (i : ℕ). bit_sum (bit_of old (to + r)) (bit_of src (from + i))) (sym turned)
  ];
  outside = λ i away.
      second.outside i (elim away [ inl x ↦ inl (omega arith) | inr x ↦ inr (omega arith) ])
      ∙ first.outside i (elim away [ inl x ↦ inl (omega arith) | inr x ↦ inr (omega arith) ]);
}

-- bits that are those of a source's run are added: the run is added
pub AddsRun-bits : (old new src : List ℕ) (at from n : ℕ) (bit : ℕ → Bool) → AddsBits old new at n bit
    → ((r : ℕ) → r < n → bit r ≡ bit_of src (from + r)) → AddsRun old new at src from n
AddsRun-bits old new src at from n bit adds same = record {
  inside = λ r h. adds.inside r h ∙ ap (λ (x : Bool). bit_sum (bit_of old (at + r)) x) (same r h);
  outside = adds.outside;
}
