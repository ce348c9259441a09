-- The bits of turned blocks, of their sums over a base row, and of the parity blocks.
use Rattle.std.proofs.Common.{◌≡◌, ℕ, zero, suc, ◌+◌, ◌-◌, ◌*◌, ◌%◌, ◌<◌, ◌≤◌, Bool, true, false, cond, List, [], ◌∷◌, length, get_or, drop, map, ℤ, pos, negsuc, refl, ap, sym, ◌∙◌, subst, arith}
use Rattle.std.specs.Prelude.{filter, filter_map, nat_lt, slice_index_or}
use Rattle.std.specs.List.{range_with_len, cons_option}
use Rattle.std.specs.Ordering.{int_eq}
use Rattle.std.proofs.lemmas.Bool.{lt-ltb, le-ltb}
use Rattle.std.proofs.lemmas.List.{get_or-take, get_or-drop, length-take-le, length-drop}
use Rattle.std.proofs.lemmas.List.FromFn.{length-map-range_with_len, get_or-map-range_with_len}
use Rattle.std.proofs.lemmas.Nat.{mod_below, row_fits}
use Rattle.ssd_bits.proofs.Words.{bit_sum-false}
use Rattle.ssd_geo.specs.Bits.{bit_sum, bits_sum, rotated, total_bits, zero_bits}
use Rattle.ssd_geo.specs.BaseMatrix.{BaseMatrix, block_of_entry, entry_at, message_columns, parity_entry}
use Rattle.ssd_geo.specs.Codewords.{bits_of_block, first_parity, message_sum, parity_block, shift_of}
use Rattle.ldpc_encode.proofs.Sums.{at_entry, sum_over}

pub length-bits_sum : (xs ys : List Bool) → length xs ≡ length ys → length (bits_sum xs ys) ≡ length xs
length-bits_sum [] ys h = refl
length-bits_sum (x ∷ xs) [] h = absurd (omega arith)
length-bits_sum (x ∷ xs) (y ∷ ys) h = ap suc (length-bits_sum xs ys (omega arith))

pub get_or-bits_sum : (xs ys : List Bool) (r : ℕ) → length xs ≡ length ys → get_or (bits_sum xs ys) r false ≡ bit_sum (get_or xs r false) (get_or ys r false)
get_or-bits_sum [] [] r h = refl
get_or-bits_sum [] (y ∷ ys) r h = absurd (omega arith)
get_or-bits_sum (x ∷ xs) [] r h = absurd (omega arith)
get_or-bits_sum (x ∷ xs) (y ∷ ys) zero h = refl
get_or-bits_sum (x ∷ xs) (y ∷ ys) (suc r) h = get_or-bits_sum xs ys r (omega arith)

pub length-zero_bits : (n : ℕ) → length (zero_bits n) ≡ n
length-zero_bits zero = refl
length-zero_bits (suc n) = ap suc (length-zero_bits n)

pub get_or-zero_bits : (n r : ℕ) → get_or (zero_bits n) r false ≡ false
get_or-zero_bits zero r = refl
get_or-zero_bits (suc n) zero = refl
get_or-zero_bits (suc n) (suc r) = get_or-zero_bits n r

pub length-rotated : (s : ℕ) (bits : List Bool) → length (rotated s bits) ≡ length bits
length-rotated s bits = length-map-range_with_len (λ r. slice_index_or bits ((r + s) % length bits) false) 0 (length bits)

pub get_or-rotated : (s : ℕ) (bits : List Bool) (z r : ℕ) → length bits ≡ z → r < z → get_or (rotated s bits) r false ≡ get_or bits ((r + s) % z) false
get_or-rotated s bits z r long h =
    get_or-map-range_with_len (λ r. slice_index_or bits ((r + s) % length bits) false) 0 (length bits) r r false (omega arith) (omega arith)
    ∙ ap (λ (n : ℕ). get_or bits ((r + s) % n) false) long

pub length-block_at : (z : ℕ) (bits : List Bool) (j : ℕ) → j * z + z ≤ length bits → length (bits_of_block z bits j) ≡ z
length-block_at z bits j room =
    let rest : length (drop (j * z) bits) ≡ length bits - j * z = length-drop (j * z) bits in
    length-take-le z (drop (j * z) bits) (omega arith)

pub get_or-block_at : (z : ℕ) (bits : List Bool) (j k : ℕ) → k < z → get_or (bits_of_block z bits j) k false ≡ get_or bits (j * z + k) false
get_or-block_at z bits j k h = get_or-take z (drop (j * z) bits) k false h ∙ get_or-drop (j * z) bits k false

-- a message block, turned
abbrev pub turned_block : ℕ → List Bool → ℕ × ℕ → List Bool
turned_block z bits block = rotated (block.1) (bits_of_block z bits (block.0))

-- the bit that row r has of a block
abbrev pub row_bit : ℕ → ℕ → List Bool → ℕ × ℕ → Bool
row_bit z r bits block = slice_index_or bits (block.0 * z + (r + block.1) % z) false

length-turned : (z : ℕ) (bits : List Bool) (block : ℕ × ℕ) → block.0 * z + z ≤ length bits → length (turned_block z bits block) ≡ z
length-turned z bits block room = length-rotated (block.1) (bits_of_block z bits (block.0)) ∙ length-block_at z bits (block.0) room

get_or-turned : (z r : ℕ) (bits : List Bool) (block : ℕ × ℕ) → block.0 * z + z ≤ length bits → r < z → get_or (turned_block z bits block) r false ≡ row_bit z r bits block
get_or-turned z r bits block room low =
    get_or-rotated (block.1) (bits_of_block z bits (block.0)) z r (length-block_at z bits (block.0) room) low
    ∙ get_or-block_at z bits (block.0) ((r + block.1) % z) (mod_below (r + block.1) z (omega arith))

-- the blocks of some columns, turned and added
module _ (z : ℕ) (bits : List Bool) (entry : ℕ → ℤ) where
  abbrev pub columns_total : ℕ → ℕ → List Bool
  columns_total a n = total_bits z (map (turned_block z bits) (filter_map (λ column. block_of_entry column (entry column)) (range_with_len a n)))

  one-length : (a : ℕ) (e : ℤ) (blocks : List (ℕ × ℕ)) → a * z + z ≤ length bits → length (total_bits z (map (turned_block z bits) blocks)) ≡ z
      → length (total_bits z (map (turned_block z bits) (cons_option (block_of_entry a e) blocks))) ≡ z
  one-length a (pos s) blocks room rest =
      length-bits_sum (turned_block z bits (a, s)) (total_bits z (map (turned_block z bits) blocks)) (length-turned z bits (a, s) room ∙ sym rest)
      ∙ length-turned z bits (a, s) room
  one-length a (negsuc n) blocks room rest = rest

  pub length-columns_total : (a n : ℕ) → ((j : ℕ) → a ≤ j → j < a + n → j * z + z ≤ length bits) → length (columns_total a n) ≡ z
  length-columns_total a zero room = length-zero_bits z
  length-columns_total a (suc n) room =
      one-length a (entry a) (filter_map (λ column. block_of_entry column (entry column)) (range_with_len (a + 1) n)) (room a (omega arith) (omega arith))
      (length-columns_total (a + 1) n (λ j low high. room j (omega arith) (omega arith)))

  one-bit : (r a : ℕ) (e : ℤ) (blocks : List (ℕ × ℕ)) (rest : Bool) → r < z → a * z + z ≤ length bits → length (total_bits z (map (turned_block z bits) blocks)) ≡ z
      → get_or (total_bits z (map (turned_block z bits) blocks)) r false ≡ rest
      → get_or (total_bits z (map (turned_block z bits) (cons_option (block_of_entry a e) blocks))) r false ≡ bit_sum (at_entry (row_bit z r bits) a e) rest
  one-bit r a (pos s) blocks rest low room long same =
      get_or-bits_sum (turned_block z bits (a, s)) (total_bits z (map (turned_block z bits) blocks)) r (length-turned z bits (a, s) room ∙ sym long)
      ∙ ap (λ (b : Bool). bit_sum b (get_or (total_bits z (map (turned_block z bits) blocks)) r false)) (get_or-turned z r bits (a, s) room low)
      ∙ ap (bit_sum (row_bit z r bits (a, s))) same
  one-bit r a (negsuc n) blocks rest low room long same = same

  pub get_or-columns_total : (r a n : ℕ) → r < z → ((j : ℕ) → a ≤ j → j < a + n → j * z + z ≤ length bits)
      → get_or (columns_total a n) r false ≡ sum_over (λ j. at_entry (row_bit z r bits) j (entry j)) a n
  get_or-columns_total r a zero low room = get_or-zero_bits z r
  get_or-columns_total r a (suc n) low room =
      one-bit r a (entry a) (filter_map (λ column. block_of_entry column (entry column)) (range_with_len (a + 1) n))
      (sum_over (λ j. at_entry (row_bit z r bits) j (entry j)) (a + 1) n) low (room a (omega arith) (omega arith))
      (length-columns_total (a + 1) n (λ j from to. room j (omega arith) (omega arith)))
      (get_or-columns_total r (a + 1) n low (λ j from to. room j (omega arith) (omega arith)))

-- the blocks in columns below kb are those of the first kb columns
module _ (kb : ℕ) (entry : ℕ → ℤ) where
  abbrev pub is_low : ℕ × ℕ → Bool
  is_low block = nat_lt (block.0) kb

  abbrev pub columns_from : ℕ → ℕ → List (ℕ × ℕ)
  columns_from a n = filter_map (λ column. block_of_entry column (entry column)) (range_with_len a n)

  kept : (a : ℕ) (e : ℤ) (blocks : List (ℕ × ℕ)) → a < kb → filter is_low (cons_option (block_of_entry a e) blocks) ≡ cons_option (block_of_entry a e) (filter is_low blocks)
  kept a (pos s) blocks low = ap (λ (b : Bool). cond b ((a, s) ∷ filter is_low blocks) (filter is_low blocks)) (lt-ltb a kb low)
  kept a (negsuc n) blocks low = refl

  lost : (a : ℕ) (e : ℤ) (blocks : List (ℕ × ℕ)) → kb ≤ a → filter is_low (cons_option (block_of_entry a e) blocks) ≡ filter is_low blocks
  lost a (pos s) blocks high = ap (λ (b : Bool). cond b ((a, s) ∷ filter is_low blocks) (filter is_low blocks)) (le-ltb a kb high)
  lost a (negsuc n) blocks high = refl

  all-lost : (a n : ℕ) → kb ≤ a → filter is_low (columns_from a n) ≡ []
  all-lost a zero high = refl
  all-lost a (suc n) high = lost a (entry a) (columns_from (a + 1) n) high ∙ all-lost (a + 1) n (omega arith)

  pub low-columns : (a n k : ℕ) → a + n ≡ kb → filter is_low (columns_from a (n + k)) ≡ columns_from a n
  low-columns a zero k e =
      let none : zero + k ≡ k = omega arith in
      rw none (all-lost a k (omega arith))
  low-columns a (suc n) k e =
      let more : suc n + k ≡ suc (n + k) = omega arith in
      rw more
      (kept a (entry a) (columns_from (a + 1) (n + k)) (omega arith)
      ∙ ap (cons_option (block_of_entry a (entry a))) (low-columns (a + 1) n k (omega arith)))

-- a message of the matrix's message columns
module _ (m : BaseMatrix) (u : List Bool) (columns : message_columns m + m.mb ≡ m.nb) (whole : length u ≡ message_columns m * m.z) (positive : 0 < m.z) where
  room : (j : ℕ) → j < message_columns m → j * m.z + m.z ≤ length u
  room j low = subst (λ (n : ℕ). j * m.z + m.z ≤ n) (sym whole) (row_fits j m.z (message_columns m) m.z low (omega arith))

  sum-is : (i : ℕ) → message_sum m u i ≡ columns_total m.z u (entry_at m i) 0 (message_columns m)
  sum-is i =
      ap (λ (blocks : List (ℕ × ℕ)). total_bits m.z (map (turned_block m.z u) blocks))
      (ap (λ (n : ℕ). filter (is_low (message_columns m) (entry_at m i)) (columns_from (message_columns m) (entry_at m i) 0 n)) (sym columns)
      ∙ low-columns (message_columns m) (entry_at m i) 0 (message_columns m) m.mb (omega arith))

  pub length-message_sum : (i : ℕ) → length (message_sum m u i) ≡ m.z
  length-message_sum i = ap length (sum-is i) ∙ length-columns_total m.z u (entry_at m i) 0 (message_columns m) (λ j _ high. room j (omega arith))

  -- row r of a base row's sum over the message
  pub get_or-message_sum : (i r : ℕ) → r < m.z
      → get_or (message_sum m u i) r false ≡ sum_over (λ j. at_entry (row_bit m.z r u) j (entry_at m i j)) 0 (message_columns m)
  get_or-message_sum i r low =
      ap (λ (bits : List Bool). get_or bits r false) (sum-is i)
      ∙ get_or-columns_total m.z u (entry_at m i) r 0 (message_columns m) low (λ j _ high. room j (omega arith))

  -- a sum of base rows
  rows_total : ℕ → ℕ → List Bool
  rows_total a n = total_bits m.z (map (message_sum m u) (range_with_len a n))

  length-rows_total : (a n : ℕ) → length (rows_total a n) ≡ m.z
  unfolding rows_total
  length-rows_total a zero = length-zero_bits m.z
  length-rows_total a (suc n) =
      length-bits_sum (message_sum m u a) (rows_total (a + 1) n) (length-message_sum a ∙ sym (length-rows_total (a + 1) n)) ∙ length-message_sum a

  get_or-rows_total : (r a n : ℕ) → get_or (rows_total a n) r false ≡ sum_over (λ i. get_or (message_sum m u i) r false) a n
  unfolding rows_total
  get_or-rows_total r a zero = get_or-zero_bits m.z r
  get_or-rows_total r a (suc n) =
      get_or-bits_sum (message_sum m u a) (rows_total (a + 1) n) r (length-message_sum a ∙ sym (length-rows_total (a + 1) n))
      ∙ ap (bit_sum (get_or (message_sum m u a) r false)) (get_or-rows_total r (a + 1) n)

  pub length-first_parity : length (first_parity m u) ≡ m.z
  unfolding rows_total
  length-first_parity = length-rows_total 0 m.mb

  pub get_or-first_parity : (r : ℕ) → get_or (first_parity m u) r false ≡ sum_over (λ i. get_or (message_sum m u i) r false) 0 m.mb
  unfolding rows_total
  get_or-first_parity r = get_or-rows_total r 0 m.mb

  turned_first : List Bool
  turned_first = rotated (shift_of (parity_entry m 0)) (first_parity m u)

  turned-length : length turned_first ≡ m.z
  unfolding turned_first
  turned-length = length-rotated (shift_of (parity_entry m 0)) (first_parity m u) ∙ length-first_parity

  next-length : (before first : List Bool) (b : Bool) → length before ≡ m.z → length first ≡ m.z → length (cond b (bits_sum before first) before) ≡ m.z
  next-length before first true h g = length-bits_sum before first (h ∙ sym g) ∙ h
  next-length before first false h g = h

  next-bit : (before first : List Bool) (b : Bool) (r : ℕ) → length before ≡ m.z → length first ≡ m.z
      → get_or (cond b (bits_sum before first) before) r false ≡ bit_sum (get_or before r false) (cond b (get_or first r false) false)
  next-bit before first true r h g = get_or-bits_sum before first r (h ∙ sym g)
  next-bit before first false r h g = sym (bit_sum-false (get_or before r false))

  pub length-parity_block : (t : ℕ) → length (parity_block m u t) ≡ m.z
  unfolding turned_first
  length-parity_block zero = length-first_parity
  length-parity_block (suc zero) = length-bits_sum (message_sum m u 0) turned_first (length-message_sum 0 ∙ sym turned-length) ∙ length-message_sum 0
  length-parity_block (suc (suc t)) =
      next-length (bits_sum (message_sum m u (suc t)) (parity_block m u (suc t))) (first_parity m u) (int_eq (parity_entry m (suc t)) (pos 0))
      (length-bits_sum (message_sum m u (suc t)) (parity_block m u (suc t)) (length-message_sum (suc t) ∙ sym (length-parity_block (suc t))) ∙ length-message_sum (suc t))
      length-first_parity

  pub get_or-second_parity : (r : ℕ) → r < m.z
      → get_or (parity_block m u 1) r false ≡ bit_sum (get_or (message_sum m u 0) r false) (get_or (first_parity m u) ((r + shift_of (parity_entry m 0)) % m.z) false)
  unfolding turned_first
  get_or-second_parity r low =
      get_or-bits_sum (message_sum m u 0) turned_first r (length-message_sum 0 ∙ sym turned-length)
      ∙ ap (bit_sum (get_or (message_sum m u 0) r false)) (get_or-rotated (shift_of (parity_entry m 0)) (first_parity m u) m.z r length-first_parity low)

  next-parity : (r t : ℕ)
      → get_or (parity_block m u (suc (suc t))) r false
      ≡ bit_sum (bit_sum (get_or (message_sum m u (suc t)) r false) (get_or (parity_block m u (suc t)) r false))
      (cond (int_eq (parity_entry m (suc t)) (pos 0)) (get_or (first_parity m u) r false) false)
  next-parity r t =
      next-bit (bits_sum (message_sum m u (suc t)) (parity_block m u (suc t))) (first_parity m u) (int_eq (parity_entry m (suc t)) (pos 0)) r
      (length-bits_sum (message_sum m u (suc t)) (parity_block m u (suc t)) (length-message_sum (suc t) ∙ sym (length-parity_block (suc t))) ∙ length-message_sum (suc t))
      length-first_parity
      ∙ ap (λ (b : Bool). bit_sum b (cond (int_eq (parity_entry m (suc t)) (pos 0)) (get_or (first_parity m u) r false) false))
      (get_or-bits_sum (message_sum m u (suc t)) (parity_block m u (suc t)) r (length-message_sum (suc t) ∙ sym (length-parity_block (suc t))))

  pub get_or-next_parity : (r t : ℕ) → 1 ≤ t
      → get_or (parity_block m u (t + 1)) r false
      ≡ bit_sum (bit_sum (get_or (message_sum m u t) r false) (get_or (parity_block m u t) r false))
      (cond (int_eq (parity_entry m t) (pos 0)) (get_or (first_parity m u) r false) false)
  get_or-next_parity r zero low = absurd (omega arith)
  get_or-next_parity r (suc t) low =
      let more : suc t + 1 ≡ suc (suc t) = omega arith in
      rw more (next-parity r t)
