-- The word of a payload is a codeword, begins with the payload, and is the only such word.
use Rattle.std.proofs.Common.{◌≡◌, ℕ, zero, suc, ◌+◌, ◌-◌, ◌*◌, ◌/◌, ◌%◌, ◌<◌, ◌≤◌, Bool, false, cond, List, length, get_or, ℤ, pos, negsuc, refl, ap, sym, ◌∙◌, subst, inl, inr, arith}
use Rattle.std.specs.Prelude.{flat_map, ◌||◌}
use Rattle.std.specs.List.{range_with_len, list_any}
use Rattle.std.specs.Ordering.{int_eq}
use Rattle.std.proofs.Math.Nat.{mod-eq_of_lt}
use Rattle.std.proofs.lemmas.Bool.{cases_lt}
use Rattle.std.proofs.lemmas.List.{ext_get_or, get_or_append_left, get_or-append_right, length-append}
use Rattle.std.proofs.lemmas.Nat.{mod_below, row_fits, div_below, div-add-mod'}
use Rattle.ssd_geo.specs.Bits.{bit_sum}
use Rattle.ssd_geo.specs.BaseMatrix.{BaseMatrix, IsAccepted, entry_at, has_middle_before, layer_of, message_columns, parity_entry}
use Rattle.ssd_geo.specs.Codewords.{coded_bits, first_parity, is_odd_row, message_sum, parity_block, shift_of, word_bits}
use Rattle.qc_matrix.proofs.Find.{list_any-more}
use Rattle.ldpc_encode.proofs.Blocks.{get_or-first_parity, get_or-message_sum, get_or-next_parity, get_or-second_parity, length-parity_block, row_bit}
use Rattle.ldpc_encode.proofs.Bools.{solve-all, solve-first, solve-middle, zero-first, zero-last, zero-middle}
use Rattle.ldpc_encode.proofs.Chain.{block-sums}
use Rattle.ldpc_encode.proofs.Rows.{columns, first-row, last-row, message_part, middle-once, middle-row, some-middle}
use Rattle.ldpc_encode.proofs.Sums.{at_entry, is_odd_sum-blocks, sum_over, sum_over-push, sum_over-same}

-- a list of blocks, each of z bits
module _ (block : ℕ → List Bool) (z : ℕ) (long : (t : ℕ) → length (block t) ≡ z) where
  pub length-blocks : (a n : ℕ) → length (flat_map block (range_with_len a n)) ≡ n * z
  length-blocks a zero = omega arith
  length-blocks a (suc n) =
      let rest : length (flat_map block (range_with_len (a + 1) n)) ≡ n * z = length-blocks (a + 1) n in
      let first : length (block a) ≡ z = long a in
      length-append (block a) (flat_map block (range_with_len (a + 1) n)) ∙ omega arith

  pub get_or-blocks : (a n t c : ℕ) → t < n → c < z → get_or (flat_map block (range_with_len a n)) (t * z + c) false ≡ get_or (block (a + t)) c false
  get_or-blocks a zero t c h low = absurd (omega arith)
  get_or-blocks a (suc n) zero c h low =
      let place : zero * z + c ≡ c = omega arith in
      let here : a + zero ≡ a = omega arith in
      rw (place, here) (get_or_append_left (block a) (flat_map block (range_with_len (a + 1) n)) false c (omega (arith, long a)))
  get_or-blocks a (suc n) (suc t) c h low =
      let here : a + suc t ≡ a + 1 + t = omega arith in
      let past : suc t * z + c - z ≡ t * z + c = omega arith in
      rw here
      (get_or-append_right (block a) (flat_map block (range_with_len (a + 1) n)) z (suc t * z + c) false (long a) (omega arith)
      ∙ ap (λ (k : ℕ). get_or (flat_map block (range_with_len (a + 1) n)) k false) past
      ∙ get_or-blocks (a + 1) n t c (omega arith) low)

pub middle_more : (m : BaseMatrix) (t : ℕ) → 1 ≤ t → has_middle_before m (t + 1) ≡ (has_middle_before m t || int_eq (parity_entry m t) (pos 0))
middle_more m t h =
    let test : ℕ → Bool = λ i. int_eq (parity_entry m i) (pos 0) in
    let more : t + 1 - 1 ≡ (t - 1) + 1 = omega arith in
    let last : 1 + (t - 1) ≡ t = omega arith in
    ap (λ (n : ℕ). list_any test (range_with_len 1 n)) more ∙ list_any-more test 1 (t - 1)
    ∙ ap (λ (i : ℕ). list_any test (range_with_len 1 (t - 1)) || test i) last

same-entry : (f g : ℕ × ℕ → Bool) (j : ℕ) (e : ℤ) → ((s : ℕ) → f (j, s) ≡ g (j, s)) → at_entry f j e ≡ at_entry g j e
same-entry f g j (pos s) same = same s
same-entry f g j (negsuc n) same = refl

module _ (m : BaseMatrix) (ok : IsAccepted m) (u : List Bool) (whole : length u ≡ message_columns m * m.z) where
  positive : 0 < m.z
  positive = omega (arith, ok.within.z_low)

  -- row r's sum over the message blocks of a base row
  abbrev pub sum_at : ℕ → ℕ → Bool
  sum_at r i = get_or (message_sum m u i) r false

  -- bit c of parity block t of a word
  abbrev pub parity_bit : List Bool → ℕ → ℕ → Bool
  parity_bit w t c = get_or w ((message_columns m + t) * m.z + c) false

  module _ (w : List Bool) (same : (v : ℕ) → v < message_columns m * m.z → get_or w v false ≡ get_or u v false) (r : ℕ) (low : r < m.z) where
    abbrev pub turned : ℕ
    turned = (r + shift_of (parity_entry m 0)) % m.z

    part : (i : ℕ) → message_part m ok (row_bit m.z r w) i ≡ sum_at r i
    part i =
        sum_over-same (λ j. at_entry (row_bit m.z r w) j (entry_at m i j)) (λ j. at_entry (row_bit m.z r u) j (entry_at m i j)) 0 (message_columns m)
        (λ j _ high. same-entry (row_bit m.z r w) (row_bit m.z r u) j (entry_at m i j)
        (λ s.
        let inside : j * m.z + m.z ≤ message_columns m * m.z = row_fits j m.z (message_columns m) m.z (omega arith) (omega arith) in
        let below : (r + s) % m.z < m.z = mod_below (r + s) m.z positive in
        same (j * m.z + (r + s) % m.z) (omega arith)))
        ∙ sym (get_or-message_sum m u (columns m ok) whole positive i r low)

    straight : (t : ℕ) → row_bit m.z r w (message_columns m + t, 0) ≡ parity_bit w t r
    straight t =
        let none : r + 0 ≡ r = omega arith in
        ap (λ (c : ℕ). get_or w ((message_columns m + t) * m.z + c) false) (ap (λ (k : ℕ). k % m.z) none ∙ mod-eq_of_lt low)

    first-straight : row_bit m.z r w (message_columns m, 0) ≡ parity_bit w 0 r
    first-straight =
        let none : message_columns m ≡ message_columns m + 0 = omega arith in
        ap (λ (k : ℕ). row_bit m.z r w (k, 0)) none ∙ straight 0

    first-turned : row_bit m.z r w (message_columns m, shift_of (parity_entry m 0)) ≡ parity_bit w 0 turned
    first-turned =
        let none : message_columns m ≡ message_columns m + 0 = omega arith in
        ap (λ (k : ℕ). get_or w (k * m.z + (r + shift_of (parity_entry m 0)) % m.z) false) none

    -- the sums of the first row, a middle row and the last row
    pub odd-first : is_odd_row m w 0 r ≡ bit_sum (sum_at r 0) (bit_sum (parity_bit w 0 turned) (parity_bit w 1 r))
    odd-first =
        is_odd_sum-blocks w m.z r (layer_of m 0) ∙ first-row m ok (row_bit m.z r w)
        ∙ ap (λ (b : Bool). bit_sum b (bit_sum (row_bit m.z r w (message_columns m, shift_of (parity_entry m 0))) (row_bit m.z r w (message_columns m + 1, 0)))) (part 0)
        ∙ ap (λ (b : Bool). bit_sum (sum_at r 0) (bit_sum b (row_bit m.z r w (message_columns m + 1, 0)))) first-turned
        ∙ ap (λ (b : Bool). bit_sum (sum_at r 0) (bit_sum (parity_bit w 0 turned) b)) (straight 1)

    pub odd-middle : (i : ℕ) → 1 ≤ i → i < m.mb - 1
        → is_odd_row m w i r ≡ bit_sum (sum_at r i) (bit_sum (cond (int_eq (parity_entry m i) (pos 0)) (parity_bit w 0 r) false) (bit_sum (parity_bit w i r) (parity_bit w (i + 1) r)))
    odd-middle i from to =
        is_odd_sum-blocks w m.z r (layer_of m i) ∙ middle-row m ok (row_bit m.z r w) i from to
        ∙ ap (λ (b : Bool). bit_sum b (bit_sum (cond (int_eq (parity_entry m i) (pos 0)) (row_bit m.z r w (message_columns m, 0)) false)
        (bit_sum (row_bit m.z r w (message_columns m + i, 0)) (row_bit m.z r w (message_columns m + (i + 1), 0))))) (part i)
        ∙ ap (λ (b : Bool). bit_sum (sum_at r i) (bit_sum (cond (int_eq (parity_entry m i) (pos 0)) b false)
        (bit_sum (row_bit m.z r w (message_columns m + i, 0)) (row_bit m.z r w (message_columns m + (i + 1), 0))))) first-straight
        ∙ ap (λ (b : Bool). bit_sum (sum_at r i) (bit_sum (cond (int_eq (parity_entry m i) (pos 0)) (parity_bit w 0 r) false)
        (bit_sum b (row_bit m.z r w (message_columns m + (i + 1), 0))))) (straight i)
        ∙ ap (λ (b : Bool). bit_sum (sum_at r i) (bit_sum (cond (int_eq (parity_entry m i) (pos 0)) (parity_bit w 0 r) false) (bit_sum (parity_bit w i r) b))) (straight (i + 1))

    pub odd-last : is_odd_row m w (m.mb - 1) r ≡ bit_sum (sum_at r (m.mb - 1)) (bit_sum (parity_bit w 0 turned) (parity_bit w (m.mb - 1) r))
    odd-last =
        is_odd_sum-blocks w m.z r (layer_of m (m.mb - 1)) ∙ last-row m ok (row_bit m.z r w)
        ∙ ap (λ (b : Bool). bit_sum b (bit_sum (row_bit m.z r w (message_columns m, shift_of (parity_entry m 0))) (row_bit m.z r w (message_columns m + (m.mb - 1), 0)))) (part (m.mb - 1))
        ∙ ap (λ (b : Bool). bit_sum (sum_at r (m.mb - 1)) (bit_sum b (row_bit m.z r w (message_columns m + (m.mb - 1), 0)))) first-turned
        ∙ ap (λ (b : Bool). bit_sum (sum_at r (m.mb - 1)) (bit_sum (parity_bit w 0 turned) b)) (straight (m.mb - 1))

    -- the sum of all rows but the last, with the blocks that the rows before give
    pub last-block : parity_bit w 1 r ≡ bit_sum (sum_at r 0) (parity_bit w 0 turned)
        → ((t : ℕ) → 1 ≤ t → t < m.mb - 1 → parity_bit w (t + 1) r ≡ bit_sum (bit_sum (sum_at r t) (parity_bit w t r)) (cond (int_eq (parity_entry m t) (pos 0)) (parity_bit w 0 r) false))
        → parity_bit w (m.mb - 1) r ≡ bit_sum (bit_sum (sum_over (sum_at r) 0 (m.mb - 1)) (parity_bit w 0 turned)) (parity_bit w 0 r)
    last-block start step =
        let low : 3 ≤ m.mb = ok.within.mb_low in
        let end : m.mb - 2 + 1 ≡ m.mb - 1 = omega arith in
        let chain : parity_bit w (m.mb - 2 + 1) r
        ≡ bit_sum (bit_sum (sum_over (sum_at r) 0 (m.mb - 2 + 1)) (parity_bit w 0 turned)) (cond (has_middle_before m (m.mb - 2 + 1)) (parity_bit w 0 r) false) =
        block-sums (sum_at r) (λ t. parity_bit w t r) (λ t. int_eq (parity_entry m t) (pos 0)) (has_middle_before m) (parity_bit w 0 turned) (parity_bit w 0 r) (m.mb - 1)
        start step refl (λ t from _. middle_more m t from) (λ t from to before. middle-once m ok t from to before) (m.mb - 2) (omega arith) in
        subst
        (λ (k : ℕ). parity_bit w k r ≡ bit_sum (bit_sum (sum_over (sum_at r) 0 k) (parity_bit w 0 turned)) (cond (has_middle_before m k) (parity_bit w 0 r) false))
        end chain
        ∙ ap (λ (b : Bool). bit_sum (bit_sum (sum_over (sum_at r) 0 (m.mb - 1)) (parity_bit w 0 turned)) (cond b (parity_bit w 0 r) false)) (some-middle m ok)

  -- the sum of all rows, with the last one apart
  all-rows : (r : ℕ) → sum_over (sum_at r) 0 m.mb ≡ bit_sum (sum_over (sum_at r) 0 (m.mb - 1)) (sum_at r (m.mb - 1))
  all-rows r =
      let low : 3 ≤ m.mb = ok.within.mb_low in
      let end : m.mb ≡ m.mb - 1 + 1 = omega arith in
      ap (sum_over (sum_at r) 0) end ∙ sum_over-push (sum_at r) (m.mb - 1)

  first-is : (r : ℕ) → get_or (first_parity m u) r false ≡ bit_sum (sum_over (sum_at r) 0 (m.mb - 1)) (sum_at r (m.mb - 1))
  first-is r = get_or-first_parity m u (columns m ok) whole positive r ∙ all-rows r

  -- the bits of the message and of the parity blocks
  pub length-coded : length (coded_bits m u) ≡ word_bits m
  length-coded =
      let blocks : length (flat_map (parity_block m u) (range_with_len 0 m.mb)) ≡ m.mb * m.z =
      length-blocks (parity_block m u) m.z (length-parity_block m u (columns m ok) whole positive) 0 m.mb in
      let all : message_columns m * m.z + m.mb * m.z ≡ (message_columns m + m.mb) * m.z = omega arith in
      length-append u (flat_map (parity_block m u) (range_with_len 0 m.mb))
      ∙ (let e : length u + length (flat_map (parity_block m u) (range_with_len 0 m.mb)) ≡ (message_columns m + m.mb) * m.z = omega arith in e)
      ∙ ap (λ (n : ℕ). n * m.z) (columns m ok)

  pub coded-message : (v : ℕ) → v < message_columns m * m.z → get_or (coded_bits m u) v false ≡ get_or u v false
  coded-message v h = get_or_append_left u (flat_map (parity_block m u) (range_with_len 0 m.mb)) false v (omega arith)

  pub coded-parity : (t c : ℕ) → t < m.mb → c < m.z → parity_bit (coded_bits m u) t c ≡ get_or (parity_block m u t) c false
  coded-parity t c h low =
      let past : (message_columns m + t) * m.z + c - message_columns m * m.z ≡ t * m.z + c = omega arith in
      get_or-append_right u (flat_map (parity_block m u) (range_with_len 0 m.mb)) (message_columns m * m.z) ((message_columns m + t) * m.z + c) false whole (omega arith)
      ∙ ap (λ (k : ℕ). get_or (flat_map (parity_block m u) (range_with_len 0 m.mb)) k false) past
      ∙ get_or-blocks (parity_block m u) m.z (length-parity_block m u (columns m ok) whole positive) 0 m.mb t c h low
      ∙ ap (λ (k : ℕ). get_or (parity_block m u k) c false) (omega arith)

  module _ (r : ℕ) (low : r < m.z) where
    start : parity_bit (coded_bits m u) 1 r ≡ bit_sum (sum_at r 0) (parity_bit (coded_bits m u) 0 ((r + shift_of (parity_entry m 0)) % m.z))
    start =
        coded-parity 1 r (omega (arith, ok.within.mb_low)) low
        ∙ get_or-second_parity m u (columns m ok) whole positive r low
        ∙ ap (bit_sum (sum_at r 0)) (sym (coded-parity 0 ((r + shift_of (parity_entry m 0)) % m.z) (omega (arith, ok.within.mb_low)) (mod_below (r + shift_of (parity_entry m 0)) m.z positive)))

    step : (t : ℕ) → 1 ≤ t → t < m.mb - 1
        → parity_bit (coded_bits m u) (t + 1) r
        ≡ bit_sum (bit_sum (sum_at r t) (parity_bit (coded_bits m u) t r)) (cond (int_eq (parity_entry m t) (pos 0)) (parity_bit (coded_bits m u) 0 r) false)
    step t from to =
        coded-parity (t + 1) r (omega arith) low
        ∙ get_or-next_parity m u (columns m ok) whole positive r t from
        ∙ ap (λ (b : Bool). bit_sum (bit_sum (sum_at r t) b) (cond (int_eq (parity_entry m t) (pos 0)) (get_or (first_parity m u) r false) false)) (sym (coded-parity t r (omega arith) low))
        ∙ ap (λ (b : Bool). bit_sum (bit_sum (sum_at r t) (parity_bit (coded_bits m u) t r)) (cond (int_eq (parity_entry m t) (pos 0)) b false))
        (sym (coded-parity 0 r (omega (arith, ok.within.mb_low)) low))

    -- no check row of the message's word is odd
    pub coded-even : (i : ℕ) → i < m.mb → is_odd_row m (coded_bits m u) i r ≡ false
    coded-even zero row =
        odd-first (coded_bits m u) coded-message r low
        ∙ ap (λ (b : Bool). bit_sum (sum_at r 0) (bit_sum (parity_bit (coded_bits m u) 0 ((r + shift_of (parity_entry m 0)) % m.z)) b)) start
        ∙ zero-first (sum_at r 0) (parity_bit (coded_bits m u) 0 ((r + shift_of (parity_entry m 0)) % m.z))
    coded-even (suc i) row = elim (cases_lt (suc i) (m.mb - 1)) [
      | inl middle ↦
          odd-middle (coded_bits m u) coded-message r low (suc i) (omega arith) middle
          ∙ ap (λ (b : Bool). bit_sum (sum_at r (suc i)) (bit_sum (cond (int_eq (parity_entry m (suc i)) (pos 0)) (parity_bit (coded_bits m u) 0 r) false) (bit_sum (parity_bit (coded_bits m u) (suc i) r) b)))
          (step (suc i) (omega arith) middle)
          ∙ zero-middle (sum_at r (suc i)) (cond (int_eq (parity_entry m (suc i)) (pos 0)) (parity_bit (coded_bits m u) 0 r) false) (parity_bit (coded_bits m u) (suc i) r)
      | inr end ↦
          let last : suc i ≡ m.mb - 1 = omega arith in
          let s : Bool = parity_bit (coded_bits m u) 0 ((r + shift_of (parity_entry m 0)) % m.z) in
          let a : Bool = sum_over (sum_at r) 0 (m.mb - 1) in
          ap (λ (k : ℕ). is_odd_row m (coded_bits m u) k r) last
          ∙ odd-last (coded_bits m u) coded-message r low
          ∙ ap (λ (b : Bool). bit_sum (sum_at r (m.mb - 1)) (bit_sum s b)) (last-block (coded_bits m u) coded-message r low start step)
          ∙ ap (λ (b : Bool). bit_sum (sum_at r (m.mb - 1)) (bit_sum s (bit_sum (bit_sum a s) b))) (coded-parity 0 r (omega arith) low ∙ first-is r)
          ∙ zero-last a s (sum_at r (m.mb - 1))
    ]

  -- a word with the message's bits and no odd row
  module _ (w : List Bool) (same : (v : ℕ) → v < message_columns m * m.z → get_or w v false ≡ get_or u v false)
      (even : (i r : ℕ) → i < m.mb → r < m.z → is_odd_row m w i r ≡ false) where
    given-start : (r : ℕ) → r < m.z → parity_bit w 1 r ≡ bit_sum (sum_at r 0) (parity_bit w 0 ((r + shift_of (parity_entry m 0)) % m.z))
    given-start r low =
        solve-first (sum_at r 0) (parity_bit w 0 ((r + shift_of (parity_entry m 0)) % m.z)) (parity_bit w 1 r)
        (sym (odd-first w same r low) ∙ even 0 r (omega (arith, ok.within.mb_low)) low)

    given-step : (r : ℕ) → r < m.z → (t : ℕ) → 1 ≤ t → t < m.mb - 1
        → parity_bit w (t + 1) r ≡ bit_sum (bit_sum (sum_at r t) (parity_bit w t r)) (cond (int_eq (parity_entry m t) (pos 0)) (parity_bit w 0 r) false)
    given-step r low t from to =
        solve-middle (sum_at r t) (cond (int_eq (parity_entry m t) (pos 0)) (parity_bit w 0 r) false) (parity_bit w t r) (parity_bit w (t + 1) r)
        (sym (odd-middle w same r low t from to) ∙ even t r (omega arith) low)

    given-last : (r : ℕ) → r < m.z → parity_bit w (m.mb - 1) r ≡ bit_sum (sum_at r (m.mb - 1)) (parity_bit w 0 ((r + shift_of (parity_entry m 0)) % m.z))
    given-last r low =
        solve-first (sum_at r (m.mb - 1)) (parity_bit w 0 ((r + shift_of (parity_entry m 0)) % m.z)) (parity_bit w (m.mb - 1) r)
        (sym (odd-last w same r low) ∙ even (m.mb - 1) r (omega (arith, ok.within.mb_low)) low)

    -- its first parity block is the sum of all rows
    given-first : (r : ℕ) → r < m.z → parity_bit w 0 r ≡ get_or (first_parity m u) r false
    given-first r low =
        solve-all (sum_over (sum_at r) 0 (m.mb - 1)) (parity_bit w 0 ((r + shift_of (parity_entry m 0)) % m.z)) (parity_bit w 0 r) (sum_at r (m.mb - 1)) (parity_bit w (m.mb - 1) r)
        (last-block w same r low (given-start r low) (given-step r low)) (given-last r low)
        ∙ sym (first-is r)

    -- and so are the others those of the message
    pub given-block : (r : ℕ) → r < m.z → (t : ℕ) → t < m.mb → parity_bit w t r ≡ get_or (parity_block m u t) r false
    given-block r low zero h = given-first r low
    given-block r low (suc zero) h =
        given-start r low
        ∙ ap (bit_sum (sum_at r 0)) (given-first ((r + shift_of (parity_entry m 0)) % m.z) (mod_below (r + shift_of (parity_entry m 0)) m.z positive))
        ∙ sym (get_or-second_parity m u (columns m ok) whole positive r low)
    given-block r low (suc (suc t)) h =
        let more : suc (suc t) ≡ suc t + 1 = omega arith in
        subst (λ (k : ℕ). parity_bit w k r ≡ get_or (parity_block m u k) r false) (sym more)
        (given-step r low (suc t) (omega arith) (omega arith)
        ∙ ap (λ (b : Bool). bit_sum (bit_sum (sum_at r (suc t)) b) (cond (int_eq (parity_entry m (suc t)) (pos 0)) (parity_bit w 0 r) false)) (given-block r low (suc t) (omega arith))
        ∙ ap (λ (b : Bool). bit_sum (bit_sum (sum_at r (suc t)) (get_or (parity_block m u (suc t)) r false)) (cond (int_eq (parity_entry m (suc t)) (pos 0)) b false)) (given-first r low)
        ∙ sym (get_or-next_parity m u (columns m ok) whole positive r (suc t) (omega arith)))

    -- so it is the message's word
    pub given-coded : length w ≡ word_bits m → w ≡ coded_bits m u
    given-coded long =
        ext_get_or false w (coded_bits m u) (long ∙ sym length-coded)
        (λ v within. elim (cases_lt v (message_columns m * m.z)) [
          | inl front ↦ same v front ∙ sym (coded-message v front)
          | inr back ↦
              let t : ℕ = (v - message_columns m * m.z) / m.z in
              let c : ℕ = (v - message_columns m * m.z) % m.z in
              let split : t * m.z + c ≡ v - message_columns m * m.z = div-add-mod' (v - message_columns m * m.z) m.z in
              let place : (message_columns m + t) * m.z + c ≡ v = omega arith in
              let low : c < m.z = mod_below (v - message_columns m * m.z) m.z positive in
              let room : v - message_columns m * m.z < m.mb * m.z =
              (let all : (message_columns m + m.mb) * m.z ≡ word_bits m = ap (λ (n : ℕ). n * m.z) (columns m ok) in omega arith) in
              let inside : t < m.mb = div_below (v - message_columns m * m.z) m.z m.mb positive room in
              subst (λ (k : ℕ). get_or w k false ≡ get_or (coded_bits m u) k false) place
              (given-block c low t inside ∙ sym (coded-parity t c inside low))
        ])
