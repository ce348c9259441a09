-- A message, the sums of rows and the first parity block, each added in its place, are the word of the message.
use Rattle.std.proofs.Common.{◌≡◌, ℕ, zero, suc, ◌+◌, ◌-◌, ◌*◌, ◌/◌, ◌%◌, ◌<◌, ◌≤◌, Bool, false, cond, List, length, get_or, pos, refl, ap, sym, ◌∙◌, subst, inl, inr, arith}
use Rattle.std.specs.Ordering.{int_eq}
use Rattle.std.proofs.Math.Nat.{mul-le-mul_right}
use Rattle.std.proofs.lemmas.Bool.{cases_lt, lt-ltb}
use Rattle.std.proofs.lemmas.List.{get_or_past}
use Rattle.std.proofs.lemmas.List.FromFn.{length-map-range_with_len}
use Rattle.std.proofs.lemmas.Nat.{div_below, div-add-mod', mod_below}
use Rattle.ssd_geo.specs.Bits.{bit_of, bit_sum, bits_of, bytes_of}
use Rattle.ssd_geo.specs.BaseMatrix.{BaseMatrix, IsAccepted, has_middle_before, message_columns, parity_entry}
use Rattle.ssd_geo.specs.Codewords.{code_of, coded_bits, first_parity, parity_block, payload_bits, shift_of, word_bits}
use Rattle.qc_matrix.proofs.OddSums.{bit_sum-assoc, bits_of-at}
use Rattle.ssd_bits.proofs.Sums.{same-bytes}
use Rattle.ldpc_encode.proofs.Blocks.{get_or-first_parity, get_or-next_parity, get_or-second_parity}
use Rattle.ldpc_encode.proofs.Bytes.{bit_of-bytes_of, bytes_of-small, length-bytes_of}
use Rattle.ldpc_encode.proofs.Chain.{block-sums}
use Rattle.ldpc_encode.proofs.Solved.{coded-message, coded-parity, length-coded, middle_more}
use Rattle.ldpc_encode.proofs.Rows.{columns, middle-once}
use Rattle.ldpc_encode.proofs.Sums.{sum_over, sum_over-push}
use Rattle.ldpc_encode.specs.Encoding.{AddsToParity, first_added, message_sum_bit, rows_sum_bit, sums_added}

pub rows_sum-over : (m : BaseMatrix) (payload : List ℕ) (t r : ℕ) → rows_sum_bit m payload t r ≡ sum_over (λ i. message_sum_bit m payload i r) 0 t
rows_sum-over m payload zero r = refl
rows_sum-over m payload (suc t) r =
    let more : t + 1 ≡ suc t = omega arith in
    ap (λ (b : Bool). bit_sum b (message_sum_bit m payload t r)) (rows_sum-over m payload t r)
    ∙ sym (sum_over-push (λ i. message_sum_bit m payload i r) t)
    ∙ ap (sum_over (λ i. message_sum_bit m payload i r) 0) more

module _ (m : BaseMatrix) (ok : IsAccepted m) (payload : List ℕ) where
  long : length (bits_of (payload_bits m) payload) ≡ message_columns m * m.z
  long = length-map-range_with_len (bit_of payload) 0 (payload_bits m)

  positive : 0 < m.z
  positive = omega (arith, ok.within.z_low)

  -- the first parity block is the sum of all rows
  first-sum : (r : ℕ) → get_or (first_parity m (bits_of (payload_bits m) payload)) r false ≡ rows_sum_bit m payload m.mb r
  first-sum r = get_or-first_parity m (bits_of (payload_bits m) payload) (columns m ok) long positive r ∙ sym (rows_sum-over m payload m.mb r)

  -- a further one is the sum of the rows before it, with the first one turned, and once more after the middle row
  parity-sums : (r t : ℕ) → r < m.z → t + 1 < m.mb
      → get_or (parity_block m (bits_of (payload_bits m) payload) (t + 1)) r false
      ≡ bit_sum (bit_sum (rows_sum_bit m payload (t + 1) r) (get_or (first_parity m (bits_of (payload_bits m) payload)) ((r + shift_of (parity_entry m 0)) % m.z) false))
      (cond (has_middle_before m (t + 1)) (get_or (first_parity m (bits_of (payload_bits m) payload)) r false) false)
  parity-sums r t low row =
      block-sums (λ i. message_sum_bit m payload i r) (λ k. get_or (parity_block m (bits_of (payload_bits m) payload) k) r false) (λ k. int_eq (parity_entry m k) (pos 0))
      (has_middle_before m) (get_or (first_parity m (bits_of (payload_bits m) payload)) ((r + shift_of (parity_entry m 0)) % m.z) false)
      (get_or (first_parity m (bits_of (payload_bits m) payload)) r false) (m.mb - 1)
      (get_or-second_parity m (bits_of (payload_bits m) payload) (columns m ok) long positive r low)
      (λ k from _. get_or-next_parity m (bits_of (payload_bits m) payload) (columns m ok) long positive r k from)
      refl (λ k from _. middle_more m k from) (λ k from to before. middle-once m ok k from to before) t (omega arith)
      ∙ ap (λ (b : Bool). bit_sum (bit_sum b (get_or (first_parity m (bits_of (payload_bits m) payload)) ((r + shift_of (parity_entry m 0)) % m.z) false))
      (cond (has_middle_before m (t + 1)) (get_or (first_parity m (bits_of (payload_bits m) payload)) r false) false))
      (sym (rows_sum-over m payload (t + 1) r))

  module _ (begun summed out sum : List ℕ)
      (message : (v : ℕ) → v < payload_bits m → bit_of begun v ≡ bit_of payload v)
      (rest : (v : ℕ) → payload_bits m ≤ v → bit_of begun v ≡ false)
      (sums : AddsToParity m begun summed (sums_added m payload))
      (all : (r : ℕ) → r < m.z → bit_of sum r ≡ rows_sum_bit m payload m.mb r)
      (first : AddsToParity m summed out (first_added m sum)) where
    sum-is : (r : ℕ) → r < m.z → bit_of sum r ≡ get_or (first_parity m (bits_of (payload_bits m) payload)) r false
    sum-is r low = all r low ∙ sym (first-sum r)

    added : (t r : ℕ) → t < m.mb → r < m.z → bit_sum (sums_added m payload t r) (first_added m sum t r) ≡ get_or (parity_block m (bits_of (payload_bits m) payload) t) r false
    added zero r row low = sum-is r low
    added (suc t) r row low =
        let more : suc t ≡ t + 1 = omega arith in
        let turned : ℕ = (r + shift_of (parity_entry m 0)) % m.z in
        subst (λ (k : ℕ). bit_sum (sums_added m payload k r) (first_added m sum k r) ≡ get_or (parity_block m (bits_of (payload_bits m) payload) k) r false) (sym more)
        (ap (λ (b : Bool). bit_sum (cond b (rows_sum_bit m payload (t + 1) r) false) (cond b (bit_sum (bit_of sum turned) (cond (has_middle_before m (t + 1)) (bit_of sum r) false)) (bit_of sum r)))
        (lt-ltb 0 (t + 1) (omega arith))
        ∙ sym (bit_sum-assoc (rows_sum_bit m payload (t + 1) r) (bit_of sum turned) (cond (has_middle_before m (t + 1)) (bit_of sum r) false))
        ∙ ap (λ (b : Bool). bit_sum (bit_sum (rows_sum_bit m payload (t + 1) r) b) (cond (has_middle_before m (t + 1)) (bit_of sum r) false))
        (sum-is turned (mod_below (r + shift_of (parity_entry m 0)) m.z positive))
        ∙ ap (λ (b : Bool). bit_sum (bit_sum (rows_sum_bit m payload (t + 1) r) (get_or (first_parity m (bits_of (payload_bits m) payload)) turned false)) (cond (has_middle_before m (t + 1)) b false))
        (sum-is r low)
        ∙ sym (parity-sums r t low (omega arith)))

    coded-bit : (v : ℕ) → v < word_bits m → bit_of out v ≡ get_or (coded_bits m (bits_of (payload_bits m) payload)) v false
    coded-bit v within = elim (cases_lt v (payload_bits m)) [
      | inl front ↦
          first.message v front ∙ sums.message v front ∙ message v front ∙ sym (bits_of-at (payload_bits m) payload v front)
          ∙ sym (coded-message m ok (bits_of (payload_bits m) payload) long v front)
      | inr back ↦
          let t : ℕ = (v - payload_bits m) / m.z in
          let c : ℕ = (v - payload_bits m) % m.z in
          let split : t * m.z + c ≡ v - payload_bits m = div-add-mod' (v - payload_bits m) m.z in
          let place : (message_columns m + t) * m.z + c ≡ v = omega arith in
          let low : c < m.z = mod_below (v - payload_bits m) m.z positive in
          let room : v - payload_bits m < m.mb * m.z =
          (let all_columns : (message_columns m + m.mb) * m.z ≡ word_bits m = ap (λ (n : ℕ). n * m.z) (columns m ok) in omega arith) in
          let row : t < m.mb = div_below (v - payload_bits m) m.z m.mb positive room in
          let past : payload_bits m ≤ (message_columns m + t) * m.z + c = omega arith in
          subst (λ (k : ℕ). bit_of out k ≡ get_or (coded_bits m (bits_of (payload_bits m) payload)) k false) place
          (first.parity t c row low
          ∙ ap (λ (b : Bool). bit_sum b (first_added m sum t c)) (sums.parity t c row low)
          ∙ ap (λ (b : Bool). bit_sum (bit_sum b (sums_added m payload t c)) (first_added m sum t c)) (rest ((message_columns m + t) * m.z + c) past)
          ∙ added t c row low
          ∙ sym (coded-parity m ok (bits_of (payload_bits m) payload) long t c row low))
    ]

    pub word-is : length out ≡ (word_bits m + 7) / 8 → ((i : ℕ) → get_or out i 0 < 256) → out ≡ code_of m payload
    word-is whole small =
        let bits : List Bool = coded_bits m (bits_of (payload_bits m) payload) in
        let count : length bits ≡ word_bits m = length-coded m ok (bits_of (payload_bits m) payload) long in
        let size : length (bytes_of bits) ≡ (word_bits m + 7) / 8 = length-bytes_of bits ∙ ap (λ (n : ℕ). (n + 7) / 8) count in
        same-bytes out (bytes_of bits) (whole ∙ sym size) small (bytes_of-small bits)
        (λ v _. elim (cases_lt v (word_bits m)) [
          | inl within ↦ coded-bit v within ∙ sym (bit_of-bytes_of bits v)
          | inr past ↦
              let less : payload_bits m ≤ word_bits m = mul-le-mul_right m.z (omega arith) in
              first.rest v past ∙ sums.rest v past ∙ rest v (omega arith) ∙ sym (get_or_past bits v false (omega arith)) ∙ sym (bit_of-bytes_of bits v)
        ])
