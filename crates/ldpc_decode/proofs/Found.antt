-- The least number of iterations, found by trying one after the other.
use Rattle.std.proofs.Common.{◌≡◌, ℕ, zero, suc, ◌+◌, ◌<◌, ◌≤◌, Bool, true, false, cond, List, Some, None, find, option_map, inl, inr, ℤ, refl, sym, ap, ◌∙◌, arith}
use Rattle.std.specs.List.{range_with_len}
use Rattle.std.proofs.lemmas.Bool.{cases_eq}
use Rattle.ssd_geo.specs.BaseMatrix.{BaseMatrix}
use Rattle.ssd_geo.specs.Bits.{bytes_of}
use Rattle.ssd_geo.specs.Codewords.{is_codeword}
use Rattle.ssd_geo.specs.Decoding.{after_iterations, decided, decode, decided_after, iterated, layers_of}

found_from : (test : ℕ → Bool) (first count n : ℕ) → first ≤ n → n < first + count → test n ≡ true → ((k : ℕ) → k < n → test k ≡ false) → find test (range_with_len first count) ≡ Some n
found_from test first zero n low high holds fails = absurd (omega arith)
found_from test first (suc count) n low high holds fails =
    elim (cases_eq n first) [
      | inl same ↦
          let now : test first ≡ true = ap test (sym same) ∙ holds in
          ap (λ (b : Bool). cond b (Some first) (find test (range_with_len (first + 1) count))) now ∙ ap Some (sym same)
      | inr later ↦
          let not_now : test first ≡ false = fails first (omega arith) in
          ap (λ (b : Bool). cond b (Some first) (find test (range_with_len (first + 1) count))) not_now
          ∙ found_from test (first + 1) count n (omega arith) (omega arith) holds fails
    ]

not_found_from : (test : ℕ → Bool) (first count : ℕ) → ((k : ℕ) → k < first + count → test k ≡ false) → find test (range_with_len first count) ≡ None
not_found_from test first zero fails = refl
not_found_from test first (suc count) fails =
    ap (λ (b : Bool). cond b (Some first) (find test (range_with_len (first + 1) count))) (fails first (omega arith))
    ∙ not_found_from test (first + 1) count (λ k h. fails k (omega arith))

-- the hard decision after n iterations is a codeword, and after no fewer
pub decoded : (m : BaseMatrix) (limit : ℕ) (values : List ℤ) (n : ℕ) (word : List ℕ) → n ≤ limit → is_codeword m (decided_after m values n) ≡ true → ((k : ℕ) → k < n → is_codeword m (decided_after m values k) ≡ false) → word ≡ bytes_of (decided_after m values n) → decode m limit values ≡ Some (n, word)
decoded m limit values n word h holds fails is =
    ap (option_map (λ (k : ℕ). (k, bytes_of (decided_after m values k)))) (found_from (λ (k : ℕ). is_codeword m (decided_after m values k)) 0 (limit + 1) n (omega arith) (omega arith) holds fails)
    ∙ ap (λ (w : List ℕ). Some (n, w)) (sym is)

pub not_decoded : (m : BaseMatrix) (limit : ℕ) (values : List ℤ) → ((k : ℕ) → k ≤ limit → is_codeword m (decided_after m values k) ≡ false) → decode m limit values ≡ None
not_decoded m limit values fails =
    ap (option_map (λ (k : ℕ). (k, bytes_of (decided_after m values k)))) (not_found_from (λ (k : ℕ). is_codeword m (decided_after m values k)) 0 (limit + 1) (λ k h. fails k (omega arith)))

-- one iteration more
pub after_more : (m : BaseMatrix) (values : List ℤ) (n : ℕ) (p r p' r' : List ℤ) → (p, r) ≡ after_iterations m values n → (p', r') ≡ iterated (layers_of m) m.z (p, r) → (p', r') ≡ after_iterations m values (n + 1)
after_more m values n p r p' r' e f =
    let next : suc n ≡ n + 1 = omega arith in
    f ∙ ap (iterated (layers_of m) m.z) e ∙ ap (after_iterations m values) next

-- what the test of one hard decision says of the iterations so far
pub tested : (m : BaseMatrix) (values : List ℤ) (n : ℕ) (p r : List ℤ) (answer b : Bool) → (p, r) ≡ after_iterations m values n → answer ≡ is_codeword m (decided p) → answer ≡ b → is_codeword m (decided_after m values n) ≡ b
tested m values n p r answer b e f g = ap (λ (s : List ℤ × List ℤ). is_codeword m (decided (s.0))) (sym e) ∙ sym f ∙ g

pub one_more_failed : (m : BaseMatrix) (values : List ℤ) (n : ℕ) → ((k : ℕ) → k ≤ n → is_codeword m (decided_after m values k) ≡ false) → is_codeword m (decided_after m values (n + 1)) ≡ false → (k : ℕ) → k ≤ n + 1 → is_codeword m (decided_after m values k) ≡ false
one_more_failed m values n fails last k h =
    elim (cases_eq k (n + 1)) [
      | inl same ↦ ap (λ (i : ℕ). is_codeword m (decided_after m values i)) same ∙ last
      | inr below ↦ fails k (omega arith)
    ]
