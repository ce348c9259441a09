-- One odd row in the sum of all rows, or none.
use Rattle.std.proofs.Common.{◌≡◌, ℕ, ◌+◌, ◌<◌, eqb, get_or, sym, ap, subst, ◌∙◌, arith}
use Rattle.std.specs.Prelude.{count_by, sum_by}
use Rattle.std.specs.List.{range_with_len}
use Rattle.std.proofs.lemmas.Bool.{eq-eqb, ne_eqb}
use Rattle.std.proofs.lemmas.List.FromFn.{get_or-range_with_len, length-range_with_len}
use Rattle.std.proofs.lemmas.List.Sums.{sum_by_more_le}
use Rattle.ssd_geo.specs.Bits.{bits_of}
use Rattle.ssd_geo.specs.Codewords.{is_odd_row, word_bits}
use Rattle.qc_matrix.proofs.code.Code.is_codeword.Goals as goal
use Rattle.shared_lemmas.proofs.Lists.{sum_by-range_more}

-- a term of a sum that isn't 0
some : (f : ℕ → ℕ) (i n : ℕ) → i < n → 0 < f i → 0 < sum_by f (range_with_len 0 n)
some f i n h more =
    let at : get_or (range_with_len 0 n) i 0 ≡ i = (let e = get_or-range_with_len 0 n i 0 h in omega arith) in
    let same : f (get_or (range_with_len 0 n) i 0) ≡ f i = ap f at in
    omega (arith, sum_by_more_le f (range_with_len 0 n) i 0 (omega (arith, length-range_with_len 0 n)))

none : (f : ℕ → ℕ) (n : ℕ) → sum_by f (range_with_len 0 n) ≡ 0 → f n ≡ 0 → sum_by f (range_with_len 0 (n + 1)) ≡ 0
none f n h k = omega (arith, sum_by-range_more f n)

pub loop-row-preserved : goal.loop-row-preserved
loop-row-preserved c =
    let rows : ℕ → ℕ = λ i. count_by (is_odd_row c.args.self.now (bits_of (word_bits c.args.self.now) c.args.word.now) i) (range_with_len 0 c.args.self.now.z) in
    none rows c.loop-row.row c.loop-row.invariant (sym c.odd_rows.ensures.value ∙ c.if-odd_rows-ne0.false)

pub returns-then-odd_rows-ne0 : goal.returns-then-odd_rows-ne0
returns-then-odd_rows-ne0 c =
    let m = c.args.self.now in
    let rows : ℕ → ℕ = λ i. count_by (is_odd_row m (bits_of (word_bits m) c.args.word.now) i) (range_with_len 0 m.z) in
    let value : c.odd_rows.result ≡ rows c.loop-row.row = c.odd_rows.ensures.value in
    let more = some rows c.loop-row.row m.mb (omega arith) (omega arith) in
    sym (ne_eqb (sum_by rows (range_with_len 0 m.mb)) 0 (λ e. absurd (omega arith)))

pub returns : goal.returns
returns c =
    let m = c.args.self.now in
    let rows : ℕ → ℕ = λ i. count_by (is_odd_row m (bits_of (word_bits m) c.args.word.now) i) (range_with_len 0 m.z) in
    let all : c.loop-row.row ≡ m.mb = omega arith in
    sym (eq-eqb (sum_by rows (range_with_len 0 m.mb)) 0 (subst (λ (n : ℕ). sum_by rows (range_with_len 0 n) ≡ 0) all c.loop-row.invariant))
