-- What a lane tells its edge is what the row rule says.
use Rattle.std.proofs.Common.{◌≡◌, ℕ, suc, ◌+◌, ◌-◌, ◌*◌, ◌/◌, ◌<◌, ◌≤◌, min, Bool, true, false, List, cond, leb, eqb, inl, inr, length, get_or, ℤ, pos, unsigned_abs, refl, sym, ap, ◌∙◌, arith}
use Rattle.std.specs.Int.Bits.{bit_xor}
use Rattle.std.specs.List.{remove}
use Rattle.std.specs.Simd.Lanes.{put_chunk}
use Rattle.std.proofs.lemmas.Bool.{cases_lt}
use Rattle.std.proofs.lemmas.Bool.Decides.{nat_tests}
use Rattle.std.proofs.lemmas.List.FromFn.{get_or-map-range_with_len}
use Rattle.std.proofs.lemmas.Simd.{get_or-put_chunk_above, get_or-put_chunk_at, get_or-put_chunk_below}
use Rattle.std.proofs.Math.Nat.{mul-le-mul_right}
use Rattle.ssd_geo.specs.RowRule.{differ, is_negative, is_product_negative, least_magnitude, row_rule, signed, told_by}
use Rattle.minsum_layer.proofs.TwoLeast.{sign-remove}
use Rattle.lane_layer.specs.Rows.{number_of}
use Rattle.lane_layer.proofs.Codes.{magnitude, near_within, told_code, top_bit, top_xor}

-- the code of three quarters of the least of the other magnitudes, of one lane
abbrev pub quarters : ℕ → ℕ
quarters nearest = 127 - 3 * (127 - nearest) / 4

-- the code that a lane tells
abbrev pub lane_tells : ℕ → ℕ → ℕ → ℕ → ℕ
lane_tells nearest second signs code =
    cond (leb 128 (bit_xor code signs)) (254 - cond (eqb (min code (254 - code)) nearest) (quarters second) (quarters nearest)) (cond (eqb (min code (254 - code)) nearest) (quarters second) (quarters nearest))

same_test : (near nearest : ℕ) → near ≤ 127 → nearest ≤ 127 → eqb (127 - near) (127 - nearest) ≡ eqb near nearest
same_test near nearest h k = grind (arith, nat_tests)

quarters_of : (b : Bool) (nearest second : ℕ) → cond b (quarters second) (quarters nearest) ≡ 127 - 3 * cond b (127 - second) (127 - nearest) / 4
quarters_of true nearest second = refl
quarters_of false nearest second = refl

rest_within : (b : Bool) (nearest second : ℕ) → cond b (127 - second) (127 - nearest) ≤ 127
rest_within true nearest second = omega arith
rest_within false nearest second = omega arith

told_signed : (sign : Bool) (m code : ℕ) → m ≤ 127 → code ≡ 127 - 3 * m / 4 → number_of (cond sign (254 - code) code) ≡ signed sign (3 * m / 4)
told_signed sign m code h e = ap (λ (c : ℕ). number_of (cond sign (254 - c) c)) e ∙ told_code sign m h

pub rule_at : (q : List ℤ) (e : ℕ) → e < length q → get_or (row_rule q) e (pos 0) ≡ told_by (remove q e)
unfolding row_rule
rule_at q e h = get_or-map-range_with_len (λ i. told_by (remove q i)) 0 (length q) e e (pos 0) h (omega arith)

-- what the lane of a row tells edge e, which has this code
pub lane_tells_rule : (row : List ℤ) (e nearest second signs code : ℕ) → e < length row → get_or row e (pos 0) ≡ number_of code → code ≤ 254 → nearest ≤ 127 → signs < 256
    → least_magnitude (remove row e) ≡ cond (eqb (unsigned_abs (get_or row e (pos 0))) (127 - nearest)) (127 - second) (127 - nearest) → leb 128 signs ≡ is_product_negative row
    → number_of (lane_tells nearest second signs code) ≡ get_or (row_rule row) e (pos 0)
lane_tells_rule row e nearest second signs code in_row is small near_small signs_small least sign =
    let near = min code (254 - code) in
    let test : eqb (unsigned_abs (get_or row e (pos 0))) (127 - nearest) ≡ eqb near nearest =
    ap (λ (x : ℤ). eqb (unsigned_abs x) (127 - nearest)) is ∙ ap (λ (n : ℕ). eqb n (127 - nearest)) (magnitude code small) ∙ same_test near nearest (near_within code) near_small in
    let rest : least_magnitude (remove row e) ≡ cond (eqb near nearest) (127 - second) (127 - nearest) = least ∙ ap (λ (b : Bool). cond b (127 - second) (127 - nearest)) test in
    let turned : is_product_negative (remove row e) ≡ leb 128 (bit_xor code signs) =
    sign-remove row e in_row
    ∙ ap (λ (x : ℤ). differ (is_negative x) (is_product_negative row)) is
    ∙ ap (λ (b : Bool). differ b (is_product_negative row)) (sym (top_bit code))
    ∙ ap (differ (leb 128 code)) (sym sign)
    ∙ sym (top_xor code signs (omega arith) signs_small) in
    told_signed (leb 128 (bit_xor code signs)) (cond (eqb near nearest) (127 - second) (127 - nearest)) _ (rest_within (eqb near nearest) nearest second) (quarters_of (eqb near nearest) nearest second)
    ∙ ap (λ (n : ℕ). signed (leb 128 (bit_xor code signs)) (3 * n / 4)) (sym rest)
    ∙ ap (λ (b : Bool). signed b (3 * least_magnitude (remove row e) / 4)) (sym turned)
    ∙ sym (rule_at row e in_row)

pub lane_value : (nearest second signs code near least other picked crossed answer : ℕ) → near ≡ min code (254 - code) → least ≡ quarters nearest → other ≡ quarters second
    → picked ≡ cond (eqb near nearest) other least → crossed ≡ bit_xor code signs → answer ≡ cond (leb 128 crossed) (254 - picked) picked → answer ≡ lane_tells nearest second signs code
lane_value nearest second signs code near least other picked crossed answer near_is least_is other_is picked_is crossed_is answer_is =
    let choice : picked ≡ cond (eqb (min code (254 - code)) nearest) (quarters second) (quarters nearest) = cc in
    cc

-- ---- a vector is put at an edge's rows
pub rows_before : (told ys : List ℕ) (z t e f u : ℕ) → u < t → t + length ys ≤ z → get_or (put_chunk (e * z + t) told ys) (f * z + u) 0 ≡ get_or told (f * z + u) 0
rows_before told ys z t e f u h fits =
    elim (cases_lt e f) [
      | inl later ↦
          let apart : suc e * z ≤ f * z = mul-le-mul_right z later in
          get_or-put_chunk_above (e * z + t) told ys (f * z + u) 0 (omega arith)
      | inr earlier ↦
          let apart : f * z ≤ e * z = mul-le-mul_right z earlier in
          get_or-put_chunk_below (e * z + t) told ys (f * z + u) 0 (omega arith)
    ]

pub edges_before : (told ys : List ℕ) (z t e f u : ℕ) → f < e → u < z → get_or (put_chunk (e * z + t) told ys) (f * z + u) 0 ≡ get_or told (f * z + u) 0
edges_before told ys z t e f u h in_row =
    let apart : suc f * z ≤ e * z = mul-le-mul_right z h in
    get_or-put_chunk_below (e * z + t) told ys (f * z + u) 0 (omega arith)

pub edge_now : (told ys : List ℕ) (z t e k : ℕ) → k < length ys → e * z + t + length ys ≤ length told → get_or (put_chunk (e * z + t) told ys) (e * z + (t + k)) 0 ≡ get_or ys k 0
edge_now told ys z t e k h fits =
    let place : e * z + (t + k) ≡ e * z + t + k = omega arith in
    ap (λ (i : ℕ). get_or (put_chunk (e * z + t) told ys) i 0) place ∙ get_or-put_chunk_at (e * z + t) told ys k 0 h fits
