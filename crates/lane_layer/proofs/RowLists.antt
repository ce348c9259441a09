-- The edges of one check row as a list, edge by edge.
use Rattle.std.proofs.Common.{◌≡◌, ℕ, ◌+◌, ◌-◌, ◌*◌, ◌<◌, ◌≤◌, min, max, leb, Bool, true, false, List, [], ◌∷◌, ◌++◌, length, get_or, ℤ, pos, fold, All, refl, sym, ap, ◌∙◌, arith}
use Rattle.std.specs.Int.Bits.{bit_xor}
use Rattle.std.specs.List.{range_with_len}
use Rattle.std.proofs.lemmas.List.Elements.{All-map}
use Rattle.std.proofs.lemmas.List.FromFn.{get_or-map-range_with_len, length-map-range_with_len, map-range_with_len_more}
use Rattle.std.proofs.lemmas.List.Sums.{fold-append}
use Rattle.std.proofs.lemmas.Nat.{xor_of_8}
use Rattle.ssd_geo.specs.RowRule.{IsWithin, differ, is_negative, is_product_negative}
use Rattle.minsum_layer.proofs.TwoLeast.{keep}
use Rattle.lane_layer.specs.Rows.{number_of, row_of}
use Rattle.lane_layer.proofs.Codes.{code_within, number_within, keep_more, magnitude, near_within, top_bit, top_xor}

pub row_more : (given : List ℕ) (z t n : ℕ) → row_of given z t (n + 1) ≡ row_of given z t n ++ (number_of (get_or given (n * z + t) 0) ∷ [])
row_more given z t n = map-range_with_len_more (λ e. number_of (get_or given (e * z + t) 0)) 0 n n (omega arith)

pub row_at : (given : List ℕ) (z t n e : ℕ) → e < n → get_or (row_of given z t n) e (pos 0) ≡ number_of (get_or given (e * z + t) 0)
row_at given z t n e h = get_or-map-range_with_len (λ e. number_of (get_or given (e * z + t) 0)) 0 n e e (pos 0) h (omega arith)

pub length-row : (given : List ℕ) (z t n : ℕ) → length (row_of given z t n) ≡ n
length-row given z t n = length-map-range_with_len (λ e. number_of (get_or given (e * z + t) 0)) 0 n

pub row_within : (given : List ℕ) (z t n : ℕ) → All (λ c. c ≤ 254) given → All (IsWithin 127) (row_of given z t n)
row_within given z t n h =
    All-map (IsWithin 127) (λ e. number_of (get_or given (e * z + t) 0)) (range_with_len 0 n) (λ k d _. number_within _ (code_within given h _))

pub two_more : (given : List ℕ) (z t n : ℕ) → fold keep (127, 127) (row_of given z t (n + 1)) ≡ keep (fold keep (127, 127) (row_of given z t n)) (number_of (get_or given (n * z + t) 0))
two_more given z t n =
    ap (fold keep (127, 127)) (row_more given z t n) ∙ fold-append keep (127, 127) (row_of given z t n) (number_of (get_or given (n * z + t) 0) ∷ [])

differ_assoc : (a b c : Bool) → differ (differ a b) c ≡ differ a (differ b c)
differ_assoc false b c = refl
differ_assoc true false c = refl
differ_assoc true true false = refl
differ_assoc true true true = refl

differ_false : (a : Bool) → differ a false ≡ a
differ_false false = refl
differ_false true = refl

sign_of_both : (xs : List ℤ) (x : ℤ) → is_product_negative (xs ++ (x ∷ [])) ≡ differ (is_product_negative xs) (is_negative x)
sign_of_both [] x = differ_false (is_negative x)
sign_of_both (y ∷ xs) x = ap (differ (is_negative y)) (sign_of_both xs x) ∙ sym (differ_assoc (is_negative y) (is_product_negative xs) (is_negative x))

pub sign_more : (given : List ℕ) (z t n : ℕ) → is_product_negative (row_of given z t (n + 1)) ≡ differ (is_product_negative (row_of given z t n)) (is_negative (number_of (get_or given (n * z + t) 0)))
sign_more given z t n =
    ap is_product_negative (row_more given z t n) ∙ sign_of_both (row_of given z t n) (number_of (get_or given (n * z + t) 0))

-- what one lane holds after the first n edges of its row
pub record IsKept (given : List ℕ) (z t n nearest second signs : ℕ) : Type 0 where
  pub nearest_within : nearest ≤ 127
  pub second_within : second ≤ 127
  pub signs_within : signs < 256
  pub two : (127 - nearest, 127 - second) ≡ fold keep (127, 127) (row_of given z t n)
  pub sign : leb 128 signs ≡ is_product_negative (row_of given z t n)

pub kept_none : (given : List ℕ) (z t nearest second signs : ℕ) → nearest ≡ 0 → second ≡ 0 → signs ≡ 0 → IsKept given z t 0 nearest second signs
kept_none given z t nearest second signs h k l = record {
  nearest_within = omega arith;
  second_within = omega arith;
  signs_within = omega arith;
  two = ap (λ (n : ℕ). (127 - n, 127 - second)) h ∙ ap (λ (n : ℕ). (127, 127 - n)) k;
  sign = ap (leb 128) l;
}

pub kept_more : (given : List ℕ) (z t n nearest second signs code : ℕ) → All (λ c. c ≤ 254) given → IsKept given z t n nearest second signs → code ≡ get_or given (n * z + t) 0
    → IsKept given z t (n + 1) (max nearest (min code (254 - code))) (max second (min nearest (min code (254 - code)))) (bit_xor signs code)
kept_more given z t n nearest second signs code codes h is =
    let small : code ≤ 254 = omega (arith, code_within given codes (n * z + t)) in
    let same = ap number_of is in
    record {
      nearest_within = omega (arith, h.nearest_within);
      second_within = omega (arith, h.nearest_within, h.second_within);
      signs_within = xor_of_8 signs code (omega (arith, h.signs_within)) (omega arith);
      two =
          keep_more nearest second (min code (254 - code)) (number_of code) h.nearest_within h.second_within (near_within code) (magnitude code small)
          ∙ ap (λ (t : ℕ × ℕ). keep t (number_of code)) h.two
          ∙ ap (keep (fold keep (127, 127) (row_of given z t n))) same
          ∙ sym (two_more given z t n);
      sign =
          top_xor signs code h.signs_within (omega arith)
          ∙ ap (λ (b : Bool). differ b (leb 128 code)) h.sign
          ∙ ap (differ (is_product_negative (row_of given z t n))) (top_bit code ∙ ap is_negative same)
          ∙ sym (sign_more given z t n);
    }
