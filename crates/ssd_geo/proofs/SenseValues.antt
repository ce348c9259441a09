-- Values of senses, and senses one after the other: the proofs of the laws of specs/Senses.antt.
use Rattle.std.proofs.Common.{◌≡◌, ℕ, zero, suc, ◌+◌, ◌-◌, ◌*◌, ◌/◌, ◌%◌, Bool, true, false, List, [], ◌∷◌, ◌++◌, length, take, drop, slice_index_or, All, ap, sym, ◌∙◌, arith}
use Rattle.std.specs.Prelude.{◌==◌, slice_index}
use Rattle.std.specs.Int.{bit_at}
use Rattle.std.specs.List.{range_with_len}
use Rattle.std.proofs.lemmas.List.{get_or-take, get_or-drop, take_at, drop_at, append-nil, append_assoc, length-append}
use Rattle.std.proofs.lemmas.List.Elements.{All-map, All-head, All-tail}
use Rattle.std.proofs.lemmas.List.FromFn.{length-map-range_with_len}
use Rattle.ssd_geo.specs.Bits.{bit_of}
use Rattle.ssd_geo.specs.RowRule.{IsWithin}
use Rattle.ssd_geo.specs.Senses.{hard_value, soft_value, zeros_at, sense_in, ValuesAreTaken, SensesStandInOrder, FiveSensesAreBack}

-- a hard value is small
hard_value_within : (bit : Bool) → IsWithin 127 (hard_value bit)
hard_value_within true = omega arith
hard_value_within false = omega arith

-- a soft value is small, whatever the number of zeros
soft_value_within : (zeros : ℕ) → IsWithin 127 (soft_value zeros)
soft_value_within zero = omega arith
soft_value_within (suc zero) = omega arith
soft_value_within (suc (suc zero)) = omega arith
soft_value_within (suc (suc (suc zero))) = omega arith
soft_value_within (suc (suc (suc (suc zero)))) = omega arith
soft_value_within (suc (suc (suc (suc (suc zero))))) = omega arith
soft_value_within (suc (suc (suc (suc (suc (suc more)))))) = omega arith

-- the values are those that the decoder takes
pub values_are_taken : ValuesAreTaken
values_are_taken sense n senses =
    record {
      hard = All-map (IsWithin 127) (λ i. hard_value (bit_of sense i)) (range_with_len 0 (8 * length sense))
          (λ k d l. hard_value_within (bit_of sense (slice_index_or (range_with_len 0 (8 * length sense)) k d)));
      soft = All-map (IsWithin 127) (λ i. soft_value (zeros_at senses i)) (range_with_len 0 (8 * n))
          (λ k d l. soft_value_within (zeros_at senses (slice_index_or (range_with_len 0 (8 * n)) k d)));
      hard_count = length-map-range_with_len (λ i. hard_value (bit_of sense i)) 0 (8 * length sense);
      soft_count = length-map-range_with_len (λ i. soft_value (zeros_at senses i)) 0 (8 * n);
    }

-- bit i of sense k of a list is bit 8 * k * n + i of the list
pub senses_stand_in_order : SensesStandInOrder
senses_stand_in_order n bytes k i h =
    let start : ℕ = k * n in
    let at : (8 * start + i) / 8 ≡ start + i / 8 = omega arith in
    let place : (8 * start + i) % 8 ≡ i % 8 = omega arith in
    let byte : slice_index (sense_in n bytes k) (i / 8) ≡ slice_index bytes (start + i / 8) =
    get_or-take (start + n - start) (drop start bytes) (i / 8) 0 (omega arith) ∙ get_or-drop start bytes (i / 8) 0 in
    ap (λ (b : ℕ). bit_at b (i % 8) == 1) byte
    ∙ ap (λ (j : ℕ). bit_at (slice_index bytes j) (i % 8) == 1) (sym at)
    ∙ ap (λ (j : ℕ). bit_at (slice_index bytes ((8 * start + i) / 8)) j == 1) (sym place)

-- a sense that stands behind k senses
sense_behind : (n k : ℕ) (front sense rest : List ℕ) → length front ≡ k * n → length sense ≡ n →
    sense_in n (front ++ (sense ++ rest)) k ≡ sense
sense_behind n k front sense rest e l =
    ap (take (k * n + n - k * n)) (drop_at front (sense ++ rest) (k * n) e)
    ∙ take_at sense rest (k * n + n - k * n) (omega arith)

-- five senses one after the other are given back
pub five_senses_are_back : FiveSensesAreBack
five_senses_are_back n a b c d e all =
    let P : List ℕ → Type 0 = λ sense. length sense ≡ n in
    let la : length a ≡ n = All-head P a (b ∷ c ∷ d ∷ e ∷ []) all in
    let after_a : All P (b ∷ c ∷ d ∷ e ∷ []) = All-tail P a (b ∷ c ∷ d ∷ e ∷ []) all in
    let lb : length b ≡ n = All-head P b (c ∷ d ∷ e ∷ []) after_a in
    let after_b : All P (c ∷ d ∷ e ∷ []) = All-tail P b (c ∷ d ∷ e ∷ []) after_a in
    let lc : length c ≡ n = All-head P c (d ∷ e ∷ []) after_b in
    let after_c : All P (d ∷ e ∷ []) = All-tail P c (d ∷ e ∷ []) after_b in
    let ld : length d ≡ n = All-head P d (e ∷ []) after_c in
    let le : length e ≡ n = All-head P e [] (All-tail P d (e ∷ []) after_c) in
    let lab : length (a ++ b) ≡ 2 * n = simp length-append (omega arith) in
    let labc : length (a ++ b ++ c) ≡ 3 * n = simp length-append (omega arith) in
    let labcd : length (a ++ b ++ c ++ d) ≡ 4 * n = simp length-append (omega arith) in
    let whole : List ℕ = a ++ b ++ c ++ d ++ e in
    let s0 : sense_in n whole 0 ≡ a =
    ap (λ (xs : List ℕ). sense_in n xs 0) (let eq : whole ≡ a ++ (b ++ (c ++ (d ++ e))) = simp append_assoc in eq)
    ∙ sense_behind n 0 [] a (b ++ (c ++ (d ++ e))) (omega arith) la in
    let s1 : sense_in n whole 1 ≡ b =
    ap (λ (xs : List ℕ). sense_in n xs 1) (let eq : whole ≡ a ++ (b ++ (c ++ (d ++ e))) = simp append_assoc in eq)
    ∙ sense_behind n 1 a b (c ++ (d ++ e)) (omega arith) lb in
    let s2 : sense_in n whole 2 ≡ c =
    ap (λ (xs : List ℕ). sense_in n xs 2) (append_assoc (a ++ b ++ c) d e ∙ append_assoc (a ++ b) c (d ++ e))
    ∙ sense_behind n 2 (a ++ b) c (d ++ e) lab lc in
    let s3 : sense_in n whole 3 ≡ d =
    ap (λ (xs : List ℕ). sense_in n xs 3) (append_assoc (a ++ b ++ c) d e)
    ∙ sense_behind n 3 (a ++ b ++ c) d e labc ld in
    let s4 : sense_in n whole 4 ≡ e =
    ap (λ (xs : List ℕ). sense_in n (a ++ b ++ c ++ d ++ xs) 4) (sym (append-nil e))
    ∙ sense_behind n 4 (a ++ b ++ c ++ d) e [] labcd le in
    cc
