-- Sizes without a fault: the proof of the law of specs/Limits.antt.
use Rattle.std.proofs.Common.{◌≡◌, ◌≢◌, ℕ, ◌+◌, ◌-◌, ◌*◌, ◌/◌, ◌%◌, ◌^◌, ◌≤◌, ◌==◌, ◌&&◌, nat_lt, nat_le, Bool, true, false, not, cond, List, [], ◌∷◌, length, Option, Some, None, refl, arith}
use Rattle.std.specs.List.{position_or_len}
use Rattle.std.proofs.lemmas.Bool.Decides.{nat_tests}
use Rattle.ssd_geo.specs.Limits.{cells_of, first_size_fault, is_column_count, is_within, is_word_count, most_rows_of, payload_bytes_of, ranges_kept, IsWithinLimits, FaultlessSizesAreWithin}
use Rattle.std.proofs.lemmas.Bool.{le-leb, leb-true, eqb-true, eq-eqb}

-- all tests are passed
abbrev AllPassed : List Bool → Type 0
AllPassed [] = Unit {0}
AllPassed (test ∷ tests) = (test ≡ true) × AllPassed tests

-- the first test that isn't passed is behind the last where all are passed
all_from_end : (tests : List Bool) → length tests ≤ position_or_len not tests → AllPassed tests
all_from_end [] h = tt
all_from_end (true ∷ tests) h = (refl, all_from_end tests (omega arith))
all_from_end (false ∷ tests) h = absurd (omega arith)

end_from_all : (tests : List Bool) → AllPassed tests → length tests ≤ position_or_len not tests
end_from_all [] all = omega arith
end_from_all (true ∷ tests) all = let rest : _ = end_from_all tests all.1 in omega arith
end_from_all (false ∷ tests) all = absurd (cc (all.0))

-- the place of the first test that isn't passed, where it is below the number of tests
abbrev found_below : ℕ → ℕ → Option ℕ
found_below n m = cond (nat_lt n m) (Some n) None

none_from_end : (n m : ℕ) → m ≤ n → found_below n m ≡ None
none_from_end n m h = grind (arith, nat_tests)

end_from_none : (n m : ℕ) → found_below n m ≡ None → m ≤ n
end_from_none n m h = grind (arith, nat_tests)

-- a test of a range
pub between : (low high n : ℕ) → is_within low high n ≡ true → (low ≤ n) × (n ≤ high)
between low high n e = (grind (arith, nat_tests), grind (arith, nat_tests))

pub is_within_from : (low high n : ℕ) → low ≤ n → n ≤ high → is_within low high n ≡ true
is_within_from low high n l h = grind (arith, nat_tests)

-- the tests that count with nb
whole_tests : (a b c d : Bool) → (a && b && c && d) ≡ true → (a ≡ true) × (b ≡ true) × (c ≡ true) × (d ≡ true)
whole_tests true true true true e = (refl, refl, refl, refl)
whole_tests true true true false e = (refl, refl, refl, e)
whole_tests true true false d e = absurd (cc)
whole_tests true false c d e = absurd (cc)
whole_tests false b c d e = absurd (cc)

pub whole_from_tests : (a b c d : Bool) → a ≡ true → b ≡ true → c ≡ true → d ≡ true → (a && b && c && d) ≡ true
whole_from_tests true true true true p q r s = refl
whole_from_tests true true true false p q r s = s
whole_from_tests true true false d p q r s = absurd (cc)
whole_from_tests true false c d p q r s = absurd (cc)
whole_from_tests false b c d p q r s = absurd (cc)

-- whole bytes, in bits
pub whole_eighths : (bits : ℕ) → bits % 8 ≡ 0 → 8 * (bits / 8) ≡ bits
whole_eighths bits whole = omega arith

pub eight_times : (words bytes : ℕ) → 8 * (words * bytes) ≡ words * (8 * bytes)
eight_times words bytes = omega arith

-- the data bytes of a page fit its payload behind the head
bytes_fit : (bytes payload : ℕ) → 1 ≤ bytes → bytes ≤ payload - 16 → bytes + 16 ≤ payload
bytes_fit bytes payload low high = omega arith

bytes_fitted : (bytes payload : ℕ) → bytes + 16 ≤ payload → bytes ≤ payload - 16
bytes_fitted bytes payload h = omega arith

-- one, two or four codewords
word_count_three : (words : ℕ) → words ≡ 3 → is_word_count words ≡ true → ⊥
word_count_three words three e = grind (arith, nat_tests)

word_count_is : (words : ℕ) → is_word_count words ≡ true → (1 ≤ words) × (words ≤ 4) × (words ≢ 3)
word_count_is words e = (grind (arith, nat_tests), grind (arith, nat_tests), λ three. word_count_three words three e)

word_count_from : (words : ℕ) → 1 ≤ words → words ≤ 4 → words ≢ 3 → is_word_count words ≡ true
word_count_from words low high other = grind (arith, nat_tests)

-- no fault is found exactly where the sizes are within the limits
pub faultless_sizes_are_within : FaultlessSizesAreWithin
faultless_sizes_are_within sizes =
    let tests : List Bool = ranges_kept sizes in
    let part : ℕ = (sizes.nb - sizes.mb) * sizes.z % 8 in
    let code : ℕ = sizes.nb * sizes.z % 8 in
    let cells : ℕ = cells_of sizes in
    let payload : ℕ = payload_bytes_of sizes in
    let most : ℕ = most_rows_of sizes 0 in (
      (λ (e : first_size_fault sizes ≡ None).
          let all : AllPassed tests = all_from_end tests (end_from_none (position_or_len not tests) (length tests) e) in
          let w : (1 ≤ sizes.words) × (sizes.words ≤ 4) × (sizes.words ≢ 3) = word_count_is sizes.words all.0 in
          let c : (1 ≤ sizes.channels) × (sizes.channels ≤ 8) = between 1 8 sizes.channels all.1.0 in
          let k : (3 ≤ sizes.dies) × (sizes.dies ≤ 8) = between 3 8 sizes.dies all.1.1.0 in
          let n : (4 ≤ sizes.superblocks) × (sizes.superblocks ≤ 256) = between 4 256 sizes.superblocks all.1.1.1.0 in
          let p : (2 ≤ sizes.pages) × (sizes.pages ≤ 256) = between 2 256 sizes.pages all.1.1.1.1.0 in
          let l : (4 ≤ sizes.z) × (sizes.z ≤ 1024) = between 4 1024 sizes.z all.1.1.1.1.1.0 in
          let m : (3 ≤ sizes.mb) × (sizes.mb ≤ 16) = between 3 16 sizes.mb all.1.1.1.1.1.1.0 in
          let columns : _ =
          whole_tests (is_within (sizes.mb + 1) 128 sizes.nb) (part == 0) (code == 0) (nat_le cells (2 ^ 28)) all.1.1.1.1.1.1.1.0 in
          let b : (sizes.mb + 1 ≤ sizes.nb) × (sizes.nb ≤ 128) = between (sizes.mb + 1) 128 sizes.nb columns.0 in
          let d : (1 ≤ sizes.bytes) × (sizes.bytes ≤ payload - 16) = between 1 (payload - 16) sizes.bytes all.1.1.1.1.1.1.1.1.0 in
          let r : (1 ≤ sizes.rows) × (sizes.rows ≤ most) = between 1 most sizes.rows all.1.1.1.1.1.1.1.1.1.0 in
          record {
            words_low = w.0;
            words_high = w.1;
            words_not_three = w.2;
            channels_low = c.0;
            channels_high = c.1;
            dies_low = k.0;
            dies_high = k.1;
            superblocks_low = n.0;
            superblocks_high = n.1;
            pages_low = p.0;
            pages_high = p.1;
            lifting_low = l.0;
            lifting_high = l.1;
            base_rows_low = m.0;
            base_rows_high = m.1;
            base_columns_low = b.0;
            base_columns_high = b.1;
            whole_payload_bytes = eqb-true part 0 columns.1;
            whole_word_bytes = eqb-true code 0 columns.2;
            cells_high = leb-true cells (2 ^ 28) columns.3;
            bytes_low = d.0;
            bytes_high = let high : sizes.bytes ≤ payload - 16 = d.1 in let low : 1 ≤ sizes.bytes = d.0 in bytes_fit sizes.bytes payload low high;
            rows_low = r.0;
            rows_high = r.1;
          }),
      (λ (w : IsWithinLimits sizes).
          let columns : is_column_count sizes ≡ true =
          whole_from_tests (is_within (sizes.mb + 1) 128 sizes.nb) (part == 0) (code == 0) (nat_le cells (2 ^ 28))
          (is_within_from (sizes.mb + 1) 128 sizes.nb w.base_columns_low w.base_columns_high)
          (eq-eqb part 0 w.whole_payload_bytes)
          (eq-eqb code 0 w.whole_word_bytes)
          (le-leb cells (2 ^ 28) w.cells_high) in
          let high : sizes.bytes ≤ payload - 16 = bytes_fitted sizes.bytes payload w.bytes_high in
          let all : AllPassed tests = (
            word_count_from sizes.words w.words_low w.words_high w.words_not_three,
            (
              is_within_from 1 8 sizes.channels w.channels_low w.channels_high,
              (
                is_within_from 3 8 sizes.dies w.dies_low w.dies_high,
                (
                  is_within_from 4 256 sizes.superblocks w.superblocks_low w.superblocks_high,
                  (
                    is_within_from 2 256 sizes.pages w.pages_low w.pages_high,
                    (
                      is_within_from 4 1024 sizes.z w.lifting_low w.lifting_high,
                      (
                        is_within_from 3 16 sizes.mb w.base_rows_low w.base_rows_high,
                        (
                          columns,
                          (
                            is_within_from 1 (payload - 16) sizes.bytes w.bytes_low high,
                            (is_within_from 1 most sizes.rows w.rows_low w.rows_high, tt),
                          ),
                        ),
                      ),
                    ),
                  ),
                ),
              ),
            ),
          ) in
          none_from_end (position_or_len not tests) (length tests) (end_from_all tests all)),
    )
