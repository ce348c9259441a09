-- The words that are drawn for the entries of a row, and for rows.
use Rattle.std.proofs.Common.{◌≡◌, ℕ, zero, suc, ◌+◌, ◌<◌, ◌≤◌, Bool, true, false, cond, refl, sym, ap, ◌∙◌, arith, ℤ}
use Rattle.std.specs.Prelude.{min, nat_lt, ◌&&◌, if◌then◌else◌}
use Rattle.std.proofs.lemmas.List.Sums.{sum_by_push}
use Rattle.std.proofs.lemmas.Int.{to_z-of_z}
use Rattle.std.specs.Int.{cast_signed, cast_unsigned, w16}
use Rattle.std.specs.Int.RustNames.{FitsSigned}
use Rattle.std.specs.List.{range_with_len, sum_by}
use Rattle.rand_xoshiro.specs.SplitMix64.{mix_u64, next_state}
use Rattle.std.proofs.lemmas.Bool.{ltb-false, ltb-true}
use Rattle.ssd_formats.specs.GeneratedWork.{drawn_before_row, drawn_in_row, generated_columns, is_drawn}
use Rattle.ssd_geo.specs.Noise.{noise_word, state_after}
use Rattle.ssd_formats.specs.Fields.{bytes_of_signed}
use Rattle.ssd_gen.specs.RowWords.{drawn_at, entry_bytes, entry_with, words_before, words_of_row}
use Rattle.ssd_gen.proofs.Ranges.{range_more}

-- states and words after those that were taken
pub states_add : (start m n : ℕ) → state_after (state_after start m) n ≡ state_after start (m + n)
states_add start m zero = let same : m + 0 ≡ m = omega arith in ap (state_after start) (sym same)
states_add start m (suc n) =
    let same : m + suc n ≡ suc (m + n) = omega arith in
    ap next_state (states_add start m n) ∙ ap (state_after start) (sym same)

pub words_add : (start m n : ℕ) → noise_word (state_after start m) n ≡ noise_word start (m + n)
unfolding noise_word
words_add start m n = ap (λ (s : ℕ). (mix_u64 s).0) (states_add start m n)

-- the word that is next
pub word_next : (start m state : ℕ) → state ≡ state_after start m → noise_word state 0 ≡ noise_word start m
word_next start m state is =
    let same : m + 0 ≡ m = omega arith in
    ap (λ (s : ℕ). noise_word s 0) is ∙ words_add start m 0 ∙ ap (noise_word start) same

-- the state behind further words
pub state_next : (start m n total state after : ℕ) → state ≡ state_after start m → after ≡ state_after state n → m + n ≡ total → after ≡ state_after start total
state_next start m n total state after is next both =
    next ∙ ap (λ (s : ℕ). state_after s n) is ∙ states_add start m n ∙ ap (state_after start) both

-- the bytes of the entry that comes next, which is passed on
pub entry_next : (start state row column : ℕ) (entry : ℤ) → FitsSigned w16 entry → state ≡ state_after start (words_before row column) → entry ≡ entry_with (noise_word state 0) row column →
    bytes_of_signed (cast_signed w16 (cast_unsigned w16 entry)) ≡ entry_bytes start row column
entry_next start state row column entry fits is drawn =
    ap bytes_of_signed (to_z-of_z w16 entry fits ∙ drawn ∙ ap (λ (w : ℕ). entry_with w row column) (word_next start (words_before row column) state is))

-- one more column of a row
drawn_more : (row column : ℕ) → drawn_in_row row (column + 1) ≡ drawn_in_row row column + cond (is_drawn row column) 1 0
drawn_more row column =
    let one = λ (c : ℕ). cond (is_drawn row c) 1 0 in
    ap (sum_by one) (range_more column) ∙ sum_by_push one (range_with_len 0 column) column

pub words_more : (row column : ℕ) → words_before row column + drawn_at row column ≡ words_before row (column + 1)
unfolding words_before
words_more row column = by (nat_lt column 65) refl where
  by : (within : Bool) → nat_lt column 65 ≡ within → drawn_in_row row (min column generated_columns) + (if within && is_drawn row column then 1 else 0) ≡ drawn_in_row row (min (column + 1) generated_columns)
  by true is =
      let below : column < 65 = ltb-true column 65 is in
      let here : min column 65 ≡ column = omega arith in
      let next : min (column + 1) 65 ≡ column + 1 = omega arith in
      ap (λ (c : ℕ). drawn_in_row row c + cond (is_drawn row column) 1 0) here ∙ sym (drawn_more row column) ∙ ap (drawn_in_row row) (sym next)
  by false is =
      let above : 65 ≤ column = ltb-false column 65 is in
      let same : min column 65 ≡ min (column + 1) 65 = omega arith in
      let nought : drawn_in_row row (min column 65) + 0 ≡ drawn_in_row row (min column 65) = omega arith in
      nought ∙ ap (drawn_in_row row) same

-- all columns of a row
pub words_all : (row : ℕ) → words_before row 73 ≡ words_of_row row
unfolding words_before words_of_row
words_all row = refl

-- no column and no row
pub words_none : (row : ℕ) → words_before row 0 ≡ 0
unfolding words_before
words_none row = refl

-- one more row
pub rows_more : (row : ℕ) → drawn_before_row row + words_of_row row ≡ drawn_before_row (row + 1)
unfolding words_of_row
rows_more row =
    let one = λ (r : ℕ). drawn_in_row r generated_columns in
    sym (ap (sum_by one) (range_more row) ∙ sum_by_push one (range_with_len 0 row) row)
