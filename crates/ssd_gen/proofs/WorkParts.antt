-- The parts that are written make the generated work.
use Rattle.std.proofs.Common.{◌≡◌, ℕ, ◌+◌, ◌-◌, ◌<◌, ◌%◌, Bool, true, false, List, [], ◌∷◌, ◌++◌, map, refl, sym, ap, ◌∙◌, append_assoc, eqb, ℤ, pos, negsuc, arith}
use Rattle.std.specs.Prelude.{codes, flat_map, min, nat_lt, if◌then◌else◌}
use Rattle.std.specs.List.{range_with_len}
use Rattle.std.proofs.lemmas.Bool.{ltb-true}
use Rattle.std.proofs.lemmas.Grind.{flat_map-append}
use Rattle.ssd_geo.specs.BaseMatrix.{diagonal_entry, zero_block}
use Rattle.ssd_formats.specs.Fields.{bytes_of_signed}
use Rattle.ssd_formats.specs.GeneratedWork.{drawn_before_row, drawn_in_row, first_parity_entry, generated_entries, generated_entry, generated_head, generated_line, generated_line_of, generated_row, generated_sizes, generated_trace, is_drawn, message_entry}
use Rattle.ssd_formats.specs.ImageHead.{Head, first_head_bytes}
use Rattle.ssd_geo.specs.Noise.{noise_word, state_after}
use Rattle.ssd_gen.specs.HeadParts.{head_end, head_start, matrix_bytes, words_of_matrix}
use Rattle.ssd_gen.specs.RowWords.{entry_bytes, entry_with, row_bytes, words_before}
use Rattle.ssd_gen.specs.TraceParts.{call_text, calls_text, trace_text}
use Rattle.ssd_gen.proofs.RowSteps.{words_add}

-- pieces that are the same
pieces_same : (f g : ℕ → List ℕ) → ((k : ℕ) → f k ≡ g k) → (ks : List ℕ) → flat_map f ks ≡ flat_map g ks
pieces_same f g same [] = refl
pieces_same f g same (k ∷ ks) = ap (λ l. l ++ flat_map f ks) (same k) ∙ ap (λ l. g k ++ l) (pieces_same f g same ks)

-- the bytes of entries, and those of rows of entries
entries_joined : (f : ℕ → ℤ) (piece : ℕ → List ℕ) → ((k : ℕ) → bytes_of_signed (f k) ≡ piece k) → (ks : List ℕ) → flat_map bytes_of_signed (map f ks) ≡ flat_map piece ks
entries_joined f piece same [] = refl
entries_joined f piece same (k ∷ ks) = ap (λ l. l ++ flat_map bytes_of_signed (map f ks)) (same k) ∙ ap (λ l. piece k ++ l) (entries_joined f piece same ks)

rows_joined : (f : ℕ → List ℤ) (piece : ℕ → List ℕ) → ((k : ℕ) → flat_map bytes_of_signed (f k) ≡ piece k) → (ks : List ℕ) → flat_map bytes_of_signed (flat_map f ks) ≡ flat_map piece ks
rows_joined f piece same [] = refl
rows_joined f piece same (k ∷ ks) =
    flat_map-append bytes_of_signed (f k) (flat_map f ks) ∙ ap (λ l. l ++ flat_map bytes_of_signed (flat_map f ks)) (same k) ∙ ap (λ l. piece k ++ l) (rows_joined f piece same ks)

-- an entry, with the words that stand before its row
entry_is : (number row column : ℕ) → generated_entry number row column ≡ entry_with (noise_word (state_after number (drawn_before_row row)) (words_before row column)) row column
unfolding words_before
entry_is number row column = by (nat_lt column 65) refl where
  parity : ℤ
  parity = if eqb column 65 then first_parity_entry row else diagonal_entry row (column - 65)

  by : (within : Bool) → nat_lt column 65 ≡ within →
      (if within then message_entry number row column else parity) ≡
      (if within then (if is_drawn row column then pos (noise_word (state_after number (drawn_before_row row)) (drawn_in_row row (min column 65)) % 512) else zero_block) else parity)
  by true is =
      let below : column < 65 = ltb-true column 65 is in
      let here : column ≡ min column 65 = omega arith in
      ap (λ (k : ℕ). if is_drawn row column then pos (noise_word number (drawn_before_row row + drawn_in_row row k) % 512) else zero_block) here ∙
      ap (λ (w : ℕ). if is_drawn row column then pos (w % 512) else zero_block) (sym (words_add number (drawn_before_row row) (drawn_in_row row (min column 65))))
  by false is = refl

-- the bytes of a row
abbrev pub row_piece : ℕ → ℕ → List ℕ
row_piece number row = row_bytes (state_after number (drawn_before_row row)) row

row_is : (number row : ℕ) → flat_map bytes_of_signed (generated_row number row) ≡ row_piece number row
unfolding row_bytes
row_is number row =
    entries_joined (generated_entry number row) (entry_bytes (state_after number (drawn_before_row row)) row) (λ column. ap bytes_of_signed (entry_is number row column)) (range_with_len 0 73)

-- the bytes of the base matrix
pub matrix_is : (number : ℕ) → flat_map (row_piece number) (range_with_len 0 8) ≡ matrix_bytes number
unfolding matrix_bytes
matrix_is number = sym (rows_joined (generated_row number) (row_piece number) (row_is number) (range_with_len 0 8))

-- a blank image of the generated drive with a base matrix
abbrev head_of_entries : ℕ → List ℤ → Head
head_of_entries number entries = record {
  sizes = generated_sizes;
  read_levels = pos 0 ∷ negsuc 7 ∷ negsuc 15 ∷ negsuc 23 ∷ [];
  iterations = 20;
  law = record { erased = negsuc 59; programmed = pos 60; spread = 44; seed = number };
  step = 4;
  session = 0;
  entries = entries;
  weak = [];
  bad = [];
  full = false;
}

bytes_of_entries : (number : ℕ) (entries : List ℤ) → first_head_bytes (head_of_entries number entries) ≡ head_start number ++ (flat_map bytes_of_signed entries ++ head_end)
unfolding first_head_bytes head_start
bytes_of_entries number entries = simp append_assoc

-- the head in its parts
pub head_is : (number : ℕ) → first_head_bytes (generated_head number) ≡ head_start number ++ (matrix_bytes number ++ head_end)
unfolding matrix_bytes
head_is number = bytes_of_entries number (generated_entries number)

-- the lines of the calls
call_is : (number call : ℕ) → call_text (state_after number words_of_matrix) call ≡ generated_line number call
unfolding words_of_matrix
call_is number call = ap (generated_line_of call) (words_add number (drawn_before_row 8) call)

pub trace_is : (number : ℕ) → trace_text (state_after number words_of_matrix) ≡ generated_trace number
unfolding trace_text calls_text
trace_is number =
    ap (λ text. codes "trace 1 4\n" ++ text) (pieces_same (call_text (state_after number words_of_matrix)) (generated_line number) (call_is number) (range_with_len 0 4096))
