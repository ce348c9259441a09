-- What is a row of the generated base matrix, given the state in which the generator comes to it?
use Rattle.std.specs.Prelude.{ℕ, ◌-◌, ◌%◌, ◌==◌, nat_lt, ◌&&◌, min, if◌then◌else◌, List, flat_map, ℤ, pos}
use Rattle.std.specs.List.{range_with_len}
use Rattle.ssd_geo.specs.BaseMatrix.{diagonal_entry, zero_block}
use Rattle.ssd_formats.specs.Fields.{bytes_of_signed}
use Rattle.ssd_formats.specs.GeneratedWork.{drawn_in_row, first_parity_entry, generated_columns, is_drawn}
use Rattle.ssd_geo.specs.Noise.{noise_word}

-- an entry, with the word that is next
abbrev pub entry_with : ℕ → ℕ → ℕ → ℤ
entry_with word row column =
    if nat_lt column 65 then (if is_drawn row column then pos (word % 512) else zero_block)
    else if column == 65 then first_parity_entry row
    else diagonal_entry row (column - 65)

-- how many words an entry takes, and how many the entries of a row before a column
abbrev pub drawn_at : ℕ → ℕ → ℕ
drawn_at row column = if nat_lt column 65 && is_drawn row column then 1 else 0

unfoldable pub words_before : ℕ → ℕ → ℕ
words_before row column = drawn_in_row row (min column generated_columns)

-- how many words a row takes
unfoldable pub words_of_row : ℕ → ℕ
words_of_row row = drawn_in_row row generated_columns

-- the bytes of an entry, and of a row
abbrev pub entry_bytes : ℕ → ℕ → ℕ → List ℕ
entry_bytes start row column = bytes_of_signed (entry_with (noise_word start (words_before row column)) row column)

unfoldable pub row_bytes : ℕ → ℕ → List ℕ
row_bytes start row = flat_map (entry_bytes start row) (range_with_len 0 73)
