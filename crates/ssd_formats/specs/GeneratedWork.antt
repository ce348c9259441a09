-- Which large input does a number give? One SplitMix64, made from the number's 8 bytes, gives all words in order: first
-- those of the message part of the base matrix, then one for each line of the trace. The rule is this project's own.
use Rattle.std.specs.Prelude.{ℕ, ◌+◌, ◌-◌, ◌/◌, ◌%◌, ◌^◌, ◌==◌, nat_lt, Bool, false, ◌||◌, if◌then◌else◌, List, [], ◌∷◌, ◌++◌, map, flat_map, sum_by, count_by, codes, decimal, ℤ, pos, negsuc}
use Rattle.std.specs.List.{range_with_len}
use Rattle.ssd_geo.specs.BaseMatrix.{diagonal_entry, zero_block}
use Rattle.ssd_formats.specs.EntryText.{line_of}
use Rattle.ssd_formats.specs.ImageHead.{Head, first_head_bytes}
use Rattle.ssd_geo.specs.Limits.{Sizes}
use Rattle.ssd_geo.specs.Noise.{noise_word}
use Rattle.ssd_formats.specs.Numbers.{Text}

-- the sizes of the generated drive
abbrev pub generated_sizes : Sizes
generated_sizes = record {
  words = 1;
  channels = 2;
  dies = 4;
  superblocks = 16;
  pages = 16;
  z = 512;
  mb = 8;
  nb = 73;
  bytes = 4096;
  rows = 672;
}

-- the columns of the message
abbrev pub generated_columns : ℕ
generated_columns = 65

-- whether an entry of the message part is drawn; the others are zero blocks
abbrev pub is_drawn : ℕ → ℕ → Bool
is_drawn row column = let k = (row + column) % 8 in k == 0 || (k == 3 || k == 5)

-- how many of the first entries of a row are drawn, and how many entries of all rows before a row
abbrev pub drawn_in_row : ℕ → ℕ → ℕ
drawn_in_row row columns = count_by (is_drawn row) (range_with_len 0 columns)

abbrev pub drawn_before_row : ℕ → ℕ
drawn_before_row row = sum_by (λ r. drawn_in_row r generated_columns) (range_with_len 0 row)

-- an entry of the message part: a drawn one is the next word's remainder
abbrev pub message_entry : ℕ → ℕ → ℕ → ℤ
message_entry number row column =
    if is_drawn row column then pos (noise_word number (drawn_before_row row + drawn_in_row row column) % 512) else zero_block

-- an entry of the first parity column: shift 1 in the first and the last row, 0 in row 4
abbrev pub first_parity_entry : ℕ → ℤ
first_parity_entry row = if row == 0 || row == 7 then pos 1 else if row == 4 then pos 0 else zero_block

-- the entry in a row and a column
abbrev pub generated_entry : ℕ → ℕ → ℕ → ℤ
generated_entry number row column =
    if nat_lt column generated_columns then message_entry number row column
    else if column == generated_columns then first_parity_entry row
    else diagonal_entry row (column - generated_columns)

-- a row of the base matrix, and all its entries
abbrev pub generated_row : ℕ → ℕ → List ℤ
generated_row number row = map (generated_entry number row) (range_with_len 0 73)

abbrev pub generated_entries : ℕ → List ℤ
generated_entries number = flat_map (generated_row number) (range_with_len 0 8)

-- the head of the generated image, which is blank
abbrev pub generated_head : ℕ → Head
generated_head number = record {
  sizes = generated_sizes;
  read_levels = pos 0 ∷ negsuc 7 ∷ negsuc 15 ∷ negsuc 23 ∷ [];
  iterations = 20;
  law = record { erased = negsuc 59; programmed = pos 60; spread = 44; seed = number };
  step = 4;
  session = 0;
  entries = generated_entries number;
  weak = [];
  bad = [];
  full = false;
}

-- the words of a call on a page: its verb and the page
abbrev pub page_words : Text → ℕ → List Text
page_words verb page = verb ∷ decimal page ∷ []

-- the words after the actor of line q, which its word u gives: mostly a call on a page that u names
abbrev pub host_words : ℕ → ℕ → List Text
host_words q u =
    let x = u / 2 ^ 8 % 1344 in
    let v = u / 2 ^ 4 % 16 in
    if nat_lt v 8 then page_words (codes "write") x ++ (codes "g" ++ decimal q) ∷ []
    else if nat_lt v 13 then page_words (codes "read") x
    else if v == 13 then page_words (codes "trim") x
    else if v == 14 then page_words (codes "refresh") x
    else codes "drain" ∷ codes "4" ∷ []

-- the words of an ageing of a block that u names
abbrev pub age_words : ℕ → List Text
age_words u =
    codes "age" ∷ decimal (u / 2 ^ 8 % 2) ∷ decimal (u / 2 ^ 16 % 4) ∷ decimal (u / 2 ^ 24 % 16) ∷ codes "20" ∷ []

-- the line of call q with its word u: each 512th is an ageing
abbrev pub generated_line_of : ℕ → ℕ → Text
generated_line_of q u = line_of (decimal (u % 4) ∷ (if q % 512 == 511 then age_words u else host_words q u))

-- the word of call q: the next after those of the base matrix
abbrev pub generated_line : ℕ → ℕ → Text
generated_line number q = generated_line_of q (noise_word number (drawn_before_row 8 + q))

-- the trace: its first line and 4,096 calls
abbrev pub generated_trace : ℕ → Text
generated_trace number = line_of (codes "trace 1 4" ∷ []) ++ flat_map (generated_line number) (range_with_len 0 4096)

-- the image, in the first version, and the trace
abbrev pub generated_work : ℕ → List ℕ
generated_work number = first_head_bytes (generated_head number) ++ generated_trace number
