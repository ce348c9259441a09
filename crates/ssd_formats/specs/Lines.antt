-- Which lines does a text have? Each line ends with LF, and one CR before it is no part of the line. The last line may
-- have no LF, and keeps a CR; an empty rest after the last LF is no line.
use Rattle.std.specs.Prelude.{ℕ, ◌+◌, ◌==◌, nat_le, Bool, ◌&&◌, ◌||◌, not, if◌then◌else◌, List, [], ◌∷◌, length, slice_index}
use Rattle.std.specs.List.{list_all, slice_split}
use Rattle.std.specs.Str.Lines.{strip_carriage_return}
use Rattle.ssd_formats.specs.Numbers.{Text}

-- a line, and how many bytes it takes in the text, with its LF and the CR before that
pub record Line : Type 0 where
  pub text : Text
  pub taken : ℕ

abbrev pub is_line_feed : ℕ → Bool
is_line_feed byte = byte == 10

-- the lines in the parts between all LF
abbrev pub lines_of_parts : List Text → List Line
lines_of_parts [] = []
lines_of_parts (part ∷ []) = if length part == 0 then [] else record { text = part; taken = length part } ∷ []
lines_of_parts (part ∷ next ∷ parts) =
    record { text = strip_carriage_return part; taken = length part + 1 } ∷ lines_of_parts (next ∷ parts)

-- the lines of a text
abbrev pub lines_in : Text → List Line
lines_in text = lines_of_parts (slice_split is_line_feed text)

abbrev pub is_space : ℕ → Bool
is_space byte = byte == 32

-- the words of a line: what stands between its spaces
abbrev pub words_in : Text → List Text
words_in text = slice_split is_space text

-- whether a byte may stand in a line of words
abbrev pub is_plain : ℕ → Bool
is_plain byte = nat_le 32 byte && nat_le byte 126

-- whether a line is words with single spaces between
abbrev pub is_line_of_words : Text → Bool
is_line_of_words text = list_all is_plain text && list_all (λ word. not (length word == 0)) (words_in text)

-- whether a line is empty or begins with `#`: such a line is skipped, but counted
abbrev pub is_skipped : Text → Bool
is_skipped text = (length text == 0) || (slice_index text 0 == 35)
