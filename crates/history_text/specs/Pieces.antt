-- Which pieces does a text have between its separators, and which are left behind one that was taken? The words of
-- a line stand between spaces, the numbers of a word between full stops.
use Rattle.std.specs.Borrow.{Bor}
use Rattle.std.specs.Prelude.{ℕ, ◌==◌, Bool, List, [], ◌∷◌, Option, Some, None, option_copied}
use Rattle.std.specs.List.{slice_split}
use Rattle.ssd_formats.specs.KindOfWords.{◌>>=◌}
use Rattle.ssd_formats.specs.Numbers.{Text}

abbrev pub is_byte : ℕ → ℕ → Bool
is_byte wanted byte = byte == wanted

abbrev pub pieces_of : ℕ → Text → List Text
pieces_of separator text = slice_split (is_byte separator) text

-- the pieces of what is left of a text, where a separator stood before it
abbrev pub pieces_left : ℕ → Option Text → List Text
pieces_left separator None = []
pieces_left separator (Some text) = pieces_of separator text

-- the first piece, and those behind it
abbrev pub next_piece : List Text → Option (Text × List Text)
next_piece [] = None
next_piece (piece ∷ pieces) = Some (piece, pieces)

-- so many pieces, where there are neither fewer nor more
abbrev pub only_piece : List Text → Option Text
only_piece (piece ∷ []) = Some piece
only_piece pieces = None

abbrev pub two_pieces : List Text → Option (Text × Text)
two_pieces pieces = do
  first ← next_piece pieces
  second ← only_piece first.1
  Some (first.0, second)

abbrev pub three_pieces : List Text → Option (Text × Text × Text)
three_pieces pieces = do
  first ← next_piece pieces
  rest ← two_pieces first.1
  Some (first.0, rest.0, rest.1)

abbrev pub four_pieces : List Text → Option (Text × Text × Text × Text)
four_pieces pieces = do
  first ← next_piece pieces
  rest ← three_pieces first.1
  Some (first.0, rest.0, rest.1, rest.2)

abbrev pub five_pieces : List Text → Option (Text × Text × Text × Text × Text)
five_pieces pieces = do
  first ← next_piece pieces
  rest ← four_pieces first.1
  Some (first.0, rest.0, rest.1, rest.2, rest.3)

-- what was taken, as texts
abbrev pub next_of : ℕ → Option (Bor Text × Option (Bor Text)) → Option (Text × List Text)
next_of separator None = None
next_of separator (Some cut) = Some (cut.0.now, pieces_left separator (option_copied cut.1))

abbrev pub two_of : Option (Bor Text × Bor Text) → Option (Text × Text)
two_of None = None
two_of (Some taken) = Some (taken.0.now, taken.1.now)

abbrev pub three_of : Option (Bor Text × Bor Text × Bor Text) → Option (Text × Text × Text)
three_of None = None
three_of (Some taken) = Some (taken.0.now, taken.1.now, taken.2.now)

abbrev pub four_of :
    Option (Bor Text × Bor Text × Bor Text × Bor Text) → Option (Text × Text × Text × Text)
four_of None = None
four_of (Some taken) = Some (taken.0.now, taken.1.now, taken.2.now, taken.3.now)

abbrev pub five_of :
    Option (Bor Text × Bor Text × Bor Text × Bor Text × Bor Text) → Option (Text × Text × Text × Text × Text)
five_of None = None
five_of (Some taken) = Some (taken.0.now, taken.1.now, taken.2.now, taken.3.now, taken.4.now)
