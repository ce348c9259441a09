-- What a row held, by the words from the first on. A text has a piece, be it an empty one.
use Rattle.std.proofs.Common.{◌≡◌, refl, ◌<◌, Bool, List, [], ◌∷◌, length, Option, Some, arith}
use Rattle.std.specs.Prelude.{codes}
use Rattle.std.proofs.lemmas.List.Splits.{length-slice_split}
use Rattle.ssd_formats.specs.KindOfWords.{◌>>=◌, read_found, one_of, read_row}
use Rattle.ssd_formats.specs.Numbers.{Text}
use Rattle.ssd_geo.specs.declared.row.Row.{Row}
use Rattle.history_text.specs.Pieces.{is_byte, pieces_of, three_pieces, two_pieces}

row_of_more : (word : Text) (words : List Text) → 0 < length words →
    read_row (word ∷ words) ≡ two_pieces words >>= (λ of. read_row (word ∷ of.0 ∷ of.1 ∷ []))
row_of_more word [] some = absurd (omega (arith, some))
row_of_more word (slot ∷ []) some = refl
row_of_more word (slot ∷ serial ∷ []) some = refl
row_of_more word (slot ∷ serial ∷ more ∷ words) some = refl

pub row_is : (word text : Text) →
    read_row (word ∷ pieces_of 32 text)
    ≡ two_pieces (pieces_of 32 text) >>= (λ of. read_row (word ∷ of.0 ∷ of.1 ∷ []))
row_is word text =
    row_of_more word (pieces_of 32 text) (omega (arith, length-slice_split (is_byte 32) text))

abbrev found_with : Text → Text × Text × Text → Option (Row × Bool)
found_with word of = do
  row ← read_row (word ∷ of.0 ∷ of.1 ∷ [])
  closed ← one_of (codes "closed") (codes "open") of.2
  Some (row, closed)

found_of_more : (word : Text) (words : List Text) → 0 < length words →
    read_found (word ∷ words) ≡ three_pieces words >>= found_with word
found_of_more word [] some = absurd (omega (arith, some))
found_of_more word (slot ∷ []) some = refl
found_of_more word (slot ∷ serial ∷ []) some = refl
found_of_more word (slot ∷ serial ∷ closed ∷ []) some = refl
found_of_more word (slot ∷ serial ∷ closed ∷ more ∷ words) some = refl

pub found_is : (word text : Text) →
    read_found (word ∷ pieces_of 32 text) ≡ three_pieces (pieces_of 32 text) >>= found_with word
found_is word text =
    found_of_more word (pieces_of 32 text) (omega (arith, length-slice_split (is_byte 32) text))
