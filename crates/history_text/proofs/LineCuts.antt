-- The lines of a text, from the first on.
use Rattle.std.proofs.Common.{◌≡◌, refl, sym, ap, ◌∙◌, ℕ, ◌<◌, Bool, true, false, cond, eqb}
use Rattle.std.proofs.Common.{List, [], ◌∷◌, length, Some, None, arith}
use Rattle.std.specs.List.{onto_first}
use Rattle.std.proofs.lemmas.List.Splits.{length-slice_split}
use Rattle.ssd_formats.specs.HistoryText.{printed_lines}
use Rattle.ssd_formats.specs.Numbers.{Text}
use Rattle.history_text.specs.LinesLeft.{first_line, lines_of}
use Rattle.history_text.specs.Pieces.{is_byte, pieces_of}
use Rattle.ssd_formats.proofs.LineLaws.{printed_more}

-- what stands before an LF is a line
pub line_before : (text line behind : Text) → pieces_of 10 text ≡ line ∷ pieces_of 10 behind →
    lines_of text ≡ Some line ∷ lines_of behind
line_before text line behind e =
    ap printed_lines e
    ∙ printed_more line (pieces_of 10 behind) (omega (arith, length-slice_split (is_byte 10) behind))

rest_without_end : (b : Bool) → first_line (cond b [] (None ∷ [])) ≡ None
rest_without_end true = refl
rest_without_end false = refl

-- what has no LF behind it is no whole line
pub no_line_before : (text rest : Text) → pieces_of 10 text ≡ rest ∷ [] →
    first_line (lines_of text) ≡ None
no_line_before text rest e =
    ap (λ pieces. first_line (printed_lines pieces)) e ∙ rest_without_end (eqb (length rest) 0)

some_line : (c : ℕ) (b : Bool) (pieces : List Text) → 0 < length pieces →
    0 < length (printed_lines (cond b ([] ∷ pieces) (onto_first c pieces)))
some_line c b [] some = absurd (omega (arith, some))
some_line c true (piece ∷ pieces) some = omega arith
some_line c false (piece ∷ []) some =
    let long : eqb (length (c ∷ piece)) 0 ≡ false = grind arith in rw long (omega arith)
some_line c false (piece ∷ next ∷ pieces) some = omega arith

-- no line is left just where the text is empty
pub nothing_left : (text : Text) → eqb (length text) 0 ≡ eqb (length (lines_of text)) 0
nothing_left [] = refl
nothing_left (c ∷ cs) =
    let pieces = length-slice_split (is_byte 10) cs in
    let some = some_line c (eqb c 10) (pieces_of 10 cs) (omega (arith, pieces)) in
    let lines : eqb (length (lines_of (c ∷ cs))) 0 ≡ false = grind (arith, some) in
    let long : eqb (length (c ∷ cs)) 0 ≡ false = grind arith in
    long ∙ sym lines
