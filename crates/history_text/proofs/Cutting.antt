-- Where a text is cut at its first separator.
use Rattle.std.proofs.Common.{◌≡◌, refl, sym, ap, ◌∙◌, ℕ, ◌+◌, ◌-◌, ◌<◌, ◌≤◌, Bool, true, false}
use Rattle.std.proofs.Common.{cond, List, [], ◌∷◌, length, take, drop, Some, None, nat_lt, arith}
use Rattle.std.proofs.Common.{take_all, length-drop}
use Rattle.std.specs.List.{slice_split, position, position_or_len}
use Rattle.std.proofs.lemmas.List.Splits.{length-slice_split, slice_split_first, slice_split_none}
use Rattle.std.proofs.lemmas.List.Sums.{fails_before_first}
use Rattle.std.proofs.lemmas.Grind.{common_steps}
use Rattle.ssd_formats.specs.Numbers.{Text}
use Rattle.history_text.specs.Pieces.{is_byte, only_piece, pieces_of}
use Rattle.std.proofs.lemmas.Option.{cond_some}
use Rattle.shared_lemmas.proofs.Tests.{not_passed}

-- what stands before the first separator is a piece, and the others are those of what stands behind it
pub cut_at : (separator at : ℕ) (text : Text) → position (is_byte separator) text ≡ Some at →
    pieces_of separator text
    ≡ take at text ∷ pieces_of separator (take (length text - (at + 1)) (drop (at + 1) text))
cut_at separator at text e =
    let p = is_byte separator in
    let found = cond_some (nat_lt (position_or_len p text) (length text)) (position_or_len p text) at e in
    let inside : position_or_len p text < length text = let b = found.0 in grind (arith, common_steps) in
    let rest = drop (at + 1) text in
    let whole = take_all (length text - (at + 1)) rest (omega (arith, length-drop (at + 1) text)) in
    slice_split_first p text 0 inside
    ∙ ap (λ n. take n text ∷ slice_split p (drop (n + 1) text)) found.1
    ∙ ap (λ behind. take at text ∷ slice_split p behind) (sym whole)

-- without a separator all is one piece
pub cut_nowhere : (separator : ℕ) (text : Text) → position (is_byte separator) text ≡ None →
    pieces_of separator text ≡ text ∷ []
cut_nowhere separator text e =
    let p = is_byte separator in
    let no = not_passed (nat_lt (position_or_len p text) (length text)) (position_or_len p text) e in
    let outside : length text ≤ position_or_len p text = grind (arith, common_steps) in
    slice_split_none p text (λ k d inside. fails_before_first p text k d (omega (arith, inside, outside)))

more_than_one : (first : Text) (pieces : List Text) → 0 < length pieces →
    only_piece (first ∷ pieces) ≡ None
more_than_one first [] h = absurd (omega (arith, h))
more_than_one first (next ∷ pieces) h = refl

-- a text has a piece, be it an empty one
pub no_only_piece : (separator : ℕ) (first text : Text) →
    only_piece (first ∷ pieces_of separator text) ≡ None
no_only_piece separator first text =
    more_than_one first (pieces_of separator text)
    (omega (arith, length-slice_split (is_byte separator) text))
