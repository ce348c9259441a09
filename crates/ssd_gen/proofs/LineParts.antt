-- A line is its first word, the others after spaces, and LF.
use Rattle.std.proofs.Common.{◌≡◌, List, [], ◌∷◌, ◌++◌, map, sym, ap, ◌∙◌, append_assoc, append-nil}
use Rattle.ssd_formats.specs.EntryText.{line_of, spaced}
use Rattle.ssd_formats.specs.Numbers.{Text}
use Rattle.ssd_gen.specs.LineText.{further_text, word_text}
use Rattle.ssd_gen.specs.declared.line_word.LineWord.{LineWord}

spaced_first : (first : Text) (others : List LineWord) → spaced (first ∷ map word_text others) ≡ first ++ further_text others
spaced_first first [] = sym (append-nil first)
spaced_first first (next ∷ others) = ap (λ text. first ++ 32 ∷ text) (spaced_first (word_text next) others)

pub line_parts : (first : Text) (others : List LineWord) → line_of (first ∷ map word_text others) ≡ first ++ (further_text others ++ 10 ∷ [])
line_parts first others = ap (λ text. text ++ 10 ∷ []) (spaced_first first others) ∙ append_assoc first (further_text others) (10 ∷ [])
