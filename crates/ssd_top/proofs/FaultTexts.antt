-- The text of a fault: what is wrong where, and then its word; and that of a history at its limit.
use Rattle.std.proofs.Common.{ℕ, ◌≡◌, ◌++◌, List, [], ◌∷◌, codes, sym, ap, ◌∙◌}
use Rattle.std.proofs.lemmas.List.{append_assoc}
use Rattle.ssd_formats.specs.EntryText.{line_of}

-- a line of three words, the second with a colon, after other bytes
pub fault_line : (before front number word : List ℕ) → before ++ (front ++ codes " ") ++ number ++ codes ": " ++ word ++ codes "\n" ≡ before ++ line_of (front ∷ (number ++ codes ":") ∷ word ∷ [])
fault_line before front number word =
    append_assoc (before ++ (front ++ codes " ") ++ number ++ codes ": ") word (codes "\n")
    ∙ append_assoc (before ++ (front ++ codes " ") ++ number) (codes ": ") (word ++ codes "\n")
    ∙ append_assoc (before ++ (front ++ codes " ")) number (codes ": " ++ (word ++ codes "\n"))
    ∙ append_assoc before (front ++ codes " ") (number ++ (codes ": " ++ (word ++ codes "\n")))
    ∙ ap (λ (rest : List ℕ). before ++ rest)
    (append_assoc front (codes " ") (number ++ (codes ": " ++ (word ++ codes "\n")))
    ∙ ap (λ (rest : List ℕ). front ++ (32 ∷ rest))
    (sym (append_assoc (number ++ codes ":") (32 ∷ word) (codes "\n") ∙ append_assoc number (codes ":") ((32 ∷ word) ++ codes "\n")))
    ∙ sym (append_assoc front (32 ∷ ((number ++ codes ":") ++ (32 ∷ word))) (codes "\n")))

-- a line of four words after other bytes
pub limit_line : (before front number at other : List ℕ) → before ++ (front ++ codes " ") ++ number ++ (codes " " ++ at ++ codes " ") ++ other ++ codes "\n" ≡ before ++ line_of (front ∷ number ∷ at ∷ other ∷ [])
limit_line before front number at other = simp append_assoc
