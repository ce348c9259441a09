-- The calls before one of a list, that one, and those after it.
use Rattle.std.proofs.Common.{ℕ, suc, ◌≡◌, ◌+◌, ◌<◌, List, [], ◌∷◌, ◌++◌, length, ap, arith, get_or, sym, take, drop, ◌∙◌}
use Rattle.std.proofs.Math.Seq.{drop-cons, take-suc}
use Rattle.std.proofs.lemmas.List.{take-append-drop}

module _ {X : Type 0} (xs : List X) (i : ℕ) (x : X) (low : i < length xs) (is : x ≡ get_or xs i x) where
  pub split_at : take i xs ++ x ∷ drop (suc i) xs ≡ xs
  split_at =
      ap (λ (y : X). take i xs ++ y ∷ drop (suc i) xs) is
      ∙ ap (λ (more : List X). take i xs ++ more) (sym (drop-cons xs i x low))
      ∙ take-append-drop i xs

  pub take_more : take (i + 1) xs ≡ take i xs ++ x ∷ []
  take_more =
      let next : i + 1 ≡ suc i = omega arith in
      ap (λ (n : ℕ). take n xs) next ∙ take-suc xs i x low ∙ ap (λ (y : X). take i xs ++ y ∷ []) (sym is)
