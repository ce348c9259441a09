-- The least index of the rows so far, and of one more row.
use Rattle.std.proofs.Common.{◌≡◌, ℕ, ◌+◌, ◌<◌, List, [], ◌∷◌, ◌++◌, length, take, get_or, refl, ap, ◌∙◌, arith, Option, Some, None}
use Rattle.std.specs.Prelude.{filter_map, min, unwrap_or, option_to_list}
use Rattle.std.specs.List.{cons_option}
use Rattle.std.proofs.lemmas.List.Sums.{fold-append}
use Rattle.std.proofs.lemmas.List.{take_more, append-nil}
use Rattle.ssd_histories.specs.PageMap.{least_of}

-- the least so far, and the index of one more row, where it has one
abbrev pub least_with : Option ℕ → Option ℕ → Option ℕ
least_with least None = least
least_with least (Some x) = Some (min (unwrap_or least x) x)

-- the least of a list with one more at its end
least_of-push : (xs : List ℕ) (x : ℕ) → least_of (xs ++ x ∷ []) ≡ Some (min (unwrap_or (least_of xs) x) x)
least_of-push [] x = grind arith
least_of-push (y ∷ xs) x = ap (λ n. Some n) (fold-append min y xs (x ∷ []))

least_of-append : (xs : List ℕ) (x : Option ℕ) → least_of (xs ++ option_to_list x) ≡ least_with (least_of xs) x
least_of-append xs None = rw append-nil refl
least_of-append xs (Some x) = least_of-push xs x

-- what a list with one more row gives
filter_map-push : {X : Type 0} (h : X → Option ℕ) → (xs : List X) (x : X)
    → filter_map h (xs ++ x ∷ []) ≡ filter_map h xs ++ option_to_list (h x)
filter_map-push h [] x = elim (h x) as (λ o. cons_option o [] ≡ option_to_list o) [ None ↦ refl | Some y ↦ refl ]
filter_map-push h (y ∷ xs) x =
    ap (cons_option (h y)) (filter_map-push h xs x)
    ∙ elim (h y) as (λ o. cons_option o (filter_map h xs ++ option_to_list (h x)) ≡ cons_option o (filter_map h xs) ++ option_to_list (h x)) [ None ↦ refl | Some z ↦ refl ]

pub least_more : {X : Type 0} (h : X → Option ℕ) → (xs : List X) (i : ℕ) (d : X) → i < length xs
    → least_of (filter_map h (take (i + 1) xs)) ≡ least_with (least_of (filter_map h (take i xs))) (h (get_or xs i d))
least_more h xs i d lt =
    ap (λ ys. least_of (filter_map h ys)) (take_more xs i d lt)
    ∙ ap least_of (filter_map-push h (take i xs) (get_or xs i d))
    ∙ least_of-append (filter_map h (take i xs)) (h (get_or xs i d))
