-- One more sense in the work on a place, where a decoding found a word and where it didn't.
use Rattle.std.proofs.Common.{◌≡◌, ◌∙◌, ℕ, suc, ◌+◌, ◌<◌, nat_lt, cond, Bool, true, false, List, [], ◌∷◌, ◌++◌, length, take, drop, get_or, refl, sym, ap, Option, Some, None, ℤ, pos, arith}
use Rattle.std.proofs.Math.Seq.{drop-cons}
use Rattle.std.proofs.lemmas.Bool.Decides.{nat_tests}
use Rattle.std.specs.List.{list_all}
use Rattle.std.proofs.lemmas.List.Folds.{list_all_at}
use Rattle.ssd_geo.specs.Limits.{is_level}
use Rattle.ssd_geo.specs.Coding.{Coding}
use Rattle.ssd_geo.specs.Ladder.{PageState, page_decoded, partly, whole}
use Rattle.retry_ladder.specs.Running.{PlaceRun, better, center_of, finds, goes_on, hard_fed, misses, place_fed, soft_fed}

-- the run after a sense at a read level that gave no word, with what is kept then
abbrev pub hard_next : Coding → ℤ → List ℤ → PlaceRun → List ℕ → List (Option (List ℕ)) → PlaceRun
hard_next coding level levels run sense now = record {
  left = levels;
  rung = run.rung + 1;
  kept = now;
  best = better run.best (level, coding.failed sense);
  five = [];
}

-- a read level is left
at_level : (coding : Coding) (accepts : List ℕ → Bool) (levels : List ℤ) (n : ℕ) (run : PlaceRun)
    (sense : List ℕ) → n < length levels
    → place_fed coding accepts (drop n levels) run sense
    ≡ hard_fed coding accepts (get_or levels n (pos 0)) (drop (n + 1) levels) run sense
at_level coding accepts levels n run sense h =
    let further : suc n ≡ n + 1 = omega arith in
    ap (λ (left : List ℤ). place_fed coding accepts left run sense) (drop-cons levels n (pos 0) h)
    ∙ ap (λ (m : ℕ). hard_fed coding accepts (get_or levels n (pos 0)) (drop m levels) run sense)
    further

pub hard_finds : (coding : Coding) (accepts : List ℕ → Bool) (levels : List ℤ) (n : ℕ)
    (run : PlaceRun) (sense word : List ℕ) → n < length levels
    → page_decoded coding accepts (coding.hard sense) run.kept ≡ whole word
    → place_fed coding accepts (drop n levels) run sense ≡ finds run.rung word
hard_finds coding accepts levels n run sense word h e =
    at_level coding accepts levels n run sense h
    ∙ ap (λ (o : PageState). elim o [
      | whole found ↦ finds run.rung found
      | partly now ↦ goes_on (hard_next coding (get_or levels n (pos 0)) (drop (n + 1) levels) run sense now)
    ]) e

pub hard_misses : (coding : Coding) (accepts : List ℕ → Bool) (levels : List ℤ) (n : ℕ)
    (run : PlaceRun) (sense : List ℕ) (now : List (Option (List ℕ))) → n < length levels
    → page_decoded coding accepts (coding.hard sense) run.kept ≡ partly now
    → place_fed coding accepts (drop n levels) run sense
    ≡ goes_on (hard_next coding (get_or levels n (pos 0)) (drop (n + 1) levels) run sense now)
hard_misses coding accepts levels n run sense now h e =
    at_level coding accepts levels n run sense h
    ∙ ap (λ (o : PageState). elim o [
      | whole found ↦ finds run.rung found
      | partly kept ↦ goes_on (hard_next coding (get_or levels n (pos 0)) (drop (n + 1) levels) run sense kept)
    ]) e

-- an element of a list of which all pass
pub passes_at : {X : Type 0} (p : X → Bool) (xs : List X) (i : ℕ) (d : X) → i < length xs
    → list_all p xs ≡ true → p (get_or xs i d) ≡ true
passes_at p xs i d h all = passed p xs i d h all (p (get_or xs i d)) refl
  where
    passed : {X : Type 0} (p : X → Bool) (xs : List X) (i : ℕ) (d : X) → i < length xs
        → list_all p xs ≡ true → (b : Bool) → p (get_or xs i d) ≡ b → p (get_or xs i d) ≡ true
    passed p xs i d h all true e = e
    passed p xs i d h all false e = absurd (grind (arith, list_all_at p xs i d h e, all))

-- the better of two levels is one that an image may have, where both are
better_cases : (best next : ℤ × ℕ) (b : Bool) → is_level best.0 ≡ true → is_level next.0 ≡ true
    → is_level (center_of (Some (cond b next best))) ≡ true
better_cases best next true h k = k
better_cases best next false h k = h

pub better_is_level : (best : Option (ℤ × ℕ)) (next : ℤ × ℕ) → is_level (center_of best) ≡ true
    → is_level next.0 ≡ true → is_level (center_of (better best next)) ≡ true
better_is_level None next h k = k
better_is_level (Some best) next h k = better_cases best next (nat_lt next.1 best.1) h k

-- all of a list, and nothing of it
take_all : {X : Type 0} (xs : List X) → take (length xs) xs ≡ xs
take_all [] = refl
take_all {X = X} (x ∷ xs) = ap (λ (rest : List X). x ∷ rest) (take_all xs)

pub drop_all : {X : Type 0} (xs : List X) → drop (length xs) xs ≡ []
drop_all [] = refl
drop_all (x ∷ xs) = drop_all xs

-- no read level is left
pub at_soft : (coding : Coding) (accepts : List ℕ → Bool) (levels : List ℤ) (n : ℕ) (run : PlaceRun)
    (sense : List ℕ) → n ≡ length levels
    → place_fed coding accepts (drop n levels) run sense
    ≡ soft_fed coding accepts run (run.five ++ sense ∷ [])
at_soft coding accepts levels n run sense e =
    ap (λ (m : ℕ). place_fed coding accepts (drop m levels) run sense) e
    ∙ ap (λ (left : List ℤ). place_fed coding accepts left run sense) (drop_all levels)

-- the run after a sense of the soft part that isn't the last of five
abbrev pub soft_next : PlaceRun → List (List ℕ) → PlaceRun
soft_next run five =
    record { left = []; rung = run.rung; kept = run.kept; best = run.best; five = five }

pub soft_goes : (coding : Coding) (accepts : List ℕ → Bool) (run : PlaceRun) (five : List (List ℕ))
    → length five < 5
    → soft_fed coding accepts run five ≡ goes_on (soft_next run five)
soft_goes coding accepts run five h =
    let few : nat_lt (length five) 5 ≡ true = grind (arith, nat_tests) in
    ap (λ (b : Bool). elim b [
      | true ↦ goes_on (soft_next run five)
      | false ↦ elim (page_decoded coding accepts (coding.soft (take 5 five)) run.kept) [
        | whole word ↦ finds (length coding.levels) word
        | partly now ↦ misses
      ]
    ]) few

pub soft_ends : (coding : Coding) (accepts : List ℕ → Bool) (run : PlaceRun) (five : List (List ℕ))
    (o : PageState) → length five ≡ 5
    → page_decoded coding accepts (coding.soft five) run.kept ≡ o
    → soft_fed coding accepts run five ≡ elim o
    [ whole word ↦ finds (length coding.levels) word | partly now ↦ misses ]
soft_ends coding accepts run five o h e =
    let all : nat_lt (length five) 5 ≡ false = grind (arith, nat_tests) in
    let taken : take 5 five ≡ five = ap (λ (n : ℕ). take n five) (sym h) ∙ take_all five in
    ap (λ (b : Bool). elim b [
      | true ↦ goes_on (soft_next run five)
      | false ↦ elim (page_decoded coding accepts (coding.soft (take 5 five)) run.kept) [
        | whole word ↦ finds (length coding.levels) word
        | partly now ↦ misses
      ]
    ]) all
    ∙ ap (λ (found : PageState). elim found
    [ whole word ↦ finds (length coding.levels) word | partly now ↦ misses ])
    (ap (λ (senses : List (List ℕ)). page_decoded coding accepts (coding.soft senses) run.kept) taken ∙ e)

-- one more sense of the soft part that isn't the last of five
pub soft_more : (coding : Coding) (accepts : List ℕ → Bool) (levels : List ℤ) (n : ℕ)
    (run : PlaceRun) (sense : List ℕ)
    → n ≡ length levels → length (run.five ++ sense ∷ []) < 5
    → place_fed coding accepts (drop n levels) run sense
    ≡ goes_on (soft_next run (run.five ++ sense ∷ []))
soft_more coding accepts levels n run sense e h =
    at_soft coding accepts levels n run sense e
    ∙ soft_goes coding accepts run (run.five ++ sense ∷ []) h

-- the last sense of the soft part
pub soft_last : (coding : Coding) (accepts : List ℕ → Bool) (levels : List ℤ) (n : ℕ)
    (run : PlaceRun) (sense : List ℕ) (o : PageState)
    → n ≡ length levels → length (run.five ++ sense ∷ []) ≡ 5
    → page_decoded coding accepts (coding.soft (run.five ++ sense ∷ [])) run.kept ≡ o
    → place_fed coding accepts (drop n levels) run sense
    ≡ elim o [ whole word ↦ finds (length coding.levels) word | partly now ↦ misses ]
soft_last coding accepts levels n run sense o e h f =
    at_soft coding accepts levels n run sense e
    ∙ soft_ends coding accepts run (run.five ++ sense ∷ []) o h f
