-- A word that was found for a place was accepted.
use Rattle.std.proofs.Common.{◌≡◌, ◌∙◌, ℕ, ◌+◌, nat_lt, Bool, true, false, List, [], ◌∷◌, ◌++◌, length, take, refl, sym, ap, Option, Some, None}
use Rattle.std.specs.Prelude.{ℤ}
use Rattle.ssd_geo.specs.Coding.{Coding}
use Rattle.ssd_geo.specs.Ladder.{PageState, all_kept, kept_with, none_kept, page_accepted, page_decoded, partly, whole}
use Rattle.retry_ladder.specs.Running.{PlaceRun, PlaceStep, better, finds, goes_on, misses, place_fed}

-- a page's word that was accepted passes its test
word_passes : (accepts : List ℕ → Bool) (found word : List ℕ) (kept : List (Option (List ℕ))) (b : Bool) → accepts found ≡ b
    → elim b as (λ _. PageState) [ true ↦ whole found | false ↦ partly kept ] ≡ whole word
    → accepts word ≡ true
word_passes accepts found word kept true e f =
    let same : found ≡ word = cc in ap accepts (sym same) ∙ e
word_passes accepts found word kept false e f = cc

passes_accepted : (coding : Coding) (accepts : List ℕ → Bool) (kept : List (Option (List ℕ)))
    (codes : Option (List (List ℕ))) (word : List ℕ)
    → page_accepted coding accepts kept codes ≡ whole word → accepts word ≡ true
passes_accepted coding accepts kept None word h = cc
passes_accepted coding accepts kept (Some codes) word h =
    word_passes accepts (coding.joined codes) word (none_kept coding) (accepts (coding.joined codes)) refl h

passes_decoded : (coding : Coding) (accepts : List ℕ → Bool) (codes : ℕ → Option (List ℕ))
    (kept : List (Option (List ℕ))) (word : List ℕ)
    → page_decoded coding accepts codes kept ≡ whole word → accepts word ≡ true
passes_decoded coding accepts codes kept word h =
    passes_accepted coding accepts (kept_with codes 0 kept) (all_kept (kept_with codes 0 kept)) word h

hard_passes : (coding : Coding) (accepts : List ℕ → Bool) (level : ℤ) (levels : List ℤ)
    (run : PlaceRun) (sense : List ℕ) (rung : ℕ) (word : List ℕ) (o : PageState)
    → page_decoded coding accepts (coding.hard sense) run.kept ≡ o
    → elim o as (λ _. PlaceStep) [
      | whole found ↦ finds run.rung found
      | partly now ↦ goes_on (record {
        left = levels;
        rung = run.rung + 1;
        kept = now;
        best = better run.best (level, coding.failed sense);
        five = [];
      })
    ] ≡ finds rung word → accepts word ≡ true
hard_passes coding accepts level levels run sense rung word (partly now) e f = cc
hard_passes coding accepts level levels run sense rung word (whole found) e f =
    let same : found ≡ word = cc in
    passes_decoded coding accepts (coding.hard sense) run.kept word
    (e ∙ ap (λ (w : List ℕ). whole w) same)

soft_passes : (coding : Coding) (accepts : List ℕ → Bool) (rung : ℕ) (word : List ℕ)
    (five : List (List ℕ)) (kept : List (Option (List ℕ))) (o : PageState)
    → page_decoded coding accepts (coding.soft five) kept ≡ o
    → elim o as (λ _. PlaceStep) [ whole other ↦ finds (length coding.levels) other | partly now ↦ misses ]
    ≡ finds rung word → accepts word ≡ true
soft_passes coding accepts rung word five kept (partly now) e f = cc
soft_passes coding accepts rung word five kept (whole other) e f =
    let same : other ≡ word = cc in
    passes_decoded coding accepts (coding.soft five) kept word (e ∙ ap (λ (w : List ℕ). whole w) same)

five_passes : (coding : Coding) (accepts : List ℕ → Bool) (run : PlaceRun) (five : List (List ℕ))
    (rung : ℕ) (word : List ℕ) (b : Bool)
    → elim b as (λ _. PlaceStep) [
      | true ↦ goes_on (record {
        left = [];
        rung = run.rung;
        kept = run.kept;
        best = run.best;
        five = five;
      })
      | false ↦ elim (page_decoded coding accepts (coding.soft (take 5 five)) run.kept) as (λ _. PlaceStep)
          [ whole other ↦ finds (length coding.levels) other | partly now ↦ misses ]
    ] ≡ finds rung word → accepts word ≡ true
five_passes coding accepts run five rung word true f = cc
five_passes coding accepts run five rung word false f =
    soft_passes coding accepts rung word (take 5 five) run.kept
    (page_decoded coding accepts (coding.soft (take 5 five)) run.kept) refl f

pub fed_passes : (coding : Coding) (accepts : List ℕ → Bool) (left : List ℤ) (run : PlaceRun)
    (sense : List ℕ) (rung : ℕ) (word : List ℕ)
    → place_fed coding accepts left run sense ≡ finds rung word → accepts word ≡ true
fed_passes coding accepts [] run sense rung word f =
    five_passes coding accepts run (run.five ++ sense ∷ []) rung word
    (nat_lt (length (run.five ++ sense ∷ [])) 5) f
fed_passes coding accepts (level ∷ levels) run sense rung word f =
    hard_passes coding accepts level levels run sense rung word
    (page_decoded coding accepts (coding.hard sense) run.kept) refl f
