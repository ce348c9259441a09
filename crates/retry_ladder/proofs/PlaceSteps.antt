-- What is kept of a place's senses says what the work on the place has come to.
use Rattle.std.proofs.Common.{◌≡◌, ◌∙◌, ℕ, ◌+◌, ◌<◌, ◌≤◌, nat_lt, Bool, true, false, List, [], ◌∷◌, ◌++◌, length, take, drop, refl, sym, ap, Option, None, arith, length-append}
use Rattle.std.specs.Prelude.{ℤ, slice_index_or, zip}
use Rattle.std.specs.List.{fold}
use Rattle.std.proofs.lemmas.Bool.Decides.{nat_tests}
use Rattle.std.proofs.lemmas.List.{append_assoc, append-nil, take-append-le}
use Rattle.std.proofs.Math.Seq.{drop-append_seam}
use Rattle.ssd_geo.specs.Coding.{Coding}
use Rattle.ssd_geo.specs.Ladder.{PageState, PlaceState, wants, found, missed, page_decoded, partly, whole, none_kept, hard_work, place_work, soft_work, best_level, soft_levels}
use Rattle.retry_ladder.specs.Running.{PlaceRun, PlaceStep, better, center_of, finds, goes_on, level_wanted, misses, place_fed, place_start, soft_fed}
use Rattle.retry_ladder.proofs.BestLevel.{best_is_kept, better_with}

-- what the work on a place comes to with the senses that are still to come
abbrev pub place_ahead : Coding → (List ℕ → Bool) → List ℤ → PlaceRun → List (List ℕ) → PlaceState
place_ahead coding accepts [] run senses =
    soft_work coding accepts (center_of run.best) run.kept (run.five ++ senses)
place_ahead coding accepts (level ∷ levels) run senses =
    hard_work coding accepts (soft_work coding accepts
    (center_of (fold (better_with coding) run.best (zip (level ∷ levels) senses)))) (level ∷ levels)
    run.rung run.kept senses

-- the same after a step
abbrev pub step_ahead : Coding → (List ℕ → Bool) → PlaceStep → List (List ℕ) → PlaceState
step_ahead coding accepts (goes_on run) senses = place_ahead coding accepts run.left run senses
step_ahead coding accepts (finds rung word) senses = found rung word senses
step_ahead coding accepts misses senses = missed senses

-- the soft part of a place isn't over
abbrev pub IsAtWork : PlaceRun → Type 0
IsAtWork run = length run.five < 5

-- nor after a step that goes on
abbrev pub GoesOnAtWork : PlaceStep → Type 0
GoesOnAtWork (goes_on run) = IsAtWork run
GoesOnAtWork (finds rung word) = Unit {0}
GoesOnAtWork misses = Unit {0}

hard_at_work : (coding : Coding) (level : ℤ) (levels : List ℤ) (run : PlaceRun) (sense : List ℕ)
    (o : PageState) → GoesOnAtWork (elim o [
      | whole word ↦ finds run.rung word
      | partly now ↦ goes_on (record {
        left = levels;
        rung = run.rung + 1;
        kept = now;
        best = better run.best (level, coding.failed sense);
        five = [];
      })
    ])
hard_at_work coding level levels run sense (partly now) = omega arith
hard_at_work coding level levels run sense (whole word) = tt

word_at_work : (coding : Coding) (o : PageState)
    → GoesOnAtWork (elim o [ whole word ↦ finds (length coding.levels) word | partly now ↦ misses ])
word_at_work coding (partly now) = tt
word_at_work coding (whole word) = tt

soft_at_work : (coding : Coding) (accepts : List ℕ → Bool) (run : PlaceRun) (five : List (List ℕ))
    (b : Bool) → nat_lt (length five) 5 ≡ b → GoesOnAtWork (elim b [
      | true ↦ goes_on (record {
        left = [];
        rung = run.rung;
        kept = run.kept;
        best = run.best;
        five = five;
      })
      | false ↦ elim (page_decoded coding accepts (coding.soft (take 5 five)) run.kept) [
        | whole word ↦ finds (length coding.levels) word
        | partly now ↦ misses
      ]
    ])
soft_at_work coding accepts run five true e = grind (arith, nat_tests)
soft_at_work coding accepts run five false e =
    word_at_work coding (page_decoded coding accepts (coding.soft (take 5 five)) run.kept)

pub stays_at_work : (coding : Coding) (accepts : List ℕ → Bool) (left : List ℤ) (run : PlaceRun)
    (sense : List ℕ) → GoesOnAtWork (place_fed coding accepts left run sense)
stays_at_work coding accepts [] run sense =
    soft_at_work coding accepts run (run.five ++ sense ∷ [])
    (nat_lt (length (run.five ++ sense ∷ [])) 5) refl
stays_at_work coding accepts (level ∷ levels) run sense =
    hard_at_work coding level levels run sense
    (page_decoded coding accepts (coding.hard sense) run.kept)

-- one more sense at a read level
hard_ahead : (coding : Coding) (accepts : List ℕ → Bool) (level : ℤ) (levels : List ℤ)
    (run : PlaceRun) (sense : List ℕ) (senses : List (List ℕ)) (o : PageState)
    → elim o [
      | whole word ↦ found run.rung word senses
      | partly now ↦ hard_work coding accepts
          (soft_work coding accepts (center_of
          (fold (better_with coding) (better run.best (level, coding.failed sense))
          (zip levels senses))))
          levels (run.rung + 1) now senses
    ] ≡ step_ahead coding accepts (elim o [
      | whole word ↦ finds run.rung word
      | partly now ↦ goes_on (record {
        left = levels;
        rung = run.rung + 1;
        kept = now;
        best = better run.best (level, coding.failed sense);
        five = [];
      })
    ]) senses
hard_ahead coding accepts level [] run sense senses (partly now) = refl
hard_ahead coding accepts level (next ∷ levels) run sense senses (partly now) = refl
hard_ahead coding accepts level levels run sense senses (whole word) = refl

-- the five senses of the soft part, and what is left after them
word_ahead : (coding : Coding) (accepts : List ℕ → Bool) (senses : List (List ℕ)) (o : PageState)
    → elim o [ whole word ↦ found (length coding.levels) word senses | partly now ↦ missed senses ]
    ≡ step_ahead coding accepts (elim o
    [ whole word ↦ finds (length coding.levels) word | partly now ↦ misses ]) senses
word_ahead coding accepts senses (partly now) = refl
word_ahead coding accepts senses (whole word) = refl

five_ahead : (coding : Coding) (accepts : List ℕ → Bool) (center : ℤ) (kept : List (Option (List ℕ)))
    (five senses all : List (List ℕ)) (b : Bool) → b ≡ false → take 5 all ≡ take 5 five
    → drop 5 all ≡ senses
    → elim b [
      | true ↦ wants (slice_index_or (soft_levels coding.step center) (length all) center)
      | false ↦ elim (page_decoded coding accepts (coding.soft (take 5 all)) kept) [
        | whole word ↦ found (length coding.levels) word (drop 5 all)
        | partly now ↦ missed (drop 5 all)
      ]
    ] ≡ step_ahead coding accepts (elim (page_decoded coding accepts (coding.soft (take 5 five)) kept)
    [ whole word ↦ finds (length coding.levels) word | partly now ↦ misses ]) senses
five_ahead coding accepts center kept five senses all true e taken dropped = absurd (grind (arith, e))
five_ahead coding accepts center kept five senses all false e taken dropped =
    ap (λ (t : List (List ℕ)). elim (page_decoded coding accepts (coding.soft t) kept) [
      | whole word ↦ found (length coding.levels) word (drop 5 all)
      | partly now ↦ missed (drop 5 all)
    ]) taken
    ∙ ap (λ (d : List (List ℕ)). elim (page_decoded coding accepts (coding.soft (take 5 five)) kept) [
      | whole word ↦ found (length coding.levels) word d
      | partly now ↦ missed d
    ]) dropped
    ∙ word_ahead coding accepts senses (page_decoded coding accepts (coding.soft (take 5 five)) kept)

soft_cases : (coding : Coding) (accepts : List ℕ → Bool) (run : PlaceRun)
    (five senses : List (List ℕ)) (b : Bool) → nat_lt (length five) 5 ≡ b → length five ≤ 5
    → soft_work coding accepts (center_of run.best) run.kept (five ++ senses)
    ≡ step_ahead coding accepts (elim b [
      | true ↦ goes_on (record {
        left = [];
        rung = run.rung;
        kept = run.kept;
        best = run.best;
        five = five;
      })
      | false ↦ elim (page_decoded coding accepts (coding.soft (take 5 five)) run.kept) [
        | whole word ↦ finds (length coding.levels) word
        | partly now ↦ misses
      ]
    ]) senses
soft_cases coding accepts run five senses true e h = refl
soft_cases coding accepts run five senses false e h =
    let is_five : length five ≡ 5 = grind (arith, nat_tests) in
    let over : nat_lt (length (five ++ senses)) 5 ≡ false =
    grind (arith, nat_tests, length-append five senses) in
    let taken : take 5 (five ++ senses) ≡ take 5 five =
    take-append-le 5 five senses (omega (arith, is_five)) in
    let dropped : drop 5 (five ++ senses) ≡ senses =
    ap (λ (n : ℕ). drop n (five ++ senses)) (sym is_five) ∙ drop-append_seam five senses in
    five_ahead coding accepts (center_of run.best) run.kept five senses (five ++ senses)
    (nat_lt (length (five ++ senses)) 5) over taken dropped

soft_ahead : (coding : Coding) (accepts : List ℕ → Bool) (run : PlaceRun) (sense : List ℕ)
    (senses : List (List ℕ)) → IsAtWork run
    → soft_work coding accepts (center_of run.best) run.kept (run.five ++ sense ∷ senses)
    ≡ step_ahead coding accepts (soft_fed coding accepts run (run.five ++ sense ∷ [])) senses
soft_ahead coding accepts run sense senses h =
    ap (soft_work coding accepts (center_of run.best) run.kept)
    (sym (append_assoc run.five (sense ∷ []) senses))
    ∙ soft_cases coding accepts run (run.five ++ sense ∷ []) senses
    (nat_lt (length (run.five ++ sense ∷ [])) 5) refl
    (omega (arith, length-append run.five (sense ∷ []), h))

-- one more sense is one more step
pub place_goes_on : (coding : Coding) (accepts : List ℕ → Bool) (left : List ℤ) (run : PlaceRun)
    (sense : List ℕ) (senses : List (List ℕ)) → IsAtWork run
    → place_ahead coding accepts left run (sense ∷ senses)
    ≡ step_ahead coding accepts (place_fed coding accepts left run sense) senses
place_goes_on coding accepts [] run sense senses h = soft_ahead coding accepts run sense senses h
place_goes_on coding accepts (level ∷ levels) run sense senses h =
    hard_ahead coding accepts level levels run sense senses
    (page_decoded coding accepts (coding.hard sense) run.kept)

-- without more senses, the level that is kept is wanted
wanted_soft : (coding : Coding) (accepts : List ℕ → Bool) (center : ℤ) (kept : List (Option (List ℕ)))
    (five : List (List ℕ)) (b : Bool) → nat_lt (length five) 5 ≡ b → length five < 5
    → elim b [
      | true ↦ wants (slice_index_or (soft_levels coding.step center) (length five) center)
      | false ↦ elim (page_decoded coding accepts (coding.soft (take 5 five)) kept) [
        | whole word ↦ found (length coding.levels) word (drop 5 five)
        | partly now ↦ missed (drop 5 five)
      ]
    ] ≡ wants (slice_index_or (soft_levels coding.step center) (length five) center)
wanted_soft coding accepts center kept five true e h = refl
wanted_soft coding accepts center kept five false e h = absurd (grind (arith, nat_tests))

pub place_wants : (coding : Coding) (accepts : List ℕ → Bool) (left : List ℤ) (run : PlaceRun)
    → IsAtWork run
    → place_ahead coding accepts left run [] ≡ wants (level_wanted coding.step left run)
place_wants coding accepts [] run h =
    ap (soft_work coding accepts (center_of run.best) run.kept) (append-nil run.five)
    ∙ wanted_soft coding accepts (center_of run.best) run.kept run.five (nat_lt (length run.five) 5) refl h
place_wants coding accepts (level ∷ levels) run h = refl

-- what is kept before the first sense says what the definition says
begun : (coding : Coding) (accepts : List ℕ → Bool) (levels : List ℤ) (senses : List (List ℕ))
    (center : ℤ)
    → center_of (fold (better_with coding) None (zip levels senses)) ≡ center
    → place_ahead coding accepts levels (place_start coding.levels coding.words) senses
    ≡ hard_work coding accepts (soft_work coding accepts center) levels 0 (none_kept coding) senses
begun coding accepts [] senses center e =
    ap (λ (c : ℤ). soft_work coding accepts c (none_kept coding) senses) e
begun coding accepts (level ∷ levels) senses center e =
    ap (λ (c : ℤ). hard_work coding accepts (soft_work coding accepts c) (level ∷ levels) 0
    (none_kept coding) senses) e

pub place_begins : (coding : Coding) (accepts : List ℕ → Bool) (senses : List (List ℕ))
    → place_ahead coding accepts coding.levels (place_start coding.levels coding.words) senses
    ≡ place_work coding accepts senses
place_begins coding accepts senses =
    begun coding accepts coding.levels senses (best_level coding senses)
    (best_is_kept coding senses)
