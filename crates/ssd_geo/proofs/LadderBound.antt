-- A ladder comes to an answer after a bounded number of senses.
use Rattle.std.proofs.Common.{◌≡◌, ℕ, zero, suc, ◌+◌, ◌*◌, ◌<◌, ◌≤◌, ◌==◌, nat_lt, not, cond, Bool, true, false, List, [], ◌∷◌, length, take, drop, refl, ap, Option, arith, length-drop}
use Rattle.std.specs.Prelude.{filter, slice_index_or, ℤ}
use Rattle.std.proofs.Math.Nat.{mul-le-mul_left}
use Rattle.std.proofs.lemmas.List.FromFn.{length-range_with_len}
use Rattle.std.proofs.lemmas.List.Sums.{count_by-le-length, length-filter}
use Rattle.std.specs.List.{range_with_len}
use Rattle.std.proofs.lemmas.Bool.Decides.{nat_tests}
use Rattle.std.proofs.lemmas.List.{length-map}
use Rattle.ssd_geo.specs.Bits.{bytes_sum}
use Rattle.ssd_geo.specs.Coding.{Coding}
use Rattle.ssd_geo.specs.declared.place.Place.{Place}
use Rattle.ssd_geo.specs.StripeSum.{zero_word}
use Rattle.ssd_geo.specs.LadderLaws.{AsksBelow, LaddersEnd}
use Rattle.ssd_geo.specs.Ladder.{LadderState, PageState, PlaceState, asks, recovered, uncorrectable, wants, found, missed, none_kept, page_decoded, partly, whole, soft_work, soft_levels, hard_work, place_work, best_level, stripe_work, ladder, other_places}

-- a place that was given so many senses wants one more only below a limit, and uses no more than the limit
abbrev Bounded : ℕ → ℕ → PlaceState → Type 0
Bounded limit senses (wants level) = senses < limit
Bounded limit senses (found rung word left) = senses ≤ limit + length left
Bounded limit senses (missed left) = senses ≤ limit + length left

-- the same with one more sense
bounded_suc : (limit senses : ℕ) (state : PlaceState) → Bounded limit senses state → Bounded (suc limit) (suc senses) state
bounded_suc limit senses (wants level) h = omega arith
bounded_suc limit senses (found rung word left) h = omega arith
bounded_suc limit senses (missed left) h = omega arith

-- the same below an equal limit
bounded_to : (limit other senses : ℕ) (state : PlaceState) → limit ≡ other → Bounded limit senses state → Bounded other senses state
bounded_to limit other senses (wants level) e h = omega arith
bounded_to limit other senses (found rung word left) e h = omega arith
bounded_to limit other senses (missed left) e h = omega arith

soft_found : (coding : Coding) (senses : List (List ℕ)) (state : PageState) → 5 ≤ length senses
    → Bounded 5 (length senses) (elim state [ whole word ↦ found (length coding.levels) word (drop 5 senses) | partly now ↦ missed (drop 5 senses) ])
soft_found coding senses (partly now) h = omega (arith, length-drop 5 senses)
soft_found coding senses (whole word) h = omega (arith, length-drop 5 senses)

-- the level that the soft part wants next
abbrev soft_level : Coding → ℤ → List (List ℕ) → ℤ
soft_level coding center senses = slice_index_or (soft_levels coding.step center) (length senses) center

soft_cases : (coding : Coding) (accepts : List ℕ → Bool) (center : ℤ) (kept : List (Option (List ℕ))) (senses : List (List ℕ)) (b : Bool) → nat_lt (length senses) 5 ≡ b
    → Bounded 5 (length senses) (elim b [
      | true ↦ wants (soft_level coding center senses)
      | false ↦ elim (page_decoded coding accepts (coding.soft (take 5 senses)) kept) [
        | whole word ↦ found (length coding.levels) word (drop 5 senses)
        | partly now ↦ missed (drop 5 senses)
      ]
    ])
soft_cases coding accepts center kept senses true e = grind (arith, nat_tests)
soft_cases coding accepts center kept senses false e =
    soft_found coding senses (page_decoded coding accepts (coding.soft (take 5 senses)) kept) (grind (arith, nat_tests))

soft_bounded : (coding : Coding) (accepts : List ℕ → Bool) (center : ℤ) (kept : List (Option (List ℕ))) (senses : List (List ℕ)) → Bounded 5 (length senses) (soft_work coding accepts center kept senses)
soft_bounded coding accepts center kept senses = soft_cases coding accepts center kept senses (nat_lt (length senses) 5) refl

-- what comes after the hard part uses five senses, whatever was kept
abbrev AfterBounded : (List (Option (List ℕ)) → List (List ℕ) → PlaceState) → Type 0
AfterBounded after = (kept : List (Option (List ℕ))) (senses : List (List ℕ)) → Bounded 5 (length senses) (after kept senses)

hard_cases : (coding : Coding) (accepts : List ℕ → Bool) (after : List (Option (List ℕ)) → List (List ℕ) → PlaceState) (levels : List ℤ) (rung : ℕ) (senses : List (List ℕ)) (limit : ℕ) (state : PageState)
    → ((kept : List (Option (List ℕ))) → Bounded limit (length senses) (hard_work coding accepts after levels (rung + 1) kept senses))
    → Bounded (suc limit) (suc (length senses)) (elim state [ whole word ↦ found rung word senses | partly now ↦ hard_work coding accepts after levels (rung + 1) now senses ])
hard_cases coding accepts after levels rung senses limit (partly now) h =
    bounded_suc limit (length senses) (hard_work coding accepts after levels (rung + 1) now senses) (h now)
hard_cases coding accepts after levels rung senses limit (whole word) h = omega arith

hard_bounded : (coding : Coding) (accepts : List ℕ → Bool) (after : List (Option (List ℕ)) → List (List ℕ) → PlaceState) → AfterBounded after
    → (levels : List ℤ) (rung : ℕ) (kept : List (Option (List ℕ))) (senses : List (List ℕ)) → Bounded (length levels + 5) (length senses) (hard_work coding accepts after levels rung kept senses)
hard_bounded coding accepts after h [] rung kept senses = h kept senses
hard_bounded coding accepts after h (level ∷ levels) rung kept [] = omega arith
hard_bounded coding accepts after h (level ∷ levels) rung kept (sense ∷ senses) =
    bounded_to (suc (length levels + 5)) (suc (length levels) + 5) (suc (length senses))
    (hard_work coding accepts after (level ∷ levels) rung kept (sense ∷ senses)) (omega arith)
    (hard_cases coding accepts after levels rung senses (length levels + 5) (page_decoded coding accepts (coding.hard sense) kept)
    (λ now. hard_bounded coding accepts after h levels (rung + 1) now senses))

place_bounded : (coding : Coding) (accepts : List ℕ → Bool) (senses : List (List ℕ)) → Bounded (length coding.levels + 5) (length senses) (place_work coding accepts senses)
place_bounded coding accepts senses =
    hard_bounded coding accepts (soft_work coding accepts (best_level coding senses))
    (λ kept left. soft_bounded coding accepts (best_level coding senses) kept left)
    coding.levels 0 (none_kept coding) senses

-- a greater limit for more senses
asks_more : (limit senses more had : ℕ) (state : LadderState) → (senses < limit → had < more) → AsksBelow limit senses state → AsksBelow more had state
asks_more limit senses more had (asks place level) f h = f h
asks_more limit senses more had (recovered rung word) f h = h
asks_more limit senses more had uncorrectable f h = h

stripe_found : (coding : Coding) (accepts : List ℕ → Bool) (place : Place) (places : List Place) (sum : List ℕ) (had : ℕ) (state : PlaceState)
    → Bounded (length coding.levels + 5) had state
    → ((word : List ℕ) (left : List (List ℕ)) → AsksBelow ((length coding.levels + 5) * length places) (length left) (stripe_work coding accepts places (bytes_sum sum word) left))
    → AsksBelow ((length coding.levels + 5) * suc (length places)) had (elim state [
      | wants level ↦ asks place level
      | found rung word left ↦ stripe_work coding accepts places (bytes_sum sum word) left
      | missed left ↦ uncorrectable
    ])
stripe_found coding accepts place places sum had (wants level) h rest = omega arith
stripe_found coding accepts place places sum had (found rung word left) h rest =
    asks_more ((length coding.levels + 5) * length places) (length left) ((length coding.levels + 5) * suc (length places)) had
    (stripe_work coding accepts places (bytes_sum sum word) left) (λ below. omega arith) (rest word left)
stripe_found coding accepts place places sum had (missed left) h rest = tt

sum_found : (coding : Coding) (sum : List ℕ) (limit had : ℕ) (b : Bool) → AsksBelow limit had (elim b [ true ↦ recovered (length coding.levels + 1) sum | false ↦ uncorrectable ])
sum_found coding sum limit had true = tt
sum_found coding sum limit had false = tt

stripe_bounded : (coding : Coding) (accepts : List ℕ → Bool) (places : List Place) (sum : List ℕ) (senses : List (List ℕ))
    → AsksBelow ((length coding.levels + 5) * length places) (length senses) (stripe_work coding accepts places sum senses)
stripe_bounded coding accepts [] sum senses =
    sum_found coding sum ((length coding.levels + 5) * 0) (length senses) (accepts sum)
stripe_bounded coding accepts (place ∷ places) sum senses =
    stripe_found coding accepts place places sum (length senses) (place_work coding (λ word. true) senses) (place_bounded coding (λ word. true) senses)
    (λ word left. stripe_bounded coding accepts places (bytes_sum sum word) left)

closed_found : (coding : Coding) (accepts : List ℕ → Bool) (others : List Place) (closed : Bool) (had : ℕ) (left : List (List ℕ)) → had ≤ (length coding.levels + 5) + length left
    → AsksBelow ((length coding.levels + 5) * suc (length others)) had (elim closed [
      | true ↦ stripe_work coding accepts others (zero_word coding.word_bytes) left
      | false ↦ uncorrectable
    ])
closed_found coding accepts others true had left h =
    asks_more ((length coding.levels + 5) * length others) (length left) ((length coding.levels + 5) * suc (length others)) had
    (stripe_work coding accepts others (zero_word coding.word_bytes) left) (λ below. omega arith)
    (stripe_bounded coding accepts others (zero_word coding.word_bytes) left)
closed_found coding accepts others false had left h = tt

page_found : (coding : Coding) (accepts : List ℕ → Bool) (place : Place) (others : List Place) (closed : Bool) (had : ℕ) (state : PlaceState)
    → Bounded (length coding.levels + 5) had state
    → AsksBelow ((length coding.levels + 5) * suc (length others)) had (elim state [
      | wants level ↦ asks place level
      | found rung word left ↦ recovered rung word
      | missed left ↦ elim closed [
        | true ↦ stripe_work coding accepts others (zero_word coding.word_bytes) left
        | false ↦ uncorrectable
      ]
    ])
page_found coding accepts place others closed had (wants level) h = omega arith
page_found coding accepts place others closed had (found rung word left) h = tt
page_found coding accepts place others closed had (missed left) h = closed_found coding accepts others closed had left h

ladder_bounded : (coding : Coding) (accepts : List ℕ → Bool) (place : Place) (others : List Place) (closed : Bool) (senses : List (List ℕ))
    → AsksBelow ((length coding.levels + 5) * suc (length others)) (length senses) (ladder coding accepts place others closed senses)
ladder_bounded coding accepts place others closed senses =
    page_found coding accepts place others closed (length senses) (place_work coding accepts senses) (place_bounded coding accepts senses)

-- the others among one number more
kept_others : (x a : ℕ) (ys : List ℕ) (b : Bool) → (a == x) ≡ b → length (cond (not (a == x)) (a ∷ ys) ys) ≡ length (cond (not b) (a ∷ ys) ys)
kept_others x a ys b e = ap (λ (c : Bool). length (cond (not c) (a ∷ ys) ys)) e

others_more : (x a n : ℕ) (b : Bool) → (a == x) ≡ b → (a + 1 ≤ x → suc (length (filter (λ d. not (d == x)) (range_with_len (a + 1) n))) ≤ n)
    → a ≤ x → suc (length (filter (λ d. not (d == x)) (a ∷ range_with_len (a + 1) n))) ≤ suc n
others_more x a n true e rest lo =
    let ys : List ℕ = filter (λ d. not (d == x)) (range_with_len (a + 1) n) in
    omega (
      arith,
      kept_others x a ys true e,
      length-filter (λ d. not (d == x)) (range_with_len (a + 1) n),
      count_by-le-length (λ d. not (d == x)) (range_with_len (a + 1) n),
      length-range_with_len (a + 1) n,
    )
others_more x a n false e rest lo =
    let ys : List ℕ = filter (λ d. not (d == x)) (range_with_len (a + 1) n) in
    let above : a + 1 ≤ x = grind (arith, nat_tests) in
    omega (arith, kept_others x a ys false e, rest above)

-- of the numbers of a range that has one, all others are at least one fewer
others_of : (x a n : ℕ) → a ≤ x → x < a + n → suc (length (filter (λ d. not (d == x)) (range_with_len a n))) ≤ n
others_of x a zero lo hi = absurd (omega arith)
others_of x a (suc n) lo hi = others_more x a n (a == x) refl (λ above. others_of x (a + 1) n above (omega arith)) lo

other_places_few : (dies : ℕ) (place : Place) → place.die < dies → suc (length (other_places dies place)) ≤ dies
other_places_few dies place h =
    let others : List ℕ = filter (λ die. not (die == place.die)) (range_with_len 0 dies) in
    omega (
      arith,
      length-map {B = Place} others (λ die. record { die = die; sb = place.sb; page = place.page }),
      others_of place.die 0 dies (omega arith) (omega arith),
    )

pub ladders_end : LaddersEnd
ladders_end coding accepts dies place closed senses h =
    let others : List Place = other_places dies place in
    let few : suc (length others) ≤ dies = other_places_few dies place h in
    asks_more ((length coding.levels + 5) * suc (length others)) (length senses) ((length coding.levels + 5) * dies) (length senses)
    (ladder coding accepts place others closed senses)
    (λ below. omega (arith, mul-le-mul_left (length coding.levels + 5) few))
    (ladder_bounded coding accepts place others closed senses)
