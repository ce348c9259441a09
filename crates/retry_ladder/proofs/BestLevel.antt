-- The best level so far, kept sense by sense, is the first level that failed the fewest checks.
use Rattle.std.proofs.Common.{◌≡◌, ◌∙◌, ℕ, ◌<◌, ◌≤◌, nat_lt, nat_le, Bool, true, false, ◌&&◌, cond, List, [], ◌∷◌, refl, sym, ap, Option, Some, None, arith}
use Rattle.std.specs.Prelude.{ℤ, pos, zip}
use Rattle.std.specs.List.{find, fold, list_all}
use Rattle.std.specs.Option.{option_map_or}
use Rattle.std.proofs.lemmas.Bool.Decides.{nat_tests}
use Rattle.ssd_geo.specs.Coding.{Coding}
use Rattle.ssd_geo.specs.Ladder.{best_level, fails_fewest}
use Rattle.retry_ladder.specs.Running.{better, center_of}

-- a sense at a level
abbrev Sensed : Type 0
Sensed = ℤ × List ℕ

-- the level of a sense with the checks that its raw word fails
abbrev pub rated : Coding → Sensed → ℤ × ℕ
rated coding sense = (sense.0, coding.failed sense.1)

-- the better one with a sense
abbrev pub better_with : Coding → Option (ℤ × ℕ) → Sensed → Option (ℤ × ℕ)
better_with coding best sense = better best (rated coding sense)

-- whether a number is no greater than what each sense fails
abbrev least_of : Coding → ℕ → List Sensed → Bool
least_of coding n senses = list_all (λ (other : Sensed). nat_le n (coding.failed other.1)) senses

-- the first sense that fails the fewest checks, rated
abbrev fewest : Coding → List Sensed → Option (ℤ × ℕ)
fewest coding [] = None
fewest coding (sense ∷ senses) =
    cond (least_of coding (coding.failed sense.1) senses) (Some (rated coding sense))
    (fewest coding senses)

-- where one number is the least and another isn't, the other is greater
above_cons : (coding : Coding) (a b : ℕ) (sense : Sensed) (senses : List Sensed) (p q : Bool)
    → nat_le a (coding.failed sense.1) ≡ p → nat_le b (coding.failed sense.1) ≡ q
    → (least_of coding a senses ≡ true → least_of coding b senses ≡ false → a < b)
    → (p && least_of coding a senses) ≡ true → (q && least_of coding b senses) ≡ false → a < b
above_cons coding a b sense senses true true ep eq rest ha hb = rest ha hb
above_cons coding a b sense senses true false ep eq rest ha hb = grind (arith, nat_tests)
above_cons coding a b sense senses false q ep eq rest ha hb = grind (arith)

above : (coding : Coding) (a b : ℕ) (senses : List Sensed) → least_of coding a senses ≡ true
    → least_of coding b senses ≡ false → a < b
above coding a b [] ha hb = grind (arith)
above coding a b (sense ∷ senses) ha hb =
    above_cons coding a b sense senses (nat_le a (coding.failed sense.1))
    (nat_le b (coding.failed sense.1)) refl refl (above coding a b senses) ha hb

-- a number that isn't above another is the least where the other is
least_below : (coding : Coding) (a b : ℕ) (senses : List Sensed) → a ≤ b
    → least_of coding b senses ≡ true → least_of coding a senses ≡ true
least_below coding a b [] h hb = refl
least_below coding a b (sense ∷ senses) h hb =
    grind (arith, nat_tests, least_below coding a b senses)

-- the better one, kept over senses: the one before them, if it is the least, or the first least one
-- of them
kept_cons : (coding : Coding) (best : ℤ × ℕ) (sense : Sensed) (senses : List Sensed) (b l r : Bool)
    → nat_lt (coding.failed sense.1) best.1 ≡ b
    → least_of coding best.1 senses ≡ l → least_of coding (coding.failed sense.1) senses ≡ r
    → ((other : ℤ × ℕ) → fold (better_with coding) (Some other) senses
    ≡ cond (least_of coding other.1 senses) (Some other) (fewest coding senses))
    → fold (better_with coding) (Some (cond b (rated coding sense) best)) senses
    ≡ cond (nat_le best.1 (coding.failed sense.1) && l) (Some best)
    (cond r (Some (rated coding sense)) (fewest coding senses))
kept_cons coding best sense senses true l r eb el er rest =
    grind (arith, nat_tests, rest (rated coding sense))
kept_cons coding best sense senses false true r eb el er rest = grind (arith, nat_tests, rest best)
kept_cons coding best sense senses false false true eb el er rest =
    let not_above : best.1 ≤ coding.failed sense.1 = grind (arith, nat_tests) in
    absurd (omega (arith, above coding (coding.failed sense.1) best.1 senses er el, not_above))
kept_cons coding best sense senses false false false eb el er rest =
    grind (arith, nat_tests, rest best)

kept : (coding : Coding) (senses : List Sensed) (best : ℤ × ℕ)
    → fold (better_with coding) (Some best) senses
    ≡ cond (least_of coding best.1 senses) (Some best) (fewest coding senses)
kept coding [] best = refl
kept coding (sense ∷ senses) best =
    kept_cons coding best sense senses (nat_lt (coding.failed sense.1) best.1)
    (least_of coding best.1 senses)
    (least_of coding (coding.failed sense.1) senses) refl refl refl (kept coding senses)

-- the better one, kept over all senses
fewest_is_kept : (coding : Coding) (senses : List Sensed)
    → fold (better_with coding) None senses ≡ fewest coding senses
fewest_is_kept coding [] = refl
fewest_is_kept coding (sense ∷ senses) = kept coding senses (rated coding sense)

-- tests that agree find the same
find_same : {X : Type 0} (p q : X → Bool) → ((x : X) → p x ≡ q x) → (xs : List X)
    → find p xs ≡ find q xs
find_same p q h [] = refl
find_same p q h (x ∷ xs) = grind (arith, h x, find_same p q h xs)

-- beside a sense that isn't the least, the least ones of the others are the least of all
same_test : (coding : Coding) (sense other : Sensed) (senses : List Sensed) (l b : Bool)
    → least_of coding (coding.failed sense.1) senses ≡ false
    → least_of coding (coding.failed other.1) senses ≡ l
    → nat_le (coding.failed other.1) (coding.failed sense.1) ≡ b → (b && l) ≡ l
same_test coding sense other senses l true e el eb = refl
same_test coding sense other senses false false e el eb = refl
same_test coding sense other senses true false e el eb =
    let less : coding.failed other.1 < coding.failed sense.1 =
    above coding (coding.failed other.1) (coding.failed sense.1) senses el e in
    grind (arith, nat_tests)

-- the level of a sense that was found, and 0 where none was
abbrev level_found : Option Sensed → ℤ
level_found found = option_map_or (λ (sense : Sensed). sense.0) found (pos 0)

found_cons : (coding : Coding) (sense : Sensed) (senses : List Sensed) (l : Bool)
    → least_of coding (coding.failed sense.1) senses ≡ l
    → center_of (fewest coding senses) ≡ level_found (find (fails_fewest coding senses) senses)
    → center_of (cond l (Some (rated coding sense)) (fewest coding senses))
    ≡ level_found (cond (nat_le (coding.failed sense.1) (coding.failed sense.1) && l) (Some sense)
    (find (fails_fewest coding (sense ∷ senses)) senses))
found_cons coding sense senses true e rest =
    let is_least : nat_le (coding.failed sense.1) (coding.failed sense.1) ≡ true =
    grind (arith, nat_tests) in
    sym (ap (λ (b : Bool). level_found (cond (b && true) (Some sense)
    (find (fails_fewest coding (sense ∷ senses)) senses))) is_least)
found_cons coding sense senses false e rest =
    let no_least : (nat_le (coding.failed sense.1) (coding.failed sense.1) && false) ≡ false =
    grind (arith, nat_tests) in
    let same : find (fails_fewest coding (sense ∷ senses)) senses
    ≡ find (fails_fewest coding senses) senses =
    find_same (fails_fewest coding (sense ∷ senses)) (fails_fewest coding senses)
    (λ other. same_test coding sense other senses (least_of coding (coding.failed other.1) senses)
    (nat_le (coding.failed other.1) (coding.failed sense.1)) e refl refl)
    senses in
    rest ∙ sym (ap level_found same)
    ∙ sym (ap (λ (b : Bool). level_found (cond b (Some sense)
    (find (fails_fewest coding (sense ∷ senses)) senses))) no_least)

found_is_fewest : (coding : Coding) (senses : List Sensed)
    → center_of (fewest coding senses) ≡ level_found (find (fails_fewest coding senses) senses)
found_is_fewest coding [] = refl
found_is_fewest coding (sense ∷ senses) =
    found_cons coding sense senses (least_of coding (coding.failed sense.1) senses) refl
    (found_is_fewest coding senses)

pub best_is_kept : (coding : Coding) (senses : List (List ℕ))
    → center_of (fold (better_with coding) None (zip coding.levels senses))
    ≡ best_level coding senses
best_is_kept coding senses =
    ap center_of (fewest_is_kept coding (zip coding.levels senses))
    ∙ found_is_fewest coding (zip coding.levels senses)
