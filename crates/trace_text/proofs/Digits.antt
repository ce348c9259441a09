-- Which words are numbers, in the tests that the code makes.
use Rattle.std.proofs.Common.{◌≡◌, refl, sym, ap, ◌∙◌, ℕ, zero, suc, ◌+◌, ◌-◌, ◌*◌, ◌^◌, ◌<◌, ◌≤◌, Bool, true, false, cond, not, ◌&&◌, ◌||◌, List, [], ◌∷◌, ◌++◌, take-append-drop, length, get_or, take, drop, Some, None, Option, nat_lt, nat_eq, arith, rules}
use Rattle.std.specs.Char.{is_ascii_digit, digit_value}
use Rattle.std.specs.List.{list_all}
use Rattle.std.specs.Str.{all_ascii_digits}
use Rattle.std.specs.Str.Parse.{digits_value, digits_value_after}
use Rattle.std.proofs.lemmas.Grind.{common_steps}
use Rattle.std.proofs.lemmas.Bool.Decides.{nat_tests}
use Rattle.std.proofs.lemmas.Int.Digits.{digits_value_more}
use Rattle.trace_text.specs.Spelled.{fitting}
use Rattle.std.proofs.lemmas.Bool.{and_parts}

pub digits_are_all : (word : List ℕ) → list_all is_ascii_digit word ≡ all_ascii_digits word
digits_are_all [] = refl
digits_are_all (c ∷ cs) = ap (λ b. is_ascii_digit c && b) (digits_are_all cs)

pub digit_at : (ds : List ℕ) (i : ℕ) → all_ascii_digits ds ≡ true → i < length ds → is_ascii_digit (get_or ds i 0) ≡ true
digit_at [] i all h = absurd (omega (arith, h))
digit_at (c ∷ cs) zero all h = (and_parts (is_ascii_digit c) (all_ascii_digits cs) all).0
digit_at (c ∷ cs) (suc i) all h = digit_at cs i (and_parts (is_ascii_digit c) (all_ascii_digits cs) all).1 (omega (arith, h))

pub digit_is_within : (d : ℕ) → is_ascii_digit d ≡ true → (48 ≤ d) × (d ≤ 57)
digit_is_within d e = grind (arith, common_steps)

-- one more digit
pub digits_value_next : (ds : List ℕ) (i value : ℕ) → i < length ds → all_ascii_digits ds ≡ true → value ≡ digits_value 10 (take i ds) → digits_value 10 (take (i + 1) ds) ≡ value * 10 + (get_or ds i 0 - 48)
digits_value_next ds i value inside all is =
    let digit = digit_at ds i all inside in
    let worth : digit_value (get_or ds i 0) ≡ get_or ds i 0 - 48 = grind (arith, nat_tests) in
    rw (digits_value_more 10 ds i inside, worth, is) refl

value_grows : (n : ℕ) (ds : List ℕ) → n ≤ digits_value_after 10 n ds
value_grows n [] = omega arith
value_grows n (c ∷ cs) = let more = value_grows (n * 10 + digit_value c) cs in omega (arith, more)

value_of_more : (n : ℕ) (ds more : List ℕ) → digits_value_after 10 n (ds ++ more) ≡ digits_value_after 10 (digits_value_after 10 n ds) more
value_of_more n [] more = refl
value_of_more n (c ∷ cs) more = value_of_more (n * 10 + digit_value c) cs more

-- what the first digits spell isn't above what all spell
pub digits_value_front : (ds : List ℕ) (i : ℕ) → digits_value 10 (take i ds) ≤ digits_value 10 ds
digits_value_front ds i =
    let whole : digits_value 10 ds ≡ digits_value_after 10 (digits_value 10 (take i ds)) (drop i ds) = ap (digits_value 10) (sym (take-append-drop i ds)) ∙ value_of_more 0 (take i ds) (drop i ds) in
    rw whole (value_grows (digits_value 10 (take i ds)) (drop i ds))

pub fits : (n : ℕ) → n < 2 ^ 64 → fitting n ≡ Some n
fits n h = grind (arith, common_steps)

pub too_great : (n : ℕ) → 2 ^ 64 ≤ n → fitting n ≡ None
too_great n h = grind (arith, common_steps)

-- a number whose front doesn't fit
pub front_too_great : (ds : List ℕ) (i value : ℕ) → i < length ds → all_ascii_digits ds ≡ true → value ≡ digits_value 10 (take i ds) → 2 ^ 64 ≤ value * 10 + (get_or ds i 0 - 48) → fitting (digits_value 10 ds) ≡ None
front_too_great ds i value inside all is great =
    let next = digits_value_next ds i value inside all is in
    let front = digits_value_front ds (i + 1) in
    too_great (digits_value 10 ds) (omega (arith, next, front, great))
