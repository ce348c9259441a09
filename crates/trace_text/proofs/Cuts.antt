-- Where a list is cut at the first element that passes a test.
use Rattle.std.proofs.Common.{◌≡◌, refl, sym, ap, ◌∙◌, ℕ, suc, ◌+◌, ◌-◌, ◌<◌, ◌≤◌, Bool, true, false, cond, not, List, [], ◌∷◌, length, get_or, take, drop, Err, Some, None, Option, nat_lt, arith, rules, All}
use Rattle.std.specs.List.{slice_split, onto_first, position, position_or_len, prefix_len}
use Rattle.std.proofs.lemmas.List.Splits.{length-slice_split, slice_split-cons_no, slice_split_first}
use Rattle.std.proofs.lemmas.Grind.{common_steps}
use Rattle.ssd_formats.specs.InputFaults.{form}
use Rattle.ssd_formats.specs.Lines.{is_space, words_in}
use Rattle.ssd_formats.specs.Numbers.{Text}
use Rattle.trace_text.specs.WordsLeft.{only_word}
use Rattle.std.proofs.lemmas.Option.{cond_some}
use Rattle.shared_lemmas.proofs.Tests.{not_passed}

-- the first part ends there, and the others are those of what stands behind
pub cut_at_first : (p : ℕ → Bool) (xs : List ℕ) (at : ℕ) → position p xs ≡ Some at → slice_split p xs ≡ take at xs ∷ slice_split p (drop (at + 1) xs)
cut_at_first p xs at e =
    let both = cond_some (nat_lt (position_or_len p xs) (length xs)) (position_or_len p xs) at e in
    let inside : position_or_len p xs < length xs = let b = both.0 in grind (arith, common_steps) in
    slice_split_first p xs 0 inside ∙ ap (λ n. take n xs ∷ slice_split p (drop (n + 1) xs)) both.1

none_step : (p : ℕ → Bool) (x : ℕ) (xs : List ℕ) (b : Bool) → p x ≡ b → suc (length xs) ≤ position_or_len p (x ∷ xs) → (length xs ≤ position_or_len p xs → slice_split p xs ≡ xs ∷ []) → slice_split p (x ∷ xs) ≡ (x ∷ xs) ∷ []
none_step p x xs true e h rest =
    let none : position_or_len p (x ∷ xs) ≡ 0 = rw e refl in absurd (omega (arith, none, h))
none_step p x xs false e h rest =
    let more : position_or_len p (x ∷ xs) ≡ 1 + position_or_len p xs = rw e refl in
    slice_split-cons_no p x xs e ∙ ap (onto_first x) (rest (omega (arith, more, h)))

none_passes : (p : ℕ → Bool) (xs : List ℕ) → length xs ≤ position_or_len p xs → slice_split p xs ≡ xs ∷ []
none_passes p [] h = refl
none_passes p (x ∷ xs) h = none_step p x xs (p x) refl h (none_passes p xs)

-- where no element passes, all is one part
pub cut_nowhere : (p : ℕ → Bool) (xs : List ℕ) → position p xs ≡ None → slice_split p xs ≡ xs ∷ []
cut_nowhere p xs e =
    let no = not_passed (nat_lt (position_or_len p xs) (length xs)) (position_or_len p xs) e in
    let outside : length xs ≤ position_or_len p xs = grind (arith, common_steps) in none_passes p xs outside

two_words : (word : Text) (words : List Text) → 0 < length words → only_word (word ∷ words) ≡ Err form
two_words word [] h = absurd (omega (arith, h))
two_words word (next ∷ words) h = refl

-- a text has a word, be it an empty one
pub more_than_one : (word text : Text) → only_word (word ∷ words_in text) ≡ Err form
more_than_one word text = two_words word (words_in text) (omega (arith, length-slice_split is_space text))
