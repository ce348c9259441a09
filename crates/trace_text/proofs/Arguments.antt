-- The arguments of a verb, taken word by word.
use Rattle.std.proofs.Common.{◌≡◌, refl, ap, sym, ℕ, ◌||◌, Bool, true, false, cond, List, [], ◌∷◌, Result, Ok, Err}
use Rattle.std.specs.Prelude.{bytes_eq, codes}
use Rattle.ssd_formats.specs.Fields.{◌>>=◌}
use Rattle.ssd_geo.specs.Limits.{Sizes}
use Rattle.ssd_formats.specs.InputFaults.{TraceFault}
use Rattle.ssd_formats.specs.Numbers.{Text}
use Rattle.ssd_geo.specs.declared.trace.Verb.{Verb}
use Rattle.ssd_geo.specs.declared.trace.Verb.TheVariants.{Age}
use Rattle.ssd_formats.specs.TraceText.{age_call_of, page_call_of, verb_of, write_call_of, bounded_word, ranged_word}
use Rattle.trace_text.specs.Arguments.{age_with, other_verb_of, write_with}
use Rattle.trace_text.specs.WordsLeft.{four_words, only_page_of, two_words}

pub write_is : (sizes : Sizes) (words : List Text) → write_call_of sizes words ≡ two_words words >>= (λ two. write_with sizes two.0 two.1)
write_is sizes [] = refl
write_is sizes (a ∷ []) = refl
write_is sizes (a ∷ b ∷ []) = refl
write_is sizes (a ∷ b ∷ c ∷ words) = refl

abbrev both : ℕ → ℕ → Result (ℕ × ℕ) TraceFault
both x y = Ok (x, y)

age_steps : (c d b n : Result ℕ TraceFault) → (c >>= (λ x. d >>= (λ y. b >>= (λ z. n >>= (λ m. Ok (Age x y z m)))))) ≡ ((c >>= (λ x. d >>= both x)) >>= (λ place. (b >>= (λ z. n >>= both z)) >>= (λ rest. Ok (Age place.0 place.1 rest.0 rest.1))))
age_steps (Err f) d b n = refl
age_steps (Ok x) (Err f) b n = refl
age_steps (Ok x) (Ok y) (Err f) n = refl
age_steps (Ok x) (Ok y) (Ok z) (Err f) = refl
age_steps (Ok x) (Ok y) (Ok z) (Ok m) = refl

-- what follows a value that was read
pub after : {A B F : Type 0} (first : Result A F) (value : A) (next : A → Result B F) → Ok value ≡ first → next value ≡ first >>= next
after first value next e = ap (λ r. r >>= next) e

pub age_is : (sizes : Sizes) (words : List Text) → age_call_of sizes words ≡ four_words words >>= age_with sizes
age_is sizes [] = refl
age_is sizes (a ∷ []) = refl
age_is sizes (a ∷ b ∷ []) = refl
age_is sizes (a ∷ b ∷ c ∷ []) = refl
age_is sizes (a ∷ b ∷ c ∷ d ∷ []) =
    age_steps (bounded_word sizes.channels a) (bounded_word sizes.dies b) (bounded_word sizes.superblocks c) (ranged_word 1 16383 d)
age_is sizes (a ∷ b ∷ c ∷ d ∷ e ∷ words) = refl

pub page_call_is : (call : ℕ → Verb) (sizes : Sizes) (words : List Text) → page_call_of call sizes words ≡ only_page_of sizes words >>= (λ page. Ok (call page))
page_call_is call sizes [] = refl
page_call_is call sizes (a ∷ []) = refl
page_call_is call sizes (a ∷ b ∷ words) = refl

chosen_twice : {A : Type 0} (read trim refresh : Bool) (x y z other : A) →
    cond (read || trim || refresh) (cond read x (cond trim y z)) other ≡ cond read x (cond trim y (cond refresh z other))
chosen_twice true trim refresh x y z other = refl
chosen_twice false true refresh x y z other = refl
chosen_twice false false true x y z other = refl
chosen_twice false false false x y z other = refl

pub verb_is : (sizes : Sizes) (word : Text) (words : List Text) → verb_of sizes (word ∷ words) ≡ cond (bytes_eq word (codes "write")) (write_call_of sizes words) (other_verb_of sizes word words)
verb_is sizes word words =
    ap (cond (bytes_eq word (codes "write")) (write_call_of sizes words))
    (sym (chosen_twice (bytes_eq word (codes "read")) (bytes_eq word (codes "trim")) (bytes_eq word (codes "refresh")) _ _ _ _))
