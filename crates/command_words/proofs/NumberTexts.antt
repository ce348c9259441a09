-- Which texts are numbers, as the library reads them, and which of those are in a range.
use Rattle.std.proofs.Common.{◌≡◌, refl, sym, ap, ◌∙◌, ℕ, ◌^◌, ◌<◌, Bool, true, false, cond, ◌&&◌, nat_lt, if◌then◌else◌, [], ◌∷◌, length, Option, Some, None, Result, Ok, Err, arith, option_and_then}
use Rattle.std.specs.Result.{OkIff, result_ok}
use Rattle.std.specs.Str.{all_ascii_digits}
use Rattle.std.specs.Str.Parse.{ParsesUnsigned, digits_value}
use Rattle.std.proofs.lemmas.Grind.{common_steps}
use Rattle.std.proofs.lemmas.Str.Parse.{parse_digits}
use Rattle.ssd_formats.proofs.NumberLaws.{number_is_spelled, own}
use Rattle.ssd_formats.specs.Numbers.{Text, is_number, number_below, number_of_text}

fits : (n bound : ℕ) → n < bound → cond (nat_lt n bound) (Some n) None ≡ Some n
fits n bound h = grind (arith, common_steps)

is_too_great : (n bound : ℕ) → (n < bound → ⊥) → cond (nat_lt n bound) (Some n) None ≡ None
is_too_great n bound h = grind (arith, common_steps)

parsed_or_none : {E : Type 0} (n long : ℕ) (parsed : Result ℕ E) → 0 < long → OkIff parsed ((0 < long) × (n < 2 ^ 32)) n →
    result_ok parsed ≡ cond (nat_lt n (2 ^ 32)) (Some n) None
parsed_or_none n long (Ok x) some is = ap Some is.1 ∙ sym (fits n (2 ^ 32) is.0.1)
parsed_or_none n long (Err e) some is = sym (is_too_great n (2 ^ 32) (λ small. is (some, small)))

-- what the library reads from a text that is spelled as a number
pub parsed_is_number : {E : Type 0} (text : Text) (parsed : Result ℕ E) → is_number text ≡ true → ParsesUnsigned 32 10 text parsed →
    result_ok parsed ≡ number_below (2 ^ 32) text
parsed_is_number text parsed e is =
    let digits = number_is_spelled text e in
    let read = parse_digits own 32 text parsed is digits.0 in
    rw e (parsed_or_none (digits_value 10 text) (length text) parsed digits.1 read)

-- a number that passes a test
abbrev pub passing : (ℕ → Bool) → Option ℕ → Option ℕ
passing test n = option_and_then (λ n. if test n then Some n else None) n

tested_number : (test : ℕ → Bool) (bound n : ℕ) (b : Bool) → test n ≡ b → (test n ≡ true → n < bound) →
    passing test (cond (nat_lt n bound) (Some n) None) ≡ passing test (Some n)
tested_number test bound n true e small = ap (passing test) (fits n bound (small e))
tested_number test bound n false e small =
    elim (nat_lt n bound) as (λ v. passing test (cond v (Some n) None) ≡ passing test (Some n)) [ true ↦ refl | false ↦ sym (rw e refl) ]

tested_option : (test : ℕ → Bool) (bound : ℕ) → ((n : ℕ) → test n ≡ true → n < bound) → (read : Option ℕ) →
    passing test (option_and_then (λ n. if nat_lt n bound then Some n else None) read) ≡ passing test read
tested_option test bound small None = refl
tested_option test bound small (Some n) = tested_number test bound n (test n) refl (small n)

-- a test that only numbers below a bound pass says the same of the number below the bound
pub tested_below : (test : ℕ → Bool) (bound : ℕ) → ((n : ℕ) → test n ≡ true → n < bound) → (text : Text) →
    passing test (number_below bound text) ≡ passing test (number_of_text text)
tested_below test bound small text = tested_option test bound small (number_of_text text)
