-- Which numbers words spell, as the library reads them.
use Rattle.std.proofs.Common.{◌≡◌, refl, sym, ap, ◌∙◌, ℕ, ◌^◌, ◌<◌, Bool, true, false, cond, ◌&&◌}
use Rattle.std.proofs.Common.{nat_lt, [], ◌∷◌, length, Some, None, Result, Ok, Err, arith}
use Rattle.std.specs.Result.{OkIff, result_ok}
use Rattle.std.specs.Str.{all_ascii_digits}
use Rattle.std.specs.Str.Parse.{ParsesUnsigned, digits_value}
use Rattle.std.proofs.lemmas.Grind.{common_steps}
use Rattle.std.proofs.lemmas.Str.Parse.{IsNumeralModel, numerals_by_value, parse_digits}
use Rattle.std.proofs.lemmas.Str.Parse.{tells_all_ascii_digits}
use Rattle.ssd_formats.specs.KindOfWords.{number_64}
use Rattle.ssd_formats.specs.Numbers.{Text, is_number}
use Rattle.ssd_formats.proofs.NumberLaws.{number_is_spelled, own}

fits : (n : ℕ) → n < 2 ^ 64 → cond (nat_lt n (2 ^ 64)) (Some n) None ≡ Some n
fits n h = grind (arith, common_steps)

too_great : (n : ℕ) → (n < 2 ^ 64 → ⊥) → cond (nat_lt n (2 ^ 64)) (Some n) None ≡ None
too_great n h = grind (arith, common_steps)

parsed_value : {E : Type 0} (n long : ℕ) (parsed : Result ℕ E) → 0 < long →
    OkIff parsed ((0 < long) × (n < 2 ^ 64)) n →
    result_ok parsed ≡ cond (nat_lt n (2 ^ 64)) (Some n) None
parsed_value n long (Ok x) some is = ap Some is.1 ∙ sym (fits n is.0.1)
parsed_value n long (Err e) some is = sym (too_great n (λ small. is (some, small)))

-- what the library reads from a word that is spelled as a number
pub parsed_number : {E : Type 0} (word : Text) (parsed : Result ℕ E) → is_number word ≡ true →
    ParsesUnsigned 64 10 word parsed → result_ok parsed ≡ number_64 word
parsed_number word parsed e is =
    let digits = number_is_spelled word e in
    let value = parse_digits own 64 word parsed is digits.0 in
    let read = parsed_value (digits_value 10 word) (length word) parsed digits.1 value in
    rw e read
