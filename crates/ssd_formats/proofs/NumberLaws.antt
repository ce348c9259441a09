-- Numbers are read from their texts, and have no other text.
use Rattle.std.proofs.Common.{◌≡◌, refl, ℕ, zero, suc, ◌+◌, ◌*◌, ◌/◌, ◌%◌, ◌^◌, ◌<◌, Bool, true, false, cond, List, [], ◌∷◌, length, arith, ap, ◌∙◌, sym, get_or}
use Rattle.std.specs.Prelude.{Some, None, option_map, decimal, ℤ, pos, negsuc, unsigned_abs, All}
use Rattle.std.specs.Fmt.{signed_decimal, digit_glyph}
use Rattle.std.specs.Str.{IsUtf8, all_ascii_digits}
use Rattle.std.specs.Str.Parse.{digits_value}
use Rattle.std.proofs.lemmas.Fmt.{IsAscii-from_digits, decimal_nonempty, first_decimal, digits_decimal, digits_value-decimal, decimal_digit, decimal-digits_value}
use Rattle.std.proofs.lemmas.Str.{IsUtf8-from_ascii}
use Rattle.std.proofs.lemmas.Str.Parse.{IsNumeralModel, numerals_by_value, tells_all_ascii_digits}
use Rattle.std.proofs.lemmas.List.Elements.{All-head, All-tail}
use Rattle.std.proofs.lemmas.Grind.{common_steps}
use Rattle.ssd_formats.specs.Numbers.{is_number, number_of_text, signed_of_text, hex_digit, bytes_of_hex, hex_of_bytes}
use Rattle.std.proofs.lemmas.Option.{cond_some}

pub own : IsNumeralModel (λ ds. all_ascii_digits ds ≡ true) (digits_value 10)
own = numerals_by_value _ tells_all_ascii_digits

spelled_is_number : (ds : List ℕ) → all_ascii_digits ds ≡ true → 0 < length ds → (get_or ds 0 0 ≡ 48 → length ds ≡ 1) → is_number ds ≡ true
spelled_is_number [] a b h = grind (arith, common_steps)
spelled_is_number (c ∷ cs) a b h = grind (arith, common_steps)

pub number_is_spelled : (ds : List ℕ) → is_number ds ≡ true → (all_ascii_digits ds ≡ true) × (0 < length ds) × (get_or ds 0 0 ≡ 48 → length ds ≡ 1)
number_is_spelled [] a = grind (arith, common_steps)
number_is_spelled (c ∷ cs) a = grind (arith, common_steps)

pub number_is_utf8 : (word : List ℕ) → is_number word ≡ true → IsUtf8 word
number_is_utf8 word e = IsUtf8-from_ascii word (IsAscii-from_digits word (own.to word (number_is_spelled word e).0))

first_of_decimal : (n : ℕ) → n < 2 ^ 64 → get_or (decimal n) 0 0 ≡ 48 → length (decimal n) ≡ 1
first_of_decimal zero h e = ap length (decimal_digit 0 (omega arith))
first_of_decimal (suc n) h e =
    let above : 48 < get_or (decimal (suc n)) 0 0 = first_decimal (suc n) (omega arith) h in
    absurd (omega (arith, above, e))

spelled_is_read : (ds : List ℕ) → is_number ds ≡ true → number_of_text ds ≡ Some (digits_value 10 ds)
spelled_is_read ds e = rw e refl

pub decimal_is_number : (n : ℕ) → n < 2 ^ 64 → is_number (decimal n) ≡ true
decimal_is_number n h =
    spelled_is_number (decimal n) (digits_decimal own n h) (decimal_nonempty n h) (first_of_decimal n h)

pub decimal_is_read : (n : ℕ) → n < 2 ^ 64 → number_of_text (decimal n) ≡ Some n
decimal_is_read n h =
    spelled_is_read (decimal n) (decimal_is_number n h) ∙ ap Some (digits_value-decimal own n h)

pub number_has_one_text : (text : List ℕ) (n : ℕ) → n < 2 ^ 64 → number_of_text text ≡ Some n → text ≡ decimal n
number_has_one_text text n h e =
    let both : (is_number text ≡ true) × (digits_value 10 text ≡ n) = cond_some (is_number text) (digits_value 10 text) n e in
    let spelled : (all_ascii_digits text ≡ true) × (0 < length text) × (get_or text 0 0 ≡ 48 → length text ≡ 1) = number_is_spelled text both.0 in
    let small : digits_value 10 text < 2 ^ 64 = omega (arith, both.1, h) in
    sym (decimal-digits_value own text spelled.0 spelled.1 spelled.2 small) ∙ ap decimal both.1

unsigned_text : (ds : List ℕ) → is_number ds ≡ true → signed_of_text ds ≡ option_map pos (number_of_text ds)
unsigned_text [] e = grind (arith, common_steps)
unsigned_text (c ∷ cs) e = grind (arith, common_steps)

pub signed_is_read : (n : ℤ) → unsigned_abs n < 2 ^ 63 → signed_of_text (signed_decimal n) ≡ Some n
signed_is_read (pos n) h =
    unsigned_text (decimal n) (decimal_is_number n (omega (arith, h))) ∙ ap (option_map pos) (decimal_is_read n (omega (arith, h)))
signed_is_read (negsuc n) h = rw (decimal_is_read (suc n) (omega (arith, h))) (grind (arith, common_steps))

hex_digit_is_read : (d : ℕ) → d < 16 → hex_digit (digit_glyph false d) ≡ Some d
hex_digit_is_read d h = grind (arith, common_steps)

byte_of_digits : (b : ℕ) → b / 16 * 16 + b % 16 ≡ b
byte_of_digits b = omega arith

pub hex_is_read : (bytes : List ℕ) → All (λ byte. byte < 256) bytes → bytes_of_hex (hex_of_bytes bytes) ≡ Some bytes
hex_is_read [] h = refl
hex_is_read (b ∷ bytes) h =
    let small : b < 256 = All-head (λ byte. byte < 256) b bytes h in
    let high : hex_digit (digit_glyph false (b / 16)) ≡ Some (b / 16) = hex_digit_is_read (b / 16) (omega (arith, small)) in
    let low : hex_digit (digit_glyph false (b % 16)) ≡ Some (b % 16) = hex_digit_is_read (b % 16) (omega arith) in
    let others : bytes_of_hex (hex_of_bytes bytes) ≡ Some bytes = hex_is_read bytes (All-tail (λ byte. byte < 256) b bytes h) in
    rw (high, low, others) (ap (λ c. Some (c ∷ bytes)) (byte_of_digits b))
