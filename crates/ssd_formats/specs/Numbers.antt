-- How does a number stand in a text, and which texts are numbers? A number is `0`, or decimal digits without a leading
-- zero; one below 0 has `-` before its digits; a byte is two hexadecimal digits, the high one first. So each has one
-- spelling. The rule is this project's own; the digits are those that the standard library prints.
use Rattle.std.specs.Prelude.{◌≡◌, ℕ, ◌+◌, ◌-◌, ◌*◌, ◌/◌, ◌%◌, ◌^◌, ◌<◌, ◌==◌, nat_lt, nat_le, Bool, false, ◌&&◌, ◌||◌, not, if◌then◌else◌, List, [], ◌∷◌, length, flat_map, Option, Some, None, option_map, option_and_then, ℤ, pos, neg_ℤ, unsigned_abs, decimal, All}
use Rattle.std.specs.Fmt.{digit_glyph, signed_decimal}
use Rattle.std.specs.Str.{all_ascii_digits}
use Rattle.std.specs.Str.Parse.{digits_value}

-- a text: the list of its bytes
abbrev pub Text : Type 0
Text = List ℕ

-- whether a byte is a decimal digit
abbrev pub is_digit : ℕ → Bool
is_digit byte = nat_le 48 byte && nat_le byte 57

-- whether a text is `0`, or decimal digits without a leading zero
abbrev pub is_number : Text → Bool
is_number [] = false
is_number (first ∷ further) = all_ascii_digits (first ∷ further) && (not (first == 48) || length further == 0)

-- the number that a text spells, if it spells one
abbrev pub number_of_text : Text → Option ℕ
number_of_text text = if is_number text then Some (digits_value 10 text) else None

-- the number that a text spells, if it is below a bound
abbrev pub number_below : ℕ → Text → Option ℕ
number_below bound text = option_and_then (λ n. if nat_lt n bound then Some n else None) (number_of_text text)

-- the number below 0 that the digits after a `-` spell: `-0` is none
abbrev pub negative_of_digits : Text → Option ℤ
negative_of_digits digits = option_and_then (λ n. if n == 0 then None else Some (neg_ℤ (pos n))) (number_of_text digits)

-- the whole number that a text spells, if it spells one
abbrev pub signed_of_text : Text → Option ℤ
signed_of_text [] = None
signed_of_text (first ∷ further) =
    if first == 45 then negative_of_digits further else option_map pos (number_of_text (first ∷ further))

-- a byte as two lower-case hexadecimal digits
abbrev pub hex_of_byte : ℕ → Text
hex_of_byte byte = digit_glyph false (byte / 16) ∷ digit_glyph false (byte % 16) ∷ []

-- bytes in hexadecimal, one after the other
abbrev pub hex_of_bytes : List ℕ → Text
hex_of_bytes bytes = flat_map hex_of_byte bytes

-- the value of a lower-case hexadecimal digit, if it is one
abbrev pub hex_digit : ℕ → Option ℕ
hex_digit byte =
    if is_digit byte then Some (byte - 48) else if nat_le 97 byte && nat_le byte 102 then Some (byte - 87) else None

-- the bytes that pairs of hexadecimal digits spell, if a text is such pairs
abbrev pub bytes_of_hex : Text → Option (List ℕ)
bytes_of_hex [] = Some []
bytes_of_hex (high ∷ []) = None
bytes_of_hex (high ∷ low ∷ further) =
    option_and_then (λ h. option_and_then (λ l. option_map (λ bytes. (h * 16 + l) ∷ bytes) (bytes_of_hex further)) (hex_digit low))
    (hex_digit high)

-- a number in digits is read as itself
abbrev pub DecimalIsRead : Type 0
DecimalIsRead = (n : ℕ) → n < 2 ^ 64 → number_of_text (decimal n) ≡ Some n

-- a text that is read as a number is what that number prints
abbrev pub NumberHasOneText : Type 0
NumberHasOneText = (text : Text) (n : ℕ) → n < 2 ^ 64 → number_of_text text ≡ Some n → text ≡ decimal n

-- a number that may be below 0 is read as itself
abbrev pub SignedIsRead : Type 0
SignedIsRead = (n : ℤ) → unsigned_abs n < 2 ^ 63 → signed_of_text (signed_decimal n) ≡ Some n

-- bytes in hexadecimal are read as themselves
abbrev pub HexIsRead : Type 0
HexIsRead = (bytes : List ℕ) → All (λ byte. byte < 256) bytes → bytes_of_hex (hex_of_bytes bytes) ≡ Some bytes
