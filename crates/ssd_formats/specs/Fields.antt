-- How is a binary input read field by field, and which fault is the first? A field that isn't whole in the input is
-- short, at the number of bytes that there are; any other fault is at the first byte of what it names. Numbers stand
-- low byte first.
use Rattle.std.specs.Prelude.{ℕ, zero, suc, ◌+◌, nat_lt, Bool, true, if◌then◌else◌, List, [], ◌∷◌, ◌++◌, length, take, drop, ℤ, Option, Some, None, Result, Ok, Err}
use Rattle.std.specs.List.{list_all}
use Rattle.std.specs.Int.{Width, w16, byte_len, from_le_bytes, to_le_bytes, cast_signed, cast_unsigned}
use Rattle.ssd_formats.specs.InputFaults.{ImageFault, short, magic, range}
use Rattle.ssd_geo.specs.Limits.{is_level}

-- what is left to read: the number of bytes that stand before it, and the bytes
pub record Rest : Type 0 where
  pub place : ℕ
  pub bytes : List ℕ

-- where a fault is, and what it is
abbrev pub Fault : Type 0
Fault = ℕ × ImageFault

-- what reading gives: a value and what is left, or the first fault
abbrev pub Reading : Type 0 → Type 0
Reading A = Result (A × Rest) Fault

-- goes on with what was read, or stays at the first fault
infixl 10 ◌>>=◌
abbrev pub ◌>>=◌ : {A B F : Type 0} → Result A F → (A → Result B F) → Result B F
(Ok x) >>= next = next x
(Err fault) >>= next = Err fault

-- the next bytes, so many of them
abbrev pub bytes_field : ℕ → Rest → Reading (List ℕ)
bytes_field n rest =
    if nat_lt (length rest.bytes) n then Err (rest.place + length rest.bytes, short)
    else Ok (take n rest.bytes, record { place = rest.place + n; bytes = drop n rest.bytes })

-- a value that the bytes of a field have, or else this fault
abbrev pub found_or : {A : Type 0} → Option A → Fault → Rest → Reading A
found_or (Some value) fault rest = Ok (value, rest)
found_or None fault rest = Err fault

-- a field of so many bytes whose value is read from them; this fault where they have none
abbrev pub field_or : {A : Type 0} → Fault → ℕ → (List ℕ → Option A) → Rest → Reading A
field_or fault n value rest = bytes_field n rest >>= (λ field. found_or (value field.0) fault field.1)

-- a value where it passes a test
abbrev pub passing : {A : Type 0} → (A → Bool) → A → Option A
passing test value = if test value then Some value else None

-- a number of a width that passes a test; this fault where it doesn't
abbrev pub number_or : Fault → Width → (ℕ → Bool) → Rest → Reading ℕ
number_or fault w test rest = field_or fault (byte_len w) (λ bytes. passing test (from_le_bytes w bytes)) rest

-- a number of a width that passes a test; out of range at its own place where it doesn't
abbrev pub number_field : Width → (ℕ → Bool) → Rest → Reading ℕ
number_field w test rest = number_or (rest.place, range) w test rest

-- the number of 16 bits with a sign that two bytes spell
abbrev pub signed_of_bytes : List ℕ → ℤ
signed_of_bytes bytes = cast_signed w16 (from_le_bytes w16 bytes)

-- and the two bytes
abbrev pub bytes_of_signed : ℤ → List ℕ
bytes_of_signed n = to_le_bytes w16 (cast_unsigned w16 n)

-- the same as `number_field` of a number of 16 bits with a sign
abbrev pub signed_field : (ℤ → Bool) → Rest → Reading ℤ
signed_field test rest = field_or (rest.place, range) 2 (λ bytes. passing test (signed_of_bytes bytes)) rest

-- a text of so many bytes that passes a test
abbrev pub text_field : ℕ → (List ℕ → Bool) → Rest → Reading (List ℕ)
text_field n test rest = field_or (rest.place, magic) n (passing test) rest

-- tests of numbers
abbrev pub is_any : ℕ → Bool
is_any n = true

abbrev pub is_below : ℕ → ℕ → Bool
is_below bound n = nat_lt n bound

-- so many levels, each a field of its own, after those that were read before
unfoldable pub level_fields : ℕ → List ℤ → Rest → Reading (List ℤ)
level_fields zero before rest = Ok (before, rest)
level_fields (suc n) before rest = do
  level ← signed_field is_level rest
  level_fields n (before ++ level.0 ∷ []) level.1

-- whether numbers are bytes
abbrev pub are_bytes : List ℕ → Bool
are_bytes bytes = list_all (λ byte. nat_lt byte 256) bytes
