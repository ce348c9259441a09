-- A field that was written is read again, whatever follows.
use Rattle.std.proofs.Common.{◌≡◌, refl, ℕ, ◌+◌, ◌^◌, ◌<◌, Bool, true, false, List, ◌++◌, length, arith, ap, ◌∙◌}
use Rattle.std.specs.Prelude.{Option, Some, nat_lt, ℤ, pos, negsuc, Result, Ok, FitsSigned}
use Rattle.std.specs.Int.{w8, w16, w32, w64, to_le_bytes, from_le_bytes, cast_signed, cast_unsigned}
use Rattle.std.proofs.lemmas.Nat.{from_le_bytes-to_le_bytes_2, from_le_bytes-to_le_bytes_4, from_le_bytes-to_le_bytes_8}
use Rattle.std.proofs.Math.Seq.{take-append_seam, drop-append_seam}
use Rattle.std.proofs.lemmas.List.{length-append}
use Rattle.std.proofs.lemmas.Int.{to_z-of_z}
use Rattle.std.proofs.lemmas.Grind.{common_steps}
use Rattle.ssd_formats.specs.Fields.{Rest, Fault, ◌>>=◌, bytes_field, found_or, field_or, passing, number_or, signed_field, signed_of_bytes, bytes_of_signed}
use Rattle.ssd_formats.specs.InputFaults.{range}

-- goes on after what was read
pub goes_on : {A B F : Type 0} (read : Result A F) (x : A) (next : A → Result B F) → read ≡ Ok x → (read >>= next) ≡ next x
goes_on read x next e = ap (λ r. r >>= next) e

whole_front : (xs ys : List ℕ) → nat_lt (length (xs ++ ys)) (length xs) ≡ false
whole_front xs ys =
    let longer : length (xs ++ ys) ≡ length xs + length ys = length-append xs ys in grind (arith, common_steps)

pub bytes_again : (place : ℕ) (xs ys : List ℕ) → bytes_field (length xs) (record { place = place; bytes = xs ++ ys }) ≡ Ok (xs, record { place = place + length xs; bytes = ys })
bytes_again place xs ys = rw (whole_front xs ys, take-append_seam xs ys, drop-append_seam xs ys) refl

-- a field whose bytes have this value
pub field_again : {A : Type 0} (fault : Fault) (value : List ℕ → Option A) (x : A) (place : ℕ) (xs ys : List ℕ) → value xs ≡ Some x →
    field_or fault (length xs) value (record { place = place; bytes = xs ++ ys }) ≡ Ok (x, record { place = place + length xs; bytes = ys })
field_again fault value x place xs ys e =
    let rest : Rest = record { place = place + length xs; bytes = ys } in
    goes_on (bytes_field (length xs) (record { place = place; bytes = xs ++ ys })) (xs, rest) (λ field. found_or (value field.0) fault field.1) (bytes_again place xs ys)
    ∙ ap (λ found. found_or found fault rest) e

pub passes : {A : Type 0} (test : A → Bool) (x y : A) → x ≡ y → test y ≡ true → passing test x ≡ Some y
passes test x y e h = ap (passing test) e ∙ rw h refl

pub number_again_8 : (fault : Fault) (test : ℕ → Bool) (n place : ℕ) (ys : List ℕ) → n < 2 ^ 8 → test n ≡ true →
    number_or fault w8 test (record { place = place; bytes = to_le_bytes w8 n ++ ys }) ≡ Ok (n, record { place = place + 1; bytes = ys })
number_again_8 fault test n place ys h t =
    field_again fault (λ bytes. passing test (from_le_bytes w8 bytes)) n place (to_le_bytes w8 n) ys
    (passes test (from_le_bytes w8 (to_le_bytes w8 n)) n (omega (arith, h)) t)

pub number_again_16 : (fault : Fault) (test : ℕ → Bool) (n place : ℕ) (ys : List ℕ) → n < 2 ^ 16 → test n ≡ true →
    number_or fault w16 test (record { place = place; bytes = to_le_bytes w16 n ++ ys }) ≡ Ok (n, record { place = place + 2; bytes = ys })
number_again_16 fault test n place ys h t =
    field_again fault (λ bytes. passing test (from_le_bytes w16 bytes)) n place (to_le_bytes w16 n) ys
    (passes test (from_le_bytes w16 (to_le_bytes w16 n)) n (from_le_bytes-to_le_bytes_2 n h) t)

pub number_again_32 : (fault : Fault) (test : ℕ → Bool) (n place : ℕ) (ys : List ℕ) → n < 2 ^ 32 → test n ≡ true →
    number_or fault w32 test (record { place = place; bytes = to_le_bytes w32 n ++ ys }) ≡ Ok (n, record { place = place + 4; bytes = ys })
number_again_32 fault test n place ys h t =
    field_again fault (λ bytes. passing test (from_le_bytes w32 bytes)) n place (to_le_bytes w32 n) ys
    (passes test (from_le_bytes w32 (to_le_bytes w32 n)) n (from_le_bytes-to_le_bytes_4 n h) t)

pub number_again_64 : (fault : Fault) (test : ℕ → Bool) (n place : ℕ) (ys : List ℕ) → n < 2 ^ 64 → test n ≡ true →
    number_or fault w64 test (record { place = place; bytes = to_le_bytes w64 n ++ ys }) ≡ Ok (n, record { place = place + 8; bytes = ys })
number_again_64 fault test n place ys h t =
    field_again fault (λ bytes. passing test (from_le_bytes w64 bytes)) n place (to_le_bytes w64 n) ys
    (passes test (from_le_bytes w64 (to_le_bytes w64 n)) n (from_le_bytes-to_le_bytes_8 n h) t)

unsigned_small : (n : ℤ) → FitsSigned w16 n → cast_unsigned w16 n < 2 ^ 16
unsigned_small (pos n) h = omega (arith, h)
unsigned_small (negsuc n) h = omega arith

-- a level as two bytes
pub signed_numbers_again : (n : ℤ) → FitsSigned w16 n → signed_of_bytes (bytes_of_signed n) ≡ n
signed_numbers_again n h =
    let bytes : from_le_bytes w16 (to_le_bytes w16 (cast_unsigned w16 n)) ≡ cast_unsigned w16 n = from_le_bytes-to_le_bytes_2 (cast_unsigned w16 n) (unsigned_small n h) in
    ap (cast_signed w16) bytes ∙ to_z-of_z w16 n h

pub signed_again : (test : ℤ → Bool) (n : ℤ) (place : ℕ) (ys : List ℕ) → FitsSigned w16 n → test n ≡ true →
    signed_field test (record { place = place; bytes = bytes_of_signed n ++ ys }) ≡ Ok (n, record { place = place + 2; bytes = ys })
signed_again test n place ys h t =
    field_again (place, range) (λ bytes. passing test (signed_of_bytes bytes)) n place (bytes_of_signed n) ys
    (passes test (signed_of_bytes (bytes_of_signed n)) n (signed_numbers_again n h) t)
