-- What the definitions of fields read from bytes that were consumed.
use Rattle.std.proofs.Common.{◌≡◌, ℤ, ℕ, ◌+◌, ◌<◌, List, ◌++◌, length, take, Option, None, Some, Ok, Err, Bool, true, false, refl, ap, ◌∙◌, arith, nat_lt, le-ltb, take_all, take_at, drop_at, length-take-le, append-nil, length-append}
use Rattle.std.specs.Int.{Width, byte_len, from_le_bytes}
use Rattle.std.specs.Io.KnownBytes.{Consumes, IsAtEnd}
use Rattle.ssd_formats.specs.Fields.{Fault, Reading, Rest, signed_field, signed_of_bytes, ◌>>=◌, found_or, passing, bytes_field, number_field, is_any}
use Rattle.ssd_formats.specs.InputFaults.{short, range}
use Rattle.ssd_io.specs.Told.{IsTold}
use Rattle.image_file.specs.Gives.{is_any_signed, rest_at}

-- a field that isn't whole
pub short_field : (a b : Option (List ℕ)) (place n : ℕ) (into : List ℕ) → IsTold a → n < length into → Consumes a b (take n into) → IsAtEnd b → bytes_field (length into) (rest_at place a) ≡ Err (place + n, short)
short_field None b place n into told few read end = absurd told
short_field (Some xs) None place n into told few read end = absurd read
short_field (Some xs) (Some ys) place n into told few read end =
    let all : xs ≡ take n into = read ∙ ap (λ l. take n into ++ l) end ∙ append-nil (take n into) in
    let long : length xs ≡ n = ap length all ∙ length-take-le n into (omega arith) in
    rw (long) (grind arith)

-- and one that is
pub whole_field : (a b : Option (List ℕ)) (place n : ℕ) (into : List ℕ) → IsTold a → n ≡ length into → Consumes a b (take n into) → IsTold b × (bytes_field (length into) (rest_at place a) ≡ Ok (into, rest_at (place + length into) b))
whole_field None b place n into told all read = absurd told
whole_field (Some xs) None place n into told all read = absurd read
whole_field (Some xs) (Some ys) place n into told all read =
    let split : xs ≡ into ++ ys = read ∙ ap (λ l. l ++ ys) (take_all n into (omega arith)) in
    let test : nat_lt (length (into ++ ys)) (length into) ≡ false = le-ltb _ _ (rw (length-append into ys) (omega arith)) in
    (tt, rw (split, test, take_at into ys (length into) refl, drop_at into ys (length into) refl) refl)

-- a value that is read from bytes and passes a test
abbrev pub Tested : {A : Type 0} → (List ℕ → A) → (A → Bool) → Fault → Reading (List ℕ) → Reading A
Tested value test fault reading = reading >>= (λ field. found_or (passing test (value field.0)) fault field.1)

pub value_passes : {A : Type 0} (value : List ℕ → A) (test : A → Bool) (fault : Fault) (reading : Reading (List ℕ)) (n : A) (next : Rest) → Tested value (λ _. true) fault reading ≡ Ok (n, next) → test n ≡ true → Tested value test fault reading ≡ Ok (n, next)
value_passes {A = A} value test fault (Ok field) n next read passes =
    let one : A × Rest = (value field.0, field.1) in
    let two : A × Rest = (n, next) in
    let both : one ≡ two = cc in
    let same : value field.0 ≡ n = ap (λ x. x.0) both in rw (ap test same ∙ passes) read
value_passes {A = A} value test fault (Err other) n next read passes = absurd (cc)

pub value_fails : {A : Type 0} (value : List ℕ → A) (test : A → Bool) (fault : Fault) (reading : Reading (List ℕ)) (n : A) (next : Rest) → Tested value (λ _. true) fault reading ≡ Ok (n, next) → test n ≡ false → Tested value test fault reading ≡ Err fault
value_fails {A = A} value test fault (Ok field) n next read fails =
    let one : A × Rest = (value field.0, field.1) in
    let two : A × Rest = (n, next) in
    let both : one ≡ two = cc in
    let same : value field.0 ≡ n = ap (λ x. x.0) both in rw (ap test same ∙ fails) refl
value_fails {A = A} value test fault (Err other) n next read fails = absurd (cc)

pub value_lacks : {A : Type 0} (value : List ℕ → A) (test : A → Bool) (fault other : Fault) (reading : Reading (List ℕ)) → Tested value (λ _. true) fault reading ≡ Err other → Tested value test fault reading ≡ Err other
value_lacks value test fault other (Ok field) read = absurd (cc)
value_lacks value test fault other (Err first) read = read

-- a number that passes a test
pub number_passes : (w : Width) (test : ℕ → Bool) (rest next : Rest) (n : ℕ) → number_field w is_any rest ≡ Ok (n, next) → test n ≡ true → number_field w test rest ≡ Ok (n, next)
number_passes w test rest next n read passes =
    value_passes (from_le_bytes w) test (rest.place, range) (bytes_field (byte_len w) rest) n next read passes

-- one that doesn't
pub number_fails : (w : Width) (test : ℕ → Bool) (rest next : Rest) (n : ℕ) → number_field w is_any rest ≡ Ok (n, next) → test n ≡ false → number_field w test rest ≡ Err (rest.place, range)
number_fails w test rest next n read fails =
    value_fails (from_le_bytes w) test (rest.place, range) (bytes_field (byte_len w) rest) n next read fails

-- and one that isn't there
pub number_lacks : (w : Width) (test : ℕ → Bool) (rest : Rest) (fault : Fault) → number_field w is_any rest ≡ Err fault → number_field w test rest ≡ Err fault
number_lacks w test rest fault read =
    value_lacks (from_le_bytes w) test (rest.place, range) fault (bytes_field (byte_len w) rest) read

-- the same of a number with a sign
pub signed_passes : (test : ℤ → Bool) (rest next : Rest) (n : ℤ) → signed_field is_any_signed rest ≡ Ok (n, next) → test n ≡ true → signed_field test rest ≡ Ok (n, next)
signed_passes test rest next n read passes =
    value_passes signed_of_bytes test (rest.place, range) (bytes_field 2 rest) n next read passes

pub signed_fails : (test : ℤ → Bool) (rest next : Rest) (n : ℤ) → signed_field is_any_signed rest ≡ Ok (n, next) → test n ≡ false → signed_field test rest ≡ Err (rest.place, range)
signed_fails test rest next n read fails =
    value_fails signed_of_bytes test (rest.place, range) (bytes_field 2 rest) n next read fails

pub signed_lacks : (test : ℤ → Bool) (rest : Rest) (fault : Fault) → signed_field is_any_signed rest ≡ Err fault → signed_field test rest ≡ Err fault
signed_lacks test rest fault read =
    value_lacks signed_of_bytes test (rest.place, range) fault (bytes_field 2 rest) read
