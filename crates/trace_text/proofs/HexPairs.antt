-- What pairs of hexadecimal digits spell, pair by pair.
use Rattle.std.proofs.Common.{◌≡◌, refl, sym, ap, ◌∙◌, ℕ, zero, suc, ◌+◌, ◌-◌, ◌*◌, ◌/◌, ◌%◌, ◌<◌, ◌≤◌, Bool, true, false, cond, List, [], ◌∷◌, ◌++◌, length, get_or, take, drop, append_assoc, append-nil, length-append, drop-cons, Some, None, Option, nat_le, arith, rules}
use Rattle.std.specs.Prelude.{option_and_then, option_map}
use Rattle.std.proofs.Math.ListN.{drop_of_length-le}
use Rattle.std.proofs.lemmas.Grind.{common_steps}
use Rattle.ssd_formats.specs.Numbers.{Text, hex_digit, bytes_of_hex}
use Rattle.ssd_formats.specs.TraceText.{listed_content}
use Rattle.ssd_geo.specs.declared.trace.Content.{Content}
use Rattle.ssd_geo.specs.declared.trace.Content.TheVariants.{Listed}
use Rattle.trace_text.proofs.Results.{mapped_from, then_from}

-- the bytes of two digits, which may be none, and of what follows them
abbrev pub pair_then : Option ℕ → Option ℕ → Option (List ℕ) → Option (List ℕ)
pair_then high low rest = option_and_then (λ h. option_and_then (λ l. option_map (λ bytes. (h * 16 + l) ∷ bytes) rest) low) high

pair_goes_on : (high low : Option ℕ) (byte : ℕ) (rest : Option (List ℕ)) → Some (byte ∷ []) ≡ pair_then high low (Some []) → pair_then high low rest ≡ option_map (λ bytes. byte ∷ bytes) rest
pair_goes_on None low byte rest e = absurd (cc)
pair_goes_on (Some h) None byte rest e = absurd (cc)
pair_goes_on (Some h) (Some l) byte rest e =
    let is : h * 16 + l ≡ byte = cc in ap (λ n. option_map (λ bytes. n ∷ bytes) rest) is

pair_stops : (high low : Option ℕ) (rest : Option (List ℕ)) → None ≡ pair_then high low (Some []) → pair_then high low rest ≡ None
pair_stops None low rest e = refl
pair_stops (Some h) None rest e = refl
pair_stops (Some h) (Some l) rest e = absurd (cc)

two_digits : (digits : List ℕ) (at : ℕ) → at + 1 < length digits → drop at digits ≡ get_or digits at 0 ∷ get_or digits (at + 1) 0 ∷ drop (at + 2) digits
two_digits digits at inside =
    let first : drop at digits ≡ get_or digits at 0 ∷ drop (suc at) digits = drop-cons digits at 0 (omega (arith, inside)) in
    let second : drop (suc at) digits ≡ get_or digits (suc at) 0 ∷ drop (suc (suc at)) digits = drop-cons digits (suc at) 0 (omega (arith, inside)) in
    let behind : suc (suc at) ≡ at + 2 = omega arith in
    let next : suc at ≡ at + 1 = omega arith in
    first ∙ ap (λ l. get_or digits at 0 ∷ l) (second ∙ (ap (λ n. get_or digits (suc at) 0 ∷ drop n digits) behind ∙ ap (λ n. get_or digits n 0 ∷ drop (at + 2) digits) next))

mapped_twice : (list : List ℕ) (byte : ℕ) (found : Option (List ℕ)) → option_map (λ rest. list ++ rest) (option_map (λ bytes. byte ∷ bytes) found) ≡ option_map (λ rest. (list ++ byte ∷ []) ++ rest) found
mapped_twice list byte None = refl
mapped_twice list byte (Some rest) = ap Some (sym (append_assoc list (byte ∷ []) rest))

-- one more pair after those that were read
pub pair_is_read : (digits list : List ℕ) (i byte : ℕ) → 2 * i + 1 < length digits → Some (byte ∷ []) ≡ bytes_of_hex (get_or digits (2 * i) 0 ∷ get_or digits (2 * i + 1) 0 ∷ [])
    → bytes_of_hex digits ≡ option_map (λ rest. list ++ rest) (bytes_of_hex (drop (2 * i) digits))
    → bytes_of_hex digits ≡ option_map (λ rest. (list ++ byte ∷ []) ++ rest) (bytes_of_hex (drop (2 * (i + 1)) digits))
pair_is_read digits list i byte inside pair read =
    let behind : 2 * i + 2 ≡ 2 * (i + 1) = omega arith in
    let further = bytes_of_hex (drop (2 * i + 2) digits) in
    let step : bytes_of_hex (drop (2 * i) digits) ≡ option_map (λ bytes. byte ∷ bytes) further =
    ap bytes_of_hex (two_digits digits (2 * i) inside) ∙ pair_goes_on (hex_digit (get_or digits (2 * i) 0)) (hex_digit (get_or digits (2 * i + 1) 0)) byte further pair in
    read ∙ (ap (option_map (λ rest. list ++ rest)) step ∙ (mapped_twice list byte further
    ∙ ap (λ n. option_map (λ rest. (list ++ byte ∷ []) ++ rest) (bytes_of_hex (drop n digits))) behind))

-- a pair that isn't one
pub pair_is_wrong : (most : ℕ) (digits list : List ℕ) (i : ℕ) → 2 * i + 1 < length digits → None ≡ bytes_of_hex (get_or digits (2 * i) 0 ∷ get_or digits (2 * i + 1) 0 ∷ [])
    → bytes_of_hex digits ≡ option_map (λ rest. list ++ rest) (bytes_of_hex (drop (2 * i) digits))
    → listed_content most digits ≡ None
pair_is_wrong most digits list i inside pair read =
    let stop : bytes_of_hex (drop (2 * i) digits) ≡ None = ap bytes_of_hex (two_digits digits (2 * i) inside) ∙ pair_stops (hex_digit (get_or digits (2 * i) 0)) (hex_digit (get_or digits (2 * i + 1) 0)) (bytes_of_hex (drop (2 * i + 2) digits)) pair in
    let none : bytes_of_hex digits ≡ None = read ∙ ap (option_map (λ rest. list ++ rest)) stop in
    ap (option_and_then (λ bytes. cond (nat_le (length bytes) most) (Some (Listed bytes)) None)) none

-- pairs have as many digits
pub hex_length : (digits bytes : List ℕ) → bytes_of_hex digits ≡ Some bytes → length digits ≡ 2 * length bytes
hex_length [] bytes e = let is : [] ≡ bytes = cc in rw (← is) refl
hex_length (high ∷ []) bytes e = absurd (cc)
hex_length (high ∷ low ∷ further) bytes e =
    let h = then_from (hex_digit high) (λ x. option_and_then (λ y. option_map (λ zs. (x * 16 + y) ∷ zs) (bytes_of_hex further)) (hex_digit low)) bytes e in
    let l = then_from (hex_digit low) (λ y. option_map (λ zs. (h.0 * 16 + y) ∷ zs) (bytes_of_hex further)) bytes h.2 in
    let rest = mapped_from (bytes_of_hex further) (λ zs. (h.0 * 16 + l.0) ∷ zs) bytes l.2 in
    let fewer = hex_length further rest.0 rest.1 in
    let longer : length ((h.0 * 16 + l.0) ∷ rest.0) ≡ length bytes = ap length rest.2 in
    omega (arith, fewer, longer)

lacks_by : (most : ℕ) (digits : List ℕ) (found : Option (List ℕ)) → bytes_of_hex digits ≡ found → ((bytes : List ℕ) → found ≡ Some bytes → most < length bytes) → listed_content most digits ≡ None
lacks_by most digits None e long = ap (option_and_then (λ bytes. cond (nat_le (length bytes) most) (Some (Listed bytes)) None)) e
lacks_by most digits (Some bytes) e long =
    let more = long bytes refl in
    let test : nat_le (length bytes) most ≡ false = grind (arith, common_steps) in
    ap (option_and_then (λ bytes. cond (nat_le (length bytes) most) (Some (Listed bytes)) None)) e ∙ ap (λ b. cond b (Some (Listed bytes)) None) test

pub odd_lacks : (most : ℕ) (digits : List ℕ) → length digits % 2 ≡ 1 → listed_content most digits ≡ None
odd_lacks most digits odd =
    lacks_by most digits (bytes_of_hex digits) refl (λ bytes e. let even = hex_length digits bytes e in absurd (omega (arith, even, odd)))

pub long_lacks : (most : ℕ) (digits : List ℕ) → most < length digits / 2 → listed_content most digits ≡ None
long_lacks most digits long =
    lacks_by most digits (bytes_of_hex digits) refl (λ bytes e. let even = hex_length digits bytes e in omega (arith, even, long))

-- all pairs were read
pub all_are_read : (most : ℕ) (digits list : List ℕ) (i : ℕ) → length digits ≤ 2 * i → length list ≤ most
    → bytes_of_hex digits ≡ option_map (λ rest. list ++ rest) (bytes_of_hex (drop (2 * i) digits))
    → listed_content most digits ≡ Some (Listed list)
all_are_read most digits list i all few read =
    let whole : bytes_of_hex digits ≡ Some list = read ∙ (ap (λ l. option_map (λ rest. list ++ rest) (bytes_of_hex l)) (drop_of_length-le digits all) ∙ ap Some (append-nil list)) in
    let test : nat_le (length list) most ≡ true = grind (arith, common_steps) in
    ap (option_and_then (λ bytes. cond (nat_le (length bytes) most) (Some (Listed bytes)) None)) whole ∙ ap (λ b. cond b (Some (Listed list)) None) test
