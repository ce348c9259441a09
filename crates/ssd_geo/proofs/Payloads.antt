-- Payloads, heads and serials: the proofs of the laws of specs/PageHead.antt.
use Rattle.std.proofs.Common.{◌≡◌, ℕ, zero, suc, ◌+◌, ◌-◌, ◌≤◌, ◌&&◌, Bool, true, cond, List, [], ◌∷◌, ◌++◌, length, take, drop, replicate, nat_eq, slice_range, Option, Some, None, refl, ap, sym, ◌∙◌, arith, length-append, append_assoc}
use Rattle.std.proofs.lemmas.Bool.{and_parts, cond-true}
use Rattle.std.proofs.lemmas.Bool.Decides.{nat_tests}
use Rattle.std.proofs.lemmas.Option.{cond_some}
use Rattle.std.proofs.lemmas.Slice.Eq.{starts_is}
use Rattle.std.specs.Bool.{Decides}
use Rattle.std.proofs.Math.Seq.{take-add}
use Rattle.std.proofs.lemmas.List.{length-replicate, length-drop, length-take-le, take_at, drop_at, drop-drop}
use Rattle.std.proofs.lemmas.Nat.{from_le_bytes-to_le_bytes_4, from_le_bytes-to_le_bytes_8}
use Rattle.std.specs.Int.{w32, w64, from_le_bytes, to_le_bytes}
use Rattle.std.specs.List.{starts_with}
use Rattle.ssd_geo.specs.PageHead.{are_zeros, head_of_page, PayloadsHaveTheirLength, PayloadsGiveTheirBytes, OnlyPayloadsGiveBytes, HeadsDiffer, SerialsNameTheirCalls}

-- a head has 16 bytes
pub length-head_of_page : (serial row : ℕ) → length (head_of_page serial row) ≡ 16
length-head_of_page serial row = refl

-- a payload has its length
pub payloads_have_their_length : PayloadsHaveTheirLength
payloads_have_their_length payload_length serial row bytes h =
    simp (length-append, length-replicate) (omega arith)

-- a serial fits its field, and serials tell sessions, actors and calls apart
pub serials_name_their_calls : SerialsNameTheirCalls
serials_name_their_calls session actor call s a c =
    record { fits = omega arith; of_session = omega arith; of_actor = omega arith; of_call = omega arith }

-- the test of two numbers
same_number : (a b : ℕ) → Decides (nat_eq a b) (a ≡ b)
same_number a b = (λ (e : nat_eq a b ≡ true). grind (arith, nat_tests), λ (e : a ≡ b). grind (arith, nat_tests))

-- zeros are all 0
are_zeros-replicate : (n : ℕ) → are_zeros (replicate n 0) ≡ true
are_zeros-replicate zero = refl
are_zeros-replicate (suc n) = are_zeros-replicate n

-- bytes that are all 0 are zeros
zeros_from_test : (bytes : List ℕ) → are_zeros bytes ≡ true → bytes ≡ replicate (length bytes) 0
zeros_from_test [] e = refl
zeros_from_test (byte ∷ bytes) e =
    let parts : (nat_eq byte 0 ≡ true) × (are_zeros bytes ≡ true) = and_parts (nat_eq byte 0) (are_zeros bytes) e in
    let first : byte ≡ 0 = (same_number byte 0).0 parts.0 in
    ap (λ (b : ℕ). b ∷ bytes) first ∙ ap (λ (bs : List ℕ). 0 ∷ bs) (zeros_from_test bytes parts.1)

-- the data bytes behind any head of 16 bytes
abbrev bytes_behind : List ℕ → ℕ → ℕ → List ℕ → Option (List ℕ)
bytes_behind head n d word =
    cond (starts_with nat_eq word head && are_zeros (slice_range word (16 + d) n)) (Some (slice_range word 16 (16 + d))) None

-- a word that has bytes and zeros behind the head gives the bytes
given : (head bytes rest : List ℕ) (n : ℕ) → length head ≡ 16 → 16 + length bytes ≤ n →
    bytes_behind head n (length bytes) (head ++ (bytes ++ (replicate (n - (16 + length bytes)) 0 ++ rest))) ≡ Some bytes
given head bytes rest n h l =
    let d : ℕ = length bytes in
    let zeros : List ℕ = replicate (n - (16 + d)) 0 in
    let tail : List ℕ = bytes ++ (zeros ++ rest) in
    let word : List ℕ = head ++ tail in
    let starts : starts_with nat_eq word head ≡ true =
    (starts_is same_number word head (starts_with nat_eq word head) refl).1 tail refl in
    let at_bytes : drop 16 word ≡ tail = drop_at head tail 16 h in
    let bytes_are : slice_range word 16 (16 + d) ≡ bytes =
    ap (take (16 + d - 16)) at_bytes ∙ take_at bytes (zeros ++ rest) (16 + d - 16) (omega arith) in
    let at_zeros : drop (16 + d) word ≡ zeros ++ rest =
    sym (drop-drop d 16 word) ∙ ap (drop d) at_bytes ∙ drop_at bytes (zeros ++ rest) d refl in
    let zeros_are : slice_range word (16 + d) n ≡ zeros =
    ap (take (n - (16 + d))) at_zeros ∙ take_at zeros rest (n - (16 + d)) (length-replicate (n - (16 + d)) 0) in
    let ends : are_zeros (slice_range word (16 + d) n) ≡ true =
    ap are_zeros zeros_are ∙ are_zeros-replicate (n - (16 + d)) in
    let both : (starts_with nat_eq word head && are_zeros (slice_range word (16 + d) n)) ≡ true =
    ap (λ (b : Bool). b && are_zeros (slice_range word (16 + d) n)) starts ∙ ends in
    cond-true (starts_with nat_eq word head && are_zeros (slice_range word (16 + d) n)) (Some (slice_range word 16 (16 + d))) None both
    ∙ ap Some bytes_are

-- a word that gives bytes has them, and zeros, behind the head
only_given : (head bytes word : List ℕ) (n d : ℕ) → length head ≡ 16 → 16 + d ≤ n → n ≤ length word →
    bytes_behind head n d word ≡ Some bytes →
    (length bytes ≡ d) × (take n word ≡ head ++ (bytes ++ replicate (n - (16 + d)) 0))
only_given head bytes word n d h l long e =
    let m : ℕ = n - (16 + d) in
    let tail : List ℕ = drop 16 word in
    let zeros : List ℕ = slice_range word (16 + d) n in
    let found : ((starts_with nat_eq word head && are_zeros zeros) ≡ true) × (slice_range word 16 (16 + d) ≡ bytes) =
    cond_some (starts_with nat_eq word head && are_zeros zeros) (slice_range word 16 (16 + d)) bytes e in
    let tests : (starts_with nat_eq word head ≡ true) × (are_zeros zeros ≡ true) =
    and_parts (starts_with nat_eq word head) (are_zeros zeros) found.0 in
    let front : word ≡ head ++ drop (length head) word =
    (starts_is same_number word head (starts_with nat_eq word head) refl).0 tests.0 in
    let head_is : take 16 word ≡ head =
    ap (take 16) front ∙ take_at head (drop (length head) word) 16 h in
    let bytes_are : take d tail ≡ bytes =
    ap (λ (k : ℕ). take k tail) (let k : d ≡ 16 + d - 16 = omega arith in k) ∙ found.1 in
    let rest_length : length (drop (16 + d) word) ≡ length word - (16 + d) = length-drop (16 + d) word in
    let zeros_length : length zeros ≡ m = length-take-le m (drop (16 + d) word) (omega arith) in
    let zeros_are : take m (drop d tail) ≡ replicate m 0 =
    ap (take m) (drop-drop d 16 word)
    ∙ zeros_from_test zeros tests.1
    ∙ ap (λ (k : ℕ). replicate k 0) zeros_length in
    let tail_length : length tail ≡ length word - 16 = length-drop 16 word in
    let bytes_length : length bytes ≡ d =
    sym (ap (length {A = ℕ}) bytes_are) ∙ length-take-le d tail (omega arith) in
    let whole : n ≡ 16 + (d + m) = omega arith in
    let parts : take n word ≡ head ++ (bytes ++ replicate m 0) =
    ap (λ (k : ℕ). take k word) whole
    ∙ take-add 16 (d + m) word
    ∙ ap (λ (xs : List ℕ). xs ++ take (d + m) tail) head_is
    ∙ ap (λ (xs : List ℕ). head ++ xs) (take-add d m tail)
    ∙ ap (λ (xs : List ℕ). head ++ (xs ++ take m (drop d tail))) bytes_are
    ∙ ap (λ (xs : List ℕ). head ++ (bytes ++ xs)) zeros_are in
    (bytes_length, parts)

-- a word that begins with a page's payload gives the page's data bytes
pub payloads_give_their_bytes : PayloadsGiveTheirBytes
payloads_give_their_bytes payload_length serial row bytes rest h =
    let head : List ℕ = head_of_page serial row in
    let zeros : List ℕ = replicate (payload_length - (16 + length bytes)) 0 in
    ap (bytes_behind head payload_length (length bytes))
    (append_assoc (head ++ bytes) zeros rest ∙ append_assoc head bytes (zeros ++ rest))
    ∙ given head bytes rest payload_length refl h

-- a word that gives data bytes begins with their payload
pub only_payloads_give_bytes : OnlyPayloadsGiveBytes
only_payloads_give_bytes payload_length data_length serial row bytes word h long e =
    let head : List ℕ = head_of_page serial row in
    let found : _ = only_given head bytes word payload_length data_length refl h long e in (
      found.0,
      found.1
          ∙ sym (append_assoc head bytes (replicate (payload_length - (16 + data_length)) 0))
          ∙ ap (λ (d : ℕ). head ++ bytes ++ replicate (payload_length - (16 + d)) 0) (sym found.0),
    )

-- heads tell serials and rows apart
pub heads_differ : HeadsDiffer
heads_differ serial row other_serial other_row s t r q e =
    let serials : to_le_bytes w64 serial ≡ to_le_bytes w64 other_serial = ap (take 8) e in
    let rows : to_le_bytes w32 row ≡ to_le_bytes w32 other_row = ap (λ (xs : List ℕ). take 4 (drop 8 xs)) e in (
      sym (from_le_bytes-to_le_bytes_8 serial s) ∙ ap (from_le_bytes w64) serials ∙ from_le_bytes-to_le_bytes_8 other_serial t,
      sym (from_le_bytes-to_le_bytes_4 row r) ∙ ap (from_le_bytes w32) rows ∙ from_le_bytes-to_le_bytes_4 other_row q,
    )
