-- What the levels of a page give that are read as bytes and then tested one after the other.
use Rattle.std.proofs.Common.{◌≡◌, ℕ, ℤ, zero, suc, ◌+◌, ◌-◌, ◌*◌, ◌/◌, Option, Some, None, ◌<◌, ◌≤◌, true, false, List, [], ◌∷◌, ◌++◌, length, drop, take, get_or, Ok, Err, pos, refl, sym, ap, subst, ◌∙◌, arith, length-drop, length-take-le, nat_lt, le-ltb, append_assoc, append-nil, suc-add, zero-add}
use Rattle.std.proofs.lemmas.List.{take-append-drop, take-take}
use Rattle.std.specs.List.{list_all}
use Rattle.ssd_formats.specs.Fields.{Rest, bytes_field, level_fields, signed_field, signed_of_bytes}
use Rattle.ssd_formats.specs.ImageHead.{signed_numbers}
use Rattle.ssd_formats.specs.InputFaults.{range, short}
use Rattle.ssd_geo.specs.Limits.{is_level}
use Rattle.std.specs.Io.KnownBytes.{Consumes, IsAtEnd}
use Rattle.ssd_io.specs.Told.{IsTold}
use Rattle.image_file.specs.Gives.{rest_at}
use Rattle.image_file.proofs.LevelSteps.{level_lacks, level_more, levels_end}
use Rattle.image_contents.specs.Parts.{IsFirstOutside}
use Rattle.std.proofs.lemmas.Bool.{and_parts}

-- bytes from a place on
abbrev pub from : ℕ → List ℕ → Rest
from place bytes = record { place = place; bytes = bytes }

-- two bytes are a whole field
whole_pair : (place low high : ℕ) (more : List ℕ) → bytes_field 2 (from place (low ∷ high ∷ more)) ≡ Ok (low ∷ high ∷ [], from (place + 2) more)
whole_pair place low high more =
    let test : nat_lt (suc (suc (length more))) 2 ≡ false = le-ltb _ _ (omega arith) in rw test refl

right_level : (place low high : ℕ) (more : List ℕ) → is_level (signed_of_bytes (low ∷ high ∷ [])) ≡ true → signed_field is_level (from place (low ∷ high ∷ more)) ≡ Ok (signed_of_bytes (low ∷ high ∷ []), from (place + 2) more)
right_level place low high more right = rw (whole_pair place low high more, right) refl

wrong_level : (place low high : ℕ) (more : List ℕ) → is_level (signed_of_bytes (low ∷ high ∷ [])) ≡ false → signed_field is_level (from place (low ∷ high ∷ more)) ≡ Err (place, range)
wrong_level place low high more wrong = rw (whole_pair place low high more, wrong) refl

-- fewer aren't
few_bytes : (place : ℕ) (few : List ℕ) → length few ≤ 1 → bytes_field 2 (from place few) ≡ Err (place + length few, short)
few_bytes place few h = let test : nat_lt (length few) 2 ≡ true = grind arith in rw test refl

short_level : (place : ℕ) (few : List ℕ) → length few ≤ 1 → signed_field is_level (from place few) ≡ Err (place + length few, short)
short_level place few h = rw (few_bytes place few h) refl

-- levels that pass the test, one after the other
pub levels_pass : (xs : List ℕ) (m extra place after : ℕ) (before all : List ℤ) (left : List ℕ) → length xs ≡ 2 * m
    → list_all is_level (signed_numbers xs) ≡ true → after ≡ place + 2 * m → all ≡ before ++ signed_numbers xs
    → level_fields (m + extra) before (from place (xs ++ left)) ≡ level_fields extra all (from after left)
levels_pass [] zero extra place after before all left long right at they =
    let same_place : place ≡ after = omega (arith, at) in
    let same_list : before ≡ all = sym (append-nil before) ∙ sym they in
    ap (λ (n : ℕ). level_fields n before (from place left)) (zero-add extra)
    ∙ ap (λ (p : ℕ). level_fields extra before (from p left)) same_place
    ∙ ap (λ (l : List ℤ). level_fields extra l (from after left)) same_list
levels_pass [] (suc m) extra place after before all left long right at they = absurd (omega arith)
levels_pass (low ∷ []) zero extra place after before all left long right at they = absurd (omega arith)
levels_pass (low ∷ []) (suc m) extra place after before all left long right at they = absurd (omega arith)
levels_pass (low ∷ high ∷ xs) zero extra place after before all left long right at they = absurd (omega arith)
levels_pass (low ∷ high ∷ xs) (suc m) extra place after before all left long right at they =
    let level : ℤ = signed_of_bytes (low ∷ high ∷ []) in
    let both = and_parts (is_level level) (list_all is_level (signed_numbers xs)) right in
    sym (level_more (suc m + extra) (m + extra) before (from place (low ∷ high ∷ xs ++ left)) (from (place + 2) (xs ++ left)) level (suc-add m extra)
    (right_level place low high (xs ++ left) both.0))
    ∙ levels_pass xs m extra (place + 2) after (before ++ level ∷ []) all left (omega arith) both.1 (omega arith)
    (they ∙ sym (append_assoc before (level ∷ []) (signed_numbers xs)))

-- the first that doesn't
pub levels_fail : (xs : List ℕ) (i m extra place at : ℕ) (before : List ℤ) (left : List ℕ) → length xs ≡ 2 * m → i < m
    → list_all is_level (take i (signed_numbers xs)) ≡ true → is_level (get_or (signed_numbers xs) i (pos 0)) ≡ false
    → at ≡ place + 2 * i → level_fields (m + extra) before (from place (xs ++ left)) ≡ Err (at, range)
levels_fail [] i zero extra place at before left long within right wrong here = absurd (omega arith)
levels_fail [] i (suc m) extra place at before left long within right wrong here = absurd (omega arith)
levels_fail (low ∷ []) i zero extra place at before left long within right wrong here = absurd (omega arith)
levels_fail (low ∷ []) i (suc m) extra place at before left long within right wrong here = absurd (omega arith)
levels_fail (low ∷ high ∷ xs) i zero extra place at before left long within right wrong here = absurd (omega arith)
levels_fail (low ∷ high ∷ xs) zero (suc m) extra place at before left long within right wrong here =
    let first : place ≡ at = omega (arith, here) in
    level_lacks (suc m + extra) (m + extra) before (from place (low ∷ high ∷ xs ++ left)) (place, range) (suc-add m extra)
    (wrong_level place low high (xs ++ left) wrong)
    ∙ ap (λ (n : ℕ). Err (n, range)) first
levels_fail (low ∷ high ∷ xs) (suc i) (suc m) extra place at before left long within right wrong here =
    let level : ℤ = signed_of_bytes (low ∷ high ∷ []) in
    let both = and_parts (is_level level) (list_all is_level (take i (signed_numbers xs))) right in
    sym (level_more (suc m + extra) (m + extra) before (from place (low ∷ high ∷ xs ++ left)) (from (place + 2) (xs ++ left)) level (suc-add m extra)
    (right_level place low high (xs ++ left) both.0))
    ∙ levels_fail xs i m extra (place + 2) at (before ++ level ∷ []) left (omega arith) (omega arith) both.1 wrong (omega arith)

-- the input ends within a level
pub levels_lack : (xs few : List ℕ) (m extra place at : ℕ) (before : List ℤ) → length xs ≡ 2 * m
    → list_all is_level (signed_numbers xs) ≡ true → length few ≤ 1 → at ≡ place + (2 * m + length few)
    → level_fields (m + suc extra) before (from place (xs ++ few)) ≡ Err (at, short)
levels_lack xs few m extra place at before long right some here =
    let end : at ≡ place + 2 * m + length few = omega arith in
    levels_pass xs m (suc extra) place (place + 2 * m) before (before ++ signed_numbers xs) few long right refl refl
    ∙ rw end (level_lacks (suc extra) extra (before ++ signed_numbers xs) (from (place + 2 * m) few) (place + 2 * m + length few, short) refl
    (short_level (place + 2 * m) few some))

numbers_count : (xs : List ℕ) (m : ℕ) → length xs ≡ 2 * m → length (signed_numbers xs) ≡ m
numbers_count [] m long = omega arith
numbers_count (low ∷ []) m long = absurd (omega arith)
numbers_count (low ∷ high ∷ xs) zero long = absurd (omega arith)
numbers_count (low ∷ high ∷ xs) (suc m) long = omega (arith, numbers_count xs m (omega arith))

-- the bytes of a whole page, each of whose levels passes
pub page_passes : (a b : Option (List ℕ)) (place cells : ℕ) (xs : List ℕ) → IsTold a → Consumes a b xs → length xs ≡ 2 * cells
    → list_all is_level (signed_numbers xs) ≡ true
    → IsTold b × (level_fields cells [] (rest_at place a) ≡ Ok (signed_numbers xs, rest_at (place + 2 * cells) b))
page_passes None b place cells xs told read long right = absurd told
page_passes (Some bytes) None place cells xs told read long right = absurd read
page_passes (Some bytes) (Some left) place cells xs told read long right =
    let more : cells ≡ cells + 0 = omega arith in (
      tt,
      ap (λ (l : List ℕ). level_fields cells [] (from place l)) read
          ∙ ap (λ (n : ℕ). level_fields n [] (from place (xs ++ left))) more
          ∙ levels_pass xs cells 0 place (place + 2 * cells) [] (signed_numbers xs) left long right refl refl
          ∙ levels_end 0 (signed_numbers xs) (from (place + 2 * cells) left) refl,
    )

-- a level that is whole and can't be one
pub page_fails : (a b : Option (List ℕ)) (place cells m i : ℕ) (given xs few : List ℕ) → IsTold a → Consumes a b given → given ≡ xs ++ few
    → length xs ≡ 2 * m → m ≤ cells → IsFirstOutside (signed_numbers xs) i
    → level_fields cells [] (rest_at place a) ≡ Err (place + 2 * i, range)
page_fails None b place cells m i given xs few told read split long fits first = absurd told
page_fails (Some bytes) None place cells m i given xs few told read split long fits first = absurd read
page_fails (Some bytes) (Some left) place cells m i given xs few told read split long fits first =
    let more : cells ≡ m + (cells - m) = omega (arith, fits) in
    let all : bytes ≡ xs ++ (few ++ left) = read ∙ ap (λ l. l ++ left) split ∙ append_assoc xs few left in
    let within : i < m = omega (arith, first.within, numbers_count xs m long) in
    ap (λ (l : List ℕ). level_fields cells [] (from place l)) all
    ∙ ap (λ (n : ℕ). level_fields n [] (from place (xs ++ (few ++ left)))) more
    ∙ levels_fail xs i m (cells - m) place (place + 2 * i) [] (few ++ left) long within first.before first.outside refl

-- the input ends within the page
pub page_lacks : (a b : Option (List ℕ)) (place cells m n : ℕ) (given xs few : List ℕ) → IsTold a → Consumes a b given → IsAtEnd b → given ≡ xs ++ few
    → length xs ≡ 2 * m → m < cells → length few ≤ 1 → n ≡ 2 * m + length few → list_all is_level (signed_numbers xs) ≡ true
    → level_fields cells [] (rest_at place a) ≡ Err (place + n, short)
page_lacks None b place cells m n given xs few told read end split long fits some count right = absurd told
page_lacks (Some bytes) None place cells m n given xs few told read end split long fits some count right = absurd read
page_lacks (Some bytes) (Some left) place cells m n given xs few told read end split long fits some count right =
    let more : cells ≡ m + suc (cells - (m + 1)) = omega (arith, fits) in
    let all : bytes ≡ xs ++ few = read ∙ ap (λ l. given ++ l) end ∙ append-nil given ∙ split in
    ap (λ (l : List ℕ). level_fields cells [] (from place l)) all
    ∙ ap (λ (k : ℕ). level_fields k [] (from place (xs ++ few))) more
    ∙ levels_lack xs few m (cells - (m + 1)) place (place + n) [] long right some (omega (arith, count))

-- the bytes of whole levels, and the rest of those that were given
whole_first : (n : ℕ) (bytes : List ℕ) → take n bytes ≡ take (2 * (n / 2)) bytes ++ drop (2 * (n / 2)) (take n bytes)
whole_first n bytes =
    let fits : 2 * (n / 2) ≤ n = omega arith in
    sym (take-append-drop (2 * (n / 2)) (take n bytes)) ∙ ap (λ l. l ++ drop (2 * (n / 2)) (take n bytes)) (take-take (2 * (n / 2)) n bytes fits)

-- the first bytes were given, and the levels that are whole among them were tested: each passed, and all were given
pub given_passes : (a b : Option (List ℕ)) (place cells n : ℕ) (bytes : List ℕ) → IsTold a → Consumes a b (take n bytes) → length bytes ≡ 2 * cells
    → n ≡ 2 * cells → list_all is_level (signed_numbers (take (2 * cells) bytes)) ≡ true
    → IsTold b × (level_fields cells [] (rest_at place a) ≡ Ok (signed_numbers (take (2 * cells) bytes), rest_at (place + 2 * cells) b))
given_passes a b place cells n bytes told read long all right =
    page_passes a b place cells (take (2 * cells) bytes) told (subst (λ (k : ℕ). Consumes a b (take k bytes)) all read)
    (length-take-le (2 * cells) bytes (omega arith)) right

-- one didn't
pub given_fails : (a b : Option (List ℕ)) (place cells n i : ℕ) (bytes : List ℕ) → IsTold a → Consumes a b (take n bytes) → length bytes ≡ 2 * cells
    → n ≤ length bytes → IsFirstOutside (signed_numbers (take (2 * (n / 2)) bytes)) i → level_fields cells [] (rest_at place a) ≡ Err (place + 2 * i, range)
given_fails a b place cells n i bytes told read long fits first =
    page_fails a b place cells (n / 2) i (take n bytes) (take (2 * (n / 2)) bytes) (drop (2 * (n / 2)) (take n bytes)) told read (whole_first n bytes)
    (length-take-le (2 * (n / 2)) bytes (omega arith)) (omega arith) first

-- each passed, and not all were given
pub given_lacks : (a b : Option (List ℕ)) (place cells n : ℕ) (bytes : List ℕ) → IsTold a → Consumes a b (take n bytes) → IsAtEnd b → length bytes ≡ 2 * cells
    → n < length bytes → list_all is_level (signed_numbers (take (2 * (n / 2)) bytes)) ≡ true → level_fields cells [] (rest_at place a) ≡ Err (place + n, short)
given_lacks a b place cells n bytes told read end long few right =
    let all : length (take n bytes) ≡ n = length-take-le n bytes (omega arith) in
    let left : length (drop (2 * (n / 2)) (take n bytes)) ≡ n - 2 * (n / 2) = omega (arith, length-drop (2 * (n / 2)) (take n bytes), all) in
    page_lacks a b place cells (n / 2) n (take n bytes) (take (2 * (n / 2)) bytes) (drop (2 * (n / 2)) (take n bytes)) told read end (whole_first n bytes)
    (length-take-le (2 * (n / 2)) bytes (omega arith)) (omega arith) (omega (arith, left)) (omega (arith, left)) right

-- the number of a level that can't be one is below that of the levels that were given
pub outside_within : (n i : ℕ) (bytes : List ℕ) → n ≤ length bytes → IsFirstOutside (signed_numbers (take (2 * (n / 2)) bytes)) i → i < n / 2
outside_within n i bytes fits first =
    omega (arith, first.within, numbers_count (take (2 * (n / 2)) bytes) (n / 2) (length-take-le (2 * (n / 2)) bytes (omega arith)))
