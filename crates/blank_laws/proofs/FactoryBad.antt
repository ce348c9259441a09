-- The rows of a channel fit beside the factory bad superblocks that a head lists, which are no fewer than those that are bad.
use Rattle.std.proofs.Common.{◌≡◌, ℕ, zero, suc, ◌+◌, ◌*◌, ◌-◌, ◌<◌, ◌≤◌, ◌==◌, nat_le, ◌&&◌, ◌||◌, Bool, true, false, List, [], ◌∷◌, ◌++◌, refl, sym, subst, arith}
use Rattle.std.specs.List.{list_any}
use Rattle.std.proofs.lemmas.Bool.{and_parts}
use Rattle.std.proofs.lemmas.Bool.Decides.{nat_tests}
use Rattle.std.proofs.lemmas.List.Sums.{sum_by-cons}
use Rattle.std.proofs.lemmas.Nat.{mul-le}
use Rattle.ssd_geo.specs.Limits.{Sizes, most_rows_of}
use Rattle.ssd_formats.specs.ImageHead.{are_bad_records, bad_of_channel, is_bad_record, rows_fit}
use Rattle.blank_laws.specs.BlankImages.{HeadsHaveRoom}
use Rattle.history_laws.proofs.Counting.{one, one_false}

-- fewer bad superblocks leave room for as many rows
pub rows_fit_fewer : (sizes : Sizes) (few many : ℕ) → few ≤ many → most_rows_of sizes many ≤ most_rows_of sizes few
rows_fit_fewer sizes few many le =
    mul-le ((sizes.superblocks - (2 + many)) * (sizes.dies - 1)) sizes.pages
    ((sizes.superblocks - (2 + few)) * (sizes.dies - 1)) sizes.pages
    (mul-le (sizes.superblocks - (2 + many)) (sizes.dies - 1) (sizes.superblocks - (2 + few)) (sizes.dies - 1) (omega arith)
    (omega arith)) (omega arith)

-- one more in a list is one more of its channel, and of no other
pub one_more_of : (before : List (ℕ × ℕ)) (bad : ℕ × ℕ) (channel : ℕ)
    → bad_of_channel (before ++ bad ∷ []) channel ≡ bad_of_channel before channel + one (bad.0 == channel)
one_more_of [] bad channel = omega (arith, sum_by-cons (λ (of : ℕ × ℕ). one (of.0 == channel)) bad [])
one_more_of (first ∷ before) bad channel =
    omega (
      arith,
      sum_by-cons (λ (of : ℕ × ℕ). one (of.0 == channel)) first before,
      sum_by-cons (λ (of : ℕ × ℕ). one (of.0 == channel)) first (before ++ bad ∷ []),
      one_more_of before bad channel,
    )

-- the rows fit beside a list to which records were added that leave room
rows_beside : (sizes : Sizes) (channel : ℕ) (before more : List (ℕ × ℕ))
    → sizes.rows ≤ most_rows_of sizes (bad_of_channel before channel)
    → are_bad_records sizes before more ≡ true
    → sizes.rows ≤ most_rows_of sizes (bad_of_channel before channel + bad_of_channel more channel)
rows_beside sizes channel before [] fit good =
    subst (λ (n : ℕ). sizes.rows ≤ most_rows_of sizes n) (nothing (bad_of_channel before channel)) fit
  where
    nothing : (n : ℕ) → n ≡ n + 0
    nothing n = omega arith
rows_beside sizes channel before (bad ∷ more) fit good =
    subst (λ (n : ℕ). sizes.rows ≤ most_rows_of sizes n) whole
    (rows_beside sizes channel (before ++ bad ∷ []) more
    (subst (λ (n : ℕ). sizes.rows ≤ most_rows_of sizes n) (sym (one_more_of before bad channel))
    (by_channel (bad.0 == channel) refl))
    parts.1)
  where
    parts : (is_bad_record sizes before bad ≡ true) × (are_bad_records sizes (before ++ bad ∷ []) more ≡ true)
    parts = and_parts (is_bad_record sizes before bad) (are_bad_records sizes (before ++ bad ∷ []) more) good

    room : rows_fit sizes before bad.0 ≡ true
    room = (and_parts _ (rows_fit sizes before bad.0) parts.0).1

    same_number : (bad.0 == channel) ≡ true → bad.0 ≡ channel
    same_number e = grind (arith, nat_tests)

    within : (a b : ℕ) → nat_le a b ≡ true → a ≤ b
    within a b e = grind (arith, nat_tests)

    by_channel : (b : Bool) → (bad.0 == channel) ≡ b → sizes.rows ≤ most_rows_of sizes (bad_of_channel before channel + one b)
    by_channel true here =
        subst (λ (k : ℕ). sizes.rows ≤ most_rows_of sizes (bad_of_channel before k + 1)) (same_number here)
        (within sizes.rows (most_rows_of sizes (bad_of_channel before bad.0 + 1)) room)
    by_channel false there =
        subst (λ (n : ℕ). sizes.rows ≤ most_rows_of sizes n) (nothing (bad_of_channel before channel)) fit
      where
        nothing : (n : ℕ) → n ≡ n + 0
        nothing n = omega arith

    whole : bad_of_channel (before ++ bad ∷ []) channel + bad_of_channel more channel ≡ bad_of_channel before channel
        + bad_of_channel (bad ∷ more) channel
    whole = omega (arith, one_more_of before bad channel, sum_by-cons (λ (of : ℕ × ℕ). one (of.0 == channel)) bad more)

-- so it is for the whole list of a head
pub heads_have_room : HeadsHaveRoom
heads_have_room head channel is_head =
    subst (λ (n : ℕ). head.sizes.rows ≤ most_rows_of head.sizes n) (from_none (bad_of_channel head.bad channel))
    (rows_beside head.sizes channel [] head.bad
    (within head.sizes.rows (most_rows_of head.sizes 0)
    (and_parts (nat_le 1 head.sizes.rows) (nat_le head.sizes.rows (most_rows_of head.sizes 0)) is_head.rows).1)
    is_head.bad)
  where
    from_none : (n : ℕ) → 0 + n ≡ n
    from_none n = omega arith

    within : (a b : ℕ) → nat_le a b ≡ true → a ≤ b
    within a b e = grind (arith, nat_tests)

-- whether a list has a superblock of a channel
abbrev pub lists : List (ℕ × ℕ) → ℕ → ℕ → Bool
lists bads channel sb = list_any (λ bad. bad.0 == channel && bad.1 == sb) bads

-- how many of the first superblocks a list has
abbrev pub listed_below : List (ℕ × ℕ) → ℕ → ℕ → ℕ
listed_below bads channel zero = 0
listed_below bads channel (suc n) = listed_below bads channel n + one (lists bads channel n)

-- an empty list has none
none_listed : (channel n : ℕ) → listed_below [] channel n ≡ 0
none_listed channel zero = refl
none_listed channel (suc n) = omega (arith, none_listed channel n)

-- how many of the first superblocks are one of a channel
abbrev is_below : ℕ × ℕ → ℕ → ℕ → ℕ
is_below bad channel zero = 0
is_below bad channel (suc n) = is_below bad channel n + one (bad.0 == channel && bad.1 == n)

-- none where it comes later, or is another channel's, and else one
not_yet : (bad : ℕ × ℕ) (channel n : ℕ) → n ≤ bad.1 → is_below bad channel n ≡ 0
not_yet bad channel zero le = refl
not_yet bad channel (suc n) le = omega (
  arith,
  not_yet bad channel n (omega arith),
  one_false (bad.0 == channel && bad.1 == n)
      (other (bad.0 == channel) bad.1 n (omega arith)),
)
  where
    other : (b : Bool) (a k : ℕ) → k < a → (b && a == k) ≡ false
    other b a k lt = grind (arith, nat_tests)

at_most_one : (bad : ℕ × ℕ) (channel n : ℕ) → is_below bad channel n ≤ one (bad.0 == channel)
at_most_one bad channel zero = omega arith
at_most_one bad channel (suc n) = by_test (bad.1 == n) refl (at_most_one bad channel n)
  where
    same_number : (bad.1 == n) ≡ true → bad.1 ≡ n
    same_number e = grind (arith, nat_tests)

    when : (b c : Bool) → c ≡ false → one (b && c) ≡ 0
    when true c e = one_false c e
    when false c e = refl

    most : (b c : Bool) → one (b && c) ≤ one b
    most true true = omega arith
    most true false = omega arith
    most false c = omega arith

    by_test : (b : Bool) → (bad.1 == n) ≡ b → is_below bad channel n ≤ one (bad.0 == channel)
        → is_below bad channel n + one (bad.0 == channel && bad.1 == n) ≤ one (bad.0 == channel)
    by_test true here before = omega
        (arith, not_yet bad channel n (omega (arith, same_number here)), most (bad.0 == channel) (bad.1 == n))
    by_test false there before = omega (arith, before, when (bad.0 == channel) (bad.1 == n) there)

-- a list has at most as many superblocks of a channel as it has records of it
one_list_more : (bad : ℕ × ℕ) (bads : List (ℕ × ℕ)) (channel n : ℕ)
    → listed_below (bad ∷ bads) channel n ≤ is_below bad channel n + listed_below bads channel n
one_list_more bad bads channel zero = omega arith
one_list_more bad bads channel (suc n) =
    omega (arith, one_list_more bad bads channel n, either (bad.0 == channel && bad.1 == n) (lists bads channel n))
  where
    either : (a b : Bool) → one (a || b) ≤ one a + one b
    either true b = omega arith
    either false b = omega arith

-- so it is for each list
pub few_listed : (bads : List (ℕ × ℕ)) (channel n : ℕ) → listed_below bads channel n ≤ bad_of_channel bads channel
few_listed [] channel n = omega (arith, none_listed channel n)
few_listed (bad ∷ bads) channel n =
    omega (
      arith,
      one_list_more bad bads channel n,
      at_most_one bad channel n,
      few_listed bads channel n,
      sum_by-cons (λ (of : ℕ × ℕ). one (of.0 == channel)) bad bads,
    )
