-- The levels at which a ladder asks for senses are ones that a text spells: read levels, and those of soft senses around them.
use Rattle.std.proofs.Common.{ℕ, zero, suc, ◌≡◌, ◌+◌, ◌*◌, ◌≤◌, nat_lt, Bool, true, false, cond, List, [], ◌∷◌, length, ℤ, pos, negsuc, zip, drop, take, Option, Some, None, arith}
use Rattle.std.specs.Prelude.{find, slice_index_or, int_le, ◌+ℤ◌, ◌-ℤ◌, ◌≤ℤ◌, ⊤}
use Rattle.std.specs.List.{list_all}
use Rattle.std.specs.Option.{option_map_or}
use Rattle.std.proofs.lemmas.Bool.{and_from, and_parts}
use Rattle.std.proofs.lemmas.Int.{ints}
use Rattle.ssd_formats.specs.ImageHead.{is_short}
use Rattle.ssd_geo.specs.Bits.{bytes_sum}
use Rattle.ssd_geo.specs.Coding.{Coding}
use Rattle.ssd_geo.specs.Ladder.{LadderState, PlaceState, asks, best_level, fails_fewest, found, hard_work, ladder_over, missed, other_places, place_work, recovered, soft_levels, soft_work, stripe_work, uncorrectable, wants, PageState, none_kept, page_decoded, partly, whole}
use Rattle.ssd_geo.specs.Limits.{is_level}
use Rattle.ssd_geo.specs.Stripe.{place_of_slot}
use Rattle.ssd_geo.specs.StripeSum.{zero_word}
use Rattle.ssd_geo.specs.declared.look.Look.{Look}
use Rattle.ssd_geo.specs.declared.place.Place.{Place}

-- a level with others around it
record IsMild (level : ℤ) : Type 0 where
  low : negsuc 16383 ≤ℤ level
  high : level ≤ℤ pos 16383

le_of : (a b : ℤ) → int_le a b ≡ true → a ≤ℤ b
le_of a b e = grind (arith, ints)

le_is : (a b : ℤ) → a ≤ℤ b → int_le a b ≡ true
le_is a b h = grind (arith, ints)

is_mild : (level : ℤ) → is_level level ≡ true → IsMild level
is_mild level is =
    let parts = and_parts (int_le (negsuc 16383) level) (int_le level (pos 16383)) is in
    record { low = le_of (negsuc 16383) level parts.0; high = le_of level (pos 16383) parts.1 }

short_of : (level : ℤ) → negsuc 32767 ≤ℤ level → level ≤ℤ pos 32767 → is_short level ≡ true
short_of level low high =
    and_from (int_le (negsuc 32767) level) (int_le level (pos 32767)) (le_is (negsuc 32767) level low) (le_is level (pos 32767) high)

mild_is_short : (level : ℤ) → IsMild level → is_short level ≡ true
mild_is_short level mild =
    let low = mild.low in
    let high = mild.high in
    short_of level (omega (arith, ints, low)) (omega (arith, ints, high))

module _ (step : ℕ) (small : step ≤ 2047) (center : ℤ) (mild : IsMild center) where
  below : (off : ℕ) → off ≤ 4094 → is_short (center -ℤ pos off) ≡ true
  below off le =
      let low = mild.low in
      let high = mild.high in
      short_of (center -ℤ pos off) (omega (arith, ints, low, le)) (omega (arith, ints, high, le))

  above : (off : ℕ) → off ≤ 4094 → is_short (center +ℤ pos off) ≡ true
  above off le =
      let low = mild.low in
      let high = mild.high in
      short_of (center +ℤ pos off) (omega (arith, ints, low, le)) (omega (arith, ints, high, le))

  soft_is_short : (n : ℕ) → is_short (slice_index_or (soft_levels step center) n center) ≡ true
  soft_is_short zero = below (2 * step) (omega arith)
  soft_is_short (suc zero) = below step (omega arith)
  soft_is_short (suc (suc zero)) = mild_is_short center mild
  soft_is_short (suc (suc (suc zero))) = above step (omega arith)
  soft_is_short (suc (suc (suc (suc zero)))) = above (2 * step) (omega arith)
  soft_is_short (suc (suc (suc (suc (suc n))))) = mild_is_short center mild

-- the work on a place wants, and a ladder asks for, such a level alone
abbrev WantsShort : PlaceState → Type 0
WantsShort (wants level) = is_short level ≡ true
WantsShort (found rung word left) = ⊤
WantsShort (missed left) = ⊤

abbrev pub AsksShort : LadderState → Type 0
AsksShort (asks place level) = is_short level ≡ true
AsksShort (recovered rung word) = ⊤
AsksShort uncorrectable = ⊤

-- the best level is a read level, or 0 where there is none
best_is_mild : (test : ℤ × List ℕ → Bool) (levels : List ℤ) (senses : List (List ℕ)) → list_all is_level levels ≡ true →
    IsMild (option_map_or (λ (sense : ℤ × List ℕ). sense.0) (find test (zip levels senses)) (pos 0))
best_is_mild test [] senses all = record { low = omega (arith, ints); high = omega (arith, ints) }
best_is_mild test (level ∷ levels) [] all = record { low = omega (arith, ints); high = omega (arith, ints) }
best_is_mild test (level ∷ levels) (sense ∷ senses) all =
    let parts = and_parts (is_level level) (list_all is_level levels) all in
    by_test (test (level, sense)) (is_mild level parts.0) (best_is_mild test levels senses parts.1)
  where
    by_test : (b : Bool) → IsMild level → IsMild (option_map_or (λ (sense : ℤ × List ℕ). sense.0) (find test (zip levels senses)) (pos 0)) →
        IsMild (option_map_or (λ (found : ℤ × List ℕ). found.0) (cond b (Some (level, sense)) (find test (zip levels senses))) (pos 0))
    by_test true here there = here
    by_test false here there = there

module _ (coding : Coding) (are_levels : list_all is_level coding.levels ≡ true) (small : coding.step ≤ 2047) where
  decided : (state : PageState) (rung : ℕ) (left : List (List ℕ)) (after : List (Option (List ℕ)) → PlaceState) →
      ((kept : List (Option (List ℕ))) → WantsShort (after kept)) →
      WantsShort (elim state [ whole word ↦ found rung word left | partly now ↦ after now ])
  decided (whole word) rung left after short = tt
  decided (partly now) rung left after short = short now

  soft_short : (accepts : List ℕ → Bool) (center : ℤ) → IsMild center → (kept : List (Option (List ℕ))) (senses : List (List ℕ)) →
      WantsShort (soft_work coding accepts center kept senses)
  soft_short accepts center mild kept senses = by_test (nat_lt (length senses) 5)
    where
      by_test : (b : Bool) → WantsShort (elim b [
        | true ↦ wants (slice_index_or (soft_levels coding.step center) (length senses) center)
        | false ↦ elim (page_decoded coding accepts (coding.soft (take 5 senses)) kept) [
          | whole word ↦ found (length coding.levels) word (drop 5 senses)
          | partly now ↦ missed (drop 5 senses)
        ]
      ])
      by_test true = soft_is_short coding.step small center mild (length senses)
      by_test false =
          decided (page_decoded coding accepts (coding.soft (take 5 senses)) kept) (length coding.levels) (drop 5 senses)
          (λ now. missed (drop 5 senses)) (λ now. tt)

  hard_short : (accepts : List ℕ → Bool) (after : List (Option (List ℕ)) → List (List ℕ) → PlaceState) →
      ((kept : List (Option (List ℕ))) (senses : List (List ℕ)) → WantsShort (after kept senses)) →
      (levels : List ℤ) → list_all is_level levels ≡ true → (rung : ℕ) (kept : List (Option (List ℕ))) (senses : List (List ℕ)) →
      WantsShort (hard_work coding accepts after levels rung kept senses)
  hard_short accepts after short [] all rung kept senses = short kept senses
  hard_short accepts after short (level ∷ levels) all rung kept [] =
      mild_is_short level (is_mild level (and_parts (is_level level) (list_all is_level levels) all).0)
  hard_short accepts after short (level ∷ levels) all rung kept (sense ∷ senses) =
      decided (page_decoded coding accepts (coding.hard sense) kept) rung senses
      (λ now. hard_work coding accepts after levels (rung + 1) now senses)
      (λ now. hard_short accepts after short levels (and_parts (is_level level) (list_all is_level levels) all).1 (rung + 1) now senses)

  place_short : (accepts : List ℕ → Bool) (senses : List (List ℕ)) → WantsShort (place_work coding accepts senses)
  place_short accepts senses =
      hard_short accepts (soft_work coding accepts (best_level coding senses))
      (soft_short accepts (best_level coding senses) (best_is_mild (fails_fewest coding (zip coding.levels senses)) coding.levels senses are_levels))
      coding.levels are_levels 0 (none_kept coding) senses

  sum_short : (sum : List ℕ) (b : Bool) →
      AsksShort (elim b [ true ↦ recovered (length coding.levels + 1) sum | false ↦ uncorrectable ])
  sum_short sum true = tt
  sum_short sum false = tt

  on_found : (accepts : List ℕ → Bool) (place : Place) (places : List Place) (sum : List ℕ) →
      ((more : List ℕ) (left : List (List ℕ)) → AsksShort (stripe_work coding accepts places more left)) →
      (state : PlaceState) → WantsShort state → AsksShort (elim state [
        | wants level ↦ asks place level
        | found rung word left ↦ stripe_work coding accepts places (bytes_sum sum word) left
        | missed left ↦ uncorrectable
      ])
  on_found accepts place places sum rest (wants level) short = short
  on_found accepts place places sum rest (found rung word left) short = rest (bytes_sum sum word) left
  on_found accepts place places sum rest (missed left) short = tt

  stripe_short : (accepts : List ℕ → Bool) (places : List Place) (sum : List ℕ) (senses : List (List ℕ)) →
      AsksShort (stripe_work coding accepts places sum senses)
  stripe_short accepts [] sum senses = sum_short sum (accepts sum)
  stripe_short accepts (place ∷ places) sum senses =
      on_found accepts place places sum (stripe_short accepts places) (place_work coding (λ word. true) senses)
      (place_short (λ word. true) senses)

  closed_short : (accepts : List ℕ → Bool) (others : List Place) (closed : Bool) (left : List (List ℕ)) →
      AsksShort (elim closed [ true ↦ stripe_work coding accepts others (zero_word coding.word_bytes) left | false ↦ uncorrectable ])
  closed_short accepts others true left = stripe_short accepts others (zero_word coding.word_bytes) left
  closed_short accepts others false left = tt

  page_short : (accepts : List ℕ → Bool) (place : Place) (others : List Place) (closed : Bool) (state : PlaceState) → WantsShort state →
      AsksShort (elim state [
        | wants level ↦ asks place level
        | found rung word left ↦ recovered rung word
        | missed left ↦ elim closed [ true ↦ stripe_work coding accepts others (zero_word coding.word_bytes) left | false ↦ uncorrectable ]
      ])
  page_short accepts place others closed (wants level) short = short
  page_short accepts place others closed (found rung word left) short = tt
  page_short accepts place others closed (missed left) short = closed_short accepts others closed left

  pub ladder_asks_short : (dies : ℕ) (look : Option Look) (senses : List (List ℕ)) → AsksShort (ladder_over coding dies look senses)
  ladder_asks_short dies None senses = tt
  ladder_asks_short dies (Some look) senses =
      page_short (coding.has_head look.serial look.row) (place_of_slot dies look.slot)
      (other_places dies (place_of_slot dies look.slot)) look.closed
      (place_work coding (coding.has_head look.serial look.row) senses)
      (place_short (coding.has_head look.serial look.row) senses)
