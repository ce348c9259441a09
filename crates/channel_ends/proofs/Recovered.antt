-- A word that a ladder recovers is made of codewords that were found: what holds of each of those, and of what they are joined
-- and added up to, holds of the word.
use Rattle.std.proofs.Common.{◌≡◌, refl, ap, ◌∙◌, ℕ, zero, suc, ◌+◌, ◌<◌, ◌≤◌, nat_lt, Bool, true, false, List, [], ◌∷◌, length, drop, take, replicate, get_or, Option, Some, None, option_map, ℤ, arith}
use Rattle.std.specs.Prelude.{IsTrue, ⊤}
use Rattle.std.proofs.lemmas.List.{length-replicate}
use Rattle.ssd_geo.specs.Bits.{bytes_sum}
use Rattle.ssd_geo.specs.Coding.{Coding}
use Rattle.ssd_geo.specs.Ladder.{LadderState, PageState, PlaceState, all_kept, asks, best_level, found, hard_work, is_recovered, kept_with, ladder, ladder_over, missed, none_kept, other_places, page_accepted, page_decoded, partly, place_work, recovered, soft_levels, soft_work, stripe_work, uncorrectable, wants, whole, word_recovered}
use Rattle.ssd_geo.specs.Stripe.{place_of_slot}
use Rattle.ssd_geo.specs.StripeSum.{zero_word}
use Rattle.ssd_geo.specs.declared.look.Look.{Look}
use Rattle.ssd_geo.specs.declared.place.Place.{Place}

-- this holds of each of a list
abbrev pub Each : (List ℕ → Type 0) → List (List ℕ) → Type 0
Each P [] = ⊤
Each P (word ∷ words) = P word × Each P words

each_dropped : (P : List ℕ → Type 0) (n : ℕ) (words : List (List ℕ)) → Each P words → Each P (drop n words)
each_dropped P zero words h = h
each_dropped P (suc n) [] h = h
each_dropped P (suc n) (word ∷ words) h = each_dropped P n words h.1

-- what holds of a sense gives what holds of the codewords that are found from it, and that gives what holds of a page's word
pub record Makes (coding : Coding) (Sense Code Word : List ℕ → Type 0) : Type 0 where
  pub hard :
      (sense : List ℕ) (f : ℕ) (code : List ℕ) → Sense sense → f < coding.words → coding.hard sense f ≡ Some code → Code code
  pub soft : (senses : List (List ℕ)) (f : ℕ) (code : List ℕ) → f < coding.words → coding.soft senses f ≡ Some code → Code code
  pub joined : (codes : List (List ℕ)) → length codes ≡ coding.words → Each Code codes → Word (coding.joined codes)
  pub none : Word (zero_word coding.word_bytes)
  pub sum : (sum word : List ℕ) → Word sum → Word word → Word (bytes_sum sum word)

-- the codewords that are kept
abbrev Kept : (List ℕ → Type 0) → List (Option (List ℕ)) → Type 0
Kept Code [] = ⊤
Kept Code (None ∷ kept) = Kept Code kept
Kept Code (Some code ∷ kept) = Code code × Kept Code kept

none_are_kept : (Code : List ℕ → Type 0) (n : ℕ) → Kept Code (replicate n None)
none_are_kept Code zero = tt
none_are_kept Code (suc n) = none_are_kept Code n

one_kept : (Code : List ℕ → Type 0) (finds : Option (List ℕ)) (kept : List (Option (List ℕ)))
    → ((code : List ℕ) → finds ≡ Some code → Code code) → Kept Code kept → Kept Code (finds ∷ kept)
one_kept Code None kept each h = h
one_kept Code (Some code) kept each h = (each code refl, h)

kept_are : (Code : List ℕ → Type 0) (finds : ℕ → Option (List ℕ)) (words f : ℕ) (kept : List (Option (List ℕ)))
    → ((k : ℕ) (code : List ℕ) → k < words → finds k ≡ Some code → Code code) → f + length kept ≤ words → Kept Code kept
    → Kept Code (kept_with finds f kept)
kept_are Code finds words f [] each few h = tt
kept_are Code finds words f (Some code ∷ kept) each few h =
    (h.0, kept_are Code finds words (f + 1) kept each (omega (arith, few)) h.1)
kept_are Code finds words f (None ∷ kept) each few h =
    one_kept Code (finds f) (kept_with finds (f + 1) kept) (λ code e. each f code (omega (arith, few)) e)
    (kept_are Code finds words (f + 1) kept each (omega (arith, few)) h)

as_many_kept : (finds : ℕ → Option (List ℕ)) (f : ℕ) (kept : List (Option (List ℕ))) → length (kept_with finds f kept) ≡ length kept
as_many_kept finds f [] = refl
as_many_kept finds f (Some code ∷ kept) = ap suc (as_many_kept finds (f + 1) kept)
as_many_kept finds f (None ∷ kept) = ap suc (as_many_kept finds (f + 1) kept)

-- all of them, where all are kept
abbrev AllOf : (List ℕ → Type 0) → ℕ → Option (List (List ℕ)) → Type 0
AllOf Code n None = ⊤
AllOf Code n (Some codes) = (length codes ≡ n) × Each Code codes

one_more : (Code : List ℕ → Type 0) (code : List ℕ) (n : ℕ) (codes : Option (List (List ℕ))) → Code code → AllOf Code n codes
    → AllOf Code (suc n) (option_map (λ (others : List (List ℕ)). code ∷ others) codes)
one_more Code code n None own h = tt
one_more Code code n (Some codes) own h = (ap suc h.0, (own, h.1))

all_are : (Code : List ℕ → Type 0) (kept : List (Option (List ℕ))) → Kept Code kept → AllOf Code (length kept) (all_kept kept)
all_are Code [] h = (refl, tt)
all_are Code (None ∷ kept) h = tt
all_are Code (Some code ∷ kept) h = one_more Code code (length kept) (all_kept kept) h.0 (all_are Code kept h.1)

module _ (coding : Coding) (Sense Code Word : List ℕ → Type 0) (makes : Makes coding Sense Code Word) where
  abbrev AreKept : List (Option (List ℕ)) → Type 0
  AreKept kept = (length kept ≡ coding.words) × Kept Code kept

  abbrev PageHas : PageState → Type 0
  PageHas (whole word) = Word word
  PageHas (partly kept) = AreKept kept

  abbrev PlaceHas : PlaceState → Type 0
  PlaceHas (wants level) = ⊤
  PlaceHas (found rung word left) = Word word × Each Sense left
  PlaceHas (missed left) = Each Sense left

  abbrev LadderHas : LadderState → Type 0
  LadderHas (asks place level) = ⊤
  LadderHas (recovered rung word) = Word word
  LadderHas uncorrectable = ⊤

  none_kept_are : AreKept (none_kept coding)
  none_kept_are = (length-replicate coding.words None, none_are_kept Code coding.words)

  accepted : (accepts : List ℕ → Bool) (kept : List (Option (List ℕ))) (codes : Option (List (List ℕ))) → AreKept kept
      → AllOf Code coding.words codes → PageHas (page_accepted coding accepts kept codes)
  accepted accepts kept None are all = are
  accepted accepts kept (Some codes) are all = by_test (accepts (coding.joined codes))
    where
      by_test : (b : Bool)
          → PageHas (elim b [ true ↦ whole (coding.joined codes) | false ↦ partly (none_kept coding) ])
      by_test true = makes.joined codes all.0 all.1
      by_test false = none_kept_are

  decoded : (accepts : List ℕ → Bool) (finds : ℕ → Option (List ℕ)) (kept : List (Option (List ℕ)))
      → ((k : ℕ) (code : List ℕ) → k < coding.words → finds k ≡ Some code → Code code) → AreKept kept
      → PageHas (page_decoded coding accepts finds kept)
  decoded accepts finds kept each are =
      let now : List (Option (List ℕ)) = kept_with finds 0 kept in
      let many : length now ≡ coding.words = as_many_kept finds 0 kept ∙ are.0 in
      let held : Kept Code now = kept_are Code finds coding.words 0 kept each (omega (arith, are.0)) are.1 in
      accepted accepts now (all_kept now) (many, held) (of_number (length now) coding.words (all_kept now) many (all_are Code now held))
    where
      of_number : (m n : ℕ) (codes : Option (List (List ℕ))) → m ≡ n → AllOf Code m codes → AllOf Code n codes
      of_number m n None e h = h
      of_number m n (Some codes) e h = (h.0 ∙ e, h.1)

  soft_has : (accepts : List ℕ → Bool) (center : ℤ) (kept : List (Option (List ℕ))) (senses : List (List ℕ)) → AreKept kept
      → Each Sense senses → PlaceHas (soft_work coding accepts center kept senses)
  soft_has accepts center kept senses are each =
      by_test (nat_lt (length senses) 5)
      (decoded accepts (coding.soft (take 5 senses)) kept (λ k code low e. makes.soft (take 5 senses) k code low e) are)
    where
      by_page : (page : PageState) → PageHas page
          → PlaceHas (elim page [
            | whole word ↦ found (length coding.levels) word (drop 5 senses)
            | partly now ↦ missed (drop 5 senses)
          ])
      by_page (whole word) h = (h, each_dropped Sense 5 senses each)
      by_page (partly now) h = each_dropped Sense 5 senses each

      by_test : (b : Bool) → PageHas (page_decoded coding accepts (coding.soft (take 5 senses)) kept)
          → PlaceHas (elim b [
            | true ↦ wants (get_or (soft_levels coding.step center) (length senses) center)
            | false ↦ elim (page_decoded coding accepts (coding.soft (take 5 senses)) kept) [
              | whole word ↦ found (length coding.levels) word (drop 5 senses)
              | partly now ↦ missed (drop 5 senses)
            ]
          ])
      by_test true h = tt
      by_test false h = by_page (page_decoded coding accepts (coding.soft (take 5 senses)) kept) h

  hard_has : (accepts : List ℕ → Bool) (after : List (Option (List ℕ)) → List (List ℕ) → PlaceState)
      → ((kept : List (Option (List ℕ))) (senses : List (List ℕ)) → AreKept kept → Each Sense senses → PlaceHas (after kept senses))
      → (levels : List ℤ) (rung : ℕ) (kept : List (Option (List ℕ))) (senses : List (List ℕ)) → AreKept kept → Each Sense senses
      → PlaceHas (hard_work coding accepts after levels rung kept senses)
  hard_has accepts after then [] rung kept senses are each = then kept senses are each
  hard_has accepts after then (level ∷ levels) rung kept [] are each = tt
  hard_has accepts after then (level ∷ levels) rung kept (sense ∷ senses) are each =
      by_page (page_decoded coding accepts (coding.hard sense) kept)
      (decoded accepts (coding.hard sense) kept (λ k code low e. makes.hard sense k code each.0 low e) are)
      (λ now held. hard_has accepts after then levels (rung + 1) now senses held each.1)
    where
      by_page : (page : PageState) → PageHas page
          → ((now : List (Option (List ℕ))) → AreKept now → PlaceHas (hard_work coding accepts after levels (rung + 1) now senses))
          → PlaceHas (elim page [
            | whole word ↦ found rung word senses
            | partly now ↦ hard_work coding accepts after levels (rung + 1) now senses
          ])
      by_page (whole word) h more = (h, each.1)
      by_page (partly now) h more = more now h

  place_has : (accepts : List ℕ → Bool) (senses : List (List ℕ)) → Each Sense senses → PlaceHas (place_work coding accepts senses)
  place_has accepts senses each =
      hard_has accepts (soft_work coding accepts (best_level coding senses))
      (λ kept left are rest. soft_has accepts (best_level coding senses) kept left are rest)
      coding.levels 0 (none_kept coding) senses none_kept_are each

  stripe_has : (accepts : List ℕ → Bool) (places : List Place) (sum : List ℕ) (senses : List (List ℕ)) → Word sum → Each Sense senses
      → LadderHas (stripe_work coding accepts places sum senses)
  stripe_has accepts [] sum senses own each = by_test (accepts sum)
    where
      by_test : (b : Bool)
          → LadderHas (elim b [ true ↦ recovered (length coding.levels + 1) sum | false ↦ uncorrectable ])
      by_test true = own
      by_test false = tt
  stripe_has accepts (place ∷ places) sum senses own each =
      by_place (place_work coding (λ word. true) senses) (place_has (λ word. true) senses each)
      (λ word left is rest. stripe_has accepts places (bytes_sum sum word) left (makes.sum sum word own is) rest)
    where
      by_place : (state : PlaceState) → PlaceHas state
          → ((word : List ℕ) (left : List (List ℕ)) → Word word → Each Sense left
          → LadderHas (stripe_work coding accepts places (bytes_sum sum word) left))
          → LadderHas (elim state [
            | wants level ↦ asks place level
            | found rung word left ↦ stripe_work coding accepts places (bytes_sum sum word) left
            | missed left ↦ uncorrectable
          ])
      by_place (wants level) h more = tt
      by_place (found rung word left) h more = more word left h.0 h.1
      by_place (missed left) h more = tt

  ladder_has : (accepts : List ℕ → Bool) (place : Place) (others : List Place) (closed : Bool) (senses : List (List ℕ))
      → Each Sense senses → LadderHas (ladder coding accepts place others closed senses)
  ladder_has accepts place others closed senses each =
      by_place (place_work coding accepts senses) (place_has accepts senses each)
    where
      by_closed : (b : Bool) (left : List (List ℕ)) → Each Sense left
          → LadderHas (elim b [
            | true ↦ stripe_work coding accepts others (zero_word coding.word_bytes) left
            | false ↦ uncorrectable
          ])
      by_closed true left h = stripe_has accepts others (zero_word coding.word_bytes) left makes.none h
      by_closed false left h = tt

      by_place : (state : PlaceState) → PlaceHas state
          → LadderHas (elim state [
            | wants level ↦ asks place level
            | found rung word left ↦ recovered rung word
            | missed left ↦ elim closed [
              | true ↦ stripe_work coding accepts others (zero_word coding.word_bytes) left
              | false ↦ uncorrectable
            ]
          ])
      by_place (wants level) h = tt
      by_place (found rung word left) h = h.0
      by_place (missed left) h = by_closed closed left h

  over_has : (dies : ℕ) (look : Option Look) (senses : List (List ℕ)) → Each Sense senses
      → LadderHas (ladder_over coding dies look senses)
  over_has dies None senses each = tt
  over_has dies (Some look) senses each =
      ladder_has (coding.has_head look.serial look.row) (place_of_slot dies look.slot)
      (other_places dies (place_of_slot dies look.slot)) look.closed senses each

  word_has : (state : LadderState) → LadderHas state → IsTrue (is_recovered state) → Word (word_recovered state)
  word_has (asks place level) h e = absurd (cc)
  word_has (recovered rung word) h e = h
  word_has uncorrectable h e = absurd (cc)

  -- the word that a ladder of a look recovered
  pub recovered_has : (dies : ℕ) (look : Option Look) (senses : List (List ℕ)) → Each Sense senses
      → IsTrue (is_recovered (ladder_over coding dies look senses)) → Word (word_recovered (ladder_over coding dies look senses))
  recovered_has dies look senses each e =
      word_has (ladder_over coding dies look senses) (over_has dies look senses each) e
