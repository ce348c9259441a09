-- How is a page read whose cells may have drifted? Read retry is a ladder of rungs: the page is sensed at each read
-- level in order and its codewords are decoded by hard values; then five senses around the best of these levels give soft
-- values; then, where the page's stripe is closed, the stripe's other pages are read in the same way, and their sum is the
-- page. A codeword that was found at a place is kept there and not decoded again, until all of a page were found whose
-- word isn't the page that is looked for: then none is kept. The ladder is a function of the senses that it was given, in
-- order: it keeps no state. Order and levels are this project's own.
use Rattle.std.specs.Prelude.{ℕ, ◌+◌, ◌*◌, ◌==◌, nat_lt, nat_le, Bool, true, false, not, List, [], ◌∷◌, map, length, take, drop, replicate, slice_index_or, zip, find, filter, Option, Some, None, option_map, ℤ, pos, ◌+ℤ◌, ◌-ℤ◌}
use Rattle.std.specs.List.{list_all, range_with_len}
use Rattle.std.specs.Option.{option_map_or}
use Rattle.ssd_geo.specs.Bits.{bytes_sum}
use Rattle.ssd_geo.specs.Coding.{Coding}
use Rattle.ssd_geo.specs.Stripe.{place_of_slot}
use Rattle.ssd_geo.specs.StripeSum.{zero_word}
use Rattle.ssd_geo.specs.declared.look.Look.{Look}
use Rattle.ssd_geo.specs.declared.place.Place.{Place}

-- what the ladder has come to: it asks for a sense of a place at a level, or it has recovered the page at a rung, with
-- its word, or it can't
pub data LadderState : Type 0 where
  asks : Place → ℤ → LadderState
  recovered : ℕ → List ℕ → LadderState
  uncorrectable : LadderState

-- what the work on one place has come to: it wants a sense at a level, or a word was found at a rung, or none was.
-- The list has the senses that are left over for the places after it.
pub data PlaceState : Type 0 where
  wants : ℤ → PlaceState
  found : ℕ → List ℕ → List (List ℕ) → PlaceState
  missed : List (List ℕ) → PlaceState

-- what is kept of a page's codewords at a place before its first sense: none
abbrev pub none_kept : Coding → List (Option (List ℕ))
none_kept coding = replicate coding.words None

-- what is kept after a decoding, from codeword f on: what was kept stays, and only the others are decoded
abbrev pub kept_with : (ℕ → Option (List ℕ)) → ℕ → List (Option (List ℕ)) → List (Option (List ℕ))
kept_with finds f [] = []
kept_with finds f (Some code ∷ kept) = Some code ∷ kept_with finds (f + 1) kept
kept_with finds f (None ∷ kept) = finds f ∷ kept_with finds (f + 1) kept

-- the codewords of a page, where all of them are kept
abbrev pub all_kept : List (Option (List ℕ)) → Option (List (List ℕ))
all_kept [] = Some []
all_kept (None ∷ kept) = None
all_kept (Some code ∷ kept) = option_map (λ codes. code ∷ codes) (all_kept kept)

-- what a decoding at a place has come to: the page's word, which is accepted, or what is kept for the next sense
pub data PageState : Type 0 where
  whole : List ℕ → PageState
  partly : List (Option (List ℕ)) → PageState

-- what all codewords of a page come to, where there are all: their word, or where that isn't accepted nothing is kept
abbrev pub page_accepted : Coding → (List ℕ → Bool) → List (Option (List ℕ)) → Option (List (List ℕ)) → PageState
page_accepted coding accepts kept None = partly kept
page_accepted coding accepts kept (Some codes) =
    elim (accepts (coding.joined codes)) [ true ↦ whole (coding.joined codes) | false ↦ partly (none_kept coding) ]

-- what one more decoding comes to, with the codewords that it finds and those that were kept
abbrev pub page_decoded : Coding → (List ℕ → Bool) → (ℕ → Option (List ℕ)) → List (Option (List ℕ)) → PageState
page_decoded coding accepts finds kept =
    page_accepted coding accepts (kept_with finds 0 kept) (all_kept (kept_with finds 0 kept))

-- the soft senses: five levels around a center, rising
abbrev pub soft_levels : ℕ → ℤ → List ℤ
soft_levels step center =
    (center -ℤ pos (2 * step)) ∷ (center -ℤ pos step) ∷ center ∷ (center +ℤ pos step) ∷ (center +ℤ pos (2 * step)) ∷ []

-- the soft part at a place: five senses, and what they come to with what the hard part kept
abbrev pub soft_work : Coding → (List ℕ → Bool) → ℤ → List (Option (List ℕ)) → List (List ℕ) → PlaceState
soft_work coding accepts center kept senses =
    elim (nat_lt (length senses) 5) [
      | true ↦ wants (slice_index_or (soft_levels coding.step center) (length senses) center)
      | false ↦ elim (page_decoded coding accepts (coding.soft (take 5 senses)) kept) [
        | whole word ↦ found (length coding.levels) word (drop 5 senses)
        | partly now ↦ missed (drop 5 senses)
      ]
    ]

-- whether the raw codewords of a sense together fail no more checks than those of any other
abbrev pub fails_fewest : Coding → List (ℤ × List ℕ) → ℤ × List ℕ → Bool
fails_fewest coding all sense = list_all (λ other. nat_le (coding.failed sense.1) (coding.failed other.1)) all

-- the first read level whose raw codewords failed the fewest checks, of the senses at the read levels in order
abbrev pub best_level : Coding → List (List ℕ) → ℤ
best_level coding senses =
    let all = zip coding.levels senses in option_map_or (λ (sense : ℤ × List ℕ). sense.0) (find (fails_fewest coding all) all) (pos 0)

-- the hard part at a place, over the read levels that are left from a rung on, with what is kept so far, and then what
-- comes after it
abbrev pub hard_work : Coding → (List ℕ → Bool) → (List (Option (List ℕ)) → List (List ℕ) → PlaceState) → List ℤ → ℕ → List (Option (List ℕ)) → List (List ℕ) → PlaceState
hard_work coding accepts after [] rung kept senses = after kept senses
hard_work coding accepts after (level ∷ levels) rung kept [] = wants level
hard_work coding accepts after (level ∷ levels) rung kept (sense ∷ senses) =
    elim (page_decoded coding accepts (coding.hard sense) kept) [
      | whole word ↦ found rung word senses
      | partly now ↦ hard_work coding accepts after levels (rung + 1) now senses
    ]

-- the work on one place, from the senses that begin with its own: hard values at each read level, then soft values
abbrev pub place_work : Coding → (List ℕ → Bool) → List (List ℕ) → PlaceState
place_work coding accepts senses =
    hard_work coding accepts (soft_work coding accepts (best_level coding senses)) coding.levels 0 (none_kept coding) senses

-- the work on the other places of a stripe, in order, with the sum of the words found at those before: any page's word
-- is accepted there, and the sum of all is the page where its head is the expected one
abbrev pub stripe_work : Coding → (List ℕ → Bool) → List Place → List ℕ → List (List ℕ) → LadderState
stripe_work coding accepts [] sum senses =
    elim (accepts sum) [ true ↦ recovered (length coding.levels + 1) sum | false ↦ uncorrectable ]
stripe_work coding accepts (place ∷ places) sum senses =
    elim (place_work coding (λ word. true) senses) [
      | wants level ↦ asks place level
      | found rung word left ↦ stripe_work coding accepts places (bytes_sum sum word) left
      | missed left ↦ uncorrectable
    ]

-- the ladder of a page at a place, with the other places of its stripe, over the senses that it was given
abbrev pub ladder : Coding → (List ℕ → Bool) → Place → List Place → Bool → List (List ℕ) → LadderState
ladder coding accepts place others closed senses =
    elim (place_work coding accepts senses) [
      | wants level ↦ asks place level
      | found rung word left ↦ recovered rung word
      | missed left ↦ elim closed [
        | true ↦ stripe_work coding accepts others (zero_word coding.word_bytes) left
        | false ↦ uncorrectable
      ]
    ]

-- the other places of a page's stripe, in the order of the dies
abbrev pub other_places : ℕ → Place → List Place
other_places dies place =
    map (λ die. record { die = die; sb = place.sb; page = place.page })
    (filter (λ die. not (die == place.die)) (range_with_len 0 dies))

-- what the ladder of a look has come to, over senses; where there is no look it can't recover a page
abbrev pub ladder_over : Coding → ℕ → Option Look → List (List ℕ) → LadderState
ladder_over coding dies None senses = uncorrectable
ladder_over coding dies (Some look) senses =
    let place = place_of_slot dies look.slot in
    ladder coding (coding.has_head look.serial look.row) place (other_places dies place) look.closed senses

-- whether a ladder has an answer, has recovered the page, and can't
abbrev pub has_answer : LadderState → Bool
has_answer (asks place level) = false
has_answer (recovered rung word) = true
has_answer uncorrectable = true

abbrev pub is_recovered : LadderState → Bool
is_recovered (asks place level) = false
is_recovered (recovered rung word) = true
is_recovered uncorrectable = false

abbrev pub is_uncorrectable : LadderState → Bool
is_uncorrectable (asks place level) = false
is_uncorrectable (recovered rung word) = false
is_uncorrectable uncorrectable = true

-- the word that a ladder recovered, and none elsewhere
abbrev pub word_recovered : LadderState → List ℕ
word_recovered (asks place level) = []
word_recovered (recovered rung word) = word
word_recovered uncorrectable = []
