-- What does a ladder keep of the senses that it was fed? Of a place it keeps which read levels are
-- left, the best level so far with its failed checks, the senses of the soft part, and the
-- codewords that were found; of a stripe, the sum of the words that were found. No sense of the
-- hard part is kept. What is kept is a fold over the senses, and says what the ladder has come to.
use Rattle.std.specs.Prelude.{ℕ, ◌≡◌, ◌+◌, nat_lt, Bool, true, false, cond, List, [], ◌∷◌, ◌++◌, length, replicate, take, slice_index_or, Option, Some, None, ℤ, pos}
use Rattle.std.specs.List.{fold}
use Rattle.ssd_geo.specs.Bits.{bytes_sum}
use Rattle.ssd_geo.specs.Coding.{Coding}
use Rattle.ssd_geo.specs.Ladder.{LadderState, asks, recovered, uncorrectable, other_places, page_decoded, partly, soft_levels, whole, ladder_over}
use Rattle.ssd_geo.specs.Stripe.{place_of_slot}
use Rattle.ssd_geo.specs.StripeSum.{zero_word}
use Rattle.ssd_geo.specs.declared.look.Look.{Look}
use Rattle.ssd_geo.specs.declared.place.Place.{Place}

-- the work on one place: the read levels that are left, the rung of the first of them, the
-- codewords that are kept, the best level so far with its failed checks, and the senses of the soft
-- part
pub record PlaceRun : Type 0 where
  pub left : List ℤ
  pub rung : ℕ
  pub kept : List (Option (List ℕ))
  pub best : Option (ℤ × ℕ)
  pub five : List (List ℕ)

-- what one more sense makes of that work: it goes on, a word was found at a rung, or none was
pub data PlaceStep : Type 0 where
  goes_on : PlaceRun → PlaceStep
  finds : ℕ → List ℕ → PlaceStep
  misses : PlaceStep

-- the better of the best level so far and one more, the earlier one among equals
abbrev pub better : Option (ℤ × ℕ) → ℤ × ℕ → Option (ℤ × ℕ)
better None next = Some next
better (Some best) next = Some (cond (nat_lt next.1 best.1) next best)

-- the level around which the soft part senses
abbrev pub center_of : Option (ℤ × ℕ) → ℤ
center_of None = pos 0
center_of (Some best) = best.0

-- the work on a place before its first sense, with these read levels and so many codewords
abbrev pub place_start : List ℤ → ℕ → PlaceRun
place_start levels words =
    record { left = levels; rung = 0; kept = replicate words None; best = None; five = [] }

-- the level that the work on a place wants next, with soft senses at this distance
abbrev pub level_wanted : ℕ → List ℤ → PlaceRun → ℤ
level_wanted step [] run =
    slice_index_or (soft_levels step (center_of run.best)) (length run.five) (center_of run.best)
level_wanted step (level ∷ levels) run = level

-- one more sense at a read level, with those that are left after it
abbrev pub hard_fed : Coding → (List ℕ → Bool) → ℤ → List ℤ → PlaceRun → List ℕ → PlaceStep
hard_fed coding accepts level levels run sense =
    elim (page_decoded coding accepts (coding.hard sense) run.kept) [
      | whole word ↦ finds run.rung word
      | partly now ↦ goes_on (record {
        left = levels;
        rung = run.rung + 1;
        kept = now;
        best = better run.best (level, coding.failed sense);
        five = [];
      })
    ]

-- one more sense of the soft part, which makes these senses of it
abbrev pub soft_fed : Coding → (List ℕ → Bool) → PlaceRun → List (List ℕ) → PlaceStep
soft_fed coding accepts run five =
    elim (nat_lt (length five) 5) [
      | true ↦ goes_on (record {
        left = [];
        rung = run.rung;
        kept = run.kept;
        best = run.best;
        five = five;
      })
      | false ↦ elim (page_decoded coding accepts (coding.soft (take 5 five)) run.kept) [
        | whole word ↦ finds (length coding.levels) word
        | partly now ↦ misses
      ]
    ]

-- one more sense of a place, with the read levels that are left
abbrev pub place_fed : Coding → (List ℕ → Bool) → List ℤ → PlaceRun → List ℕ → PlaceStep
place_fed coding accepts [] run sense = soft_fed coding accepts run (run.five ++ sense ∷ [])
place_fed coding accepts (level ∷ levels) run sense = hard_fed coding accepts level levels run sense

-- what a ladder is at: the page itself; another place of its stripe, with the places after it and
-- the sum of the words that were found before it; or its answer
pub data LadderRun : Type 0 where
  at_page : PlaceRun → LadderRun
  at_other : Place → List Place → List ℕ → PlaceRun → LadderRun
  has_page : ℕ → List ℕ → LadderRun
  has_none : LadderRun

-- the other places of the stripe that are left, with the sum of the words that were found
abbrev pub at_rest : Coding → (List ℕ → Bool) → List Place → List ℕ → LadderRun
at_rest coding accepts [] sum =
    elim (accepts sum) [ true ↦ has_page (length coding.levels + 1) sum | false ↦ has_none ]
at_rest coding accepts (place ∷ places) sum =
    at_other place places sum (place_start coding.levels coding.words)

-- the page, after one more sense of it
abbrev pub page_stepped : Coding → (List ℕ → Bool) → List Place → Bool → PlaceStep → LadderRun
page_stepped coding accepts others closed (goes_on run) = at_page run
page_stepped coding accepts others closed (finds rung word) = has_page rung word
page_stepped coding accepts others true misses =
    at_rest coding accepts others (zero_word coding.word_bytes)
page_stepped coding accepts others false misses = has_none

-- another place, after one more sense of it
abbrev pub other_stepped : Coding → (List ℕ → Bool) → Place → List Place → List ℕ → PlaceStep
    → LadderRun
other_stepped coding accepts place places sum (goes_on run) = at_other place places sum run
other_stepped coding accepts place places sum (finds rung word) =
    at_rest coding accepts places (bytes_sum sum word)
other_stepped coding accepts place places sum misses = has_none

-- a ladder after one more sense
abbrev pub ladder_fed : Coding → (List ℕ → Bool) → List Place → Bool → LadderRun → List ℕ
    → LadderRun
ladder_fed coding accepts others closed (at_page run) sense =
    page_stepped coding accepts others closed (place_fed coding accepts run.left run sense)
ladder_fed coding accepts others closed (at_other place places sum run) sense =
    other_stepped coding accepts place places sum
    (place_fed coding (λ word. true) run.left run sense)
ladder_fed coding accepts others closed (has_page rung word) sense = has_page rung word
ladder_fed coding accepts others closed has_none sense = has_none

-- what a ladder of a page at a place has come to
abbrev pub come_to : ℕ → Place → LadderRun → LadderState
come_to step place (at_page run) = asks place (level_wanted step run.left run)
come_to step place (at_other other places sum run) = asks other (level_wanted step run.left run)
come_to step place (has_page rung word) = recovered rung word
come_to step place has_none = uncorrectable

-- a look's ladder after one more sense
abbrev pub run_fed : Coding → ℕ → Look → LadderRun → List ℕ → LadderRun
run_fed coding dies look run sense =
    ladder_fed coding (coding.has_head look.serial look.row)
    (other_places dies (place_of_slot dies look.slot)) look.closed run sense

-- a look's ladder after senses, in order
abbrev pub run_of : Coding → ℕ → Look → List (List ℕ) → LadderRun
run_of coding dies look senses =
    fold (run_fed coding dies look) (at_page (place_start coding.levels coding.words)) senses

-- Laws, each the contract of a function without a body.

-- what is kept says what the ladder, which goes over all senses at once, has come to
abbrev pub RunsAreLadders : Type 0
RunsAreLadders =
    (coding : Coding) (dies : ℕ) (look : Look) (senses : List (List ℕ)) →
    come_to coding.step (place_of_slot dies look.slot) (run_of coding dies look senses)
    ≡ ladder_over coding dies (Some look) senses

-- one more sense is one more step
abbrev pub RunsGoOn : Type 0
RunsGoOn =
    (coding : Coding) (dies : ℕ) (look : Look) (senses : List (List ℕ)) (sense : List ℕ) →
    run_of coding dies look (senses ++ sense ∷ [])
    ≡ run_fed coding dies look (run_of coding dies look senses) sense
