-- What is kept of a ladder's senses says what the ladder, which goes over all of them at once, has
-- come to.
use Rattle.std.proofs.Common.{◌≡◌, ◌∙◌, ℕ, ◌+◌, Bool, true, false, List, [], ◌∷◌, length, refl, sym, ap, arith}
use Rattle.std.specs.List.{fold}
use Rattle.std.proofs.lemmas.List.Sums.{fold_push}
use Rattle.ssd_geo.specs.Bits.{bytes_sum}
use Rattle.ssd_geo.specs.Coding.{Coding}
use Rattle.ssd_geo.specs.Ladder.{LadderState, PlaceState, asks, recovered, uncorrectable, wants, found, missed, other_places, stripe_work}
use Rattle.ssd_geo.specs.Stripe.{place_of_slot}
use Rattle.ssd_geo.specs.StripeSum.{zero_word}
use Rattle.ssd_geo.specs.declared.place.Place.{Place}
use Rattle.retry_ladder.specs.Running.{LadderRun, PlaceStep, RunsAreLadders, RunsGoOn, at_other, at_page, at_rest, come_to, finds, goes_on, has_none, has_page, ladder_fed, misses, other_stepped, page_stepped, place_fed, place_start, run_fed}
use Rattle.retry_ladder.proofs.PlaceSteps.{GoesOnAtWork, IsAtWork, place_ahead, place_begins, place_goes_on, place_wants, stays_at_work, step_ahead}

-- what comes of the page's own work
abbrev page_end : Coding → (List ℕ → Bool) → Place → List Place → Bool → PlaceState → LadderState
page_end coding accepts place others closed state =
    elim state [
      | wants level ↦ asks place level
      | found rung word left ↦ recovered rung word
      | missed left ↦ elim closed [
        | true ↦ stripe_work coding accepts others (zero_word coding.word_bytes) left
        | false ↦ uncorrectable
      ]
    ]

-- what comes of the work on another place
abbrev other_end : Coding → (List ℕ → Bool) → Place → List Place → List ℕ → PlaceState → LadderState
other_end coding accepts place places sum state =
    elim state [
      | wants level ↦ asks place level
      | found rung word left ↦ stripe_work coding accepts places (bytes_sum sum word) left
      | missed left ↦ uncorrectable
    ]

-- what a ladder comes to with the senses that are still to come
abbrev ladder_ahead : Coding → (List ℕ → Bool) → Place → List Place → Bool → LadderRun
    → List (List ℕ) → LadderState
ladder_ahead coding accepts place others closed (at_page run) senses =
    page_end coding accepts place others closed (place_ahead coding accepts run.left run senses)
ladder_ahead coding accepts place others closed (at_other other places sum run) senses =
    other_end coding accepts other places sum
    (place_ahead coding (λ word. true) run.left run senses)
ladder_ahead coding accepts place others closed (has_page rung word) senses = recovered rung word
ladder_ahead coding accepts place others closed has_none senses = uncorrectable

-- the soft part of the place at which a ladder is isn't over
abbrev IsLadderAtWork : LadderRun → Type 0
IsLadderAtWork (at_page run) = IsAtWork run
IsLadderAtWork (at_other place places sum run) = IsAtWork run
IsLadderAtWork (has_page rung word) = Unit {0}
IsLadderAtWork has_none = Unit {0}

-- the sum of a stripe, where all its other places are done
sum_ahead : (coding : Coding) (accepts : List ℕ → Bool) (place : Place) (others : List Place)
    (closed : Bool) (sum : List ℕ) (senses : List (List ℕ)) (b : Bool)
    → ladder_ahead coding accepts place others closed
    (elim b [ true ↦ has_page (length coding.levels + 1) sum | false ↦ has_none ]) senses
    ≡ elim b [ true ↦ recovered (length coding.levels + 1) sum | false ↦ uncorrectable ]
sum_ahead coding accepts place others closed sum senses true = refl
sum_ahead coding accepts place others closed sum senses false = refl

rest_ahead : (coding : Coding) (accepts : List ℕ → Bool) (place : Place) (others : List Place)
    (closed : Bool) (places : List Place) (sum : List ℕ) (senses : List (List ℕ))
    → ladder_ahead coding accepts place others closed (at_rest coding accepts places sum) senses
    ≡ stripe_work coding accepts places sum senses
rest_ahead coding accepts place others closed [] sum senses =
    sum_ahead coding accepts place others closed sum senses (accepts sum)
rest_ahead coding accepts place others closed (other ∷ places) sum senses =
    ap (other_end coding accepts other places sum) (place_begins coding (λ word. true) senses)

-- the page, after a step
page_goes_on : (coding : Coding) (accepts : List ℕ → Bool) (place : Place) (others : List Place)
    (closed : Bool) (step : PlaceStep) (senses : List (List ℕ))
    → page_end coding accepts place others closed (step_ahead coding accepts step senses)
    ≡ ladder_ahead coding accepts place others closed
    (page_stepped coding accepts others closed step) senses
page_goes_on coding accepts place others closed (goes_on run) senses = refl
page_goes_on coding accepts place others closed (finds rung word) senses = refl
page_goes_on coding accepts place others true misses senses =
    sym (rest_ahead coding accepts place others true others (zero_word coding.word_bytes) senses)
page_goes_on coding accepts place others false misses senses = refl

-- another place, after a step
other_goes_on : (coding : Coding) (accepts : List ℕ → Bool) (place : Place) (others : List Place)
    (closed : Bool)
    (other : Place) (places : List Place) (sum : List ℕ) (step : PlaceStep) (senses : List (List ℕ))
    → other_end coding accepts other places sum (step_ahead coding (λ word. true) step senses)
    ≡ ladder_ahead coding accepts place others closed
    (other_stepped coding accepts other places sum step) senses
other_goes_on coding accepts place others closed other places sum (goes_on run) senses = refl
other_goes_on coding accepts place others closed other places sum (finds rung word) senses =
    sym (rest_ahead coding accepts place others closed places (bytes_sum sum word) senses)
other_goes_on coding accepts place others closed other places sum misses senses = refl

-- one more sense is one more step
ladder_goes_on : (coding : Coding) (accepts : List ℕ → Bool) (place : Place) (others : List Place)
    (closed : Bool)
    (run : LadderRun) (sense : List ℕ) (senses : List (List ℕ)) → IsLadderAtWork run
    → ladder_ahead coding accepts place others closed run (sense ∷ senses)
    ≡ ladder_ahead coding accepts place others closed
    (ladder_fed coding accepts others closed run sense) senses
ladder_goes_on coding accepts place others closed (at_page run) sense senses h =
    ap (page_end coding accepts place others closed)
    (place_goes_on coding accepts run.left run sense senses h)
    ∙ page_goes_on coding accepts place others closed (place_fed coding accepts run.left run sense)
    senses
ladder_goes_on coding accepts place others closed (at_other other places sum run) sense senses h =
    ap (other_end coding accepts other places sum)
    (place_goes_on coding (λ word. true) run.left run sense senses h)
    ∙ other_goes_on coding accepts place others closed other places sum
    (place_fed coding (λ word. true) run.left run sense) senses
ladder_goes_on coding accepts place others closed (has_page rung word) sense senses h = refl
ladder_goes_on coding accepts place others closed has_none sense senses h = refl

-- the place at which a ladder is stays at work
sum_at_work : (coding : Coding) (sum : List ℕ) (b : Bool)
    → IsLadderAtWork (elim b [ true ↦ has_page (length coding.levels + 1) sum | false ↦ has_none ])
sum_at_work coding sum true = tt
sum_at_work coding sum false = tt

rest_at_work : (coding : Coding) (accepts : List ℕ → Bool) (places : List Place) (sum : List ℕ)
    → IsLadderAtWork (at_rest coding accepts places sum)
rest_at_work coding accepts [] sum = sum_at_work coding sum (accepts sum)
rest_at_work coding accepts (place ∷ places) sum = omega arith

page_at_work : (coding : Coding) (accepts : List ℕ → Bool) (others : List Place) (closed : Bool)
    (step : PlaceStep) → GoesOnAtWork step
    → IsLadderAtWork (page_stepped coding accepts others closed step)
page_at_work coding accepts others closed (goes_on run) h = h
page_at_work coding accepts others closed (finds rung word) h = tt
page_at_work coding accepts others true misses h =
    rest_at_work coding accepts others (zero_word coding.word_bytes)
page_at_work coding accepts others false misses h = tt

other_at_work : (coding : Coding) (accepts : List ℕ → Bool) (place : Place) (places : List Place)
    (sum : List ℕ) (step : PlaceStep) → GoesOnAtWork step
    → IsLadderAtWork (other_stepped coding accepts place places sum step)
other_at_work coding accepts place places sum (goes_on run) h = h
other_at_work coding accepts place places sum (finds rung word) h =
    rest_at_work coding accepts places (bytes_sum sum word)
other_at_work coding accepts place places sum misses h = tt

ladder_at_work : (coding : Coding) (accepts : List ℕ → Bool) (others : List Place) (closed : Bool)
    (run : LadderRun) (sense : List ℕ)
    → IsLadderAtWork (ladder_fed coding accepts others closed run sense)
ladder_at_work coding accepts others closed (at_page run) sense =
    page_at_work coding accepts others closed (place_fed coding accepts run.left run sense)
    (stays_at_work coding accepts run.left run sense)
ladder_at_work coding accepts others closed (at_other place places sum run) sense =
    other_at_work coding accepts place places sum
    (place_fed coding (λ word. true) run.left run sense)
    (stays_at_work coding (λ word. true) run.left run sense)
ladder_at_work coding accepts others closed (has_page rung word) sense = tt
ladder_at_work coding accepts others closed has_none sense = tt

-- without more senses, what is kept says what the ladder has come to
ladder_comes : (coding : Coding) (accepts : List ℕ → Bool) (place : Place) (others : List Place)
    (closed : Bool) (run : LadderRun) → IsLadderAtWork run
    → ladder_ahead coding accepts place others closed run [] ≡ come_to coding.step place run
ladder_comes coding accepts place others closed (at_page run) h =
    ap (page_end coding accepts place others closed) (place_wants coding accepts run.left run h)
ladder_comes coding accepts place others closed (at_other other places sum run) h =
    ap (other_end coding accepts other places sum)
    (place_wants coding (λ word. true) run.left run h)
ladder_comes coding accepts place others closed (has_page rung word) h = refl
ladder_comes coding accepts place others closed has_none h = refl

-- the steps over senses
all_steps : (coding : Coding) (accepts : List ℕ → Bool) (place : Place) (others : List Place)
    (closed : Bool) (senses : List (List ℕ)) (run : LadderRun) → IsLadderAtWork run
    → ladder_ahead coding accepts place others closed run senses
    ≡ come_to coding.step place (fold (ladder_fed coding accepts others closed) run senses)
all_steps coding accepts place others closed [] run h =
    ladder_comes coding accepts place others closed run h
all_steps coding accepts place others closed (sense ∷ senses) run h =
    ladder_goes_on coding accepts place others closed run sense senses h
    ∙ all_steps coding accepts place others closed senses
    (ladder_fed coding accepts others closed run sense)
    (ladder_at_work coding accepts others closed run sense)

pub runs_are_ladders : RunsAreLadders
runs_are_ladders coding dies look senses =
    let place : Place = place_of_slot dies look.slot in
    let accepts : List ℕ → Bool = coding.has_head look.serial look.row in
    sym (all_steps coding accepts place (other_places dies place) look.closed senses
    (at_page (place_start coding.levels coding.words)) (omega arith))
    ∙ ap (page_end coding accepts place (other_places dies place) look.closed)
    (place_begins coding accepts senses)

pub runs_go_on : RunsGoOn
runs_go_on coding dies look senses sense =
    fold_push (run_fed coding dies look) (at_page (place_start coding.levels coding.words)) senses sense
