-- The next place of a stripe, or what comes of its sum where none is left.
use Rattle.std.proofs.Common.{◌≡◌, ◌∙◌, ℕ, ◌+◌, ◌<◌, ◌≤◌, ◌≢◌, ◌==◌, cond, Bool, true, false, List, length, refl, sym, ap, arith}
use Rattle.std.proofs.lemmas.Bool.Decides.{nat_tests}
use Rattle.ssd_geo.specs.Coding.{Coding}
use Rattle.ssd_geo.specs.declared.place.Place.{Place}
use Rattle.retry_ladder.specs.Running.{LadderRun, PlaceRun, at_other, at_rest, has_none, has_page, place_start}
use Rattle.retry_ladder.specs.View.{places_from}
use Rattle.retry_ladder.proofs.Places.{next_place, no_place}

-- the next place of a stripe, or what its sum gives where no place is left
abbrev pub IsNext : ℕ → ℕ → ℕ → Type 0
IsNext own die next = next ≡ cond (die == own) (die + 1) die

pub next_after_own : (own die next : ℕ) → die ≡ own → next ≡ die + 1 → IsNext own die next
next_after_own own die next e f = grind (arith, nat_tests)

pub next_is_same : (own die next : ℕ) → die ≢ own → next ≡ die → IsNext own die next
next_is_same own die next e f = grind (arith, nat_tests)

pub goes_to_next : (coding : Coding) (accepts : List ℕ → Bool) (dies : ℕ) (place : Place)
    (die next : ℕ) (sum : List ℕ) (run : PlaceRun)
    → IsNext place.die die next → next < dies → run ≡ place_start coding.levels coding.words
    → at_other (record { die = next; sb = place.sb; page = place.page })
    (places_from dies place (next + 1)) sum run
    ≡ at_rest coding accepts (places_from dies place die) sum
goes_to_next coding accepts dies place die next sum run e h r =
    ap (at_other (record { die = next; sb = place.sb; page = place.page })
    (places_from dies place (next + 1)) sum) r
    ∙ sym (ap (λ (places : List Place). at_rest coding accepts places sum)
    (next_place dies place die next (die == place.die) refl e h))

pub ends_unexpected : (coding : Coding) (accepts : List ℕ → Bool) (dies : ℕ) (place : Place)
    (die next : ℕ) (sum : List ℕ)
    → IsNext place.die die next → die ≤ dies → dies ≤ next → accepts sum ≡ false
    → has_none ≡ at_rest coding accepts (places_from dies place die) sum
ends_unexpected coding accepts dies place die next sum e h k f =
    sym (ap (λ (places : List Place). at_rest coding accepts places sum)
    (no_place dies place die next (die == place.die) refl e h k)
    ∙ ap (λ (b : Bool). elim b as (λ _. LadderRun)
    [ true ↦ has_page (length coding.levels + 1) sum | false ↦ has_none ]) f)

pub ends_expected : (coding : Coding) (accepts : List ℕ → Bool) (dies : ℕ) (place : Place)
    (die next : ℕ) (sum : List ℕ)
    → IsNext place.die die next → die ≤ dies → dies ≤ next → accepts sum ≡ true
    → has_page (length coding.levels + 1) sum
    ≡ at_rest coding accepts (places_from dies place die) sum
ends_expected coding accepts dies place die next sum e h k f =
    sym (ap (λ (places : List Place). at_rest coding accepts places sum)
    (no_place dies place die next (die == place.die) refl e h k)
    ∙ ap (λ (b : Bool). elim b as (λ _. LadderRun)
    [ true ↦ has_page (length coding.levels + 1) sum | false ↦ has_none ]) f)
