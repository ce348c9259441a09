-- The other places of a stripe, die by die.
use Rattle.std.proofs.Common.{◌≡◌, ◌∙◌, ℕ, suc, ◌+◌, ◌-◌, ◌<◌, ◌≤◌, ◌≢◌, nat_lt, ◌==◌, not, cond, Bool, true, false, List, [], ◌∷◌, map, refl, sym, ap, arith}
use Rattle.std.specs.Prelude.{filter}
use Rattle.std.specs.List.{range_with_len}
use Rattle.std.proofs.lemmas.Bool.Decides.{nat_tests}
use Rattle.ssd_geo.specs.Ladder.{other_places}
use Rattle.ssd_geo.specs.declared.place.Place.{Place}
use Rattle.retry_ladder.specs.View.{places_from}

-- the places of some dies
abbrev places_of : Place → List ℕ → List Place
places_of place dies =
    map (λ die. record { die = die; sb = place.sb; page = place.page })
    (filter (λ die. not (die == place.die)) dies)

step_case : (place : Place) (die : ℕ) (rest : List ℕ) (b : Bool) → (die == place.die) ≡ b
    → places_of place (die ∷ rest) ≡ cond b (places_of place rest)
    (record { die = die; sb = place.sb; page = place.page } ∷ places_of place rest)
step_case place die rest true e = grind (arith, e)
step_case place die rest false e = grind (arith, e)

-- the places from a die on: its own, unless it is the page's, and those after it
pub places_step : (dies : ℕ) (place : Place) (die : ℕ) → die < dies
    → places_from dies place die
    ≡ cond (die == place.die) (places_from dies place (die + 1))
    (record { die = die; sb = place.sb; page = place.page } ∷ places_from dies place (die + 1))
places_step dies place die h =
    let one_fewer : dies - die ≡ suc (dies - (die + 1)) = omega arith in
    ap (λ (n : ℕ). places_of place (range_with_len die n)) one_fewer
    ∙ step_case place die (range_with_len (die + 1) (dies - (die + 1))) (die == place.die) refl

-- no die is left
pub places_end : (dies : ℕ) (place : Place) → places_from dies place dies ≡ []
places_end dies place =
    let none : dies - dies ≡ 0 = omega arith in
    ap (λ (n : ℕ). places_of place (range_with_len dies n)) none

-- with the next die, which isn't below the number and isn't the page's, one place fewer is left
other_next : (dies : ℕ) (place : Place) (die : ℕ) (b : Bool) → (die == place.die) ≡ b → b ≡ false
    → die < dies
    → places_from dies place die ≡ record { die = die; sb = place.sb; page = place.page }
    ∷ places_from dies place (die + 1)
other_next dies place die b e f h =
    places_step dies place die h
    ∙ ap (λ (own : Bool). cond own (places_from dies place (die + 1))
    (record { die = die; sb = place.sb; page = place.page } ∷ places_from dies place (die + 1)))
    (e ∙ f)

own_next : (dies : ℕ) (place : Place) (die : ℕ) → (die == place.die) ≡ true → die < dies
    → places_from dies place die ≡ places_from dies place (die + 1)
own_next dies place die e h =
    places_step dies place die h
    ∙ ap (λ (own : Bool). cond own (places_from dies place (die + 1))
    (record { die = die; sb = place.sb; page = place.page } ∷ places_from dies place (die + 1))) e

-- the die after the page's isn't the page's
not_own : (own die : ℕ) (b : Bool) → ((die + 1) == own) ≡ b → (die == own) ≡ true → b ≡ false
not_own own die true e f = absurd (grind (arith, nat_tests))
not_own own die false e f = refl

pub next_place : (dies : ℕ) (place : Place) (die next : ℕ) (b : Bool) → (die == place.die) ≡ b
    → next ≡ cond b (die + 1) die → next < dies
    → places_from dies place die ≡ record { die = next; sb = place.sb; page = place.page }
    ∷ places_from dies place (next + 1)
next_place dies place die next true e f h =
    own_next dies place die e (omega arith)
    ∙ ap (places_from dies place) (sym f)
    ∙ other_next dies place next (next == place.die) refl
    (not_own place.die die (next == place.die) (ap (λ (n : ℕ). n == place.die) (sym f)) e) h
next_place dies place die next false e f h =
    ap (places_from dies place) (sym f) ∙ other_next dies place next false
    (ap (λ (n : ℕ). n == place.die) f ∙ e) refl h

pub next_is_other : (own die next : ℕ) (b : Bool) → (die == own) ≡ b → next ≡ cond b (die + 1) die
    → next ≢ own
next_is_other own die next true e f = grind (arith, nat_tests)
next_is_other own die next false e f = grind (arith, nat_tests)

-- no other place is left where the next die isn't one of the stripe's
pub no_place : (dies : ℕ) (place : Place) (die next : ℕ) (b : Bool) → (die == place.die) ≡ b
    → next ≡ cond b (die + 1) die → die ≤ dies → dies ≤ next
    → places_from dies place die ≡ []
no_place dies place die next false e f h k =
    ap (places_from dies place) (omega arith) ∙ places_end dies place
no_place dies place die next true e f h k =
    last dies place die (nat_lt die dies) refl e h (omega arith)
  where
    last : (dies : ℕ) (place : Place) (die : ℕ) (b : Bool) → nat_lt die dies ≡ b
        → (die == place.die) ≡ true → die ≤ dies → dies ≤ die + 1 → places_from dies place die ≡ []
    last dies place die true e f h k =
        own_next dies place die f (grind (arith, nat_tests))
        ∙ ap (places_from dies place) (grind (arith, nat_tests)) ∙ places_end dies place
    last dies place die false e f h k =
        ap (places_from dies place) (grind (arith, nat_tests)) ∙ places_end dies place

-- the places from die 0 on are all other places
pub all_places : (dies : ℕ) (place : Place) → places_from dies place 0 ≡ other_places dies place
all_places dies place = ap (λ (n : ℕ). places_of place (range_with_len 0 n)) (omega arith)
