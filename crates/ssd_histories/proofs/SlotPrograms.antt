-- A place is found to be itself, and the program of a slot programs the slot's place.
use Rattle.std.proofs.Common.{◌≡◌, ℕ, ◌==◌, ◌&&◌, Bool, true, false, refl, arith}
use Rattle.std.proofs.lemmas.Bool.Decides.{nat_tests}
use Rattle.ssd_geo.specs.Stripe.{place_of_slot}
use Rattle.ssd_geo.specs.declared.place.Place.{Place}
use Rattle.ssd_geo.specs.declared.slot.Slot.{Slot}
use Rattle.ssd_histories.specs.PastPages.{PageChange, programs, change_by_program, is_place}

-- a place is itself
pub is_place-same : (place : Place) → is_place place place ≡ true
is_place-same place = all (place.die == place.die) (place.sb == place.sb) (place.page == place.page) (same place.die) (same place.sb) (same place.page)
  where
    same : (n : ℕ) → (n == n) ≡ true
    same n = grind (arith, nat_tests)

    all : (a b c : Bool) → a ≡ true → b ≡ true → c ≡ true → (a && b && c) ≡ true
    all a b c e f g = rw (e, f, g) refl

-- the program of a slot programs the slot's place
pub programs_own : (dies : ℕ) (slot : Slot) → change_by_program dies slot (place_of_slot dies slot) ≡ programs
programs_own dies slot = by_test (is_place (place_of_slot dies slot) (place_of_slot dies slot)) _ (is_place-same (place_of_slot dies slot))
  where
    by_test : (b : Bool) (other : PageChange) → b ≡ true → ◌≡◌ {A = PageChange} (elim b [ true ↦ programs | false ↦ other ]) programs
    by_test b other e = rw e refl
