-- No page is programmed where the next slots of a superblock stand.
use Rattle.std.proofs.Common.{◌≡◌, ◌≢◌, ℕ, zero, suc, ◌+◌, ◌-◌, ◌*◌, ◌/◌, ◌%◌, ◌<◌, ◌≤◌, true, subst, arith}
use Rattle.std.proofs.lemmas.Bool.Decides.{nat_tests}
use Rattle.std.proofs.lemmas.Nat.{div-add-mod', div-mul-add}
use Rattle.ssd_geo.specs.declared.place.Place.{Place}
use Rattle.ssd_histories.specs.PageMap.{slot_at}
use Rattle.ssd_histories.specs.PastPages.{is_place}
use Rattle.ssd_geo.specs.Stripe.{parity_die, place_of_parity, place_of_slot, stripe_of_index}
use Rattle.ssd_geo.specs.StripeLaws.{IsSlot}
use Rattle.ssd_geo.specs.Superblock.{due_pages}
use Rattle.ssd_geo.proofs.Stripes.{due_pages_step, pages_rise, parity_die-lt, slots_have_places}

-- due pages never fall as more slots are used
due_more : (dies sb used n die : ℕ) → 2 ≤ dies → die < dies → due_pages dies sb used die ≤ due_pages dies sb (used + n) die
due_more dies sb used zero die two lt = rw (nothing used) (omega arith)
  where
    nothing : (u : ℕ) → u + 0 ≡ u
    nothing u = omega arith
due_more dies sb used (suc n) die two lt =
    rw (next used n) (omega (arith, due_more dies sb used n die two lt, due_pages_step dies sb (used + n) die two lt))
  where
    next : (u k : ℕ) → u + suc k ≡ u + k + 1
    next u k = omega arith

due_rises : (dies sb used later die : ℕ) → 2 ≤ dies → die < dies → used ≤ later → due_pages dies sb used die ≤ due_pages dies sb later die
due_rises dies sb used later die two lt le =
    let most : due_pages dies sb used die ≤ due_pages dies sb (used + (later - used)) die = due_more dies sb used (later - used) die two lt in
    let same : used + (later - used) ≡ later = omega arith in
    rw (← same) most

-- a slot is one of a channel that is large enough
any_slot : (dies sb index : ℕ) → 2 ≤ dies → IsSlot dies (suc sb) (suc (index / (dies - 1))) (slot_at sb index)
any_slot dies sb index two = record {
  superblock = omega arith;
  index = omega (arith, div-add-mod' index (dies - 1), within index (dies - 1) (omega arith));
}
  where
    within : (n w : ℕ) → 0 < w → n % w < w
    within n w h = grind arith

-- the die of a slot is one of the channel's, and the slot's place isn't the parity's of its stripe
pub slot_die : (dies sb index : ℕ) → 2 ≤ dies → (place_of_slot dies (slot_at sb index)).die < dies
slot_die dies sb index two = (slots_have_places dies (suc sb) (suc (index / (dies - 1))) (slot_at sb index) two (any_slot dies sb index two)).place.die

pub not_parity : (dies sb index : ℕ) → 2 ≤ dies → place_of_slot dies (slot_at sb index) ≢ place_of_parity dies sb (stripe_of_index dies index)
not_parity dies sb index two = (slots_have_places dies (suc sb) (suc (index / (dies - 1))) (slot_at sb index) two (any_slot dies sb index two)).holds_data

-- fewer pages are due than the number of an unused slot's page, and than that of an open stripe's parity
pub due_below_slot : (dies sb used index : ℕ) → 2 ≤ dies → used ≤ index → due_pages dies sb used (place_of_slot dies (slot_at sb index)).die ≤ stripe_of_index dies index
due_below_slot dies sb used index two le =
    omega (
      arith,
      due_rises dies sb used index (place_of_slot dies (slot_at sb index)).die two (slot_die dies sb index two) le,
      (pages_rise dies sb index two).of_slot,
    )

pub due_below_parity : (dies sb used stripe : ℕ) → 2 ≤ dies → used < (stripe + 1) * (dies - 1) → due_pages dies sb used (parity_die dies sb stripe) ≤ stripe
due_below_parity dies sb used stripe two lt =
    let w : ℕ = dies - 1 in
    let last : ℕ = stripe * w + (w - 1) in
    let of_last : last / w ≡ stripe = div-mul-add stripe w (w - 1) (omega arith) in
    let due : due_pages dies sb last (parity_die dies sb (last / w)) ≡ last / w = (pages_rise dies sb last two).of_parity in
    let due_there : due_pages dies sb last (parity_die dies sb stripe) ≡ stripe = subst (λ (n : ℕ). due_pages dies sb last (parity_die dies sb n) ≡ n) of_last due in
    omega (arith, due_rises dies sb used last (parity_die dies sb stripe) two (parity_die-lt dies sb stripe two) (omega arith), due_there)

-- two places that a test finds to be one are one
pub same_place : (a b : Place) → is_place a b ≡ true → a ≡ b
same_place a b e =
    let dies : a.die ≡ b.die = grind (arith, nat_tests) in
    let blocks : a.sb ≡ b.sb = grind (arith, nat_tests) in
    let pages : a.page ≡ b.page = grind (arith, nat_tests) in
    λ i. record { die = dies i; sb = blocks i; page = pages i }
