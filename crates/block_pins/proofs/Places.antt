-- Where a look stands among the open ones, and which look that is.
use Rattle.std.proofs.Common.{◌≡◌, ℕ, zero, suc, ◌<◌, List, [], ◌∷◌, length, get_or, Some, None, true, false, refl, arith, ap}
use Rattle.std.specs.List.{position, remove}
use Rattle.std.proofs.lemmas.List.Quantifiers.{position-Some}
use Rattle.std.proofs.lemmas.List.Sums.{fails_before_first}
use Rattle.ssd_histories.specs.OpenLooks.{began_at, look_at, without_look}
use Rattle.ssd_geo.specs.declared.look.Look.{Look}
use Rattle.ssd_geo.specs.declared.tag.Tag.{Tag}

-- the look at a place is the one that is looked for, and the one that is left out
pub record IsOpenAt (pins : List (Tag × Look)) (at place : ℕ) (pin : Tag × Look) : Type 0 where
  pub found : look_at pins at ≡ Some pin
  pub rest : without_look pins at ≡ remove pins place

-- no look is looked for, and none is left out
pub record IsNotOpen (pins : List (Tag × Look)) (at : ℕ) : Type 0 where
  pub found : look_at pins at ≡ None
  pub rest : without_look pins at ≡ pins

first_open : (pins : List (Tag × Look)) (at place : ℕ) (pin : Tag × Look) → place < length pins
    → began_at at (get_or pins place pin) ≡ true → ((k : ℕ) → k < place → began_at at (get_or pins k pin) ≡ false)
    → IsOpenAt pins at place (get_or pins place pin)
first_open [] at place pin lt here before = absurd (omega arith)
first_open (x ∷ xs) at zero pin lt here before = record { found = rw here refl; rest = rw here refl }
first_open (x ∷ xs) at (suc place) pin lt here before =
    let not_x : began_at at x ≡ false = before zero (omega arith) in
    let more = first_open xs at place pin (omega arith) here (λ k below. before (suc k) (omega arith)) in
    record { found = rw not_x more.found; rest = rw not_x (ap (λ l. x ∷ l) more.rest) }

pub open_at : (pins : List (Tag × Look)) (at place : ℕ) (pin : Tag × Look) → position (began_at at) pins ≡ Some place
    → IsOpenAt pins at place (get_or pins place pin)
open_at pins at place pin e =
    let h = position-Some (began_at at) pins place pin e in first_open pins at place pin h.0 h.1 h.2

none_open : (pins : List (Tag × Look)) (at : ℕ) (d : Tag × Look)
    → ((k : ℕ) → k < length pins → began_at at (get_or pins k d) ≡ false) → IsNotOpen pins at
none_open [] at d none = record { found = refl; rest = refl }
none_open (x ∷ xs) at d none =
    let not_x : began_at at x ≡ false = none zero (omega arith) in
    let more = none_open xs at d (λ k below. none (suc k) (omega arith)) in
    record { found = rw not_x more.found; rest = rw not_x (ap (λ l. x ∷ l) more.rest) }

pub not_open : (pins : List (Tag × Look)) (at : ℕ) → position (began_at at) pins ≡ None → IsNotOpen pins at
not_open [] at e = record { found = refl; rest = refl }
not_open (x ∷ xs) at e =
    none_open (x ∷ xs) at x
    (λ k below. fails_before_first (began_at at) (x ∷ xs) k x (grind (arith, e)))
