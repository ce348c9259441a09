-- The seats of a lock when one of them changes its view.
use Rattle.std.proofs.Common.{◌≡◌, ◌≢◌, ℕ, ◌+◌, ◌%◌, ◌^◌, ◌<◌, List, set, Option, refl, sym, ap, ◌∙◌, subst, inl, ⊎_elim}
use Rattle.std.proofs.Math.Nat.{mod-add-mod}
use mathlib.Core.Option.{none, some, some-injective, some-ne-none}
use mathlib.Core.Option as slot
use lib.ListN.{get_elem?}
use Rattle.atomic_table.proofs.Lists.{at_set, set_else}
use Rattle.ssd_geo.specs.declared.entry.Entry.{Entry}
use Rattle.turn_table.specs.Kept.{Fits, FitsHome, FitsStage, Standing}
use Rattle.turn_table.specs.declared.view.Stage.{Stage}
use Rattle.turn_table.specs.declared.view.Stage.TheVariants.{Away, Waiting, InTurn}
use Rattle.turn_table.specs.declared.view.View.{View}

-- what holds of the changed view, and of the others, holds of all
pub each_set : (F : ℕ → View → Type 0) (views : List View) (id : ℕ) (changed : View) → F id changed → ((seat : ℕ) (view : View) → seat ≢ id → get_elem? views seat ≡ some view → F seat view)
    → (seat : ℕ) (view : View) → get_elem? (set views id changed) seat ≡ some view → F seat view
each_set F views id changed mine others seat view e =
    ⊎_elim (λ (t : (seat ≡ id) × (changed ≡ view)). subst (λ (x : ℕ × View). F x.0 x.1) (λ i. (sym t.0 i, t.1 i)) mine)
    (λ (t : (seat ≢ id) × (get_elem? views seat ≡ some view)). others seat view t.0 t.1)
    (at_set views id seat changed view e)

-- one seat has one view
pub one_view : (views : List View) (seat : ℕ) (one other : View) → get_elem? views seat ≡ some one → get_elem? views seat ≡ some other → one ≡ other
one_view views seat one other e f = some-injective one other (sym e ∙ f)

module _ {V : Type 0} (now : Standing) (home : slot.Option (Option V)) where
  -- a number below those of all passes has one seat
  pub one_seat : (one other : ℕ) (a b : View) → Fits now home one a → Fits now home other b → a.number ≡ b.number → b.number < now.passes → one ≡ other
  one_seat one other a b fits fits' same low = sym (fits.own b.number (inl (sym same)) low) ∙ fits'.own b.number (inl refl) low

-- a ticket more
pub next_ticket : (n : ℕ) → (n % 2 ^ 64 + 1) % 2 ^ 64 ≡ (n + 1) % 2 ^ 64
next_ticket n = mod-add-mod n (2 ^ 64) 1

-- a seat that is away isn't in turn, whatever its view becomes
pub still_home : {V S : Type 0} (entries : V → List Entry) (start : V → S) (begun : S) (history : List Entry) (views : List View) (id : ℕ) (view changed : View) → get_elem? views id ≡ some view → view.stage ≡ Away
    → (home : slot.Option (Option V)) → FitsHome entries start begun history views home → FitsHome entries start begun history (set views id changed) home
still_home entries start begun history views id view changed at away none turn =
    let other : turn.0 ≢ id = λ (e : turn.0 ≡ id).
    let same : turn.1 ≡ view = one_view views id turn.1 view (subst (λ (k : ℕ). get_elem? views k ≡ some turn.1) e turn.2) at in
    let clash : InTurn ≡ Away = sym turn.3 ∙ (ap (λ (v : View). v.stage) same ∙ away) in absurd cc in
    (turn.0, turn.1, set_else views id turn.0 changed other ∙ turn.2, turn.3)
still_home entries start begun history views id view changed at away (some held) is = is

-- a stage says nothing of which seat a number has
pub reseated : {V : Type 0} (now : Standing) (seat_of : ℕ → ℕ) (home : slot.Option (Option V)) (view : View) (stage : Stage) → FitsStage now home view stage → FitsStage (record now { seat_of = seat_of }) home view stage
reseated now seat_of home view Away at = at
reseated now seat_of home view (Waiting ticket) at = at
reseated now seat_of home view InTurn at = at
