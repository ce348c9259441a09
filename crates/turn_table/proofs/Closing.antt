-- A lock of which one pass has all numbers has its value at home.
use Rattle.std.proofs.Common.{◌≡◌, ℕ, ◌<◌, List, All, Option, Some, refl, sym, ap, ◌∙◌, subst, inl, arith}
use mathlib.Core.Option.{some, none, some-injective, some-ne-none}
use mathlib.Core.Option as slot
use lib.ListN.{get_elem?}
use Rattle.atomic_table.specs.Table.{Final, Seen, State}
use Rattle.ssd_geo.specs.declared.entry.Entry.{Entry}
use Rattle.turn_table.specs.Kept.{FitsHome, FitsStage, IsKept}
use Rattle.turn_table.specs.Passes.{GoesOn, Has}
use Rattle.turn_table.specs.Places.{IsLeft}
use Rattle.turn_table.specs.Views.{numbers_in}
use Rattle.turn_table.specs.declared.view.Stage.TheVariants.{Away, InTurn}
use Rattle.turn_table.specs.declared.view.View.{View}
use Rattle.turn_table.proofs.Numbers.{has_at}
use Rattle.turn_table.proofs.Seats.{one_view}

module _ {V S : Type 0} (entries : V → List Entry) (start : V → S) (passes : ℕ) (begun : S) where
  abbrev Rule : State (Option V) View → Type 0
  Rule = IsKept entries start passes begun

  home_again : (s : State (Option V) View) (k : Rule s) (id : ℕ) (view : View) → get_elem? s.views id ≡ some view → view.stage ≡ Away → ((number : ℕ) → number < passes → Has (numbers_in view) number)
      → (home : slot.Option (Option V)) → k.home ≡ home → FitsHome entries start begun k.now.history s.views home → (value : V) × (home ≡ some (Some value)) × (entries value ≡ k.now.history) × (start value ≡ begun)
  home_again s k id view at away all none is turn =
      let fits = k.each_seat turn.0 turn.1 turn.2 in
      let mine = k.each_seat id view at in
      let in_turn = subst (FitsStage k.now k.home turn.1) turn.3 fits.stage in
      let low : turn.1.number < passes = k.below turn.1.number (has_at k.now.queue 0 turn.1.number in_turn.0) in
      let low' : turn.1.number < k.now.passes = let count = k.count in omega arith in
      let seats : turn.0 ≡ id = sym (fits.own turn.1.number (inl refl) low') ∙ mine.own turn.1.number (all turn.1.number low) low' in
      let views : turn.1 ≡ view = one_view s.views id turn.1 view (subst (λ (n : ℕ). get_elem? s.views n ≡ some turn.1) seats turn.2) at in
      let clash : InTurn ≡ Away = sym turn.3 ∙ (ap (λ (v : View). v.stage) views ∙ away) in absurd cc
  home_again s k id view at away all (some held) is fits = (fits.0, ap (λ (x : Option V). some x) fits.1, fits.2, fits.3)

  -- what is then in the slot
  pub closes : (id : ℕ) (view : View) (words : List ℕ) (slots : List (Option V)) (found : Option V) → view.stage ≡ Away → ((number : ℕ) → number < passes → Has (numbers_in view) number) → Final (Seen Rule id view) words slots → get_elem? slots 0 ≡ some found
      → (value : V) × (found ≡ Some value) × IsLeft entries start passes begun view value
  closes id view words slots found away all final there =
      let k : Rule final.0 = final.1.0 in
      let fits = k.each_seat id view final.1.1 in
      let home = home_again final.0 k id view final.1.1 away all k.home refl k.at_home in
      let here : get_elem? final.0.homes 0 ≡ some (some (Some home.0)) = ap (λ (hs : List (slot.Option (Option V))). get_elem? hs 0) k.homes ∙ ap (λ (h : slot.Option (Option V)). some h) home.1 in
      let same : found ≡ Some home.0 = some-injective found (Some home.0) (sym there ∙ final.4 0 (Some home.0) here) in (
        home.0,
        same,
        record {
          begins = home.3;
          actors = subst (All (λ (entry : Entry). entry.tag.actor < passes)) (sym home.2) k.actors;
          goes_on = subst (GoesOn (numbers_in view) view.seen) (sym home.2) fits.goes_on;
        },
      )
