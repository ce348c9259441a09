-- The seats of a queue when one of them changes its view.
use Rattle.std.proofs.Common.{◌≡◌, ◌≢◌, ◌⊎◌, ℕ, zero, suc, ◌<◌, ◌≤◌, List, [], ◌∷◌, ◌++◌, length, set, refl, sym, ap, ◌∙◌, subst, inl, inr, ⊎_elim}
use mathlib.Core.Option.{some, some-injective, some-ne-none}
use lib.ListN.{get_elem?}
use Rattle.atomic_table.proofs.Lists.{at_set}
use Rattle.hint_queue.specs.Kept.{EachFits, Fits, FitsDealing, FitsPart, IsKept, IsNew, IsOpen, IsUndealt, Standing}
use Rattle.hint_queue.specs.declared.view.Noted.{Noted}
use Rattle.hint_queue.specs.declared.view.Part.{Part}
use Rattle.hint_queue.specs.declared.view.View.{View}
use Rattle.hint_queue.specs.declared.view.View.TheVariants.{New, Deals, Has}

-- what holds of the changed view, and of the others, holds of all
pub each_set : {A : Type 0} (F : ℕ → A → Type 0) (views : List A) (id : ℕ) (changed : A) → F id changed → ((seat : ℕ) (view : A) → seat ≢ id → get_elem? views seat ≡ some view → F seat view)
    → (seat : ℕ) (view : A) → get_elem? (set views id changed) seat ≡ some view → F seat view
each_set {A} F views id changed mine others seat view e =
    ⊎_elim (λ (t : (seat ≡ id) × (changed ≡ view)). subst (λ (x : ℕ × A). F x.0 x.1) (λ i. (sym t.0 i, t.1 i)) mine)
    (λ (t : (seat ≢ id) × (get_elem? views seat ≡ some view)). others seat view t.0 t.1)
    (at_set views id seat changed view e)

pub only_new : (view : View) (id : ℕ) → get_elem? (New ∷ []) id ≡ some view → (id ≡ 0) × (view ≡ New)
only_new view zero e = (refl, sym (some-injective New view e))
only_new view (suc id) e = absurd (some-ne-none view (sym e))

not_new : (parts : List Part) → Has parts ≡ New → ⊥
not_new parts e = absurd cc

-- a seat with passes is of a queue with a bound
pub kept_open : (items : List Noted) (views : List View) (id : ℕ) (parts : List Part) → IsKept items views → get_elem? views id ≡ some (Has parts) → IsOpen items views
kept_open items views id parts kept at =
    ⊎_elim (λ (t : IsNew items views). absurd (not_new parts (only_new (Has parts) id (ap (λ (l : List View). get_elem? l id) (sym t.1) ∙ at)).1))
    (λ (t : IsOpen items views). t) kept

pub each_map : (now after : Standing) (seat place : ℕ) → ((part : Part) → FitsPart now seat part → FitsPart after place part) → (parts : List Part) → EachFits now seat parts → EachFits after place parts
each_map now after seat place go [] each = tt
each_map now after seat place go (part ∷ parts) each = (go part each.0, each.1, each_map now after seat place go parts each.2)

pub fits_map : (now after : Standing) (seat place : ℕ) → now.passes ≡ after.passes → now.pages ≡ after.pages → ((part : Part) → FitsPart now seat part → FitsPart after place part)
    → ((number : ℕ) → number < now.passes → IsUndealt now seat number → IsUndealt after place number) → (view : View) → Fits now seat view → Fits after place view
fits_map now after seat place passes pages go undealt New fits = absurd fits
fits_map now after seat place passes pages go undealt (Deals dealing) fits = record {
  passes = fits.passes ∙ passes;
  pages = fits.pages ∙ pages;
  undealt = λ number from low. let low' : number < now.passes = subst (λ (n : ℕ). number < n) (sym passes) low in undealt number low' (fits.undealt number from low');
}
fits_map now after seat place passes pages go undealt (Has parts) fits = each_map now after seat place go parts fits
