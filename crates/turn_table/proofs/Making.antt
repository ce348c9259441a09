-- A new lock keeps its rule.
use Rattle.std.proofs.Common.{◌≡◌, ℕ, zero, suc, ◌+◌, ◌-◌, ◌<◌, ◌≤◌, List, [], ◌∷◌, Some, refl, sym, subst, inl, ⊎_elim, arith}
use Rattle.std.proofs.lemmas.List.Elements.{All-nil}
use mathlib.Core.Option.{some, some-injective, some-ne-none}
use lib.ListN.{get_elem?}
use Rattle.atomic_table.specs.Table.{opening}
use Rattle.ssd_geo.specs.declared.entry.Entry.{Entry}
use Rattle.turn_table.specs.Kept.{AreApart, Fits, IsKept, Standing}
use Rattle.turn_table.specs.Passes.{Has}
use Rattle.turn_table.specs.Steps.{first_view, numbers_from}
use Rattle.turn_table.specs.Views.{numbers_in}
use Rattle.turn_table.specs.declared.view.View.{View}
use Rattle.turn_table.proofs.Lists.{goes_on_self}
use Rattle.turn_table.proofs.Numbers.{has_one}

-- numbers from one on are apart, and none is below it
from_on : (from count number : ℕ) → Has (numbers_from from count) number → (from ≤ number) × (number < from + count)
from_on from zero number has = absurd has
from_on from (suc count) number has =
    ⊎_elim (λ (e : number ≡ from). let P : Type 0 = (from ≤ number) × (number < from + suc count) in let pair : P = (omega arith, omega arith) in pair)
    (λ (t : Has (numbers_from (suc from) count) number). let rest = from_on (suc from) count number t in let least = rest.0 in let most = rest.1 in let P : Type 0 = (from ≤ number) × (number < from + suc count) in let pair : P = (omega arith, omega arith) in pair)
    has

apart_from : (from count : ℕ) → AreApart (numbers_from from count)
apart_from from zero = tt
apart_from from (suc count) = ((λ (h : Has (numbers_from (suc from) count) from). let least = (from_on (suc from) count from h).0 in omega arith), apart_from (suc from) count)

abbrev begun_now : ℕ → Standing
begun_now passes = record { passes = passes; serving = 0; queue = []; history = []; seat_of = λ number. 0 }

module _ {V S : Type 0} (entries : V → List Entry) (start : V → S) (passes : ℕ) (value : V) (some_pass : 1 ≤ passes) where
  first_fits : Fits {V = V} (begun_now passes) (some (Some value)) 0 (first_view passes)
  first_fits = record {
    numbered = inl (omega arith);
    own = λ number has low. refl;
    gives_apart = apart_from 1 (passes - 1);
    to_give = λ number has. let between = from_on 1 (passes - 1) number has in let least = between.0 in record {
      below = let most = between.1 in omega arith;
      seat_is = refl;
      no_entry = refl;
      not_own = λ h. let zero_is : number ≡ 0 = has_one number 0 h in omega arith;
      not_queued = λ h. h;
    };
    goes_on = goes_on_self (numbers_in (first_view passes)) [];
    joined = tt;
    stage = λ h. h;
  }

  only_first : (seat : ℕ) (view : View) → get_elem? (first_view passes ∷ []) seat ≡ some view → Fits {V = V} (begun_now passes) (some (Some value)) seat view
  only_first zero view e = subst (Fits {V = V} (begun_now passes) (some (Some value)) 0) (some-injective (first_view passes) view e) first_fits
  only_first (suc seat) view e = absurd (some-ne-none view (sym e))

  pub makes : passes ≤ 32 → entries value ≡ [] → IsKept entries start passes (start value) (opening (0 ∷ 0 ∷ []) (Some value ∷ []) (first_view passes))
  makes few empty = record {
    now = begun_now passes;
    home = some (Some value);
    count = refl;
    few = few;
    words = refl;
    homes = refl;
    apart = tt;
    below = λ number h. absurd h;
    actors = All-nil (λ entry. entry.tag.actor < passes);
    at_home = (value, refl, empty, refl);
    each_seat = only_first;
  }
