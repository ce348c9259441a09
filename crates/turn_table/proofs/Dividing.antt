-- A pass that is split keeps the rule of a lock.
use Rattle.std.proofs.Common.{◌≡◌, ◌≢◌, ◌⊎◌, eqb, eq-eqb, ne_eqb, cond, ℕ, zero, suc, ◌<◌, ◌≤◌, List, [], ◌∷◌, ◌++◌, length, drop, get_or, set, Option, refl, sym, ap, ◌∙◌, subst, inl, inr, ⊎_elim, arith, length-set}
use mathlib.Core.Option.{some, none, some-injective, some-ne-none}
use mathlib.Core.Option as slot
use lib.ListN.{get_elem?}
use Rattle.atomic_table.specs.Table.{Splits, State}
use Rattle.atomic_table.proofs.Lists.{at_longer}
use Rattle.ssd_geo.specs.declared.entry.Entry.{Entry}
use Rattle.turn_table.specs.Kept.{AreApart, Fits, FitsHome, FitsStage, IsKept, Standing}
use Rattle.turn_table.specs.Passes.{Has, entries_by}
use Rattle.turn_table.specs.Steps.{split_left, split_right}
use Rattle.turn_table.specs.Views.{numbers_in, view_at}
use Rattle.turn_table.specs.declared.view.Stage.TheVariants.{Away}
use Rattle.turn_table.specs.declared.view.View.{View}
use Rattle.turn_table.proofs.Lists.{none_above, none_before}
use Rattle.turn_table.proofs.Numbers.{has_one}
use Rattle.turn_table.proofs.Seats.{each_set, reseated, still_home}
use Rattle.shared_lemmas.proofs.Lists.{last_or_before}

-- a number that a seat gives away
record IsGiven (now : Standing) (id : ℕ) (view : View) (given : ℕ) : Type 0 where
  numbered : (given < now.passes) ⊎ (given ≡ 255)
  seat_is : given < now.passes → now.seat_of given ≡ id
  not_own : given < now.passes → Has (numbers_in view) given → ⊥
  later_apart : AreApart (drop 1 view.gives)
  later : (number : ℕ) → Has (drop 1 view.gives) number → Has view.gives number
  not_later : (number : ℕ) → Has (drop 1 view.gives) number → number ≢ given
  no_entry : entries_by given now.history ≡ []
  not_queued : Has now.queue given → ⊥

-- the seats after a number went to a new one
abbrev given_to : Standing → ℕ → ℕ → Standing
given_to now given seat = record now { seat_of = λ number. cond (eqb number given) seat (now.seat_of number) }

module _ {V : Type 0} (now : Standing) (home : slot.Option (Option V)) (id given fresh : ℕ) (view : View) (is : IsGiven now id view given) (few : now.passes ≤ 32) where
  given_seat : (given_to now given fresh).seat_of given ≡ fresh
  given_seat = ap (λ b. cond b fresh (now.seat_of given)) (eq-eqb given given refl)

  same_seat : (number : ℕ) → number ≢ given → (given_to now given fresh).seat_of number ≡ now.seat_of number
  same_seat number other = ap (λ b. cond b fresh (now.seat_of number)) (ne_eqb number given other)

  other_fits : (seat : ℕ) (other : View) → seat ≢ id → Fits now home seat other → Fits (given_to now given fresh) home seat other
  other_fits seat other apart fits =
      let not_given : (number : ℕ) → number < now.passes → now.seat_of number ≡ seat → number ≢ given =
      λ number low mine e. apart (sym mine ∙ (ap now.seat_of e ∙ is.seat_is (subst (λ (n : ℕ). n < now.passes) e low))) in record {
        numbered = fits.numbered;
        own = λ number has low. same_seat number (not_given number low (fits.own number has low)) ∙ fits.own number has low;
        gives_apart = fits.gives_apart;
        to_give = λ number has. let unused = fits.to_give number has in record {
          below = unused.below;
          seat_is = same_seat number (not_given number unused.below unused.seat_is) ∙ unused.seat_is;
          no_entry = unused.no_entry;
          not_own = unused.not_own;
          not_queued = unused.not_queued;
        };
        goes_on = fits.goes_on;
        joined = fits.joined;
        stage = reseated now (given_to now given fresh).seat_of home other other.stage fits.stage;
      }

  left_fits : view.stage ≡ Away → Fits now home id view → Fits (given_to now given fresh) home id (split_left view)
  left_fits away fits =
      let not_given : (number : ℕ) → Has (numbers_in view) number → number < now.passes → number ≢ given =
      λ number has low e. is.not_own (subst (λ (n : ℕ). n < now.passes) e low) (subst (Has (numbers_in view)) e has) in record {
        numbered = fits.numbered;
        own = λ number has low. same_seat number (not_given number has low) ∙ fits.own number has low;
        gives_apart = is.later_apart;
        to_give = λ number has. let unused = fits.to_give number (is.later number has) in record {
          below = unused.below;
          seat_is = same_seat number (is.not_later number has) ∙ unused.seat_is;
          no_entry = unused.no_entry;
          not_own = unused.not_own;
          not_queued = unused.not_queued;
        };
        goes_on = fits.goes_on;
        joined = fits.joined;
        stage = subst (FitsStage (given_to now given fresh) home (split_left view)) (sym away) (subst (FitsStage now home view) away fits.stage);
      }

  right_fits : Fits now home id view → Fits (given_to now given fresh) home fresh (view_at Away given [] view.seen)
  right_fits fits = record {
    numbered = is.numbered;
    own = λ number has low. ap (given_to now given fresh).seat_of (has_one number given has) ∙ given_seat;
    gives_apart = tt;
    to_give = λ number has. absurd has;
    goes_on = record {
      rest = fits.goes_on.rest;
      begins = fits.goes_on.begins;
      own = λ number has.
          let e : number ≡ given = has_one number given has in
          let none_seen : entries_by given view.seen ≡ [] = none_before given view.seen fits.goes_on.rest (ap (entries_by given) (sym fits.goes_on.begins) ∙ is.no_entry) in
          ap (λ n. entries_by n now.history) e ∙ (is.no_entry ∙ (sym none_seen ∙ ap (λ n. entries_by n view.seen) (sym e)));
    };
    joined = tt;
    stage = is.not_queued;
  }

module _ {V S : Type 0} (entries : V → List Entry) (start : V → S) (passes : ℕ) (begun : S) where
  abbrev Rule : State (Option V) View → Type 0
  Rule = IsKept entries start passes begun

  longer_home : (history : List Entry) (views : List View) (added : View) (home : slot.Option (Option V)) → FitsHome entries start begun history views home → FitsHome entries start begun history (views ++ added ∷ []) home
  longer_home history views added none turn = (turn.0, turn.1, at_longer views (added ∷ []) turn.0 turn.1 turn.2, turn.3)
  longer_home history views added (some held) is = is

  is_given : (s : State (Option V) View) (k : Rule s) (id : ℕ) (view : View) → Fits k.now k.home id view → (gives : List ℕ) → view.gives ≡ gives → IsGiven k.now id view (get_or gives 0 255)
  is_given s k id view fits [] is =
      let few = k.few in let count = k.count in
      let none : (number : ℕ) → Has (drop 1 view.gives) number → ⊥ = λ number has. subst (λ (l : List ℕ). Has (drop 1 l) number) is has in record {
        numbered = inr refl;
        seat_is = λ low. absurd (omega arith);
        not_own = λ low. absurd (omega arith);
        later_apart = subst (λ (l : List ℕ). AreApart (drop 1 l)) (sym is) tt;
        later = λ number has. absurd (none number has);
        not_later = λ number has. absurd (none number has);
        no_entry = none_above passes 255 k.now.history k.actors (omega arith);
        not_queued = λ h. let low = k.below 255 h in omega arith;
      }
  is_given s k id view fits (given ∷ gives) is =
      let unused = fits.to_give given (subst (λ (l : List ℕ). Has l given) (sym is) (inl refl)) in
      let apart : AreApart (given ∷ gives) = subst AreApart is fits.gives_apart in record {
        numbered = inl unused.below;
        seat_is = λ low. unused.seat_is;
        not_own = λ low. unused.not_own;
        later_apart = subst (λ (l : List ℕ). AreApart (drop 1 l)) (sym is) apart.1;
        later = λ number has. subst (λ (l : List ℕ). Has l number) (sym is) (inr (subst (λ (l : List ℕ). Has (drop 1 l) number) is has));
        not_later = λ number has e. apart.0 (subst (Has gives) e (subst (λ (l : List ℕ). Has (drop 1 l) number) is has));
        no_entry = unused.no_entry;
        not_queued = unused.not_queued;
      }

  pub splits : (id : ℕ) (view : View) → view.stage ≡ Away → Splits Rule id view (split_left view) (split_right view)
  splits id view away s k at =
      let fits = k.each_seat id view at in
      let given : ℕ = get_or view.gives 0 255 in
      let is : IsGiven k.now id view given = is_given s k id view fits view.gives refl in
      let fresh : ℕ = length s.views in
      let count = k.count in let few = k.few in
      let low : k.now.passes ≤ 32 = omega arith in
      let left = left_fits k.now k.home id given fresh view is low away fits in
      let old = each_set (Fits (given_to k.now given fresh) k.home) s.views id (split_left view) left
      (λ seat other apart there. other_fits k.now k.home id given fresh view is low seat other apart (k.each_seat seat other there)) in
      let home = still_home entries start begun k.now.history s.views id view (split_left view) at away k.home k.at_home in record {
        now = given_to k.now given fresh;
        home = k.home;
        count = k.count;
        few = k.few;
        words = k.words;
        homes = k.homes;
        apart = k.apart;
        below = k.below;
        actors = k.actors;
        at_home = longer_home k.now.history (set s.views id (split_left view)) (split_right view) k.home home;
        each_seat = λ seat other there. ⊎_elim (old seat other)
            (λ (t : (seat ≡ length (set s.views id (split_left view))) × (split_right view ≡ other)).
            let place : seat ≡ fresh = t.0 ∙ length-set s.views id (split_left view) in
            subst (λ (x : ℕ × View). Fits (given_to k.now given fresh) k.home x.0 x.1) (λ i. (sym place i, t.1 i)) (right_fits k.now k.home id given fresh view is low fits))
            (last_or_before (set s.views id (split_left view)) (split_right view) other seat there);
      }
