-- A queue that gets its bound keeps its rule, and so does a pass that is made.
use Rattle.std.proofs.Common.{◌≡◌, ◌≢◌, ◌⊎◌, eqb, eq-eqb, ne_eqb, cond, ℕ, zero, suc, ◌+◌, ◌<◌, ◌≤◌, List, [], ◌∷◌, ◌++◌, length, set, refl, sym, ap, ◌∙◌, subst, inl, inr, ⊎_elim, arith, length-set}
use Rattle.std.proofs.lemmas.List.Elements.{All-nil}
use mathlib.Core.Option.{some, some-injective, some-ne-none}
use lib.ListN.{get_elem?}
use Rattle.crossbeam_queue.specs.Fifo.{Forks}
use Rattle.hint_queue.specs.Kept.{Fits, FitsDealing, FitsPart, IsKept, IsNew, IsOpen, IsUndealt, Standing}
use Rattle.hint_queue.specs.Steps.{deal_left, deal_right, new_part, opened, spent}
use Rattle.hint_queue.specs.declared.view.Dealing.{Dealing}
use Rattle.hint_queue.specs.declared.view.Noted.{Noted}
use Rattle.hint_queue.specs.declared.view.Part.{Part}
use Rattle.hint_queue.specs.declared.view.View.{View}
use Rattle.hint_queue.specs.declared.view.View.TheVariants.{New, Deals, Has}
use Rattle.hint_queue.proofs.Seats.{each_set, fits_map, only_new}
use Rattle.shared_lemmas.proofs.Lists.{last_or_before}

pub begins : IsKept [] (New ∷ [])
begins = inl (refl, refl)

module _ (passes pages : ℕ) where
  abbrev first_now : Standing
  first_now = record { passes = passes; pages = pages; pushed = []; taken = []; seat_of = λ number. 0 }

  first_fits : (seat : ℕ) (view : View) → get_elem? (opened passes pages ∷ spent ∷ []) seat ≡ some view → Fits first_now seat view
  first_fits zero view e =
      subst (Fits first_now 0) (some-injective (opened passes pages) view e)
      (record { passes = refl; pages = refl; undealt = λ number _ _. record { seat_is = refl; pushed = refl; taken = refl } })
  first_fits (suc zero) view e = subst (Fits first_now 1) (some-injective spent view e) tt
  first_fits (suc (suc seat)) view e = absurd (some-ne-none view (sym e))

  first_open : IsKept [] (opened passes pages ∷ spent ∷ [])
  first_open = inr record {
    now = first_now;
    order = refl;
    pages = All-nil (λ noted. noted.page < pages);
    pushers = All-nil (λ noted. noted.by < passes);
    takers = All-nil (λ took. took.by < passes);
    each_seat = first_fits;
  }

  pub opens : (id : ℕ) → Forks IsKept id New (opened passes pages) spent
  opens id items views kept at =
      ⊎_elim (λ (t : IsNew items views).
      let place : id ≡ 0 = (only_new New id (ap (λ (l : List View). get_elem? l id) (sym t.1) ∙ at)).0 in
      let are : [] ≡ items = sym t.0 in
      let seats : opened passes pages ∷ spent ∷ [] ≡ set views id (opened passes pages) ++ spent ∷ [] =
      ap (λ (x : List View × ℕ). set x.0 x.1 (opened passes pages) ++ spent ∷ []) (λ i. (sym t.1 i, sym place i)) in
      subst (λ (x : List Noted × List View). IsKept x.0 x.1) (λ i. (are i, seats i)) first_open)
      (λ (t : IsOpen items views). absurd (t.each_seat id New at)) kept

-- the seats after a number went to a new one
abbrev dealt_now : Standing → ℕ → ℕ → Standing
dealt_now now given fresh = record now { seat_of = λ number. cond (eqb number given) fresh (now.seat_of number) }

module _ (now : Standing) (id given fresh : ℕ) (is : now.seat_of given ≡ id) where
  same_seat : (number : ℕ) → number ≢ given → (dealt_now now given fresh).seat_of number ≡ now.seat_of number
  same_seat number other = ap (λ b. cond b fresh (now.seat_of number)) (ne_eqb number given other)

  new_seat : (dealt_now now given fresh).seat_of given ≡ fresh
  new_seat = ap (λ b. cond b fresh (now.seat_of given)) (eq-eqb given given refl)

  not_given : (seat number : ℕ) → seat ≢ id → now.seat_of number ≡ seat → number ≢ given
  not_given seat number apart at e = apart (sym at ∙ (ap now.seat_of e ∙ is))

  part_stays : (seat : ℕ) → seat ≢ id → (part : Part) → FitsPart now seat part → FitsPart (dealt_now now given fresh) seat part
  part_stays seat apart part fits = record {
    passes = fits.passes;
    pages = fits.pages;
    below = fits.below;
    seat_is = same_seat part.number (not_given seat part.number apart fits.seat_is) ∙ fits.seat_is;
    pushed = fits.pushed;
    taken = fits.taken;
  }

  undealt_stays : (seat : ℕ) → (number : ℕ) → number ≢ given → IsUndealt now seat number → IsUndealt (dealt_now now given fresh) seat number
  undealt_stays seat number other at = record {
    seat_is = same_seat number other ∙ at.seat_is;
    pushed = at.pushed;
    taken = at.taken;
  }

pub deals : (id : ℕ) (dealing : Dealing) → dealing.from < dealing.passes → Forks IsKept id (Deals dealing) (deal_left (Deals dealing)) (deal_right (Deals dealing))
deals id dealing low items views kept at =
    ⊎_elim (λ (t : IsNew items views).
    let clash : Deals dealing ≡ New = (only_new (Deals dealing) id (ap (λ (l : List View). get_elem? l id) (sym t.1) ∙ at)).1 in absurd cc)
    (λ (k : IsOpen items views).
    let fits : FitsDealing k.now id dealing = k.each_seat id (Deals dealing) at in
    let below : dealing.from < k.now.passes = subst (λ (n : ℕ). dealing.from < n) fits.passes low in
    let mine : IsUndealt k.now id dealing.from = fits.undealt dealing.from (omega arith) below in
    let fresh : ℕ = length views in
    let after : Standing = dealt_now k.now dealing.from fresh in
    let left : View = deal_left (Deals dealing) in
    let right : View = deal_right (Deals dealing) in
    let new : Fits after fresh right = (
      record {
        passes = fits.passes;
        pages = fits.pages;
        below = below;
        seat_is = new_seat k.now id dealing.from fresh mine.seat_is;
        pushed = mine.pushed;
        taken = mine.taken;
      },
      tt,
      tt,
    ) in
    let old = each_set (Fits after) views id left
    (record {
      passes = fits.passes;
      pages = fits.pages;
      undealt = λ number from under. undealt_stays k.now id dealing.from fresh mine.seat_is id number (λ e. omega arith) (fits.undealt number (omega arith) under);
    })
    (λ seat view apart there. fits_map k.now after seat seat refl refl (part_stays k.now id dealing.from fresh mine.seat_is seat apart)
    (λ number _ un. undealt_stays k.now id dealing.from fresh mine.seat_is seat number (not_given k.now id dealing.from fresh mine.seat_is seat number apart un.seat_is) un) view (k.each_seat seat view there)) in
    inr record {
      now = after;
      order = k.order;
      pages = k.pages;
      pushers = k.pushers;
      takers = k.takers;
      each_seat = λ seat view there. ⊎_elim (old seat view)
          (λ (t : (seat ≡ length (set views id left)) × (right ≡ view)).
          let place : seat ≡ fresh = t.0 ∙ length-set views id left in
          subst (λ (x : ℕ × View). Fits after x.0 x.1) (λ i. (sym place i, t.1 i)) new)
          (last_or_before (set views id left) right view seat there);
    }) kept
