-- A page that is taken keeps the rule of a queue.
use Rattle.std.proofs.Common.{◌≡◌, ◌≢◌, ℕ, ◌<◌, List, [], ◌∷◌, ◌++◌, All, set, refl, sym, ap, ◌∙◌, subst, inr, append_assoc}
use Rattle.std.proofs.lemmas.List.{map-append}
use mathlib.Core.Option.{some}
use lib.ListN.{get_elem?}
use Rattle.crossbeam_queue.specs.Fifo.{Pops}
use Rattle.hint_queue.specs.Kept.{Fits, FitsPart, IsKept, IsUndealt, Standing, Took, noted_of}
use Rattle.hint_queue.specs.Steps.{Taken, taken_part}
use Rattle.hint_queue.specs.declared.view.Noted.{Noted}
use Rattle.hint_queue.specs.declared.view.Part.{Part}
use Rattle.hint_queue.specs.declared.view.View.{View}
use Rattle.hint_queue.specs.declared.view.View.TheVariants.{Has}
use Rattle.hint_queue.proofs.Lists.{all_mid, all_snoc, taken_other, taken_own}
use Rattle.hint_queue.proofs.Seats.{each_set, fits_map, kept_open}

-- the orders after a page was taken
abbrev taken_now : Standing → Took → Standing
taken_now now took = record now { taken = now.taken ++ took ∷ [] }

module _ (now : Standing) (took : Took) (id : ℕ) (mine : now.seat_of took.by ≡ id) where
  not_mine : (seat number : ℕ) → seat ≢ id → now.seat_of number ≡ seat → took.by ≢ number
  not_mine seat number apart is e = apart (sym is ∙ (ap now.seat_of (sym e) ∙ mine))

  part_stays : (seat : ℕ) → seat ≢ id → (part : Part) → FitsPart now seat part → FitsPart (taken_now now took) seat part
  part_stays seat apart part fits = record {
    passes = fits.passes;
    pages = fits.pages;
    below = fits.below;
    seat_is = fits.seat_is;
    pushed = fits.pushed;
    taken = taken_other now.taken took part.number (not_mine seat part.number apart fits.seat_is) ∙ fits.taken;
  }

  undealt_stays : (seat : ℕ) → seat ≢ id → (number : ℕ) → IsUndealt now seat number → IsUndealt (taken_now now took) seat number
  undealt_stays seat apart number is = record {
    seat_is = is.seat_is;
    pushed = is.pushed;
    taken = taken_other now.taken took number (not_mine seat number apart is.seat_is) ∙ is.taken;
  }

  part_grows : (part : Part) → part.number ≡ took.by → FitsPart now id part → FitsPart (taken_now now took) id (taken_part part took.noted)
  part_grows part same fits = record {
    passes = fits.passes;
    pages = fits.pages;
    below = fits.below;
    seat_is = fits.seat_is;
    pushed = fits.pushed;
    taken = taken_own now.taken took part.number (sym same) ∙ ap (λ l. l ++ took.noted ∷ []) fits.taken;
  }

pub takes : (id : ℕ) (part : Part) → Pops IsKept id (Has (part ∷ [])) (Taken (Has (part ∷ [])))
takes id part noted items views kept at =
    let k = kept_open (noted ∷ items) views id (part ∷ []) kept at in
    let fits : FitsPart k.now id part = (k.each_seat id (Has (part ∷ [])) at).0 in
    let took : Took = record { by = part.number; noted = noted } in
    let changed : View = Has (taken_part part noted ∷ []) in
    let low : noted.page < k.now.pages =
    all_mid (λ (other : Noted). other.page < k.now.pages) (noted_of k.now.taken) noted items (subst (All (λ (other : Noted). other.page < k.now.pages)) k.order k.pages) in
    let by : noted.by < k.now.passes =
    all_mid (λ (other : Noted). other.by < k.now.passes) (noted_of k.now.taken) noted items (subst (All (λ (other : Noted). other.by < k.now.passes)) k.order k.pushers) in (
      changed,
      inr record {
        now = taken_now k.now took;
        order = k.order
            ∙ (sym (append_assoc (noted_of k.now.taken) (noted ∷ []) items)
            ∙ ap (λ l. l ++ items) (sym (map-append (λ (other : Took). other.noted) k.now.taken (took ∷ []))));
        pages = k.pages;
        pushers = k.pushers;
        takers = all_snoc (λ other. other.by < k.now.passes) k.now.taken took k.takers fits.below;
        each_seat = each_set (Fits (taken_now k.now took)) views id changed
            (part_grows k.now took id fits.seat_is part refl fits, tt, tt)
            (λ seat view apart there. fits_map k.now (taken_now k.now took) seat seat refl refl (part_stays k.now took id fits.seat_is seat apart)
            (λ number _. undealt_stays k.now took id fits.seat_is seat apart number) view (k.each_seat seat view there));
      },
      (refl, (subst (λ (n : ℕ). noted.page < n) (sym fits.pages) low, subst (λ (n : ℕ). noted.by < n) (sym fits.passes) by)),
    )
