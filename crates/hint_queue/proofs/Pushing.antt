-- A page that is pushed keeps the rule of a queue.
use Rattle.std.proofs.Common.{◌≡◌, ◌≢◌, ℕ, ◌<◌, List, [], ◌∷◌, ◌++◌, set, refl, sym, ap, ◌∙◌, subst, inr, append_assoc}
use mathlib.Core.Option.{some}
use lib.ListN.{get_elem?}
use Rattle.crossbeam_queue.specs.Fifo.{Learns, Pushes}
use Rattle.hint_queue.specs.Kept.{Fits, FitsPart, IsKept, IsUndealt, Standing, noted_of}
use Rattle.hint_queue.specs.Steps.{Pushed, Waiting, pushed_part}
use Rattle.hint_queue.specs.declared.view.Noted.{Noted}
use Rattle.hint_queue.specs.declared.view.Part.{Part}
use Rattle.hint_queue.specs.declared.view.View.{View}
use Rattle.hint_queue.specs.declared.view.View.TheVariants.{Has}
use Rattle.hint_queue.proofs.Lists.{all_snoc, pages_other, pages_own}
use Rattle.hint_queue.proofs.Seats.{each_set, fits_map, kept_open}

-- the orders after a page was pushed
abbrev pushed_now : Standing → Noted → Standing
pushed_now now noted = record now { pushed = now.pushed ++ noted ∷ [] }

module _ (now : Standing) (noted : Noted) (id : ℕ) (mine : now.seat_of noted.by ≡ id) where
  not_mine : (seat number : ℕ) → seat ≢ id → now.seat_of number ≡ seat → noted.by ≢ number
  not_mine seat number apart is e = apart (sym is ∙ (ap now.seat_of (sym e) ∙ mine))

  part_stays : (seat : ℕ) → seat ≢ id → (part : Part) → FitsPart now seat part → FitsPart (pushed_now now noted) seat part
  part_stays seat apart part fits = record {
    passes = fits.passes;
    pages = fits.pages;
    below = fits.below;
    seat_is = fits.seat_is;
    pushed = pages_other now.pushed noted part.number (not_mine seat part.number apart fits.seat_is) ∙ fits.pushed;
    taken = fits.taken;
  }

  undealt_stays : (seat : ℕ) → seat ≢ id → (number : ℕ) → IsUndealt now seat number → IsUndealt (pushed_now now noted) seat number
  undealt_stays seat apart number is = record {
    seat_is = is.seat_is;
    pushed = pages_other now.pushed noted number (not_mine seat number apart is.seat_is) ∙ is.pushed;
    taken = is.taken;
  }

  part_grows : (part : Part) → part.number ≡ noted.by → FitsPart now id part → FitsPart (pushed_now now noted) id (pushed_part part noted.page)
  part_grows part same fits = record {
    passes = fits.passes;
    pages = fits.pages;
    below = fits.below;
    seat_is = fits.seat_is;
    pushed = pages_own now.pushed noted part.number (sym same) ∙ ap (λ l. l ++ noted.page ∷ []) fits.pushed;
    taken = fits.taken;
  }

pub pushes : (capacity id : ℕ) (part : Part) (noted : Noted) → part.number ≡ noted.by → noted.page < part.pages → Pushes IsKept capacity id (Has (part ∷ [])) noted (Pushed (Has (part ∷ [])) noted)
pushes capacity id part noted same low items views _ kept at =
    let k = kept_open items views id (part ∷ []) kept at in
    let fits : FitsPart k.now id part = (k.each_seat id (Has (part ∷ [])) at).0 in
    let mine : k.now.seat_of noted.by ≡ id = ap k.now.seat_of (sym same) ∙ fits.seat_is in
    let changed : View = Has (pushed_part part noted.page ∷ []) in (
      changed,
      inr record {
        now = pushed_now k.now noted;
        order = ap (λ l. l ++ noted ∷ []) k.order ∙ append_assoc (noted_of k.now.taken) items (noted ∷ []);
        pages = all_snoc (λ other. other.page < k.now.pages) k.now.pushed noted k.pages (subst (λ (n : ℕ). noted.page < n) fits.pages low);
        pushers = all_snoc (λ other. other.by < k.now.passes) k.now.pushed noted k.pushers (subst (λ (n : ℕ). n < k.now.passes) same fits.below);
        takers = k.takers;
        each_seat = each_set (Fits (pushed_now k.now noted)) views id changed
            (part_grows k.now noted id mine part same fits, tt, tt)
            (λ seat view apart there. fits_map k.now (pushed_now k.now noted) seat seat refl refl (part_stays k.now noted id mine seat apart)
            (λ number _. undealt_stays k.now noted id mine seat apart number) view (k.each_seat seat view there));
      },
      refl,
    )

-- a seat with passes sees the orders in which they have their places
pub waits : (id : ℕ) (parts : List Part) → Learns IsKept id (Has parts) (Waiting (Has parts))
waits id parts items views kept at =
    let k = kept_open items views id parts kept at in (views, k, id, k.each_seat id (Has parts) at)
