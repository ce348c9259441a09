-- A pass that takes in another keeps the rule of a queue.
use Rattle.std.proofs.Common.{◌≡◌, ◌≢◌, eqb, eq-eqb, ne_eqb, cond, ℕ, ◌<◌, List, [], ◌∷◌, ◌++◌, set, refl, sym, ap, ◌∙◌, inr}
use mathlib.Core.Option.{some}
use lib.ListN.{get_elem?}
use Rattle.atomic_table.proofs.Lists.{set_else}
use Rattle.crossbeam_queue.specs.Fifo.{Merges}
use Rattle.hint_queue.specs.Kept.{EachFits, Fits, FitsPart, IsKept, IsUndealt, Lack, Standing}
use Rattle.hint_queue.specs.Steps.{gathered, spent}
use Rattle.hint_queue.specs.declared.view.Part.{Part}
use Rattle.hint_queue.specs.declared.view.View.{View}
use Rattle.hint_queue.specs.declared.view.View.TheVariants.{Has}
use Rattle.hint_queue.proofs.Seats.{each_map, each_set, fits_map, kept_open}

-- the seats after those of one went to another
abbrev moved : Standing → ℕ → ℕ → Standing
moved now from to = record now { seat_of = λ number. cond (eqb (now.seat_of number) from) to (now.seat_of number) }

module _ (now : Standing) (id other : ℕ) (apart : other ≢ id) where
  stays : (number seat : ℕ) → now.seat_of number ≡ seat → seat ≢ other → (moved now other id).seat_of number ≡ seat
  stays number seat is not = ap (λ b. cond b id (now.seat_of number)) (ne_eqb (now.seat_of number) other (λ e. not (sym is ∙ e))) ∙ is

  moves : (number : ℕ) → now.seat_of number ≡ other → (moved now other id).seat_of number ≡ id
  moves number is = ap (λ b. cond b id (now.seat_of number)) (eq-eqb (now.seat_of number) other is)

  part_stays : (seat : ℕ) → seat ≢ other → (part : Part) → FitsPart now seat part → FitsPart (moved now other id) seat part
  part_stays seat not part fits = record {
    passes = fits.passes;
    pages = fits.pages;
    below = fits.below;
    seat_is = stays part.number seat fits.seat_is not;
    pushed = fits.pushed;
    taken = fits.taken;
  }

  part_moves : (part : Part) → FitsPart now other part → FitsPart (moved now other id) id part
  part_moves part fits = record {
    passes = fits.passes;
    pages = fits.pages;
    below = fits.below;
    seat_is = moves part.number fits.seat_is;
    pushed = fits.pushed;
    taken = fits.taken;
  }

  undealt_stays : (seat : ℕ) → seat ≢ other → (number : ℕ) → IsUndealt now seat number → IsUndealt (moved now other id) seat number
  undealt_stays seat not number at = record { seat_is = stays number seat at.seat_is not; pushed = at.pushed; taken = at.taken }

  -- the numbers of one seat aren't those of another
  lack_of : (number : ℕ) → now.seat_of number ≡ other → (parts : List Part) → EachFits now id parts → Lack parts number
  lack_of number is [] each = tt
  lack_of number is (part ∷ parts) each = ((λ e. apart (sym is ∙ (ap now.seat_of (sym e) ∙ each.0.seat_is))), lack_of number is parts each.2)

  lack_both : (number : ℕ) (xs ys : List Part) → Lack xs number → Lack ys number → Lack (xs ++ ys) number
  lack_both number [] ys one two = two
  lack_both number (x ∷ xs) ys one two = (one.0, lack_both number xs ys one.1 two)

  both_fit : (mine theirs : List Part) → EachFits now id mine → EachFits now other theirs → EachFits (moved now other id) id (theirs ++ mine)
  both_fit mine [] each _ = each_map now (moved now other id) id id (part_stays id (λ e. apart (sym e))) mine each
  both_fit mine (part ∷ theirs) each rest = (
    part_moves part rest.0,
    lack_both part.number theirs mine rest.1 (lack_of part.number rest.0.seat_is mine each),
    both_fit mine theirs each rest.2,
  )

pub gathers : (id : ℕ) (mine : List Part) (other : ℕ) (theirs : List Part) → Merges IsKept id (Has mine) other (Has theirs) (gathered (Has mine) (Has theirs)) spent
gathers id mine other theirs items views kept at apart there =
    let k = kept_open items views id mine kept at in
    let whole : View = gathered (Has mine) (Has theirs) in
    let there' : get_elem? views other ≡ some (Has theirs) = sym (set_else views id other whole apart) ∙ there in
    let after : Standing = moved k.now other id in
    inr record {
      now = after;
      order = k.order;
      pages = k.pages;
      pushers = k.pushers;
      takers = k.takers;
      each_seat = each_set (Fits after) (set views id whole) other spent tt
          (λ seat view not_other it. each_set (λ n v. n ≢ other → Fits after n v) views id whole
          (λ _. both_fit k.now id other apart mine theirs (k.each_seat id (Has mine) at) (k.each_seat other (Has theirs) there'))
          (λ n v not_id is not. fits_map k.now after n n refl refl (part_stays k.now id other apart n not) (λ number _. undealt_stays k.now id other apart n not number) v (k.each_seat n v is))
          seat view it not_other);
    }
