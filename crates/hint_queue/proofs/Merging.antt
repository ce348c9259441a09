-- A pass that is taken in is among those that one seat has.
use Rattle.std.proofs.Common.{◌≡◌, ◌==◌, cond, eqb, eq-eqb, ne_eqb, nat_le, true, ℕ, ◌+◌, ◌≤◌, ◌≢◌, List, [], ◌∷◌, ◌++◌, length, refl, sym, ap, ◌∙◌, subst, arith}
use Rattle.std.proofs.lemmas.Bool.{leb-true}
use Rattle.std.proofs.lemmas.List.Sums.{sum_by-cons}
use Rattle.std.specs.List.{sum_by}
use mathlib.Core.Logic.{dite}
use native.Mathlib.Decide.{ℕ_discrete}
use Rattle.crossbeam_queue.specs.Passes.{view}
use Rattle.hint_queue.specs.Counts.{AreBelow, seen_in, times, united}
use Rattle.hint_queue.specs.Gathered.{EachKnows, HasPasses, IsPartOf, IsWhole, Knows}
use Rattle.hint_queue.specs.Orders.{HintPassState, QueueState}
use Rattle.hint_queue.specs.Places.{IsSeated, Place, TellerSeat, events, part_in, pass_at}
use Rattle.hint_queue.specs.Steps.{gathered, parts_of}
use Rattle.hint_queue.specs.declared.counts.Sight.{Sight}
use Rattle.hint_queue.specs.declared.view.Part.{Part}
use Rattle.hint_queue.specs.declared.view.View.{View}
use Rattle.hint_queue.specs.declared.view.View.TheVariants.{Has}
use Rattle.hint_queue.proofs.Telling.{times_append}

below_left : (most : ℕ → ℕ) (xs ys : List Sight) → AreBelow most (xs ++ ys) → AreBelow most xs
below_left most [] ys below = tt
below_left most (x ∷ xs) ys below = (below.0, below_left most xs ys below.1)

below_right : (most : ℕ → ℕ) (xs ys : List Sight) → AreBelow most (xs ++ ys) → AreBelow most ys
below_right most [] ys below = below
below_right most (x ∷ xs) ys below = below_right most xs ys below.1

-- what was seen last in a word is no more than what it has
seen_below : (most : ℕ → ℕ) (word : ℕ) (sights : List Sight) → AreBelow most sights → seen_in word sights ≤ most word
seen_below most word [] below = omega arith
seen_below most word (sight ∷ sights) below = dite (ℕ_discrete sight.word word)
    (λ (e : sight.word ≡ word).
    let here : seen_in word (sight ∷ sights) ≡ sight.count = ap (λ b. cond b sight.count (seen_in word sights)) (eq-eqb sight.word word e) in
    let first = below.0 in let same = ap most e in omega (arith, here, first, same))
    (λ (n : sight.word ≢ word).
    let there : seen_in word (sight ∷ sights) ≡ seen_in word sights = ap (λ b. cond b sight.count (seen_in word sights)) (ne_eqb sight.word word n) in
    let rest = seen_below most word sights below.1 in omega (arith, there, rest))

know_more : (more sights : List Sight) (passes : List HintPassState) → EachKnows sights passes → EachKnows (more ++ sights) passes
know_more more sights [] know = tt
know_more more sights (pass ∷ passes) know = (
  record {
    known = λ most below. know.0.known most (below_right most more sights below);
    met_full = λ most below. know.0.met_full most (below_right most more sights below);
  },
  know_more more sights passes know.1,
)

module _ (number pushes : ℕ) (place : Place) (teller : TellerSeat) (is : IsSeated number pushes place teller) where
  pub own_part : IsPartOf (pass_at place teller) (part_in (view place))
  own_part = record { passes = refl; pages = refl; number = refl; pushed = refl; taken = refl }

  pub own_knows : (more : List Sight) → Knows (teller.me.0.seen ++ more) (pass_at place teller)
  own_knows more = record {
    known = λ most below. seen_below most ((part_in (view place)).number + 1) teller.me.0.seen (below_left most teller.me.0.seen more below);
    met_full = λ most below full.
        let found = leb-true 256 (seen_in 0 teller.me.0.seen) full in
        let least = seen_below most 0 teller.me.0.seen (below_left most teller.me.0.seen more below) in omega (arith, found, least);
  }

  pub gathered_parts : (whole : View) → gathered whole (view place) ≡ Has (part_in (view place) ∷ parts_of whole)
  gathered_parts whole = ap (λ (v : View). gathered whole v) is.at_queue

  -- the whole that took this pass in
  pub takes_in : (queue : QueueState) (passes : List HintPassState) (before after : Place) (told grown : TellerSeat) → (pass_at place teller).queue ≡ queue → HasPasses queue passes before told
      → after.table_id ≡ before.table_id → after.me.1 ≡ before.me.1 → view after ≡ gathered (view before) (view place) → grown.table_id ≡ told.table_id → grown.me ≡ (united told.me.0 teller.me.0, told.me.1)
      → HasPasses queue (pass_at place teller ∷ passes) after grown
  takes_in queue passes before after told grown of has table slots views counts both =
      let part : Part = part_in (view place) in record {
        parts = part ∷ has.parts;
        at_queue = table ∙ has.at_queue;
        no_slot = slots ∙ has.no_slot;
        view_is = views ∙ (gathered_parts (view before) ∙ ap (λ (v : View). Has (part ∷ parts_of v)) has.view_is);
        are = (own_part, has.are);
        at_counts = counts ∙ has.at_counts;
        none_out = ap (λ m. m.1) both ∙ has.none_out;
        total = ap (λ m. m.0.total) both ∙ has.total;
        share = let sum = ap (λ m. m.0.share) both in let one = is.share in let rest = has.share in omega (arith, sum, one, rest);
        told = λ word.
            let sum = ap (λ m. times word m.0.told) both in
            let apart = times_append word teller.me.0.told told.me.0.told in
            let mine = is.told word in let rest = has.told word in omega (arith, sum, apart, mine, rest, sum_by-cons (events word) part has.parts);
        know = subst (λ (sights : List Sight). EachKnows sights (pass_at place teller ∷ passes)) (sym (ap (λ m. m.0.seen) both))
            (own_knows told.me.0.seen, know_more teller.me.0.seen told.me.0.seen passes has.know);
      }
