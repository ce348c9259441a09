-- The passes of a new queue, as they are dealt.
use Rattle.std.proofs.Common.{◌≡◌, ℕ, zero, suc, ◌+◌, ◌≤◌, nat_le, false, length, List, [], ◌∷◌, ◌++◌, refl, sym, ap, ◌∙◌, subst, arith}
use Rattle.atomic_table.specs.Seated.{TableId}
use Rattle.crossbeam_queue.specs.Passes.{view}
use Rattle.hint_queue.specs.Counts.{one_share, seen_in, times}
use Rattle.hint_queue.specs.Orders.{HintPassState, QueueState, new_pass, new_passes, pages_of}
use Rattle.hint_queue.specs.Places.{IsSeated, Place, TellerSeat, events, part_in, pass_at}
use Rattle.hint_queue.specs.Steps.{new_part}
use Rattle.hint_queue.specs.declared.view.Part.{Part}
use Rattle.hint_queue.specs.declared.view.View.TheVariants.{Has}

nothing_told : (passes pages number word : ℕ) → times word [] ≡ events word (new_part passes pages number)
nothing_told passes pages number zero = refl
nothing_told passes pages number (suc word) = refl

module _ (passes pages number : ℕ) (place : Place) (teller : TellerSeat) (at : view place ≡ Has (new_part passes pages number ∷ [])) (told : teller.me ≡ (one_share passes, [])) where
  there : part_in (view place) ≡ new_part passes pages number
  there = ap part_in at

  pub dealt_seats : place.me.1 ≡ [] → number + 1 ≤ passes → passes ≤ 32 → IsSeated number 0 place teller
  dealt_seats slots low few = record {
    at_queue = at ∙ ap (λ (p : Part). Has (p ∷ [])) (sym there);
    no_slot = slots;
    numbered = ap (λ (p : Part). p.number) there;
    below = subst (λ (n : ℕ). number + 1 ≤ n) (sym (ap (λ (p : Part). p.passes) there)) low;
    few = subst (λ (n : ℕ). n ≤ 32) (sym (ap (λ (p : Part). p.passes) there)) few;
    count = ap (λ (p : Part). length p.pushed) there;
    at_counts = ap (λ m. m.1) told;
    total = ap (λ m. m.0.total) told ∙ sym (ap (λ (p : Part). p.passes) there);
    share = ap (λ m. m.0.share) told;
    told = λ word. ap (λ m. times word m.0.told) told ∙ (nothing_told passes pages number word ∙ ap (events word) (sym there));
  }

  pub dealt_pass : (queue : QueueState) → place.table_id ≡ queue.queue → teller.table_id ≡ queue.counts → passes ≡ queue.passes → pages ≡ queue.pages → pass_at place teller ≡ new_pass queue number
  dealt_pass queue at_queue at_counts count bound =
      let seen : teller.me.0.seen ≡ [] = ap (λ m. m.0.seen) told in
      let passes_is : (part_in (view place)).passes ≡ queue.passes = ap (λ (p : Part). p.passes) there ∙ count in
      let pages_is : (part_in (view place)).pages ≡ queue.pages = ap (λ (p : Part). p.pages) there ∙ bound in
      λ i. record {
        queue = record { queue = at_queue i; counts = at_counts i; passes = passes_is i; pages = pages_is i };
        number = (there i).number;
        pushed = (there i).pushed;
        taken = pages_of (there i).taken;
        known = seen_in ((there i).number + 1) (seen i);
        met_full = nat_le 256 (seen_in 0 (seen i));
      }

one_more : (queue : QueueState) (from count : ℕ) → new_passes queue from count ++ new_pass queue (from + count) ∷ [] ≡ new_passes queue from (suc count)
one_more queue from zero = let same : from + 0 ≡ from = omega arith in ap (λ n. new_pass queue n ∷ []) same
one_more queue from (suc count) =
    let same : from + suc count ≡ suc from + count = omega arith in
    ap (λ n. new_pass queue from ∷ (new_passes queue (suc from) count ++ new_pass queue n ∷ [])) same
    ∙ ap (λ ps. new_pass queue from ∷ ps) (one_more queue (suc from) count)

pub dealt_one : (queue : QueueState) (count : ℕ) (passes : List HintPassState) (pass : HintPassState) → passes ≡ new_passes queue 0 count → pass ≡ new_pass queue count → passes ++ pass ∷ [] ≡ new_passes queue 0 (count + 1)
dealt_one queue count passes pass are is =
    let from : 0 + count ≡ count = omega arith in
    let next : suc count ≡ count + 1 = omega arith in
    let both : passes ++ pass ∷ [] ≡ new_passes queue 0 count ++ new_pass queue count ∷ [] = λ i. are i ++ is i ∷ [] in
    both ∙ (ap (λ n. new_passes queue 0 count ++ new_pass queue n ∷ []) (sym from) ∙ (one_more queue 0 count ∙ ap (new_passes queue 0) next))
