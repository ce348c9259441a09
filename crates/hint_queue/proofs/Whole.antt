-- The seats of a pass that take in others.
use Rattle.std.proofs.Common.{◌≡◌, ℕ, ◌+◌, ◌≤◌, List, [], ◌∷◌, ◌++◌, length, refl, sym, ap, ◌∙◌, subst, arith}
use Rattle.std.proofs.lemmas.List.{append-nil}
use Rattle.std.proofs.lemmas.List.Sums.{sum_by-cons}
use Rattle.std.specs.List.{sum_by}
use Rattle.crossbeam_queue.specs.Fifo.{Learns, Merges}
use Rattle.crossbeam_queue.specs.Passes.{view}
use Rattle.hint_queue.specs.Counts.{united}
use Rattle.hint_queue.specs.Gathered.{HasPasses, IsWhole, Knows}
use Rattle.hint_queue.specs.Kept.{IsKept}
use Rattle.hint_queue.specs.Orders.{HintPassState, QueueState}
use Rattle.hint_queue.specs.Places.{IsSeated, Place, TellerSeat, events, part_in, pass_at}
use Rattle.hint_queue.specs.Steps.{Waiting, gathered, parts_of, spent}
use Rattle.hint_queue.specs.declared.counts.Sight.{Sight}
use Rattle.hint_queue.specs.declared.view.Part.{Part}
use Rattle.hint_queue.specs.declared.view.View.{View}
use Rattle.hint_queue.specs.declared.view.View.TheVariants.{Has}
use Rattle.hint_queue.proofs.Gathering.{gathers}
use Rattle.hint_queue.proofs.Merging.{own_knows, own_part, takes_in}
use Rattle.hint_queue.proofs.Pushing.{waits}

-- a seat with some passes has its passes
has_parts : (v : View) (parts : List Part) → v ≡ Has parts → v ≡ Has (parts_of v)
has_parts v parts is = is ∙ ap (λ (w : View). Has (parts_of w)) (sym is)

pub gathers_views : (id other : ℕ) (one two : View) → one ≡ Has (parts_of one) → two ≡ Has (parts_of two) → Merges IsKept id one other two (gathered one two) spent
gathers_views id other one two mine theirs =
    subst (λ (x : View × View). Merges IsKept id x.0 other x.1 (gathered x.0 x.1) spent) (λ i. (sym mine i, sym theirs i)) (gathers id (parts_of one) other (parts_of two))

pub waits_views : (id : ℕ) (one : View) → one ≡ Has (parts_of one) → Learns IsKept id one (Waiting one)
waits_views id one mine = subst (λ (v : View). Learns IsKept id v (Waiting v)) (sym mine) (waits id (parts_of one))

module _ (number pushes : ℕ) (place : Place) (teller : TellerSeat) (is : IsSeated number pushes place teller) (queue : QueueState) (pass : HintPassState) (same : pass ≡ pass_at place teller) (of : pass.queue ≡ queue) where
  pub at_queue : place.table_id ≡ queue.queue
  at_queue = ap (λ (p : HintPassState). p.queue.queue) (sym same) ∙ ap (λ (q : QueueState). q.queue) of

  pub at_counts : teller.table_id ≡ queue.counts
  at_counts = ap (λ (p : HintPassState). p.queue.counts) (sym same) ∙ ap (λ (q : QueueState). q.counts) of

  pub passes_of : (part_in (view place)).passes ≡ queue.passes
  passes_of = ap (λ (p : HintPassState). p.queue.passes) (sym same) ∙ ap (λ (q : QueueState). q.passes) of

  pub pages_in : (part_in (view place)).pages ≡ queue.pages
  pages_in = ap (λ (p : HintPassState). p.queue.pages) (sym same) ∙ ap (λ (q : QueueState). q.pages) of

  pub own_view : view place ≡ Has (parts_of (view place))
  own_view = has_parts (view place) (part_in (view place) ∷ []) is.at_queue

  pub first_whole : IsWhole queue place teller
  first_whole = record {
    at_queue = at_queue;
    no_slot = is.no_slot;
    view_is = own_view;
    at_counts = at_counts;
    none_out = is.at_counts;
    some_share = let one = is.share in omega (arith, one);
  }

  first_at : HasPasses queue (pass_at place teller ∷ []) place teller
  first_at = record {
    parts = part_in (view place) ∷ [];
    at_queue = at_queue;
    no_slot = is.no_slot;
    view_is = is.at_queue;
    are = (own_part number pushes place teller is, tt);
    at_counts = at_counts;
    none_out = is.at_counts;
    total = is.total ∙ passes_of;
    share = is.share;
    told = λ word. let mine = is.told word in omega (arith, mine, sum_by-cons (events word) (part_in (view place)) []);
    know = (subst (λ (sights : List Sight). Knows sights (pass_at place teller)) (append-nil teller.me.0.seen) (own_knows number pushes place teller is []), tt);
  }

  pub first_passes : HasPasses queue (pass ∷ []) place teller
  first_passes = subst (λ (p : HintPassState). HasPasses queue (p ∷ []) place teller) (sym same) first_at

  module _ (before after : Place) (told grown : TellerSeat) (whole : IsWhole queue before told) (table : after.table_id ≡ before.table_id) (slots : after.me.1 ≡ before.me.1) (views : view after ≡ gathered (view before) (view place)) (counts : grown.table_id ≡ told.table_id) (both : grown.me ≡ (united told.me.0 teller.me.0, told.me.1)) where
    pub more_whole : IsWhole queue after grown
    more_whole = record {
      at_queue = table ∙ whole.at_queue;
      no_slot = slots ∙ whole.no_slot;
      view_is = has_parts (view after) (parts_of (view place) ++ parts_of (view before)) views;
      at_counts = counts ∙ whole.at_counts;
      none_out = ap (λ m. m.1) both ∙ whole.none_out;
      some_share = let sum = ap (λ m. m.0.share) both in let one = whole.some_share in omega (arith, sum, one);
    }

    pub more_passes : (passes : List HintPassState) → HasPasses queue passes before told → HasPasses queue (pass ∷ passes) after grown
    more_passes passes has = subst (λ (p : HintPassState). HasPasses queue (p ∷ passes) after grown) (sym same)
        (takes_in number pushes place teller is queue passes before after told grown (ap (λ (p : HintPassState). p.queue) (sym same) ∙ of) has table slots views counts both)
