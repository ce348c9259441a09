-- The seats that took in all passes, at the close.
use Rattle.std.proofs.Common.{◌≡◌, ℕ, ◌≤◌, List, [], ◌∷◌, length, All, sym, ap, ◌∙◌, subst, arith}
use Rattle.std.specs.List.{sum_by}
use Rattle.crossbeam_queue.specs.Fifo.{Held}
use Rattle.crossbeam_queue.specs.Passes.{view}
use Rattle.hint_queue.specs.Counts.{AreBelow, times}
use Rattle.hint_queue.specs.Gathered.{ArePartsOf, HasPasses}
use Rattle.hint_queue.specs.Kept.{EachFits, Standing}
use Rattle.hint_queue.specs.Orders.{AreInOrder, HaveAll, HintPassState, QueueState}
use Rattle.hint_queue.specs.Places.{Place, TellerSeat, events}
use Rattle.hint_queue.specs.Steps.{Waiting, parts_of}
use Rattle.hint_queue.specs.declared.view.Part.{Part}
use Rattle.hint_queue.specs.declared.view.View.{View}
use Rattle.hint_queue.proofs.Ending.{ends, enough}

-- a queue has the bounds of its passes
bounds : (queue : QueueState) (now : Standing) (seat : ℕ) (passes : List HintPassState) (parts : List Part) → 1 ≤ length passes → All (λ pass. pass.queue ≡ queue) passes → ArePartsOf passes parts → EachFits now seat parts → (now.passes ≡ queue.passes) × (now.pages ≡ queue.pages)
bounds queue now seat [] parts some of are each = absurd (omega (arith, some))
bounds queue now seat (pass ∷ passes) [] some of are each = absurd are
bounds queue now seat (pass ∷ passes) (part ∷ parts) some of are each =
    let first : pass.queue ≡ queue = of 0 pass (omega arith) in (
      sym each.0.passes ∙ (are.0.passes ∙ ap (λ (q : QueueState). q.passes) first),
      sym each.0.pages ∙ (are.0.pages ∙ ap (λ (q : QueueState). q.pages) first),
    )

pub some_pass : (count : ℕ) (passes : List HintPassState) → 1 ≤ count → HaveAll count passes → 1 ≤ length passes
some_pass count passes some have = let least = enough count passes have in omega (arith, some, least)

pub closes : (queue : QueueState) (passes : List HintPassState) (place : Place) (teller : TellerSeat) (left : ℕ) → HasPasses queue passes place teller → All (λ pass. pass.queue ≡ queue) passes
    → (1 ≤ teller.me.0.share → teller.me.0.total ≤ teller.me.0.share → AreBelow (λ word. times word teller.me.0.told) teller.me.0.seen)
    → Held left (Waiting (view place)) → 1 ≤ queue.passes → HaveAll queue.passes passes → AreInOrder queue passes
closes queue passes place teller left has of settled held some have =
    let least = enough queue.passes passes have in
    let share = has.share in let total = has.total in
    let kept = held.2.1 in
    let below = settled (omega (arith, share, least, some)) (omega (arith, share, total, least)) in
    let fits : EachFits kept.now held.2.2 has.parts = subst (λ (v : View). EachFits kept.now held.2.2 (parts_of v)) has.view_is held.2.3 in
    let same = bounds queue kept.now held.2.2 passes has.parts (some_pass queue.passes passes some have) of has.are fits in
    ends queue passes held.0 held.2.0 kept held.2.2 has.parts teller.me.0.seen same.0 same.1 fits has.are has.know
    (subst (λ (most : ℕ → ℕ). AreBelow most teller.me.0.seen) (λ i word. has.told word i) below) have
