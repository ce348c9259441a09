-- The hints of a race: what all actors' passes have, and what stands in the order of the queue.
use Rattle.std.proofs.Common.{ℕ, ◌≡◌, ◌+◌, ◌<◌, ◌≤◌, Bool, true, List, [], ◌∷◌, ◌++◌, length, map, refl, sym, ap, subst, ◌∙◌, inl, inr, arith}
use Rattle.std.specs.Prelude.{All, count_by, slice_index_or, sum_by}
use Rattle.std.specs.List.{range_with_len}
use Rattle.std.proofs.lemmas.Bool.{cases_lt}
use Rattle.std.proofs.lemmas.List.FromFn.{fill_by_all}
use Rattle.std.proofs.lemmas.List.Elements.{All-head, All-tail, All-weaker}
use Rattle.std.proofs.lemmas.List.Sums.{sum_by-cons}
use Rattle.hint_queue.specs.Orders.{HintPassState, QueueState, Stands, pages_of}
use Rattle.hint_queue.specs.declared.view.Noted.{Noted}
use Rattle.run_laws.specs.Runs.{Run}
use Rattle.run_laws.specs.ServedRuns.{hints_in, taken_in}
use Rattle.ssd_formats.specs.RunText.{is_hinted, taken_by}
use Rattle.ssd_geo.specs.declared.reply.Reply.{Reply}
use Rattle.race_runs.specs.RaceHints.{DrainedPagesWereHinted, DropsMetAFullQueue, HintsAddUp, HintsFrom, HintsOfRace, drained_by, hinted_by, pages_count}
use Rattle.race_runs.proofs.ActorHints.{actor_counts}
use Rattle.race_runs.proofs.OrderedPages.{AreNumberedFrom, all_are_of_passes, count_append, count_cons, counted_by, no_more_of_passes, sum_alike}

-- the replies of an actor
abbrev replies_by : Run → ℕ → List Reply
replies_by run actor = slice_index_or run.replies actor []

module _ (test : ℕ → Bool) (run : Run) (queue : QueueState) where
  -- what the passes of all actors from one on have
  record Totals (from : ℕ) (passes : List HintPassState) (dropped : ℕ) : Type 0 where
    numbered : AreNumberedFrom from passes
    pushed :
        sum_by (λ pass. count_by test pass.pushed) passes
        ≤ sum_by (λ actor. count_by test (hinted_by run actor)) (range_with_len from (length passes))
    taken :
        sum_by (λ actor. count_by test (drained_by run actor)) (range_with_len from (length passes))
        ≤ sum_by (λ pass. count_by test pass.taken) passes
    room :
        sum_by (λ pass. length pass.pushed) passes + dropped
        ≤ sum_by (λ actor. count_by is_hinted (replies_by run actor)) (range_with_len from (length passes))
    replies :
        sum_by (λ actor. sum_by taken_by (replies_by run actor)) (range_with_len from (length passes))
        ≤ sum_by (λ actor. length (drained_by run actor)) (range_with_len from (length passes))

  totals : (from : ℕ) (passes : List HintPassState) (dropped : ℕ) → HintsFrom run queue from passes dropped →
      Totals from passes dropped
  totals from [] dropped none = record {
    numbered = tt;
    pushed = omega arith;
    taken = omega arith;
    room = omega (arith, none);
    replies = omega arith;
  }
  totals from (pass ∷ passes) dropped (own, others, parts, hints, more) =
      let counts = actor_counts test run queue from own pass hints in
      let rest = totals (from + 1) passes others more in
      let actors : List ℕ = range_with_len (from + 1) (length passes) in
      let pushed_own = counts.pushed in
      let pushed_rest = rest.pushed in
      let pushed_pass = sum_by-cons (λ (one : HintPassState). count_by test one.pushed) pass passes in
      let pushed_actor = sum_by-cons (λ (actor : ℕ). count_by test (hinted_by run actor)) from actors in
      let taken_own = counts.taken in
      let taken_rest = rest.taken in
      let taken_pass = sum_by-cons (λ (one : HintPassState). count_by test one.taken) pass passes in
      let taken_actor = sum_by-cons (λ (actor : ℕ). count_by test (drained_by run actor)) from actors in
      let room_own = counts.room in
      let room_rest = rest.room in
      let room_pass = sum_by-cons (λ (one : HintPassState). length one.pushed) pass passes in
      let room_actor = sum_by-cons (λ (actor : ℕ). count_by is_hinted (replies_by run actor)) from actors in
      let replies_own = counts.replies in
      let replies_rest = rest.replies in
      let replies_taken = sum_by-cons (λ (actor : ℕ). sum_by taken_by (replies_by run actor)) from actors in
      let replies_drained = sum_by-cons (λ (actor : ℕ). length (drained_by run actor)) from actors in
      record {
        numbered = (counts.number, rest.numbered);
        pushed = omega (arith, pushed_own, pushed_rest, pushed_pass, pushed_actor);
        taken = omega (arith, taken_own, taken_rest, taken_pass, taken_actor);
        room = omega (arith, room_own, room_rest, room_pass, room_actor, parts);
        replies = omega (arith, replies_own, replies_rest, replies_taken, replies_drained);
      }

-- a test that each page passes
abbrev any_page : ℕ → Bool
any_page page = true

-- what the passes took is no more than what they pushed, by any test of the pages
module _ (test : ℕ → Bool) (run : Run) (hints : HintsOfRace run) where
  all : Totals test run hints.queue 0 hints.passes run.dropped
  all = totals test run hints.queue 0 hints.passes run.dropped hints.each

  pushed_stand :
      sum_by (λ pass. count_by test pass.pushed) hints.passes ≡ sum_by (counted_by test hints.in_order.pushed) hints.passes
  pushed_stand =
      sum_alike (λ pass. count_by test pass.pushed) (counted_by test hints.in_order.pushed) hints.passes
      (All-weaker (Stands hints.in_order.pushed hints.in_order.taken)
      (λ (pass : HintPassState). count_by test pass.pushed ≡ counted_by test hints.in_order.pushed pass)
      (λ pass stands. ap {B = ℕ} (λ (pages : List ℕ). count_by test pages) (sym stands.pushes)) hints.passes hints.in_order.each)

  taken_stand :
      sum_by (λ pass. count_by test pass.taken) hints.passes ≡ sum_by (counted_by test hints.in_order.taken) hints.passes
  taken_stand =
      sum_alike (λ pass. count_by test pass.taken) (counted_by test hints.in_order.taken) hints.passes
      (All-weaker (Stands hints.in_order.pushed hints.in_order.taken)
      (λ (pass : HintPassState). count_by test pass.taken ≡ counted_by test hints.in_order.taken pass)
      (λ pass stands. ap {B = ℕ} (λ (pages : List ℕ). count_by test pages) (sym stands.takes)) hints.passes hints.in_order.each)

  few_taken :
      sum_by (λ pass. count_by test pass.taken) hints.passes ≤ sum_by (λ pass. count_by test pass.pushed) hints.passes
  few_taken =
      let pushed = pushed_stand in
      let taken = taken_stand in
      let no_more = no_more_of_passes test hints.passes 0 hints.in_order.taken all.numbered in
      let front :
      ◌≡◌ {A = ℕ} (count_by test (pages_of hints.in_order.pushed))
      (count_by test (pages_of hints.in_order.taken ++ hints.in_order.left)) =
      ap {B = ℕ} (λ (pages : List ℕ). count_by test pages) hints.in_order.begins in
      let parts = count_append test (pages_of hints.in_order.taken) hints.in_order.left in
      let every = all_are_of_passes test hints.passes hints.in_order.pushed hints.in_order.pushers in
      omega (arith, pushed, taken, no_more, front, parts, every)

pub numbered_passes : (run : Run) (hints : HintsOfRace run) → AreNumberedFrom 0 hints.passes
numbered_passes run hints = (all any_page run hints).numbered

pub drained_pages_were_hinted : DrainedPagesWereHinted
drained_pages_were_hinted run test hints =
    let all_of = all test run hints in
    let pushed = all_of.pushed in
    let taken = all_of.taken in
    let few = few_taken test run hints in
    subst (λ (actors : ℕ). pages_count test (drained_by run) actors ≤ pages_count test (hinted_by run) actors) hints.as_many
    (omega (arith, pushed, taken, few))

all_counted : (pages : List ℕ) → count_by any_page pages ≡ length pages
all_counted [] = refl
all_counted (page ∷ pages) =
    let first = count_cons any_page page pages in
    let rest = all_counted pages in
    omega (arith, first, rest)

sum_mapped : (f : List Reply → ℕ) (g : ℕ → List Reply) (actors : List ℕ) →
    sum_by f (map g actors) ≡ sum_by (λ actor. f (g actor)) actors
sum_mapped f g [] = refl
sum_mapped f g (actor ∷ actors) =
    let mapped = sum_by-cons f (g actor) (map g actors) in
    let own = sum_by-cons (λ (other : ℕ). f (g other)) actor actors in
    let rest = sum_mapped f g actors in
    omega (arith, mapped, own, rest)

-- a sum over the numbers of all actors is one over their replies
over_actors : (f : List Reply → ℕ) (replies : List (List Reply)) →
    sum_by (λ actor. f (slice_index_or replies actor [])) (range_with_len 0 (length replies)) ≡ sum_by f replies
over_actors f replies =
    sym (sum_mapped f (λ (actor : ℕ). slice_index_or replies actor []) (range_with_len 0 (length replies)))
    ∙ ap {B = ℕ} (λ (list : List (List Reply)). sum_by f list)
    (sym (fill_by_all (λ (actor : ℕ). slice_index_or replies actor []) replies (length replies) [] refl (λ k below. refl)))

pub hints_add_up : HintsAddUp
hints_add_up run hints =
    let all_of = all any_page run hints in
    let few = few_taken any_page run hints in
    let pushed :
    sum_by (λ pass. count_by any_page pass.pushed) hints.passes ≡ sum_by (λ pass. length pass.pushed) hints.passes =
    sum_alike (λ pass. count_by any_page pass.pushed) (λ pass. length pass.pushed) hints.passes
    (λ k other within. all_counted (slice_index_or hints.passes k other).pushed) in
    let actors : List ℕ = range_with_len 0 (length hints.passes) in
    let drained :
    sum_by (λ actor. count_by any_page (drained_by run actor)) actors ≡ sum_by (λ actor. length (drained_by run actor)) actors =
    sum_alike (λ actor. count_by any_page (drained_by run actor)) (λ actor. length (drained_by run actor)) actors
    (λ k other within. all_counted (drained_by run (slice_index_or actors k other))) in
    let hinted_all : sum_by (λ actor. count_by is_hinted (replies_by run actor)) actors ≡ hints_in run.replies =
    subst (λ (n : ℕ). sum_by (λ actor. count_by is_hinted (replies_by run actor)) (range_with_len 0 n) ≡ hints_in run.replies)
    (sym hints.as_many) (over_actors (count_by is_hinted) run.replies) in
    let taken_all : sum_by (λ actor. sum_by taken_by (replies_by run actor)) actors ≡ taken_in run.replies =
    subst (λ (n : ℕ). sum_by (λ actor. sum_by taken_by (replies_by run actor)) (range_with_len 0 n) ≡ taken_in run.replies)
    (sym hints.as_many) (over_actors (sum_by taken_by) run.replies) in
    let room = all_of.room in
    let replies = all_of.replies in
    let taken = all_of.taken in
    record {
      dropped = omega (arith, room, hinted_all);
      taken = omega (arith, few, pushed, drained, hinted_all, taken_all, room, replies, taken);
    }

-- an actor that dropped a hint met the queue full
met_full : (run : Run) (queue : QueueState) (pushed taken : List Noted) (from : ℕ) (passes : List HintPassState) (dropped : ℕ) →
    HintsFrom run queue from passes dropped → All (Stands pushed taken) passes → 0 < dropped → 256 ≤ length pushed
met_full run queue pushed taken from [] dropped none stand more = absurd (omega (arith, none, more))
met_full run queue pushed taken from (pass ∷ passes) dropped (own, others, parts, hints, rest) stand more =
    elim (cases_lt 0 own) [
      | inl some ↦
          (All-head (Stands pushed taken) pass passes stand).met_full
          ((actor_counts any_page run queue from own pass hints).full some)
      | inr none ↦
          met_full run queue pushed taken (from + 1) passes others rest (All-tail (Stands pushed taken) pass passes stand)
          (omega (arith, parts, more, none))
    ]

pub drops_met_a_full_queue : DropsMetAFullQueue
drops_met_a_full_queue run hints more =
    met_full run hints.queue hints.in_order.pushed hints.in_order.taken 0 hints.passes run.dropped hints.each hints.in_order.each more
