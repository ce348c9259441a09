-- What an actor's calls did at the queue of hints: its pass has the pages of its reads that were hints, but for the dropped
-- ones, and those that its drains took.
use Rattle.std.proofs.Common.{ℕ, ◌≡◌, ◌+◌, ◌<◌, ◌≤◌, Bool, true, false, cond, List, [], ◌∷◌, ◌++◌, length, length-append, map, refl, sym, ap, subst, ◌∙◌, inl, inr, arith}
use Rattle.std.specs.Prelude.{Option, Some, None, count_by, flat_map, slice_index_or, sum_by, zip}
use Rattle.std.proofs.lemmas.Bool.{cases_lt}
use Rattle.std.proofs.lemmas.List.{length-map}
use Rattle.std.proofs.lemmas.List.Sums.{sum_by-cons}
use Rattle.hint_queue.specs.Orders.{HintPassState, QueueState, having_met_full, having_pushed, new_pass}
use Rattle.run_laws.specs.Runs.{Run}
use Rattle.ssd_formats.specs.RunText.{is_hinted, taken_by}
use Rattle.ssd_geo.specs.declared.reply.RefreshReply.{RefreshReply}
use Rattle.ssd_geo.specs.declared.reply.Reply.{Reply}
use Rattle.ssd_geo.specs.declared.trace.TraceCall.{TraceCall}
use Rattle.ssd_geo.specs.declared.trace.Verb.{Verb}
use Rattle.race_runs.specs.RaceHints.{HintsOfActor, HintsOfCall, HintsOfCalls, HintsOfNext, HintsOfStop, LeavesHints, PushesOrDrops, TakesHints, answered_calls, calls_by, drained_by, drained_pages, has_all, has_failed, found_none, having_taken_all, hinted_by, hinted_page}
use Rattle.race_runs.proofs.OrderedPages.{count_append}

module _ (test : ℕ → Bool) where
  -- from one pass to another: these pages were hints, these were drained, so many replies were hints and so many were dropped
  record Grows (before after : HintPassState) (hinted drained : List ℕ) (hints dropped : ℕ) : Type 0 where
    number : after.number ≡ before.number
    pushed : count_by test after.pushed ≤ count_by test before.pushed + count_by test hinted
    taken : count_by test after.taken ≡ count_by test before.taken + count_by test drained
    room : length after.pushed + dropped ≤ length before.pushed + hints
    full : 0 < dropped → after.met_full ≡ true
    stays_full : before.met_full ≡ true → after.met_full ≡ true

  abbrev Grown : HintPassState → List ℕ → List ℕ → ℕ → ℕ → HintPassState → Type 0
  Grown before hinted drained hints dropped after = Grows before after hinted drained hints dropped

  leaves : (before : HintPassState) (hints : ℕ) → Grows before before [] [] hints 0
  leaves before hints = record {
    number = refl;
    pushed = omega arith;
    taken = omega arith;
    room = omega arith;
    full = λ more. absurd (omega (arith, more));
    stays_full = λ was. was;
  }

  left_is : (before after : HintPassState) (hints dropped : ℕ) → LeavesHints before after dropped → Grows before after [] [] hints dropped
  left_is before after hints dropped left =
      subst (λ (n : ℕ). Grows before after [] [] hints n) (sym left.1)
      (subst (Grown before [] [] hints 0) (sym left.0) (leaves before hints))

  pushes : (before : HintPassState) (page : ℕ) → Grows before (having_pushed before page) (page ∷ []) [] 1 0
  pushes before page =
      let counted = count_append test before.pushed (page ∷ []) in
      let long = length-append before.pushed (page ∷ []) in
      record {
        number = refl;
        pushed = omega (arith, counted);
        taken = omega arith;
        room = omega (arith, long);
        full = λ more. absurd (omega (arith, more));
        stays_full = λ was. was;
      }

  drops : (before : HintPassState) (page : ℕ) → Grows before (having_met_full before) (page ∷ []) [] 1 1
  drops before page = record {
    number = refl;
    pushed = omega arith;
    taken = omega arith;
    room = omega arith;
    full = λ more. refl;
    stays_full = λ was. refl;
  }

  pushed_is : (page : ℕ) (before after : HintPassState) (dropped : ℕ) → PushesOrDrops page before after dropped →
      Grows before after (page ∷ []) [] 1 dropped
  pushed_is page before after dropped (inl pushed) =
      subst (λ (n : ℕ). Grows before after (page ∷ []) [] 1 n) (sym pushed.1)
      (subst (Grown before (page ∷ []) [] 1 0) (sym pushed.0) (pushes before page))
  pushed_is page before after dropped (inr full) =
      subst (λ (n : ℕ). Grows before after (page ∷ []) [] 1 n) (sym full.1)
      (subst (Grown before (page ∷ []) [] 1 1) (sym full.0) (drops before page))

  takes : (before : HintPassState) (pages : List ℕ) → Grows before (having_taken_all before pages) [] pages 0 0
  takes before pages =
      let counted = count_append test before.taken pages in
      record {
        number = refl;
        pushed = omega arith;
        taken = omega (arith, counted);
        room = omega arith;
        full = λ more. absurd (omega (arith, more));
        stays_full = λ was. was;
      }

  took : (count : ℕ) (pages : List (ℕ × RefreshReply)) (before after : HintPassState) → TakesHints count pages before after →
      Grows before after [] (map (λ drained. drained.0) pages) 0 0
  took count pages before after (has_all is) = takes before (map (λ drained. drained.0) pages)
  took count pages before after (has_failed is) = takes before (map (λ drained. drained.0) pages)
  took count pages before after found_none =
      let all = takes before (map (λ drained. drained.0) pages) in
      record {
        number = all.number;
        pushed = all.pushed;
        taken = all.taken;
        room = all.room;
        full = all.full;
        stays_full = all.stays_full;
      }

  -- a reply that took none has no pages
  none_drained : (reply : Reply) → taken_by reply ≡ 0 → drained_pages reply ≡ []
  none_drained (Reply.Drained []) none = refl
  none_drained (Reply.Drained (drained ∷ pages)) none = absurd (omega (arith, none))
  none_drained reply none = refl

  of_read : (page : ℕ) (reply : Reply) (before after : HintPassState) (dropped : ℕ) (hint : Bool) →
      elim hint as (λ x. Type 0) [ true ↦ PushesOrDrops page before after dropped | false ↦ LeavesHints before after dropped ] →
      Grows before after (elim hint as (λ x. List ℕ) [ true ↦ page ∷ [] | false ↦ [] ]) [] (cond hint 1 0) dropped
  of_read page reply before after dropped true pushed = pushed_is page before after dropped pushed
  of_read page reply before after dropped false left = left_is before after 0 dropped left

  with_none : (reply : Reply) (before after : HintPassState) (hinted : List ℕ) (hints dropped : ℕ) → taken_by reply ≡ 0 →
      Grows before after hinted [] hints dropped → Grows before after hinted (drained_pages reply) hints dropped
  with_none reply before after hinted hints dropped none =
      subst (λ (pages : List ℕ). Grows before after hinted pages hints dropped) (sym (none_drained reply none))

  of_call : (verb : Verb) (reply : Reply) (before after : HintPassState) (dropped : ℕ) → HintsOfCall verb reply before after dropped →
      Grows before after (hinted_page verb reply) (drained_pages reply) (cond (is_hinted reply) 1 0) dropped
  of_call (Verb.Read page) reply before after dropped made =
      with_none reply before after (hinted_page (Verb.Read page) reply) (cond (is_hinted reply) 1 0) dropped made.0
      (of_read page reply before after dropped (is_hinted reply) made.1)
  of_call (Verb.Drain count) (Reply.Drained pages) before after dropped made =
      subst (λ (n : ℕ). Grows before after [] (map (λ drained. drained.0) pages) 0 n) (sym made.1)
      (took count pages before after made.0)
  of_call (Verb.Drain count) reply before after dropped made = absurd made
  of_call verb reply before after dropped made =
      with_none reply before after [] (cond (is_hinted reply) 1 0) dropped made.0
      (left_is before after (cond (is_hinted reply) 1 0) dropped made.1)

  then_grows : (a b c : HintPassState) (hinted drained more_hinted more_drained : List ℕ) (hints dropped more_hints more_dropped : ℕ) →
      Grows a b hinted drained hints dropped → Grows b c more_hinted more_drained more_hints more_dropped →
      Grows a c (hinted ++ more_hinted) (drained ++ more_drained) (hints + more_hints) (dropped + more_dropped)
  then_grows a b c hinted drained more_hinted more_drained hints dropped more_hints more_dropped one two =
      let hinted_all = count_append test hinted more_hinted in
      let drained_all = count_append test drained more_drained in
      let pushed_one = one.pushed in
      let pushed_two = two.pushed in
      let taken_one = one.taken in
      let taken_two = two.taken in
      let room_one = one.room in
      let room_two = two.room in
      record {
        number = two.number ∙ one.number;
        pushed = omega (arith, hinted_all, pushed_one, pushed_two);
        taken = omega (arith, drained_all, taken_one, taken_two);
        room = omega (arith, room_one, room_two);
        full = λ more.
            elim (cases_lt 0 more_dropped) [
              | inl later ↦ two.full later
              | inr none ↦ two.stays_full (one.full (omega (arith, more, none)))
            ];
        stays_full = λ was. two.stays_full (one.stays_full was);
      }

  of_calls : (made : List (TraceCall × Reply)) (before after : HintPassState) (dropped : ℕ) → HintsOfCalls made before after dropped →
      Grows before after (flat_map (λ one. hinted_page one.0.verb one.1) made) (flat_map (λ one. drained_pages one.1) made)
      (count_by (λ one. is_hinted one.1) made) dropped
  of_calls [] before after dropped left = left_is before after 0 dropped left
  of_calls (one ∷ made) before after dropped (between, first, rest, parts, own, more) =
      let hinted : List ℕ = hinted_page one.0.verb one.1 in
      let hints : count_by (λ other. is_hinted other.1) (one ∷ made)
      ≡ cond (is_hinted one.1) 1 0 + count_by (λ other. is_hinted other.1) made =
      sum_by-cons (λ (other : TraceCall × Reply). cond (is_hinted other.1) 1 0) one made in
      let all =
      then_grows before between after hinted (drained_pages one.1) (flat_map (λ other. hinted_page other.0.verb other.1) made)
      (flat_map (λ other. drained_pages other.1) made) (cond (is_hinted one.1) 1 0) first
      (count_by (λ other. is_hinted other.1) made) rest (of_call one.0.verb one.1 before between first own)
      (of_calls made between after rest more) in
      subst (λ (n : ℕ). Grows before after (flat_map (λ other. hinted_page other.0.verb other.1) (one ∷ made))
      (flat_map (λ other. drained_pages other.1) (one ∷ made)) n dropped) (sym hints)
      (subst (λ (n : ℕ). Grows before after (flat_map (λ other. hinted_page other.0.verb other.1) (one ∷ made))
      (flat_map (λ other. drained_pages other.1) (one ∷ made))
      (cond (is_hinted one.1) 1 0 + count_by (λ other. is_hinted other.1) made) n) (sym parts) all)

  -- a call without a reply only takes pages
  record Takes (before after : HintPassState) : Type 0 where
    number : after.number ≡ before.number
    pushed : after.pushed ≡ before.pushed
    taken : count_by test before.taken ≤ count_by test after.taken
    full : after.met_full ≡ before.met_full

  takes_none : (before after : HintPassState) → after ≡ before → Takes before after
  takes_none before after is =
      subst (Takes before) (sym is) (record { number = refl; pushed = refl; taken = omega arith; full = refl })

  of_stop : (verb : Verb) (before after : HintPassState) → HintsOfStop verb before after → Takes before after
  of_stop (Verb.Drain count) before after (pages, few, is) =
      let counted = count_append test before.taken pages in
      subst (Takes before) (sym is) (record { number = refl; pushed = refl; taken = omega (arith, counted); full = refl })
  of_stop verb before after is = takes_none before after is

  of_next : (call : Option TraceCall) (before after : HintPassState) → HintsOfNext call before after → Takes before after
  of_next (Some call) before after next = of_stop call.verb before after next
  of_next None before after next = takes_none before after next

  -- the hints of all replies, and the pages that they took, are those of the answered calls
  few_hints : (calls : List TraceCall) (replies : List Reply) →
      count_by (λ one. is_hinted one.1) (zip calls replies) ≤ count_by is_hinted replies
  few_hints [] replies = omega arith
  few_hints (call ∷ calls) [] = omega arith
  few_hints (call ∷ calls) (reply ∷ replies) =
      let pairs = sum_by-cons (λ (one : TraceCall × Reply). cond (is_hinted one.1) 1 0) (call, reply) (zip calls replies) in
      let own = sum_by-cons (λ (one : Reply). cond (is_hinted one) 1 0) reply replies in
      let rest = few_hints calls replies in
      omega (arith, pairs, own, rest)

  as_taken : (reply : Reply) → taken_by reply ≡ length (drained_pages reply)
  as_taken (Reply.Drained pages) = sym (length-map pages (λ (drained : ℕ × RefreshReply). drained.0))
  as_taken reply = refl

  all_taken : (calls : List TraceCall) (replies : List Reply) → length replies ≤ length calls →
      sum_by taken_by replies ≤ length (flat_map (λ one. drained_pages one.1) (zip calls replies))
  all_taken calls [] few = omega arith
  all_taken [] (reply ∷ replies) few = absurd (omega (arith, few))
  all_taken (call ∷ calls) (reply ∷ replies) few =
      let own = as_taken reply in
      let first = sum_by-cons taken_by reply replies in
      let rest = all_taken calls replies (omega (arith, few)) in
      let long = length-append (drained_pages reply) (flat_map (λ one. drained_pages one.1) (zip calls replies)) in
      omega (arith, own, first, rest, long)

  -- what an actor's pass has
  pub record ActorCounts (run : Run) (actor dropped : ℕ) (pass : HintPassState) : Type 0 where
    pub number : pass.number ≡ actor
    pub pushed : count_by test pass.pushed ≤ count_by test (hinted_by run actor)
    pub taken : count_by test (drained_by run actor) ≤ count_by test pass.taken
    pub room : length pass.pushed + dropped ≤ count_by is_hinted (slice_index_or run.replies actor [])
    pub full : 0 < dropped → pass.met_full ≡ true
    pub replies : sum_by taken_by (slice_index_or run.replies actor []) ≤ length (drained_by run actor)

  pub actor_counts : (run : Run) (queue : QueueState) (actor dropped : ℕ) (pass : HintPassState) →
      HintsOfActor run queue actor dropped pass → ActorCounts run actor dropped pass
  actor_counts run queue actor dropped pass hints =
      let all = of_calls (answered_calls run actor) (new_pass queue actor) hints.between dropped hints.answered in
      let last = of_next _ hints.between pass hints.next in
      let counted : ◌≡◌ {A = ℕ} (count_by test pass.pushed) (count_by test hints.between.pushed) =
      ap {B = ℕ} (λ (pages : List ℕ). count_by test pages) last.pushed in
      let long : ◌≡◌ {A = ℕ} (length pass.pushed) (length hints.between.pushed) =
      ap {B = ℕ} (λ (pages : List ℕ). length pages) last.pushed in
      let pushed = all.pushed in
      let taken = all.taken in
      let later = last.taken in
      let room = all.room in
      let few = few_hints (calls_by run actor) (slice_index_or run.replies actor []) in
      record {
        number = last.number ∙ all.number;
        pushed = omega (arith, counted, pushed);
        taken = omega (arith, taken, later);
        room = omega (arith, long, room, few);
        full = λ more. last.full ∙ all.full more;
        replies = all_taken (calls_by run actor) (slice_index_or run.replies actor []) hints.few_replies;
      }

  -- of an actor whose calls were all answered
  pub drained_taken : (run : Run) (queue : QueueState) (actor dropped : ℕ) (pass : HintPassState) →
      HintsOfCalls (answered_calls run actor) (new_pass queue actor) pass dropped →
      count_by test pass.taken ≡ count_by test (drained_by run actor)
  drained_taken run queue actor dropped pass answered =
      let taken = (of_calls (answered_calls run actor) (new_pass queue actor) pass dropped answered).taken in
      omega (arith, taken)
