-- What an actor hinted before it found the queue empty was taken, where none was dropped: its pass knows so many pages to be
-- taken.
use Rattle.std.proofs.Common.{ℕ, ◌≡◌, ◌+◌, ◌<◌, ◌≤◌, ◌==◌, nat_lt, Bool, true, false, cond, List, [], ◌∷◌, ◌++◌, drop, length, length-append, map, take, refl, sym, ap, subst, ◌∙◌, inl, inr, append_assoc, arith}
use Rattle.std.specs.Prelude.{◌&&◌, All, None, Option, count_by, filter, not, sum_by}
use Rattle.std.specs.List.{list_any, range_with_len}
use Rattle.std.proofs.lemmas.Bool.{and_parts, false≢true, ltb-true, not-true}
use Rattle.std.proofs.lemmas.List.{append-nil, map-append, take-append-drop, take-map}
use Rattle.std.proofs.lemmas.List.Elements.{All-head, All-tail, filter-append}
use Rattle.std.proofs.lemmas.List.{length-map}
use Rattle.std.proofs.lemmas.List.Sums.{sum_by-cons}
use Rattle.hint_queue.specs.Orders.{HintPassState, QueueState, Stands, having_pushed, knowing_all_taken, new_pass, pages_by, pages_of}
use Rattle.hint_queue.specs.declared.view.Noted.{Noted}
use Rattle.run_laws.specs.Runs.{Run}
use Rattle.serial_laws.proofs.Lists.{same_first}
use Rattle.shared_lemmas.proofs.Lists.{taken_front}
use Rattle.ssd_formats.specs.RunText.{is_hinted}
use Rattle.ssd_geo.specs.declared.reply.RefreshReply.{RefreshReply}
use Rattle.ssd_geo.specs.declared.reply.Reply.{Reply}
use Rattle.ssd_geo.specs.declared.trace.TraceCall.{TraceCall}
use Rattle.ssd_geo.specs.declared.trace.Verb.{Verb}
use Rattle.ssd_histories.specs.Replies.{is_die_fault}
use Rattle.race_runs.specs.RaceHints.{EmptyQueuesWereDrained, HintsFrom, HintsOfCall, HintsOfCalls, HintsOfNext, LeavesHints, PushesOrDrops, TakesHints, answered_calls, drained_by, first_unanswered, found_empty, found_none, has_all, has_failed, having_taken_all, hinted_before_empty, hinted_before_empty_by, hinted_page, pages_count}
use Rattle.race_runs.proofs.ActorHints.{drained_taken}
use Rattle.race_runs.proofs.OrderedPages.{all_are_of_passes, count_cons, counted_by, no_more_of_passes, sum_alike}
use Rattle.race_runs.proofs.RaceHints.{numbered_passes}

-- a pass has pushed the pages that came, and knows as many to be taken as came before some moment
record Knows (before came : List ℕ) (pass : HintPassState) : Type 0 where
  pushed_is : pass.pushed ≡ came
  more : List ℕ
  came_is : came ≡ before ++ more
  many : length before ≤ pass.known

-- nothing came and nothing was taken
knows_same : (before came : List ℕ) (pass : HintPassState) → Knows before came pass → Knows before (came ++ []) pass
knows_same before came pass knows = subst (λ (pages : List ℕ). Knows before pages pass) (sym (append-nil came)) knows

-- one more page came
knows_pushed : (before came : List ℕ) (pass : HintPassState) (page : ℕ) → Knows before came pass →
    Knows before (came ++ page ∷ []) (having_pushed pass page)
knows_pushed before came pass page knows = record {
  pushed_is = ap {B = List ℕ} (λ (pages : List ℕ). pages ++ page ∷ []) knows.pushed_is;
  more = knows.more ++ page ∷ [];
  came_is =
      ap {B = List ℕ} (λ (pages : List ℕ). pages ++ page ∷ []) knows.came_is
      ∙ append_assoc before knows.more (page ∷ []);
  many = knows.many;
}

-- the queue was empty
knows_all : (before came : List ℕ) (pass : HintPassState) (taken : List ℕ) → Knows before came pass →
    Knows came came (knowing_all_taken (having_taken_all pass taken))
knows_all before came pass taken knows =
    let long : ◌≡◌ {A = ℕ} (length pass.pushed) (length came) = ap {B = ℕ} (λ (pages : List ℕ). length pages) knows.pushed_is in
    record {
      pushed_is = knows.pushed_is;
      more = [];
      came_is = sym (append-nil came);
      many = omega (arith, long);
    }

knows_still : (before came : List ℕ) (pass : HintPassState) (taken : List ℕ) → Knows before came pass →
    Knows before came (knowing_all_taken (having_taken_all pass taken))
knows_still before came pass taken knows =
    let long : ◌≡◌ {A = ℕ} (length pass.pushed) (length before + length knows.more) =
    ap {B = ℕ} (λ (pages : List ℕ). length pages) (knows.pushed_is ∙ knows.came_is) ∙ length-append before knows.more in
    record { pushed_is = knows.pushed_is; more = knows.more; came_is = knows.came_is; many = omega (arith, long) }

knows_taken : (before came : List ℕ) (pass : HintPassState) (taken : List ℕ) → Knows before came pass →
    Knows before came (having_taken_all pass taken)
knows_taken before came pass taken knows =
    record { pushed_is = knows.pushed_is; more = knows.more; came_is = knows.came_is; many = knows.many }

-- a drain, by whether it found the queue empty
of_drain : (count : ℕ) (pages : List (ℕ × RefreshReply)) (before came : List ℕ) (pass after : HintPassState) (empty : Bool) →
    (nat_lt (length pages) count && not (list_any (λ drained. is_die_fault drained.1) pages)) ≡ empty → TakesHints count pages pass after →
    Knows before came pass → Knows (cond empty came before) came after
of_drain count pages before came pass after true is (has_all all) knows =
    let parts = and_parts (nat_lt (length pages) count) (not (list_any (λ drained. is_die_fault drained.1) pages)) is in
    let fewer = ltb-true (length pages) count parts.0 in
    absurd (omega (arith, fewer, all))
of_drain count pages before came pass after true is (has_failed failed) knows =
    let parts = and_parts (nat_lt (length pages) count) (not (list_any (λ drained. is_die_fault drained.1) pages)) is in
    absurd (false≢true (sym (not-true (list_any (λ drained. is_die_fault drained.1) pages) parts.1) ∙ failed))
of_drain count pages before came pass after true is found_none knows =
    knows_all before came pass (map (λ drained. drained.0) pages) knows
of_drain count pages before came pass after false is (has_all all) knows =
    knows_taken before came pass (map (λ drained. drained.0) pages) knows
of_drain count pages before came pass after false is (has_failed failed) knows =
    knows_taken before came pass (map (λ drained. drained.0) pages) knows
of_drain count pages before came pass after false is found_none knows =
    knows_still before came pass (map (λ drained. drained.0) pages) knows

-- a read, by whether it is a hint
of_read : (page : ℕ) (before came : List ℕ) (pass after : HintPassState) (hint : Bool) →
    elim hint as (λ x. Type 0) [ true ↦ PushesOrDrops page pass after 0 | false ↦ LeavesHints pass after 0 ] → Knows before came pass →
    Knows before (came ++ elim hint as (λ x. List ℕ) [ true ↦ page ∷ [] | false ↦ [] ]) after
of_read page before came pass after true (inl pushed) knows =
    subst (Knows before (came ++ page ∷ [])) (sym pushed.0) (knows_pushed before came pass page knows)
of_read page before came pass after true (inr full) knows = absurd (let one = full.1 in omega (arith, one))
of_read page before came pass after false left knows =
    subst (Knows before (came ++ [])) (sym left.0) (knows_same before came pass knows)

of_call : (verb : Verb) (reply : Reply) (before came : List ℕ) (pass after : HintPassState) → HintsOfCall verb reply pass after 0 →
    Knows before came pass → Knows (cond (found_empty verb reply) came before) (came ++ hinted_page verb reply) after
of_call (Verb.Read page) reply before came pass after made knows = of_read page before came pass after (is_hinted reply) made.1 knows
of_call (Verb.Drain count) (Reply.Drained pages) before came pass after made knows =
    let empty : Bool = found_empty (Verb.Drain count) (Reply.Drained pages) in
    knows_same (cond empty came before) came after (of_drain count pages before came pass after empty refl made.0 knows)
of_call (Verb.Drain count) reply before came pass after made knows = absurd made
of_call verb reply before came pass after made knows =
    subst (Knows before (came ++ [])) (sym made.1.0) (knows_same before came pass knows)

of_calls : (made : List (TraceCall × Reply)) (before came : List ℕ) (pass after : HintPassState) (dropped : ℕ) → dropped ≡ 0 →
    HintsOfCalls made pass after dropped → Knows before came pass →
    (all : List ℕ) × Knows (hinted_before_empty before came made) all after
of_calls [] before came pass after dropped none left knows = (came, subst (Knows before came) (sym left.0) knows)
of_calls (one ∷ made) before came pass after dropped none (between, first, rest, parts, own, more) knows =
    let none_first : first ≡ 0 = omega (arith, none, parts) in
    let none_rest : rest ≡ 0 = omega (arith, none, parts) in
    of_calls made (cond (found_empty one.0.verb one.1) came before) (came ++ hinted_page one.0.verb one.1) between after rest none_rest
    more
    (of_call one.0.verb one.1 before came pass between
    (subst (HintsOfCall one.0.verb one.1 pass between) none_first own) knows)

-- the first of some pages are counted no more often than more of them
module _ (test : ℕ → Bool) where
  first_counts : (xs more front rest : List ℕ) → xs ++ more ≡ front ++ rest → length xs ≤ length front →
      count_by test xs ≤ count_by test front
  first_counts [] more front rest is few = omega arith
  first_counts (x ∷ xs) more [] rest is few = absurd (omega (arith, few))
  first_counts (x ∷ xs) more (y ∷ front) rest is few =
      let both = same_first x y (xs ++ more) (front ++ rest) is in
      let own = count_cons test x xs in
      let other = count_cons test y front in
      let same : ◌≡◌ {A = ℕ} (cond (test x) 1 0) (cond (test y) 1 0) = ap {B = ℕ} (λ (page : ℕ). cond (test page) 1 0) both.0 in
      let fewer = first_counts xs more front rest both.1 (omega (arith, few)) in
      omega (arith, own, other, same, fewer)

  -- a pass that knows so many pages to be taken
  known_counts : (pushed taken : List Noted) (before came : List ℕ) (pass : HintPassState) → Stands pushed taken pass →
      Knows before came pass → count_by test before ≤ counted_by test (take (length taken) pushed) pass
  known_counts pushed taken before came pass stand knows =
      let front : List Noted = take (length taken) pushed in
      let rest : List Noted = drop (length taken) pushed in
      let parts : pages_by pass.number front ++ pages_by pass.number rest ≡ pass.pushed =
      sym (map-append (λ (noted : Noted). noted.page) (filter (λ noted. noted.by == pass.number) front)
      (filter (λ noted. noted.by == pass.number) rest))
      ∙ ap {B = List ℕ} (λ (order : List Noted). map (λ (noted : Noted). noted.page) order)
      (sym (filter-append (λ (noted : Noted). noted.by == pass.number) front rest))
      ∙ ap {B = List ℕ} (λ (order : List Noted). pages_by pass.number order) (take-append-drop (length taken) pushed)
      ∙ stand.pushes in
      let known = stand.known in
      let many = knows.many in
      first_counts before knows.more (pages_by pass.number front) (pages_by pass.number rest)
      (sym (parts ∙ knows.pushed_is ∙ knows.came_is)) (omega (arith, known, many))

  module _ (run : Run) (queue : QueueState) (pushed taken : List Noted)
      (answered : (actor : ℕ) → actor < length run.replies → first_unanswered run actor ≡ None) where
    -- of all actors from one on
    record Sums (from : ℕ) (passes : List HintPassState) : Type 0 where
      known :
          sum_by (λ actor. count_by test (hinted_before_empty_by run actor)) (range_with_len from (length passes))
          ≤ sum_by (counted_by test (take (length taken) pushed)) passes
      taken_all :
          sum_by (λ pass. count_by test pass.taken) passes
          ≤ sum_by (λ actor. count_by test (drained_by run actor)) (range_with_len from (length passes))

    last_is : (actor : ℕ) (between pass : HintPassState) → actor < length run.replies →
        HintsOfNext (first_unanswered run actor) between pass → pass ≡ between
    last_is actor between pass below next =
        subst (λ (call : Option TraceCall). HintsOfNext call between pass) (answered actor below) next

    sums : (from : ℕ) (passes : List HintPassState) (dropped : ℕ) → from + length passes ≤ length run.replies → dropped ≡ 0 →
        HintsFrom run queue from passes dropped → All (Stands pushed taken) passes → Sums from passes
    sums from [] dropped within none hints stand = record { known = omega arith; taken_all = omega arith }
    sums from (pass ∷ passes) dropped within none (own, others, parts, hints, more) stand =
        let none_own : own ≡ 0 = omega (arith, none, parts) in
        let none_others : others ≡ 0 = omega (arith, none, parts) in
        let here = All-head (Stands pushed taken) pass passes stand in
        let last : pass ≡ hints.between = last_is from hints.between pass (omega (arith, within)) hints.next in
        let knows =
        of_calls (answered_calls run from) [] [] (new_pass queue from) hints.between own none_own hints.answered
        (record { pushed_is = refl; more = []; came_is = refl; many = omega arith }) in
        let first =
        known_counts pushed taken (hinted_before_empty_by run from) knows.0 pass here
        (subst (Knows (hinted_before_empty_by run from) knows.0) (sym last) knows.1) in
        let drained : count_by test pass.taken ≡ count_by test (drained_by run from) =
        ap {B = ℕ} (λ (one : HintPassState). count_by test one.taken) last
        ∙ drained_taken test run queue from own hints.between hints.answered in
        let rest = sums (from + 1) passes others (omega (arith, within)) none_others more (All-tail (Stands pushed taken) pass passes stand) in
        let actors : List ℕ = range_with_len (from + 1) (length passes) in
        let known_rest = rest.known in
        let taken_rest = rest.taken_all in
        let known_actor = sum_by-cons (λ (actor : ℕ). count_by test (hinted_before_empty_by run actor)) from actors in
        let known_pass = sum_by-cons (counted_by test (take (length taken) pushed)) pass passes in
        let taken_pass = sum_by-cons (λ (one : HintPassState). count_by test one.taken) pass passes in
        let taken_actor = sum_by-cons (λ (actor : ℕ). count_by test (drained_by run actor)) from actors in
        record {
          known = omega (arith, first, known_rest, known_actor, known_pass);
          taken_all = omega (arith, drained, taken_rest, taken_pass, taken_actor);
        }

pub empty_queues_were_drained : EmptyQueuesWereDrained
empty_queues_were_drained run test hints none answered =
    let order = hints.in_order in
    let count : ℕ = length order.taken in
    let many = hints.as_many in
    let all =
    sums test run hints.queue order.pushed order.taken answered 0 hints.passes run.dropped (omega (arith, many)) none hints.each
    order.each in
    let known = all.known in
    let taken_all = all.taken_all in
    let no_more = no_more_of_passes test hints.passes 0 (take count order.pushed) (numbered_passes run hints) in
    let long : length (pages_of order.taken) ≡ count = length-map order.taken (λ (noted : Noted). noted.page) in
    let front : pages_of (take count order.pushed) ≡ pages_of order.taken =
    sym (take-map (λ (noted : Noted). noted.page) count order.pushed)
    ∙ ap {B = List ℕ} (λ (pages : List ℕ). take count pages) order.begins
    ∙ subst (λ (n : ℕ). take n (pages_of order.taken ++ order.left) ≡ pages_of order.taken) long
    (taken_front (pages_of order.taken) order.left) in
    let counted : ◌≡◌ {A = ℕ} (count_by test (pages_of (take count order.pushed))) (count_by test (pages_of order.taken)) =
    ap {B = ℕ} (λ (pages : List ℕ). count_by test pages) front in
    let every = all_are_of_passes test hints.passes order.taken order.takers in
    let stand : sum_by (counted_by test order.taken) hints.passes ≡ sum_by (λ pass. count_by test pass.taken) hints.passes =
    sum_alike (counted_by test order.taken) (λ pass. count_by test pass.taken) hints.passes
    (λ k other within. ap {B = ℕ} (λ (pages : List ℕ). count_by test pages) (order.each k other within).takes) in
    subst
    (λ (actors : ℕ). pages_count test (hinted_before_empty_by run) actors ≤ pages_count test (drained_by run) actors) hints.as_many
    (omega (arith, known, taken_all, no_more, counted, every, stand))
