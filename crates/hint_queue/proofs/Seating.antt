-- The pass of two seats, after a step of each.
use Rattle.std.proofs.Common.{◌≡◌, ◌≢◌, ◌==◌, ℕ, zero, suc, ◌+◌, ◌<◌, ◌≤◌, nat_le, Bool, true, false, cond, filter, List, [], ◌∷◌, ◌++◌, length, map, refl, sym, ap, ◌∙◌, subst, arith, length-append}
use Rattle.std.proofs.lemmas.Bool.{le-leb}
use Rattle.std.proofs.lemmas.List.{length-map, map-append}
use mathlib.Core.Logic.{dite}
use native.Mathlib.Decide.{ℕ_discrete}
use Rattle.atomic_table.specs.Seated.{TableId}
use Rattle.crossbeam_queue.specs.Fifo.{Held}
use Rattle.crossbeam_queue.specs.Passes.{IsSamePass, view}
use Rattle.hint_queue.specs.Counts.{HasSeen, seen_in, telling, times}
use Rattle.hint_queue.specs.Kept.{EachFits, FitsPart, Took, noted_of, taken_by}
use Rattle.hint_queue.specs.Orders.{HintPassState, WereWaiting, having_met_full, having_pushed, having_taken, knowing_all_taken, pages_by, pages_of}
use Rattle.hint_queue.specs.Places.{IsSeated, Place, TellerSeat, events, part_in, pass_at}
use Rattle.hint_queue.specs.Steps.{Waiting, parts_of, pushed_part, taken_part}
use Rattle.hint_queue.specs.declared.counts.Sight.{Sight}
use Rattle.hint_queue.specs.declared.view.Noted.{Noted}
use Rattle.hint_queue.specs.declared.view.Part.{Part}
use Rattle.hint_queue.specs.declared.view.View.{View}
use Rattle.hint_queue.specs.declared.view.View.TheVariants.{Has}
use Rattle.hint_queue.proofs.Lists.{pages_append, pages_other, pages_own}
use Rattle.hint_queue.proofs.Telling.{times_other, times_same}

-- a pass, of the tables of its seats, its part and its sights
abbrev state : TableId → TableId → Part → List Sight → HintPassState
state queue counts part seen = record {
  queue = record { queue = queue; counts = counts; passes = part.passes; pages = part.pages };
  number = part.number;
  pushed = part.pushed;
  taken = pages_of part.taken;
  known = seen_in (part.number + 1) seen;
  met_full = nat_le 256 (seen_in 0 seen);
}

events_pushed : (part : Part) (page : ℕ) (told : List ℕ) → ((word : ℕ) → times word told ≡ events word part) → (word : ℕ) → times word (told ++ 0 ∷ []) ≡ events word (pushed_part part page)
events_pushed part page told are zero = let was = are 0 in omega (arith, times_same 0 told, was, length-append part.pushed (page ∷ []))
events_pushed part page told are (suc number) = times_other (suc number) 0 told (λ e. omega arith) ∙ are (suc number)

events_taken : (part : Part) (noted : Noted) (told : List ℕ) → ((word : ℕ) → times word told ≡ events word part) → (word : ℕ) → times word (told ++ suc noted.by ∷ []) ≡ events word (taken_part part noted)
events_taken part noted told are zero = times_other 0 (suc noted.by) told (λ e. omega arith) ∙ are 0
events_taken part noted told are (suc number) = dite (ℕ_discrete noted.by number)
    (λ (e : noted.by ≡ number).
    let was = are (suc number) in
    let more : length (pages_by number part.taken ++ noted.page ∷ []) ≡ length (pages_by number part.taken) + 1 = omega (arith, length-append (pages_by number part.taken) (noted.page ∷ [])) in
    let one : times (suc number) (told ++ suc noted.by ∷ []) ≡ times (suc number) told + 1 =
    subst (λ (n : ℕ). times (suc number) (told ++ suc n ∷ []) ≡ times (suc number) told + 1) (sym e) (times_same (suc number) told) in
    let grown = ap (λ (l : List ℕ). length l) (pages_own part.taken noted number e) in omega (arith, was, more, one, grown))
    (λ (n : noted.by ≢ number).
    times_other (suc number) (suc noted.by) told (λ e. n (omega (arith, e)))
    ∙ (are (suc number) ∙ ap (λ (l : List ℕ). length l) (sym (pages_other part.taken noted number n))))

module _ (number pushes : ℕ) (place after : Place) (teller told : TellerSeat) (is : IsSeated number pushes place teller) (queue : after.table_id ≡ place.table_id) (slots : after.me.1 ≡ place.me.1) (counts : told.table_id ≡ teller.table_id) where
  pub pushed_seats : (page word : ℕ) → word ≡ 0 → view after ≡ Has (pushed_part (part_in (view place)) page ∷ []) → told.me ≡ (telling word teller.me.0, teller.me.1) → IsSeated number (pushes + 1) after told
  pushed_seats page word zero_is grown tells =
      let part : Part = part_in (view place) in
      let there : part_in (view after) ≡ pushed_part part page = ap part_in grown in
      let count : length (part.pushed ++ page ∷ []) ≡ pushes + 1 = let was = is.count in omega (arith, was, length-append part.pushed (page ∷ [])) in record {
        at_queue = grown ∙ ap (λ (p : Part). Has (p ∷ [])) (sym there);
        no_slot = slots ∙ is.no_slot;
        numbered = ap (λ (p : Part). p.number) there ∙ is.numbered;
        below = subst (λ (n : ℕ). number + 1 ≤ n) (sym (ap (λ (p : Part). p.passes) there)) is.below;
        few = subst (λ (n : ℕ). n ≤ 32) (sym (ap (λ (p : Part). p.passes) there)) is.few;
        count = ap (λ (p : Part). length p.pushed) there ∙ count;
        at_counts = ap (λ m. m.1) tells ∙ is.at_counts;
        total = ap (λ m. m.0.total) tells ∙ (is.total ∙ sym (ap (λ (p : Part). p.passes) there));
        share = ap (λ m. m.0.share) tells ∙ is.share;
        told = λ w. ap (λ m. times w m.0.told) tells
            ∙ (ap (λ n. times w (teller.me.0.told ++ n ∷ [])) zero_is
            ∙ (events_pushed part page teller.me.0.told is.told w ∙ ap (events w) (sym there)));
      }

  pub pushed_pass : (page word : ℕ) → view after ≡ Has (pushed_part (part_in (view place)) page ∷ []) → told.me ≡ (telling word teller.me.0, teller.me.1) → pass_at after told ≡ having_pushed (pass_at place teller) page
  pushed_pass page word grown tells =
      let there : part_in (view after) ≡ pushed_part (part_in (view place)) page = ap part_in grown in
      let seen : told.me.0.seen ≡ teller.me.0.seen = ap (λ m. m.0.seen) tells in
      λ i. state (queue i) (counts i) (there i) (seen i)

  pub taken_seats : (noted : Noted) (word : ℕ) → word ≡ suc noted.by → view after ≡ Has (taken_part (part_in (view place)) noted ∷ []) → told.me ≡ (telling word teller.me.0, teller.me.1) → IsSeated number pushes after told
  taken_seats noted word word_is grown tells =
      let part : Part = part_in (view place) in
      let there : part_in (view after) ≡ taken_part part noted = ap part_in grown in record {
        at_queue = grown ∙ ap (λ (p : Part). Has (p ∷ [])) (sym there);
        no_slot = slots ∙ is.no_slot;
        numbered = ap (λ (p : Part). p.number) there ∙ is.numbered;
        below = subst (λ (n : ℕ). number + 1 ≤ n) (sym (ap (λ (p : Part). p.passes) there)) is.below;
        few = subst (λ (n : ℕ). n ≤ 32) (sym (ap (λ (p : Part). p.passes) there)) is.few;
        count = ap (λ (p : Part). length p.pushed) there ∙ is.count;
        at_counts = ap (λ m. m.1) tells ∙ is.at_counts;
        total = ap (λ m. m.0.total) tells ∙ (is.total ∙ sym (ap (λ (p : Part). p.passes) there));
        share = ap (λ m. m.0.share) tells ∙ is.share;
        told = λ w. ap (λ m. times w m.0.told) tells
            ∙ (ap (λ n. times w (teller.me.0.told ++ n ∷ [])) word_is
            ∙ (events_taken part noted teller.me.0.told is.told w ∙ ap (events w) (sym there)));
      }

  pub taken_pass : (noted : Noted) (word : ℕ) → view after ≡ Has (taken_part (part_in (view place)) noted ∷ []) → told.me ≡ (telling word teller.me.0, teller.me.1) → pass_at after told ≡ having_taken (pass_at place teller) noted.page
  taken_pass noted word grown tells =
      let there : part_in (view after) ≡ taken_part (part_in (view place)) noted = ap part_in grown in
      let seen : told.me.0.seen ≡ teller.me.0.seen = ap (λ m. m.0.seen) tells in
      let grown_state : state after.table_id told.table_id (part_in (view after)) told.me.0.seen ≡ state place.table_id teller.table_id (taken_part (part_in (view place)) noted) teller.me.0.seen =
      λ i. state (queue i) (counts i) (there i) (seen i) in
      grown_state
      ∙ ap (λ (l : List ℕ). record (pass_at place teller) { taken = l }) (map-append (λ (n : Noted). n.page) (part_in (view place)).taken (noted ∷ []))

  -- a look changes what was seen alone
  pub seen_seats : (word least most : ℕ) → view after ≡ view place → HasSeen teller.me told.me word least most → IsSeated number pushes after told
  seen_seats word least most same seen =
      let there : part_in (view after) ≡ part_in (view place) = ap part_in same in record {
        at_queue = same ∙ (is.at_queue ∙ ap (λ (p : Part). Has (p ∷ [])) (sym there));
        no_slot = slots ∙ is.no_slot;
        numbered = ap (λ (p : Part). p.number) there ∙ is.numbered;
        below = subst (λ (n : ℕ). number + 1 ≤ n) (sym (ap (λ (p : Part). p.passes) there)) is.below;
        few = subst (λ (n : ℕ). n ≤ 32) (sym (ap (λ (p : Part). p.passes) there)) is.few;
        count = ap (λ (p : Part). length p.pushed) there ∙ is.count;
        at_counts = seen.slots ∙ is.at_counts;
        total = seen.total ∙ (is.total ∙ sym (ap (λ (p : Part). p.passes) there));
        share = seen.share ∙ is.share;
        told = λ w. ap (times w) seen.told ∙ (is.told w ∙ ap (events w) (sym there));
      }

  pub full_pass : (word most : ℕ) → word ≡ 0 → view after ≡ view place → HasSeen teller.me told.me word 256 most → pass_at after told ≡ having_met_full (pass_at place teller)
  full_pass word most zero_is same seen =
      let there : part_in (view after) ≡ part_in (view place) = ap part_in same in
      let number : ℕ = (part_in (view after)).number in
      let known : seen_in ((part_in (view after)).number + 1) told.me.0.seen ≡ seen_in ((part_in (view place)).number + 1) teller.me.0.seen =
      seen.others (number + 1) (λ e. omega (arith, zero_is, e)) ∙ ap (λ (p : Part). seen_in (p.number + 1) teller.me.0.seen) there in
      let full : nat_le 256 (seen_in 0 told.me.0.seen) ≡ true = le-leb 256 (seen_in 0 told.me.0.seen) (subst (λ (w : ℕ). 256 ≤ seen_in w told.me.0.seen) zero_is seen.least_is) in
      λ i. record {
        queue = record { queue = queue i; counts = counts i; passes = (there i).passes; pages = (there i).pages };
        number = (there i).number;
        pushed = (there i).pushed;
        taken = pages_of (there i).taken;
        known = known i;
        met_full = full i;
      }

  pub none_pass : (word : ℕ) → word ≡ number + 1 → view after ≡ view place → HasSeen teller.me told.me word pushes pushes → pass_at after told ≡ knowing_all_taken (pass_at place teller)
  none_pass word word_is same seen =
      let there : part_in (view after) ≡ part_in (view place) = ap part_in same in
      let mine : (part_in (view after)).number + 1 ≡ word = let a = ap (λ (p : Part). p.number) there in let b = is.numbered in omega (arith, a, b, word_is) in
      let least = seen.least_is in let most = seen.most_is in let count = is.count in
      let found : seen_in word told.me.0.seen ≡ length (part_in (view place)).pushed = omega (arith, least, most, count) in
      let known : seen_in ((part_in (view after)).number + 1) told.me.0.seen ≡ length (part_in (view place)).pushed = ap (λ w. seen_in w told.me.0.seen) mine ∙ found in
      let full : nat_le 256 (seen_in 0 told.me.0.seen) ≡ nat_le 256 (seen_in 0 teller.me.0.seen) = ap (λ n. nat_le 256 n) (seen.others 0 (λ e. omega (arith, word_is, e))) in
      λ i. record {
        queue = record { queue = queue i; counts = counts i; passes = (there i).passes; pages = (there i).pages };
        number = (there i).number;
        pushed = (there i).pushed;
        taken = pages_of (there i).taken;
        known = known i;
        met_full = full i;
      }

-- the pages that were taken, each with the number of the pass that took it
abbrev pub order_of : List Took → List Noted
order_of taken = map (λ took. record { page = took.noted.page; by = took.by }) taken

pub same_pages : (taken : List Took) → pages_of (order_of taken) ≡ pages_of (noted_of taken)
same_pages [] = refl
same_pages (took ∷ taken) = ap (λ l. took.noted.page ∷ l) (same_pages taken)

-- one page more, or none
by_test : (b : Bool) (number : ℕ) (took : Took) (taken : List Took) → pages_by number (order_of taken) ≡ pages_of (taken_by number taken)
    → pages_of (cond b ((record { page = took.noted.page; by = took.by }) ∷ filter (λ noted. noted.by == number) (order_of taken)) (filter (λ noted. noted.by == number) (order_of taken)))
    ≡ pages_of (noted_of (cond b (took ∷ filter (λ t. t.by == number) taken) (filter (λ t. t.by == number) taken)))
by_test true number took taken same = ap (λ l. took.noted.page ∷ l) same
by_test false number took taken same = same

pub same_by : (number : ℕ) (taken : List Took) → pages_by number (order_of taken) ≡ pages_of (taken_by number taken)
same_by number [] = refl
same_by number (took ∷ taken) = by_test (took.by == number) number took taken (same_by number taken)

pub were_waiting : (place : Place) (teller : TellerSeat) (count : ℕ) → view place ≡ Has (part_in (view place) ∷ []) → Held count (Waiting (view place)) → WereWaiting (pass_at place teller) count
were_waiting place teller count has held =
    let kept = held.2.1 in
    let fits : FitsPart kept.now held.2.2 (part_in (view place)) = (subst (λ (v : View). EachFits kept.now held.2.2 (parts_of v)) has held.2.3).0 in record {
      pushed = kept.now.pushed;
      taken = order_of kept.now.taken;
      waiting = pages_of held.0;
      begins = ap pages_of kept.order
          ∙ (map-append (λ (n : Noted). n.page) (noted_of kept.now.taken) held.0
          ∙ ap (λ l. l ++ pages_of held.0) (sym (same_pages kept.now.taken)));
      count_is = length-map held.0 (λ (n : Noted). n.page) ∙ held.1;
      pushes = fits.pushed;
      takes = same_by (part_in (view place)).number kept.now.taken ∙ ap pages_of fits.taken;
    }
