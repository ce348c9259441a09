-- The entries of calls in order are theirs: so their tags and the amounts of their ageings fit their fields where the calls'
-- do, and a text spells the histories.
use Rattle.std.proofs.Common.{ℕ, ◌≡◌, ◌+◌, ◌^◌, ◌<◌, ◌≤◌, ◌==◌, ◌&&◌, ◌||◌, nat_lt, Bool, true, false, not, List, [], ◌∷◌, ◌++◌, length, map, refl, sym, ap, subst, ◌∙◌, arith, eqb-true}
use Rattle.std.specs.Prelude.{All}
use Rattle.std.specs.List.{enumerate_from, list_all}
use Rattle.std.proofs.lemmas.Bool.{and_parts, false≢true}
use Rattle.std.proofs.lemmas.List.{length-map}
use Rattle.std.proofs.lemmas.List.Folds.{list_all-append}
use Rattle.serial_laws.proofs.Lists.{all_both}
use Rattle.std.proofs.lemmas.List.Elements.{All-cons, All-head, All-nil, All-tail, All-weaker}
use Rattle.ssd_geo.specs.declared.entry.Entry.{Entry}
use Rattle.ssd_geo.specs.declared.reply.Reply.{Reply}
use Rattle.ssd_geo.specs.declared.tag.Tag.{Tag}
use Rattle.ssd_geo.specs.declared.trace.TraceCall.{TraceCall}
use Rattle.ssd_formats.specs.HistoryText.{are_spelled_histories}
use Rattle.ssd_histories.specs.CallSteps.{CallStep, steps_of}
use Rattle.ssd_histories.specs.CallsInOrder.{AreCallSteps, AreCallsInOrder, ChannelRun, IsAsAnswered, IsBegunOn, answered_by, is_of_call, ladder_in, steps_on}
use Rattle.ssd_histories.specs.History.{history_of, is_same_tag}
use Rattle.run_laws.specs.SpelledPasts.{CallsInOrderAreSpelled, HasShortPast, IsSmallCall, IsSmallEntry, IsSmallTag}
use Rattle.run_laws.proofs.SmallSteps.{AreSmall, is_small_kind, is_small_step, small_first, small_is, steps_small}
use Rattle.run_laws.proofs.SpelledHistories.{IsSpelledPast, spelled_histories}
use Rattle.run_laws.proofs.SpelledPasts.{lawful_pasts_are_spelled}

-- whether an entry is small where it is of a call
abbrev is_small_of : Tag → Entry → Bool
is_small_of tag entry = not (is_same_tag tag entry.tag) || is_small_kind entry.kind

-- where the steps of a call are small, its entries are
entries_small : (tag : Tag) (past : List Entry) → AreSmall (steps_of tag past) → list_all (is_small_of tag) past ≡ true
entries_small tag [] small = refl
entries_small tag (entry ∷ past) small = by_test (is_same_tag tag entry.tag) small (entries_small tag past)
  where
    step : CallStep
    step = record { past = past; entry = entry }

    by_test : (b : Bool) → AreSmall (elim b [ true ↦ steps_of tag past ++ step ∷ [] | false ↦ steps_of tag past ]) →
        (AreSmall (steps_of tag past) → list_all (is_small_of tag) past ≡ true) →
        ((not b || is_small_kind entry.kind) && list_all (is_small_of tag) past) ≡ true
    by_test true all rest =
        let parts = and_parts (list_all is_small_step (steps_of tag past)) (list_all is_small_step (step ∷ []))
        (sym (list_all-append is_small_step (steps_of tag past) (step ∷ [])) ∙ all) in
        rw ((and_parts (is_small_kind entry.kind) true parts.1).0) (rest parts.0)
    by_test false all rest = rest all

unnumbered : {X : Type 0} (P : X → Type 0) (n : ℕ) (xs : List X) → All (λ (item : ℕ × X). P item.1) (enumerate_from n xs) → All P xs
unnumbered P n [] all = All-nil P
unnumbered {X} P n (x ∷ xs) all =
    All-cons P x xs (All-head (λ (item : ℕ × X). P item.1) (n, x) (enumerate_from (n + 1) xs) all)
    (unnumbered P (n + 1) xs (All-tail (λ (item : ℕ × X). P item.1) (n, x) (enumerate_from (n + 1) xs) all))

-- what holds of each pair holds of each pair the other way round
swapped : {X Y : Type 0} (R : X → Y → Type 0) (xs : List X) (ys : List Y) → All (λ x. All (R x) ys) xs →
    All (λ y. All (λ x. R x y) xs) ys
swapped R xs [] all = All-nil (λ y. All (λ x. R x y) xs)
swapped R xs (y ∷ ys) all =
    All-cons (λ y. All (λ x. R x y) xs) y ys
    (All-weaker (λ x. All (R x) (y ∷ ys)) (λ x. R x y) (λ x held. All-head (R x) y ys held) xs all)
    (swapped R xs ys (All-weaker (λ x. All (R x) (y ∷ ys)) (λ x. All (R x) ys) (λ x held. All-tail (R x) y ys held) xs all))

same_small : (a b : Tag) → is_same_tag a b ≡ true → IsSmallTag a → IsSmallTag b
same_small a b is small =
    let parts = and_parts (a.actor == b.actor) (a.call == b.call) is in
    let actor : a.actor ≡ b.actor = eqb-true a.actor b.actor parts.0 in
    let call : a.call ≡ b.call = eqb-true a.call b.call parts.1 in
    record { actor = subst (λ (n : ℕ). n < 2 ^ 8) actor small.actor; call = subst (λ (n : ℕ). n < 2 ^ 32) call small.call }

-- an entry of one of some calls
entry_small : (calls : List TraceCall) (entry : Entry) → All IsSmallCall calls →
    All (λ call. is_small_of call.tag entry ≡ true) calls → is_of_call calls entry ≡ true → IsSmallEntry entry
entry_small [] entry small each is = absurd (false≢true is)
entry_small (call ∷ calls) entry small each is =
    by_test (is_same_tag call.tag entry.tag) refl (All-head (λ (one : TraceCall). is_small_of one.tag entry ≡ true) call calls each)
    (entry_small calls entry (All-tail IsSmallCall call calls small)
    (All-tail (λ (one : TraceCall). is_small_of one.tag entry ≡ true) call calls each)) is
  where
    by_test : (b : Bool) → is_same_tag call.tag entry.tag ≡ b → (not b || is_small_kind entry.kind) ≡ true →
        (is_of_call calls entry ≡ true → IsSmallEntry entry) → (b || is_of_call calls entry) ≡ true → IsSmallEntry entry
    by_test true e kind rest is = record {
      small_tag = same_small call.tag entry.tag e (All-head IsSmallCall call calls small).small_tag;
      small_kind = small_is entry.kind kind;
    }
    by_test false e kind rest is = rest is

-- the entries of a past of some calls
past_small : (calls : List TraceCall) (past : List Entry) → All IsSmallCall calls →
    All (λ call. list_all (is_small_of call.tag) past ≡ true) calls → list_all (is_of_call calls) past ≡ true → All IsSmallEntry past
past_small calls [] small each known = All-nil IsSmallEntry
past_small calls (entry ∷ past) small each known =
    let parts = and_parts (is_of_call calls entry) (list_all (is_of_call calls) past) known in
    All-cons IsSmallEntry entry past
    (entry_small calls entry small
    (All-weaker (λ (call : TraceCall). list_all (is_small_of call.tag) (entry ∷ past) ≡ true)
    (λ (call : TraceCall). is_small_of call.tag entry ≡ true)
    (λ call held. (and_parts (is_small_of call.tag entry) (list_all (is_small_of call.tag) past) held).0) calls each) parts.0)
    (past_small calls past small
    (All-weaker (λ (call : TraceCall). list_all (is_small_of call.tag) (entry ∷ past) ≡ true)
    (λ (call : TraceCall). list_all (is_small_of call.tag) past ≡ true)
    (λ call held. (and_parts (is_small_of call.tag entry) (list_all (is_small_of call.tag) past) held).1) calls each) parts.1)

module _ (contents : List (Tag × List ℕ)) (calls : List TraceCall) (replies : List (List Reply)) (runs : List ChannelRun)
    (in_order : AreCallsInOrder contents calls replies runs) (short : All (HasShortPast contents) runs)
    (small : All IsSmallCall calls) where
  -- the steps of a call are small on each channel
  answered_small : (answered is_first : Bool) (call : TraceCall) → IsSmallCall call →
      IsAsAnswered contents runs answered is_first call → All (λ run. AreSmall (steps_on call.tag run)) runs
  answered_small true is_first call fine whole =
      unnumbered (λ run. AreSmall (steps_on call.tag run)) 0 runs
      (All-weaker (λ item. AreCallSteps contents (length runs) call item (steps_on call.tag item.1))
      (λ item. AreSmall (steps_on call.tag item.1))
      (λ item are. steps_small (ladder_in contents item.1) item.1.start.base (length runs) item.0 call.verb (steps_on call.tag item.1)
      fine.small_verb are) (enumerate_from 0 runs) whole.on_channels)
  answered_small false true call fine begun =
      unnumbered (λ run. AreSmall (steps_on call.tag run)) 0 runs
      (All-weaker (IsBegunOn contents (length runs) call) (λ item. AreSmall (steps_on call.tag item.1))
      (λ item on. small_first (steps_on call.tag item.1) on.rest
      (steps_small (ladder_in contents item.1) item.1.start.base (length runs) item.0 call.verb (steps_on call.tag item.1 ++ on.rest)
      fine.small_verb on.begins)) (enumerate_from 0 runs) begun.on_channels)
  answered_small false false call fine none =
      All-weaker (λ (run : ChannelRun). steps_on call.tag run ≡ []) (λ run. AreSmall (steps_on call.tag run))
      (λ run is. subst AreSmall (sym is) refl) runs none

  entries_of_call : (call : TraceCall) → IsSmallCall call →
      IsAsAnswered contents runs (nat_lt call.tag.call (answered_by replies call.tag.actor))
      (call.tag.call == answered_by replies call.tag.actor) call →
      All (λ run. list_all (is_small_of call.tag) run.past ≡ true) runs
  entries_of_call call fine made =
      All-weaker (λ (run : ChannelRun). AreSmall (steps_on call.tag run)) (λ run. list_all (is_small_of call.tag) run.past ≡ true)
      (λ run steps. entries_small call.tag run.past steps) runs
      (answered_small (nat_lt call.tag.call (answered_by replies call.tag.actor))
      (call.tag.call == answered_by replies call.tag.actor) call fine made)

  by_run : All (λ run. All (λ call. list_all (is_small_of call.tag) run.past ≡ true) calls) runs
  by_run =
      swapped (λ (call : TraceCall) (run : ChannelRun). list_all (is_small_of call.tag) run.past ≡ true) calls runs
      (all_both IsSmallCall
      (λ (call : TraceCall). IsAsAnswered contents runs (nat_lt call.tag.call (answered_by replies call.tag.actor))
      (call.tag.call == answered_by replies call.tag.actor) call)
      (λ call. All (λ run. list_all (is_small_of call.tag) run.past ≡ true) runs)
      (λ call fine made. entries_of_call call fine made) calls small in_order.made)

  small_run : All (λ run. All IsSmallEntry run.past) runs
  small_run =
      all_both (λ (run : ChannelRun). All (λ call. list_all (is_small_of call.tag) run.past ≡ true) calls)
      (λ run. list_all (is_of_call calls) run.past ≡ true) (λ run. All IsSmallEntry run.past)
      (λ run each known. past_small calls run.past small each known) runs by_run in_order.known

  spelled_run : All (λ run. IsSpelledPast run.past) runs
  spelled_run =
      all_both (HasShortPast contents) (λ run. All IsSmallEntry run.past) (λ run. IsSpelledPast run.past)
      (λ run own entries.
      let high = own.is_past.is_start.limit_high in
      let fits = own.is_short in
      record {
        spelled =
            lawful_pasts_are_spelled run.start contents run.past own.is_past.is_start own.serials own.is_past.is_lawful
            (omega (arith, fits, high)) entries;
        short = omega (arith, fits, high);
      }) runs short small_run

past_in : ChannelRun → List Entry
past_in run = run.past

spelled_pasts : (runs : List ChannelRun) → All (λ run. IsSpelledPast run.past) runs → All IsSpelledPast (map past_in runs)
unfolding past_in
spelled_pasts [] all = All-nil IsSpelledPast
spelled_pasts (run ∷ runs) all =
    All-cons IsSpelledPast run.past (map past_in runs) (All-head (λ (one : ChannelRun). IsSpelledPast one.past) run runs all)
    (spelled_pasts runs (All-tail (λ (one : ChannelRun). IsSpelledPast one.past) run runs all))

histories_are : (runs : List ChannelRun) → map history_of (map past_in runs) ≡ map (λ run. history_of run.past) runs
unfolding past_in
histories_are [] = refl
histories_are (run ∷ runs) = ap {B = List (List Entry)} (λ (more : List (List Entry)). history_of run.past ∷ more) (histories_are runs)

pub calls_in_order_are_spelled : CallsInOrderAreSpelled
calls_in_order_are_spelled contents calls replies runs in_order short small few =
    subst (λ (histories : List (List Entry)). are_spelled_histories histories ≡ true) (histories_are runs)
    (spelled_histories (map past_in runs) (subst (λ (n : ℕ). n ≤ 256) (sym (length-map runs past_in)) few)
    (spelled_pasts runs (spelled_run contents calls replies runs in_order short small)))
