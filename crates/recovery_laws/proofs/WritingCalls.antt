-- Each entry that writes is of a call that writes, and has that call's data: the fourth law of specs/ReadReplies.antt.
use Rattle.std.proofs.Common.{◌≡◌, ℕ, ◌+◌, ◌<◌, ◌==◌, nat_lt, Bool, true, false, List, [], ◌∷◌, ◌++◌, length, sym, subst, ◌∙◌, Some, arith, All}
use Rattle.std.specs.Prelude.{◌||◌, slice_get, slice_index_or}
use Rattle.std.specs.List.{enumerate_from, list_all, list_any}
use Rattle.std.proofs.lemmas.Bool.{and_parts}
use Rattle.std.proofs.lemmas.Bool.Decides.{nat_tests}
use Rattle.std.proofs.lemmas.List.Elements.{All-cons, All-head, All-nil, All-tail, All-weaker}
use Rattle.std.proofs.lemmas.List.FromFn.{get_or-enumerate_from, length-enumerate_from}
use Rattle.std.proofs.lemmas.Option.{get_or_from_slice_get, slice_get-get_or, slice_get_within}
use Rattle.ssd_geo.specs.declared.entry.Entry.{Entry}
use Rattle.ssd_geo.specs.declared.kind.Kind.{Kind}
use Rattle.ssd_geo.specs.declared.tag.Tag.{Tag}
use Rattle.ssd_geo.specs.declared.trace.TraceCall.{TraceCall}
use Rattle.ssd_geo.specs.declared.trace.Verb.{Verb}
use Rattle.ssd_histories.specs.CallSteps.{steps_of}
use Rattle.ssd_histories.specs.CallsInOrder.{AreCallSteps, ChannelRun, IsAsAnswered, IsBegunOn, answered_by, is_of_call, ladder_in, steps_on}
use Rattle.ssd_histories.specs.History.{is_same_tag}
use Rattle.ssd_histories.specs.LastWrites.{IsData}
use Rattle.ssd_histories.specs.Start.{data_of}
use Rattle.recovery_laws.specs.ReadReplies.{HasContents, IsTracedRun, IsWrittenRun, TracedRunsAreWritten}
use Rattle.recovery_laws.specs.RecoveredReads.{WritesData}
use Rattle.recovery_laws.proofs.OtherVerbs.{MayWrite, verb_may_write}
use Rattle.shared_lemmas.proofs.Lists.{numbered_at}
use Rattle.ssd_histories.proofs.SameTags.{one_tag}

-- of a fact of each of two lists, that of each of the first, and of the last item
all_front : {X : Type 0} (P : X → Type 0) (xs ys : List X) → All P (xs ++ ys) → All P xs
all_front P [] ys all = All-nil P
all_front P (x ∷ xs) ys all = All-cons P x xs (All-head P x (xs ++ ys) all) (all_front P xs ys (All-tail P x (xs ++ ys) all))

all_last : {X : Type 0} (P : X → Type 0) (xs : List X) (x : X) → All P (xs ++ x ∷ []) → P x
all_last P [] x all = All-head P x [] all
all_last P (first ∷ xs) x all = all_last P xs x (All-tail P first (xs ++ x ∷ []) all)

-- a call of the trace to which an entry belongs, with what each call has
pub record FoundCall (Has : TraceCall → Type 0) (tag : Tag) : Type 0 where
  pub call : TraceCall
  pub has : Has call
  pub is_same : is_same_tag call.tag tag ≡ true

found_call : (Has : TraceCall → Type 0) (tag : Tag) (calls : List TraceCall) → All Has calls → list_any (λ call. is_same_tag call.tag tag) calls ≡ true → FoundCall Has tag
found_call Has tag [] all known = absurd (grind arith)
found_call Has tag (call ∷ calls) all known =
    by_test (is_same_tag call.tag tag) refl_of known (found_call Has tag calls (All-tail Has call calls all))
  where
    refl_of : is_same_tag call.tag tag ≡ is_same_tag call.tag tag
    refl_of = λ i. is_same_tag call.tag tag

    by_test : (b : Bool) → is_same_tag call.tag tag ≡ b → (b || list_any (λ other. is_same_tag other.tag tag) calls) ≡ true →
        (list_any (λ other. is_same_tag other.tag tag) calls ≡ true → FoundCall Has tag) → FoundCall Has tag
    by_test true e here older = record { call = call; has = All-head Has call calls all; is_same = e }
    by_test false e here older = older here

module _ (count : ℕ) (contents : List (Tag × List ℕ)) where
  -- an entry of a call has the call's data where it writes
  entry_data : (past : List Entry) (tag : Tag) (kind : Kind) (call_tag : Tag) (verb : Verb) → call_tag ≡ tag → HasContents count contents call_tag verb →
      MayWrite verb (record { past = past; entry = record { tag = tag; kind = kind } }) → WritesData count contents tag kind
  entry_data past tag (Kind.Write row slot) call_tag (Verb.Write page content) same has may = subst (λ (named : Tag). IsData count (data_of contents named)) same has
  entry_data past tag (Kind.Write row slot) call_tag verb same has may = absurd (cc)
  entry_data past tag kind call_tag verb same has may = tt

  -- what a call has: its data, and its steps in a past
  pub record HasSteps (past : List Entry) (call : TraceCall) : Type 0 where
    pub contents_are : HasContents count contents call.tag call.verb
    pub may_write : All (MayWrite call.verb) (steps_of call.tag past)

  steps_before : (entry : Entry) (past : List Entry) (call : TraceCall) → HasSteps (entry ∷ past) call → HasSteps past call
  steps_before entry past call has = record {
    contents_are = has.contents_are;
    may_write = by_tag (is_same_tag call.tag entry.tag) has.may_write;
  }
    where
      by_tag : (b : Bool) →
          All (MayWrite call.verb) (elim b [ true ↦ steps_of call.tag past ++ record { past = past; entry = entry } ∷ [] | false ↦ steps_of call.tag past ]) →
          All (MayWrite call.verb) (steps_of call.tag past)
      by_tag true all = all_front (MayWrite call.verb) (steps_of call.tag past) (record { past = past; entry = entry } ∷ []) all
      by_tag false all = all

  newest_data : (entry : Entry) (past : List Entry) → FoundCall (HasSteps (entry ∷ past)) entry.tag → WritesData count contents entry.tag entry.kind
  newest_data entry past found =
      entry_data past entry.tag entry.kind found.call.tag found.call.verb (one_tag found.call.tag entry.tag found.is_same) found.has.contents_are
      (by_tag (is_same_tag found.call.tag entry.tag) found.is_same found.has.may_write)
    where
      by_tag : (b : Bool) → b ≡ true →
          All (MayWrite found.call.verb)
          (elim b [ true ↦ steps_of found.call.tag past ++ record { past = past; entry = entry } ∷ [] | false ↦ steps_of found.call.tag past ]) →
          MayWrite found.call.verb (record { past = past; entry = entry })
      by_tag true e all = all_last (MayWrite found.call.verb) (steps_of found.call.tag past) (record { past = past; entry = entry }) all
      by_tag false e all = absurd (grind arith)

  entries_data : (calls : List TraceCall) (past : List Entry) → list_all (is_of_call calls) past ≡ true → All (HasSteps past) calls →
      All (λ entry. WritesData count contents entry.tag entry.kind) past
  entries_data calls [] known has = All-nil (λ (entry : Entry). WritesData count contents entry.tag entry.kind)
  entries_data calls (entry ∷ past) known has =
      let parts = and_parts (is_of_call calls entry) (list_all (is_of_call calls) past) known in
      All-cons (λ (other : Entry). WritesData count contents other.tag other.kind) entry past
      (newest_data entry past (found_call (HasSteps (entry ∷ past)) entry.tag calls has parts.0))
      (entries_data calls past parts.1 (All-weaker (HasSteps (entry ∷ past)) (HasSteps past) (steps_before entry past) calls has))

-- the steps of a call on a channel, by its place among its actor's
call_steps : (contents : List (Tag × List ℕ)) (runs : List ChannelRun) (channel : ℕ) (run : ChannelRun) (call : TraceCall) (answered first : Bool) →
    slice_get runs channel ≡ Some run → IsAsAnswered contents runs answered first call → All (MayWrite call.verb) (steps_on call.tag run)
call_steps contents runs channel run call true first is whole =
    verb_may_write (ladder_in contents run) run.start.base (length runs) channel call.verb (steps_on call.tag run)
    (numbered_at (λ item. AreCallSteps contents (length runs) call item (steps_on call.tag item.1)) runs channel run whole.on_channels is)
call_steps contents runs channel run call false true is begun =
    let here : IsBegunOn contents (length runs) call (channel, run) = numbered_at (IsBegunOn contents (length runs) call) runs channel run begun.on_channels is in
    all_front (MayWrite call.verb) (steps_on call.tag run) here.rest
    (verb_may_write (ladder_in contents run) run.start.base (length runs) channel call.verb (steps_on call.tag run ++ here.rest) here.begins)
call_steps contents runs channel run call false false is none =
    subst (All (MayWrite call.verb))
    (sym (subst (λ (other : ChannelRun). steps_on call.tag other ≡ []) (get_or_from_slice_get runs channel run run is) (none channel run (slice_get_within runs channel run is))))
    (All-nil (MayWrite call.verb))

pub traced_runs_are_written : TracedRunsAreWritten
traced_runs_are_written contents calls replies runs traced in_order = λ channel run within.
    written channel (slice_index_or runs channel run) (slice_get-get_or runs channel run within) (traced channel run within) (in_order.known channel run within)
  where
    written : (channel : ℕ) (run : ChannelRun) → slice_get runs channel ≡ Some run → IsTracedRun contents calls run → list_all (is_of_call calls) run.past ≡ true →
        IsWrittenRun contents run
    written channel run is traced_here known = record {
      has_named_pages = traced_here.has_named_pages;
      is_lawful = traced_here.is_lawful;
      write_data =
          entries_data run.start.base.shape.bytes contents calls run.past known
          (λ k d within. record {
            contents_are = traced_here.has_contents k d within;
            may_write =
                call_steps contents runs channel run (slice_index_or calls k d)
                (nat_lt (slice_index_or calls k d).tag.call (answered_by replies (slice_index_or calls k d).tag.actor))
                ((slice_index_or calls k d).tag.call == answered_by replies (slice_index_or calls k d).tag.actor) is (in_order.made k d within);
          });
    }
