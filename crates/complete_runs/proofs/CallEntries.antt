-- A fact of the steps of each call of a run, on each of its channels, is one of all entries: each entry belongs to a call.
use Rattle.std.proofs.Common.{◌≡◌, ℕ, ◌==◌, ◌||◌, nat_lt, Bool, true, false, List, [], ◌∷◌, ◌++◌, length, refl, sym, subst, Some, All}
use Rattle.std.specs.Prelude.{slice_get, slice_index_or}
use Rattle.std.specs.List.{list_all, list_any}
use Rattle.std.proofs.lemmas.Bool.{and_parts, false≢true}
use Rattle.std.proofs.lemmas.List.Elements.{All-cons, All-head, All-nil, All-tail, All-weaker}
use Rattle.std.proofs.lemmas.Option.{slice_get-get_or}
use Rattle.ssd_geo.specs.declared.entry.Entry.{Entry}
use Rattle.ssd_geo.specs.declared.kind.Kind.{Kind}
use Rattle.ssd_geo.specs.declared.reply.Reply.{Reply}
use Rattle.ssd_geo.specs.declared.tag.Tag.{Tag}
use Rattle.ssd_geo.specs.declared.trace.TraceCall.{TraceCall}
use Rattle.ssd_histories.specs.CallSteps.{CallStep, steps_of}
use Rattle.ssd_histories.specs.CallsInOrder.{AreCallSteps, AreCallsInOrder, ChannelRun, IsAsAnswered, IsBegunOn, answered_by, is_of_call, steps_on}
use Rattle.ssd_histories.specs.History.{is_same_tag}
use Rattle.shared_lemmas.proofs.Lists.{all_at, numbered_at}

pub all_front : {X : Type 0} (P : X → Type 0) (xs ys : List X) → All P (xs ++ ys) → All P xs
all_front P [] ys all = All-nil P
all_front P (x ∷ xs) ys all = All-cons P x xs (All-head P x (xs ++ ys) all) (all_front P xs ys (All-tail P x (xs ++ ys) all))

all_last : {X : Type 0} (P : X → Type 0) (xs : List X) (x : X) → All P (xs ++ x ∷ []) → P x
all_last P [] x all = All-head P x [] all
all_last P (first ∷ xs) x all = all_last P xs x (All-tail P first (xs ++ x ∷ []) all)

module _ (P : Kind → Type 0) where
  abbrev pub StepsHave : List CallStep → Type 0
  StepsHave steps = All (λ step. P step.entry.kind) steps

  -- the steps of a call in a past, without its newest entry
  older_have : (tag : Tag) (entry : Entry) (past : List Entry) → StepsHave (steps_of tag (entry ∷ past)) → StepsHave (steps_of tag past)
  older_have tag entry past all = by_tag (is_same_tag tag entry.tag) all
    where
      by_tag : (same : Bool) →
          StepsHave (elim same [ true ↦ steps_of tag past ++ record { past = past; entry = entry } ∷ [] | false ↦ steps_of tag past ]) →
          StepsHave (steps_of tag past)
      by_tag true steps =
          all_front (λ (step : CallStep). P step.entry.kind) (steps_of tag past) (record { past = past; entry = entry } ∷ []) steps
      by_tag false steps = steps

  -- the newest entry is a step of its call
  newest_has : (tag : Tag) (entry : Entry) (past : List Entry) → is_same_tag tag entry.tag ≡ true → StepsHave (steps_of tag (entry ∷ past)) →
      P entry.kind
  newest_has tag entry past same all = by_tag (is_same_tag tag entry.tag) same all
    where
      by_tag : (b : Bool) → b ≡ true →
          StepsHave (elim b [ true ↦ steps_of tag past ++ record { past = past; entry = entry } ∷ [] | false ↦ steps_of tag past ]) →
          P entry.kind
      by_tag true is steps = all_last (λ (step : CallStep). P step.entry.kind) (steps_of tag past) (record { past = past; entry = entry }) steps
      by_tag false is steps = absurd (false≢true is)

  own_call_has : (entry : Entry) (past : List Entry) (calls : List TraceCall) →
      All (λ call. StepsHave (steps_of call.tag (entry ∷ past))) calls → list_any (λ call. is_same_tag call.tag entry.tag) calls ≡ true →
      P entry.kind
  own_call_has entry past [] all known = absurd (false≢true known)
  own_call_has entry past (call ∷ calls) all known =
      by_test (is_same_tag call.tag entry.tag) refl known
      (own_call_has entry past calls (All-tail (λ (other : TraceCall). StepsHave (steps_of other.tag (entry ∷ past))) call calls all))
    where
      by_test : (b : Bool) → is_same_tag call.tag entry.tag ≡ b → (b || list_any (λ other. is_same_tag other.tag entry.tag) calls) ≡ true →
          (list_any (λ other. is_same_tag other.tag entry.tag) calls ≡ true → P entry.kind) → P entry.kind
      by_test true same here later =
          newest_has call.tag entry past same
          (All-head (λ (other : TraceCall). StepsHave (steps_of other.tag (entry ∷ past))) call calls all)
      by_test false same here later = later here

  entries_have : (calls : List TraceCall) (past : List Entry) → list_all (is_of_call calls) past ≡ true →
      All (λ call. StepsHave (steps_of call.tag past)) calls → All (λ entry. P entry.kind) past
  entries_have calls [] known all = All-nil (λ (entry : Entry). P entry.kind)
  entries_have calls (entry ∷ past) known all =
      let parts = and_parts (is_of_call calls entry) (list_all (is_of_call calls) past) known in
      All-cons (λ (other : Entry). P other.kind) entry past (own_call_has entry past calls all parts.0)
      (entries_have calls past parts.1
      (All-weaker (λ (call : TraceCall). StepsHave (steps_of call.tag (entry ∷ past)))
      (λ (call : TraceCall). StepsHave (steps_of call.tag past)) (λ call. older_have call.tag entry past) calls all))

  -- the steps of a call on a channel, where those of its verb have it
  module _ (contents : List (Tag × List ℕ)) (runs : List ChannelRun) (call : TraceCall)
      (of_verb : (item : ℕ × ChannelRun) (steps : List CallStep) → AreCallSteps contents (length runs) call item steps → StepsHave steps) where
    call_has : (channel : ℕ) (run : ChannelRun) (answered first : Bool) → slice_get runs channel ≡ Some run →
        IsAsAnswered contents runs answered first call → StepsHave (steps_on call.tag run)
    call_has channel run true first there whole =
        of_verb (channel, run) (steps_on call.tag run)
        (numbered_at (λ (item : ℕ × ChannelRun). AreCallSteps contents (length runs) call item (steps_on call.tag item.1)) runs channel run
        whole.on_channels there)
    call_has channel run false true there begun =
        let here : IsBegunOn contents (length runs) call (channel, run) =
        numbered_at (IsBegunOn contents (length runs) call) runs channel run begun.on_channels there in
        all_front (λ (step : CallStep). P step.entry.kind) (steps_on call.tag run) here.rest
        (of_verb (channel, run) (steps_on call.tag run ++ here.rest) here.begins)
    call_has channel run false false there none =
        subst StepsHave (sym (all_at (λ (other : ChannelRun). steps_on call.tag other ≡ []) runs channel run none there))
        (All-nil (λ (step : CallStep). P step.entry.kind))

  pub all_entries_have : (contents : List (Tag × List ℕ)) (calls : List TraceCall) (replies : List (List Reply)) (runs : List ChannelRun) →
      AreCallsInOrder contents calls replies runs →
      All (λ call. (item : ℕ × ChannelRun) (steps : List CallStep) → AreCallSteps contents (length runs) call item steps → StepsHave steps) calls →
      All (λ run. All (λ entry. P entry.kind) run.past) runs
  all_entries_have contents calls replies runs in_order of_verbs = λ channel other within.
      let run : ChannelRun = slice_index_or runs channel other in
      entries_have calls run.past (in_order.known channel other within)
      (λ k d low.
      let call : TraceCall = slice_index_or calls k d in
      call_has contents runs (slice_index_or calls k d) (of_verbs k d low) channel run
      (nat_lt call.tag.call (answered_by replies call.tag.actor)) (call.tag.call == answered_by replies call.tag.actor)
      (slice_get-get_or runs channel other within) (in_order.made k d low))
