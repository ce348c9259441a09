-- The numbers of the calls of a run's entries fit their fields, where its calls are numbered and few.
use Rattle.std.proofs.Common.{◌≡◌, refl, subst, ℕ, ◌+◌, ◌^◌, ◌<◌, ◌≤◌, ◌&&◌, ◌||◌, ◌==◌, Bool, true, false, List, [], ◌∷◌, ◌++◌, length, length-append, arith, eqb-true}
use Rattle.std.specs.Prelude.{All, count_by}
use Rattle.std.specs.List.{list_all}
use Rattle.std.proofs.lemmas.Bool.{and_parts}
use Rattle.std.proofs.lemmas.List.Elements.{All-cons, All-nil, All-weaker}
use Rattle.std.proofs.lemmas.List.Sums.{count_by-le-length}
use Rattle.channel_ends.specs.ChannelEnds.{HasSmallTag}
use Rattle.run_laws.specs.Runs.{channels_of}
use Rattle.run_laws.specs.SpelledPasts.{IsSmallTag}
use Rattle.savable_contents.specs.SavableContents.{CallsGiveSmallTags}
use Rattle.ssd_geo.specs.declared.entry.Entry.{Entry}
use Rattle.ssd_geo.specs.declared.tag.Tag.{Tag}
use Rattle.ssd_geo.specs.declared.trace.TraceCall.{TraceCall}
use Rattle.ssd_histories.specs.CallsInOrder.{AreNumberedAfter, ChannelRun, is_of_call}
use Rattle.ssd_histories.specs.History.{is_same_tag}

-- an entry of one of some calls that are numbered and few
entry_small : (actors : ℕ) (before calls : List TraceCall) (entry : Entry) → AreNumberedAfter actors before calls
    → actors ≤ 2 ^ 8 → length before + length calls ≤ 2 ^ 32 → is_of_call calls entry ≡ true → HasSmallTag entry
entry_small actors before [] entry numbered few many is = absurd (cc)
entry_small actors before (call ∷ calls) entry numbered few many is =
    let more = length-append before (call ∷ []) in
    by_test (is_same_tag call.tag entry.tag) refl
    (entry_small actors (before ++ call ∷ []) calls entry numbered.1 few (omega (arith, more, many))) is
  where
    here : is_same_tag call.tag entry.tag ≡ true → HasSmallTag entry
    here same =
        let parts = and_parts (call.tag.actor == entry.tag.actor) (call.tag.call == entry.tag.call) same in
        let actor : call.tag.actor ≡ entry.tag.actor = eqb-true call.tag.actor entry.tag.actor parts.0 in
        let number : call.tag.call ≡ entry.tag.call = eqb-true call.tag.call entry.tag.call parts.1 in
        let own = numbered.0 in
        let is_actor = own.is_actor in
        let is_number = own.is_number in
        let counted = count_by-le-length (λ (older : TraceCall). older.tag.actor == call.tag.actor) before in
        record {
          actor = omega (arith, actor, is_actor, few);
          call = omega (arith, number, is_number, counted, many);
        }

    by_test : (b : Bool) → is_same_tag call.tag entry.tag ≡ b → (is_of_call calls entry ≡ true → HasSmallTag entry)
        → (b || is_of_call calls entry) ≡ true → HasSmallTag entry
    by_test true same later either = here same
    by_test false other later either = later either

-- and the entries of a past
past_small : (actors : ℕ) (calls : List TraceCall) (past : List Entry) → AreNumberedAfter actors [] calls
    → actors ≤ 2 ^ 8 → length calls ≤ 2 ^ 32 → list_all (is_of_call calls) past ≡ true → All HasSmallTag past
past_small actors calls [] numbered few many known = All-nil HasSmallTag
past_small actors calls (entry ∷ past) numbered few many known =
    let parts = and_parts (is_of_call calls entry) (list_all (is_of_call calls) past) known in
    All-cons HasSmallTag entry past
    (entry_small actors [] calls entry numbered few (omega (arith, many)) parts.0)
    (past_small actors calls past numbered few many parts.1)

pub calls_give_small_tags : CallsGiveSmallTags
calls_give_small_tags head run calls in_order =
    All-weaker (λ (of : ChannelRun). list_all (is_of_call run.calls.calls) of.past ≡ true)
    (λ (of : ChannelRun). All HasSmallTag of.past)
    (λ of known. past_small run.calls.actors run.calls.calls of.past calls.numbered calls.few_actors calls.few_calls known)
    (channels_of run) in_order.known
