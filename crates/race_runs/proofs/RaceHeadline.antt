-- The statement on a race from the laws of recovered reads and of spelled histories.
use Rattle.std.proofs.Common.{ℕ, ◌≡◌, ◌+◌, ◌<◌, ◌≤◌, ◌==◌, true, List, [], ◌∷◌, ◌++◌, length, map, take, drop, refl, sym, ap, subst, ◌∙◌, arith}
use Rattle.std.specs.Prelude.{All, slice_index_or}
use Rattle.std.proofs.lemmas.List.{drop_more, length-take-le, take-append-drop}
use Rattle.std.proofs.lemmas.List.Sums.{count_by-le-length}
use Rattle.std.proofs.lemmas.Option.{slice_get-get_or}
use Rattle.recovery_laws.proofs.AnsweredReads.{calls_give_last_writes}
use Rattle.recovery_laws.proofs.StartPages.{starts_have_named_pages}
use Rattle.recovery_laws.specs.ReadReplies.{HasContents, IsTracedRun}
use Rattle.serial_laws.proofs.NumberedTags.{numbered_back}
use Rattle.shared_lemmas.proofs.Lists.{all_at}
use Rattle.ssd_formats.specs.HistoryText.{are_spelled_histories}
use Rattle.ssd_formats.specs.ImageHead.{Head}
use Rattle.ssd_formats.specs.TraceText.{contents_of}
use Rattle.ssd_geo.specs.declared.entry.Entry.{Entry}
use Rattle.ssd_geo.specs.declared.tag.Tag.{Tag}
use Rattle.ssd_geo.specs.declared.trace.TraceCall.{TraceCall}
use Rattle.ssd_geo.specs.declared.trace.Verb.{Verb}
use Rattle.ssd_histories.specs.CallsInOrder.{AreCallsInOrder, AreNumberedAfter, ChannelRun, IsNumberedAfter}
use Rattle.ssd_histories.specs.History.{history_of}
use Rattle.ssd_histories.specs.LastWrites.{IsData}
use Rattle.ssd_histories.specs.Start.{Start}
use Rattle.run_laws.specs.Runs.{Run, channels_of, data_in, runs_with}
use Rattle.run_laws.specs.SerialRuns.{HasCalls, HasData}
use Rattle.run_laws.specs.Serials.{HasSmallSerials}
use Rattle.run_laws.specs.SpelledPasts.{HasShortPast, IsSmallCall}
use Rattle.run_laws.proofs.ChangedRuns.{run_parts, runs_as_many}
use Rattle.run_laws.proofs.SpelledRuns.{calls_in_order_are_spelled}
use Rattle.run_laws.proofs.TaggedData.{tags_give_data}
use Rattle.race_runs.specs.RaceHeadline.{HeadlinesAreOfRaces, OrderedRacesHold, RaceChannelsHold, RacesThatFoundRoomAreRuns}

-- what holds of each start holds of each channel's
of_each_start : (P : Start → Type 0) (starts : List Start) (pasts : List (List Entry)) → All P starts →
    All (λ (channel : ChannelRun). P channel.start) (runs_with starts pasts)
of_each_start P starts pasts all = λ k other within.
    let channel : ChannelRun = slice_index_or (runs_with starts pasts) k other in
    all_at P starts k channel.start all
    (run_parts starts pasts k channel (slice_get-get_or (runs_with starts pasts) k other within)).0

-- the histories of the channels of a run are those of its pasts
own_histories : (starts : List Start) (pasts : List (List Entry)) → length pasts ≡ length starts →
    map (λ (channel : ChannelRun). history_of channel.past) (runs_with starts pasts) ≡ map history_of pasts
own_histories [] [] many = refl
own_histories [] (past ∷ pasts) many = absurd (omega (arith, many))
own_histories (start ∷ starts) [] many = absurd (omega (arith, many))
own_histories (start ∷ starts) (past ∷ pasts) many =
    let fewer : length pasts ≡ length starts = omega (arith, many) in
    ap {B = List (List Entry)} (λ (more : List (List Entry)). history_of past ∷ more) (own_histories starts pasts fewer)

module _ (head : Head) (run : Run) (has_calls : HasCalls head run) where
  abbrev calls : List TraceCall
  calls = run.calls.calls

  -- the call at a place, between those before and behind it
  pub placed : (k : ℕ) (other : TraceCall) → k < length calls →
      calls ≡ take k calls ++ slice_index_or calls k other ∷ drop (k + 1) calls
  placed k other within =
      sym (take-append-drop k calls)
      ∙ ap {B = List TraceCall} (λ (rest : List TraceCall). take k calls ++ rest) (drop_more calls k other within)

  -- it is numbered after those before it
  pub numbered : (k : ℕ) (other : TraceCall) → k < length calls →
      IsNumberedAfter run.calls.actors (take k calls) (slice_index_or calls k other)
  numbered k other within =
      (numbered_back run.calls.actors [] (take k calls) (slice_index_or calls k other ∷ drop (k + 1) calls)
      (subst (AreNumberedAfter run.calls.actors []) (placed k other within) has_calls.numbered)).0

  given : (before after : List TraceCall) (tag : Tag) (verb : Verb) →
      calls ≡ before ++ record { tag = tag; verb = verb } ∷ after → HasData head.sizes.bytes verb →
      HasContents head.sizes.bytes (data_in head run) tag verb
  given before after tag (Verb.Write page content) is has =
      subst (λ (list : List TraceCall). HasContents head.sizes.bytes (contents_of head.sizes.bytes list) tag (Verb.Write page content))
      (sym is)
      (subst (IsData head.sizes.bytes)
      (sym (tags_give_data run.calls.actors head.sizes.bytes before after tag page content
      (subst (AreNumberedAfter run.calls.actors []) is has_calls.numbered))) has)
  given before after tag verb is has = tt

  have_contents : All (λ call. HasContents head.sizes.bytes (data_in head run) call.tag call.verb) calls
  have_contents = λ k other within.
      let call : TraceCall = slice_index_or calls k other in
      given (take k calls) (drop (k + 1) calls) call.tag call.verb (placed k other within) (has_calls.have_data k other within)

  small_calls : All IsSmallCall calls
  small_calls = λ k other within.
      let own = numbered k other within in
      let call : TraceCall = slice_index_or calls k other in
      let below = own.is_actor in
      let number = own.is_number in
      let counted = count_by-le-length (λ (older : TraceCall). older.tag.actor == call.tag.actor) (take k calls) in
      let short = length-take-le k calls (omega (arith, within)) in
      let few_actors = has_calls.few_actors in
      let few_calls = has_calls.few_calls in
      record {
        small_tag = record { actor = omega (arith, below, few_actors); call = omega (arith, number, counted, short, within, few_calls) };
        small_verb = has_calls.small_verbs k other within;
      }

  module _ (hold : RaceChannelsHold head run) where
    are_traced : All (IsTracedRun (data_in head run) calls) (channels_of run)
    are_traced = λ k other within.
        let channel : ChannelRun = slice_index_or (channels_of run) k other in
        let is_past = hold.are_pasts k other within in
        record {
          has_named_pages = starts_have_named_pages channel.start is_past.is_start;
          is_lawful = is_past.is_lawful;
          has_contents =
              subst (λ (count : ℕ). All (λ call. HasContents count (data_in head run) call.tag call.verb) calls)
              (sym (of_each_start (λ (start : Start). start.base.shape.bytes ≡ head.sizes.bytes) run.starts run.pasts
              has_calls.same_bytes k other within)) have_contents;
        }

    have_short_pasts : All (HasShortPast (data_in head run)) (channels_of run)
    have_short_pasts = λ k other within. record {
      is_past = hold.are_pasts k other within;
      is_short = hold.are_short k other within;
      serials = of_each_start (λ (start : Start). HasSmallSerials start.base) run.starts run.pasts hold.serials k other within;
    }

    are_spelled : AreCallsInOrder (data_in head run) calls run.replies (channels_of run) →
        are_spelled_histories (map history_of run.pasts) ≡ true
    are_spelled in_order =
        let few : length (channels_of run) ≤ 256 =
        subst (λ (n : ℕ). n ≤ 256) (sym (runs_as_many run.starts run.pasts hold.as_many_pasts)) hold.few_channels in
        subst (λ (histories : List (List Entry)). are_spelled_histories histories ≡ true)
        (own_histories run.starts run.pasts hold.as_many_pasts)
        (calls_in_order_are_spelled (data_in head run) calls run.replies (channels_of run) in_order have_short_pasts small_calls few)

pub ordered_races_hold : OrderedRacesHold
ordered_races_hold head run has_calls hold in_order are_replies = record {
  as_many_pasts = hold.as_many_pasts;
  as_many_actors = has_calls.as_many_actors;
  are_pasts = hold.are_pasts;
  are_counted = hold.are_counted;
  are_spelled = are_spelled head run has_calls hold in_order;
  in_order = in_order;
  are_replies = are_replies;
  last_writes =
      calls_give_last_writes (data_in head run) run.calls.calls run.replies (channels_of run) (are_traced head run has_calls hold)
      in_order are_replies;
}

pub headlines_are_of_races : HeadlinesAreOfRaces
headlines_are_of_races head run headline = record {
  as_many_pasts = headline.as_many_pasts;
  as_many_actors = headline.as_many_actors;
  are_pasts = headline.are_pasts;
  are_counted = headline.are_counted;
  are_spelled = headline.are_spelled;
  in_order = headline.in_order;
  are_replies = headline.are_replies;
  last_writes = headline.last_writes;
}

pub races_that_found_room_are_runs : RacesThatFoundRoomAreRuns
races_that_found_room_are_runs head run headline have_room = record {
  as_many_pasts = headline.as_many_pasts;
  as_many_actors = headline.as_many_actors;
  are_pasts = headline.are_pasts;
  have_room = have_room;
  are_counted = headline.are_counted;
  are_spelled = headline.are_spelled;
  in_order = headline.in_order;
  are_replies = headline.are_replies;
  last_writes = headline.last_writes;
}
