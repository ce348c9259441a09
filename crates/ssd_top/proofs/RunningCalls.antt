-- A run that was served so far: its next call may be served, the run goes on after that call, and it stops where the history of a
-- channel has no room.
use Rattle.std.proofs.Common.{ℕ, ◌≡◌, ◌<◌, ◌≤◌, true, List, [], ◌∷◌, ◌++◌, length, Some, refl, sym, ap, subst, ◌∙◌, arith}
use Rattle.std.specs.Prelude.{All, option_map, slice_get}
use Rattle.std.proofs.lemmas.Option.{slice_get-map, slice_get_within}
use Rattle.chan_calls.specs.Workers.{WorkerState}
use Rattle.ctl.specs.Asked.{FitsDrive, HasOwnData, HintsFit}
use Rattle.ctl.specs.Seen.{SeenChannel, pasts_of}
use Rattle.ctl.specs.Served.{IsServed, IsStopped, KeepRooms, MayServe}
use Rattle.run_laws.proofs.ChangedRuns.{run_at}
use Rattle.run_laws.proofs.ServedCalls.{served_calls_go_on}
use Rattle.run_laws.proofs.TaggedData.{tags_give_data}
use Rattle.run_laws.specs.SerialRuns.{with_reply}
use Rattle.run_laws.specs.ServedRuns.{contents_in, dropped_after, served_with}
use Rattle.serial_laws.proofs.LeftLooks.{serial_calls_leave_looks}
use Rattle.serial_laws.proofs.Lists.{IsItemAt, item_at}
use Rattle.ssd_formats.specs.TraceText.{content_bytes, contents_of}
use Rattle.ssd_geo.specs.Limits.{Sizes}
use Rattle.ssd_geo.specs.declared.entry.Entry.{Entry}
use Rattle.ssd_geo.specs.declared.reply.Reply.{Reply}
use Rattle.ssd_geo.specs.declared.tag.Tag.{Tag}
use Rattle.ssd_geo.specs.declared.trace.Content.{Content}
use Rattle.ssd_geo.specs.declared.trace.TraceCall.{TraceCall}
use Rattle.ssd_geo.specs.declared.trace.Verb.{Verb}
use Rattle.ssd_histories.specs.CallsInOrder.{AreNumberedAfter, ChannelRun}
use Rattle.ssd_histories.specs.History.{open_looks}
use Rattle.ssd_histories.specs.HistoryRoom.{found_room}
use Rattle.ssd_histories.specs.SerialHistory.{SerialState}
use Rattle.ssd_histories.specs.Start.{data_of}
use Rattle.ssd_top.specs.Running.{HasFoundRoom, HasStopped, HaveFoundRoom, IsRunning, Job}
use Rattle.shared_lemmas.proofs.Lists.{all_at}

-- the past of a channel
abbrev past_in : SeenChannel → List Entry
past_in channel = channel.kept.past

-- the call after some stands at their number
call_there : (done : List TraceCall) (call : TraceCall) (rest : List TraceCall) →
    slice_get (done ++ call ∷ rest) (length done) ≡ Some call
call_there [] call rest = refl
call_there (first ∷ done) call rest = call_there done call rest

-- channels that keep their rooms have found room
still_room : (olds news : List SeenChannel) → KeepRooms olds news → HaveFoundRoom olds → HaveFoundRoom news
still_room olds news rooms have n new at =
    let low : n < length olds = omega (arith, slice_get_within news n new at, rooms.as_many) in
    let old : IsItemAt olds n = item_at olds n low in
    let keeps = rooms.each n old.item new old.is_there at in
    let had : HasFoundRoom old.item = have n old.item old.is_there in
    let has = keeps.has_room had.has_room had.short in
    record {
      has_room = subst (λ limit. found_room limit new.kept.past ≡ true) (sym keeps.limit_stays) has.0;
      short = subst (λ limit. length new.kept.past ≤ limit) (sym keeps.limit_stays) has.1;
    }

module _ (job : Job) (worker : WorkerState) (channels : List SeenChannel) (done : List TraceCall) (replies : List (List Reply))
    (hints : List ℕ) (dropped : ℕ) (running : IsRunning job worker channels done replies hints dropped) where
  abbrev calls : List TraceCall
  calls = job.input.calls.calls

  abbrev contents : List (Tag × List ℕ)
  contents = contents_in job.input

  some_channel : 1 ≤ length channels
  some_channel = omega (arith, running.is_served_from.some_channel, running.standing.as_many)

  -- no look is open
  none_open : (n : ℕ) (channel : SeenChannel) → slice_get channels n ≡ Some channel → open_looks channel.kept.past ≡ []
  none_open n channel at =
      let low : n < length running.starts = omega (arith, slice_get_within channels n channel at, running.standing.as_many) in
      let start : IsItemAt running.starts n = item_at running.starts n low in
      let has_past : slice_get (pasts_of channels) n ≡ Some channel.kept.past =
      slice_get-map past_in channels n ∙ ap (option_map past_in) at in
      let served : SerialState = served_with running.starts (pasts_of channels) hints dropped in
      all_at (λ (run : ChannelRun). open_looks run.past ≡ []) served.channels n
      (record { start = start.item; past = channel.kept.past })
      (serial_calls_leave_looks contents running.starts done replies served running.has_led_to.has_served.is_serial.are_served)
      (run_at running.starts (pasts_of channels) n start.item channel.kept.past start.is_there has_past)

  -- its next call
  module _ (call : TraceCall) (rest : List TraceCall) (split : calls ≡ done ++ call ∷ rest) where
    here : slice_get calls (length done) ≡ Some call
    here = subst (λ list. slice_get list (length done) ≡ Some call) (sym split) (call_there done call rest)

    fits : FitsDrive worker.shape (length channels) call.verb
    fits =
        all_at (λ (other : TraceCall). FitsDrive worker.shape (length channels) other.verb) calls (length done) call
        running.fits here

    numbered : AreNumberedAfter job.input.calls.actors [] (done ++ call ∷ rest)
    numbered = subst (λ list. AreNumberedAfter job.input.calls.actors [] list) split running.is_served_from.numbered

    -- the data of a write are those of its tag
    own_write : (page : ℕ) (content : Content) → call.verb ≡ Verb.Write page content →
        data_of contents call.tag ≡ content_bytes worker.shape.bytes content
    own_write page content verb =
        let same : call ≡ record { tag = call.tag; verb = Verb.Write page content } =
        λ i. record { tag = call.tag; verb = verb i } in
        let at_write : calls ≡ done ++ record { tag = call.tag; verb = Verb.Write page content } ∷ rest =
        split ∙ ap (λ (other : TraceCall). done ++ other ∷ rest) same in
        let of_worker : worker.shape.bytes ≡ job.input.head.sizes.bytes =
        ap (λ (sizes : Sizes). sizes.bytes) running.sizes_are in
        ap (λ list. data_of (contents_of job.input.head.sizes.bytes list) call.tag) at_write
        ∙ tags_give_data job.input.calls.actors job.input.head.sizes.bytes done rest call.tag page content
        (subst (λ list. AreNumberedAfter job.input.calls.actors [] list) at_write running.is_served_from.numbered)
        ∙ ap (λ n. content_bytes n content) (sym of_worker)

    own_data : (verb : Verb) → call.verb ≡ verb → HasOwnData worker.shape.bytes call.tag verb contents
    own_data (Verb.Write page content) verb = own_write page content verb
    own_data (Verb.Read page) verb = tt
    own_data (Verb.Trim page) verb = tt
    own_data (Verb.Age channel die sb amount) verb = tt
    own_data (Verb.Refresh page) verb = tt
    own_data (Verb.Collect channel) verb = tt
    own_data (Verb.Drain count) verb = tt

    -- may be served
    pub may_serve : MayServe worker channels hints call
    may_serve = record {
      starts = running.starts;
      contents = contents;
      standing = running.standing;
      own_data = own_data call.verb refl;
      none_open = none_open;
      some_channel = some_channel;
      few_channels = running.few_channels;
      fits = fits;
      hints_fit = running.hints_fit;
    }

    -- served, it leads the run on
    pub goes_on : (after : List SeenChannel) (left : List ℕ) (reply : Reply) →
        IsServed worker channels after hints left call reply →
        IsRunning job worker after (done ++ call ∷ []) (with_reply replies call.tag.actor reply) left
        (dropped_after reply (length hints) dropped)
    goes_on after left reply serves =
        let made = serves.served running.starts contents running.standing (own_data call.verb refl) in
        let as_many : length channels ≡ length after = sym serves.rooms.as_many in
        record {
          starts = running.starts;
          starts_are = running.starts_are;
          sizes_are = running.sizes_are;
          is_served_from = running.is_served_from;
          has_led_to =
              served_calls_go_on contents running.starts job.input.calls.actors done rest call reply replies (pasts_of channels)
              hints dropped (pasts_of after) left numbered running.has_led_to made.1;
          standing = made.0;
          have_room = still_room channels after serves.rooms running.have_room;
          few_channels = subst (λ n. n ≤ 8) as_many running.few_channels;
          few_actors = running.few_actors;
          few_calls = running.few_calls;
          fits = subst (λ n. All (λ other. FitsDrive worker.shape n other.verb) calls) as_many running.fits;
          hints_fit = subst (λ n. HintsFit worker.shape n left) as_many (serves.hints_fit running.hints_fit);
          serials = running.serials;
        }

    -- where the history of a channel has no room for it, the run stops
    pub stops : (after : List SeenChannel) (left : List ℕ) (channel entries : ℕ) →
        IsStopped worker channels after hints left call channel entries →
        HasStopped job worker after replies dropped channel entries
    stops after left channel entries stopped =
        let made = stopped.stopped running.starts contents running.standing (own_data call.verb refl) in
        record {
          done = done;
          rest = rest;
          call = call;
          are_calls = split;
          old = channels;
          hints = hints;
          left = left;
          running = running;
          stops = made.1;
          standing = made.0;
          have_room = still_room channels after stopped.rooms running.have_room;
        }
