-- Two serial runs of the same calls from the same starts that stopped, and choose alike, stopped in the same call, at the same
-- place; and not one run is whole and the other stopped.
use Rattle.std.proofs.Common.{ℕ, ◌≡◌, List, [], ◌∷◌, ◌++◌, length, None, refl, sym, ap, subst, ◌∙◌}
use Rattle.std.specs.Prelude.{All}
use Rattle.std.specs.Option.{ForSome}
use Rattle.std.proofs.lemmas.List.{append_cancel_left}
use Rattle.std.proofs.lemmas.List.Elements.{All-append, All-cons, All-nil}
use Rattle.ssd_histories.specs.CallsInOrder.{AreNumberedAfter, ChannelRun, IsReplyOf, reply_to}
use Rattle.ssd_histories.specs.Lawful.{IsLawful}
use Rattle.ssd_histories.specs.SerialHistory.{AreServed, SerialState, first_state}
use Rattle.ssd_histories.specs.SerialStop.{IsSerialStop, SerialCut}
use Rattle.ssd_histories.specs.Standing.{IsStart}
use Rattle.ssd_histories.specs.Start.{Start}
use Rattle.ssd_geo.specs.declared.reply.Reply.{Reply}
use Rattle.ssd_geo.specs.declared.tag.Tag.{Tag}
use Rattle.ssd_geo.specs.declared.trace.TraceCall.{TraceCall}
use Rattle.serial_laws.proofs.Lists.{all_both, not_empty, pairs_same, same_first}
use Rattle.serial_laws.proofs.OneReply.{serial_stops_have_one_reply}
use Rattle.serial_output.specs.OneEnding.{ChoicesDecideStops, ChoicesDecideWhetherItStops, FoundRoom}
use Rattle.serial_output.specs.OneOutput.{RunsChooseAlike}
use Rattle.serial_output.proofs.NextEntries.{choice_back}
use Rattle.serial_output.proofs.SameCalls.{ChannelsCome, IsSameCall, RunComesTo, calls_once, channels_come_on, run_itself}
use Rattle.serial_output.proofs.SameRuns.{IsAnsweredTwice, ServesFirst, replies_same, served_comes, serves_first, serves_none, starts_at_end, starts_first}
use Rattle.serial_output.proofs.SameStops.{IsSameCut, cut_comes, cut_or_served, cuts_once}
use Rattle.serial_output.proofs.StoppedHints.{all_first}

-- two runs stopped after the same calls, each of which was answered in both, and at the same place
record IsSameStopping (replies others : List (List Reply)) (served done : List TraceCall) (named entries told many : ℕ)
    (after other : SerialState) : Type 0 where
  same_served : served ≡ done
  same_cut : IsSameCut named entries told many after other
  answered : All (IsAnsweredTwice replies others) served

pub runs_back : (runs others : List ChannelRun) → RunsChooseAlike runs others → RunsChooseAlike others runs
runs_back runs others alike channel run other is is_too past first second comes goes =
    choice_back second.kind first.kind (alike channel other run is_too is past second first goes comes)

-- the channels come on to where a run stopped
module _ (contents : List (Tag × List ℕ)) (channels : ℕ) (replies : List (List Reply)) (named entries : ℕ) (call : TraceCall)
  where
    stopped_comes : (served : List TraceCall) (begin before after : SerialState) →
        AreServed contents replies channels served begin before →
        SerialCut contents channels named entries call.tag call.verb before after → ChannelsCome begin.channels after.channels
    stopped_comes served begin before after are_served cut =
        channels_come_on begin.channels before.channels after.channels
        (served_comes contents channels replies served begin before are_served)
        (cut_comes contents channels call.tag named entries call.verb before after cut)

module _ (contents : List (Tag × List ℕ)) (channels : ℕ) (others : List (List Reply)) (after other : SerialState)
    (lawful : All (λ run. IsLawful run.start contents run.past) after.channels)
    (lawful_too : All (λ run. IsLawful run.start contents run.past) other.channels)
    (starts : All (λ run. IsStart run.start) after.channels) (alike : RunsChooseAlike after.channels other.channels)
    (rooms : FoundRoom after.channels) (rooms_too : FoundRoom other.channels) where
  -- none is cut in one and served in the other
  cut_not_served : (named entries : ℕ) (call : TraceCall) (calls : List TraceCall) (begin then : SerialState) →
      SerialCut contents channels named entries call.tag call.verb begin after →
      (second : ServesFirst contents others channels call calls begin then) →
      ChannelsCome second.between.channels other.channels →
      ⊥
  cut_not_served named entries call calls begin then cut second goes =
      cut_or_served contents channels after.channels other.channels lawful lawful_too starts alike rooms rooms_too call.tag
      named
      entries second.reply call.verb begin after second.between cut second.made
      (pairs_same RunComesTo run_itself after.channels) goes

module _ (contents : List (Tag × List ℕ)) (channels : ℕ) (replies others : List (List Reply)) (after other : SerialState)
    (lawful : All (λ run. IsLawful run.start contents run.past) after.channels)
    (lawful_too : All (λ run. IsLawful run.start contents run.past) other.channels)
    (starts : All (λ run. IsStart run.start) after.channels) (alike : RunsChooseAlike after.channels other.channels)
    (rooms : FoundRoom after.channels) (rooms_too : FoundRoom other.channels) where
  -- one call served in both leaves one state
  served_twice : (call : TraceCall) (calls more : List TraceCall) (begin before then : SerialState)
      (first : ServesFirst contents replies channels call calls begin before)
      (second : ServesFirst contents others channels call more begin then) →
      ChannelsCome first.between.channels after.channels →
      ChannelsCome second.between.channels other.channels →
      IsSameCall call.verb first.reply second.reply first.between second.between
  served_twice call calls more begin before then first second comes goes =
      calls_once contents channels after.channels other.channels lawful lawful_too starts alike call.tag first.reply
      second.reply
      call.verb begin first.between second.between first.made second.made comes goes

  -- a run that stopped in one of some calls, and one that served all of them
  stopped_or_whole : (named entries : ℕ) (call : TraceCall) (rest served calls : List TraceCall) (begin before : SerialState) →
      served ++ call ∷ rest ≡ calls → AreServed contents replies channels served begin before →
      SerialCut contents channels named entries call.tag call.verb before after →
      AreServed contents others channels calls begin other → ⊥
  stopped_or_whole named entries call rest [] [] begin before e are_served cut whole = not_empty call rest e
  stopped_or_whole named entries call rest [] (next ∷ calls) begin before e are_served cut whole =
      let first : ServesFirst contents others channels next calls begin other = serves_first contents channels others whole in
      let second : ServesFirst contents others channels call calls begin other =
      subst (λ (held : TraceCall). ServesFirst contents others channels held calls begin other)
      (sym (same_first call next rest calls e).0) first in
      cut_not_served contents channels others after other lawful lawful_too starts alike rooms rooms_too named entries call
      calls
      begin other
      (subst (λ (state : SerialState). SerialCut contents channels named entries call.tag call.verb state after)
      (sym (serves_none contents channels replies are_served)) cut) second
      (served_comes contents channels others calls second.between other second.rest)
  stopped_or_whole named entries call rest (done ∷ served) [] begin before e are_served cut whole =
      not_empty done (served ++ call ∷ rest) e
  stopped_or_whole named entries call rest (done ∷ served) (next ∷ calls) begin before e are_served cut whole =
      let parts = same_first done next (served ++ call ∷ rest) calls e in
      let first : ServesFirst contents replies channels done served begin before =
      serves_first contents channels replies are_served in
      let second : ServesFirst contents others channels done calls begin other =
      subst (λ (held : TraceCall). ServesFirst contents others channels held calls begin other) (sym parts.0)
      (serves_first contents channels others whole) in
      let same : IsSameCall done.verb first.reply second.reply first.between second.between =
      served_twice done served calls begin before other first second
      (stopped_comes contents channels replies named entries call served first.between before after first.rest cut)
      (served_comes contents channels others calls second.between other second.rest) in
      stopped_or_whole named entries call rest served calls first.between before parts.1 first.rest cut
      (subst (λ (state : SerialState). AreServed contents others channels calls state other) (sym same.same_state) second.rest)

  -- two runs that stopped in one of some calls each
  module _ (starts_too : All (λ run. IsStart run.start) other.channels) (named entries told many : ℕ) (call last : TraceCall)
      (rest more : List TraceCall) (before then : SerialState)
      (cut : SerialCut contents channels named entries call.tag call.verb before after)
      (cut_too : SerialCut contents channels told many last.tag last.verb then other) where
    stops_once : (served done : List TraceCall) (begin : SerialState) → served ++ call ∷ rest ≡ done ++ last ∷ more →
        AreServed contents replies channels served begin before → AreServed contents others channels done begin then →
        IsSameStopping replies others served done named entries told many after other
    stops_once [] [] begin e are_served are_too =
        let parts = same_first call last rest more e in
        let here : SerialCut contents channels named entries call.tag call.verb begin after =
        subst (λ (state : SerialState). SerialCut contents channels named entries call.tag call.verb state after)
        (sym (serves_none contents channels replies are_served)) cut in
        let there : SerialCut contents channels told many call.tag call.verb begin other =
        subst (λ (held : TraceCall). SerialCut contents channels told many held.tag held.verb begin other) (sym parts.0)
        (subst (λ (state : SerialState). SerialCut contents channels told many last.tag last.verb state other)
        (sym (serves_none contents channels others are_too)) cut_too) in
        record {
          same_served = refl;
          same_cut =
              cuts_once contents channels after.channels other.channels lawful lawful_too starts alike rooms rooms_too call.tag
              named entries told many call.verb begin after other here there (pairs_same RunComesTo run_itself after.channels)
              (pairs_same RunComesTo run_itself other.channels);
          answered = All-nil (IsAnsweredTwice replies others);
        }
    stops_once [] (next ∷ done) begin e are_served are_too =
        let second : ServesFirst contents others channels call done begin then =
        subst (λ (held : TraceCall). ServesFirst contents others channels held done begin then)
        (sym (same_first call next rest (done ++ last ∷ more) e).0) (serves_first contents channels others are_too) in
        absurd (cut_not_served contents channels others after other lawful lawful_too starts alike rooms rooms_too named entries
        call done begin then
        (subst (λ (state : SerialState). SerialCut contents channels named entries call.tag call.verb state after)
        (sym (serves_none contents channels replies are_served)) cut) second
        (stopped_comes contents channels others told many last done second.between then other second.rest cut_too))
    stops_once (next ∷ served) [] begin e are_served are_too =
        let first : ServesFirst contents replies channels last served begin before =
        subst (λ (held : TraceCall). ServesFirst contents replies channels held served begin before)
        (same_first next last (served ++ call ∷ rest) more e).0 (serves_first contents channels replies are_served) in
        absurd (cut_not_served contents channels replies other after lawful_too lawful starts_too
        (runs_back after.channels other.channels alike) rooms_too rooms told many last served begin before
        (subst (λ (state : SerialState). SerialCut contents channels told many last.tag last.verb state other)
        (sym (serves_none contents channels others are_too)) cut_too) first
        (stopped_comes contents channels replies named entries call served first.between before after first.rest cut))
    stops_once (next ∷ served) (held ∷ done) begin e are_served are_too =
        let parts = same_first next held (served ++ call ∷ rest) (done ++ last ∷ more) e in
        let first : ServesFirst contents replies channels next served begin before =
        serves_first contents channels replies are_served in
        let second : ServesFirst contents others channels next done begin then =
        subst (λ (one : TraceCall). ServesFirst contents others channels one done begin then) (sym parts.0)
        (serves_first contents channels others are_too) in
        let same : IsSameCall next.verb first.reply second.reply first.between second.between =
        served_twice next served done begin before then first second
        (stopped_comes contents channels replies named entries call served first.between before after first.rest cut)
        (stopped_comes contents channels others told many last done second.between then other second.rest cut_too) in
        let later : IsSameStopping replies others served done named entries told many after other =
        stops_once served done first.between parts.1 first.rest
        (subst (λ (state : SerialState). AreServed contents others channels done state then) (sym same.same_state) second.rest)
        in
        record {
          same_served = λ i. parts.0 i ∷ later.same_served i;
          same_cut = later.same_cut;
          answered =
              All-cons (IsAnsweredTwice replies others) next served
              (record {
                reply = first.reply;
                told = second.reply;
                is = first.is;
                is_too = second.is;
                names = same.names;
              }) later.answered;
        }

-- so the state and the replies are the same
module _ (contents : List (Tag × List ℕ)) (starts : List Start) (actors : ℕ) (calls : List TraceCall)
    (replies others : List (List Reply)) (named entries told many : ℕ) (after other : SerialState)
    (stop : IsSerialStop contents starts calls replies named entries after)
    (stop_too : IsSerialStop contents starts calls others told many other) (are_starts : All IsStart starts) where
  starts_after : All (λ run. IsStart run.start) after.channels
  starts_after =
      starts_at_end (first_state starts).channels after.channels
      (stopped_comes contents (length starts) replies named entries stop.call stop.served (first_state starts) stop.before after
      stop.are_served stop.is_cut) (starts_first starts are_starts)

  starts_too : All (λ run. IsStart run.start) other.channels
  starts_too =
      starts_at_end (first_state starts).channels other.channels
      (stopped_comes contents (length starts) others told many stop_too.call stop_too.served (first_state starts)
      stop_too.before
      other stop_too.are_served stop_too.is_cut) (starts_first starts are_starts)

  module _ (same : IsSameStopping replies others stop.served stop_too.served named entries told many after other) where
    abbrev IsSameReply : TraceCall → Type 0
    IsSameReply call = reply_to replies call.tag ≡ reply_to others call.tag

    abbrev IsOwn : List (List Reply) → List ChannelRun → TraceCall → Type 0
    IsOwn held runs call = ForSome (reply_to held call.tag) (IsReplyOf contents runs call)

    -- the calls from the one that was cut on have no reply
    cut_calls : stop.call ∷ stop.rest ≡ stop_too.call ∷ stop_too.rest
    cut_calls =
        append_cancel_left stop.served (stop.call ∷ stop.rest) (stop_too.call ∷ stop_too.rest)
        (sym stop.are_calls ∙ stop_too.are_calls
        ∙ ap (λ (list : List TraceCall). list ++ stop_too.call ∷ stop_too.rest) (sym same.same_served))

    none_told : All IsSameReply (stop.call ∷ stop.rest)
    none_told =
        all_both (λ (call : TraceCall). reply_to replies call.tag ≡ None)
        (λ (call : TraceCall). reply_to others call.tag ≡ None)
        IsSameReply (λ call none none_too. none ∙ sym none_too) (stop.call ∷ stop.rest) stop.no_replies
        (subst (All (λ (call : TraceCall). reply_to others call.tag ≡ None)) (sym cut_calls) stop_too.no_replies)

    own : All (IsOwn replies after.channels) stop.served
    own =
        all_first (IsOwn replies after.channels) stop.served (stop.call ∷ stop.rest)
        (subst (All (IsOwn replies after.channels)) stop.are_calls stop.are_replies.are_replies)

    own_too : All (IsOwn others after.channels) stop.served
    own_too =
        subst (λ (state : SerialState). All (IsOwn others state.channels) stop.served) (sym same.same_cut.same_state)
        (all_first (IsOwn others other.channels) stop.served (stop.call ∷ stop.rest)
        (subst (All (IsOwn others other.channels)) stop.are_calls stop_too.are_replies.are_replies))

    told_same : AreNumberedAfter actors [] calls → All IsSameReply calls
    told_same numbered =
        subst (All IsSameReply) (sym stop.are_calls)
        (All-append IsSameReply stop.served (stop.call ∷ stop.rest)
        (replies_same contents replies others after.channels stop.served same.answered
        (serial_stops_have_one_reply contents starts actors calls replies named entries after stop numbered) own own_too)
        none_told)

pub choices_decide_stops : ChoicesDecideStops
choices_decide_stops contents starts actors calls replies others named entries told many after other are_starts numbered rooms
    rooms_too stop stop_too alike =
    let same : IsSameStopping replies others stop.served stop_too.served named entries told many after other =
    stops_once contents (length starts) replies others after other stop.are_lawful stop_too.are_lawful
    (starts_after contents starts actors calls replies others named entries told many after other stop stop_too are_starts)
    alike
    rooms rooms_too
    (starts_too contents starts actors calls replies others named entries told many after other stop stop_too are_starts) named
    entries told many stop.call stop_too.call stop.rest stop_too.rest stop.before stop_too.before stop.is_cut stop_too.is_cut
    stop.served stop_too.served (first_state starts) (sym stop.are_calls ∙ stop_too.are_calls) stop.are_served
    stop_too.are_served in
    record {
      one_run = record {
        same_state = same.same_cut.same_state;
        same_replies =
            told_same contents starts actors calls replies others named entries told many after other stop stop_too are_starts
            same
            numbered;
      };
      same_served = same.same_served;
      same_channel = same.same_cut.same_channel;
      same_entries = same.same_cut.same_entries;
    }

pub choices_decide_whether_it_stops : ChoicesDecideWhetherItStops
choices_decide_whether_it_stops contents starts actors calls replies others named entries after other are_starts numbered rooms
    rooms_too run stop alike =
    stopped_or_whole contents (length starts) others replies other after stop.are_lawful run.are_lawful
    (starts_at_end (first_state starts).channels other.channels
    (stopped_comes contents (length starts) others named entries stop.call stop.served (first_state starts) stop.before other
    stop.are_served stop.is_cut) (starts_first starts are_starts))
    (runs_back after.channels other.channels alike) rooms_too rooms named entries stop.call stop.rest stop.served calls
    (first_state starts) stop.before (sym stop.are_calls) stop.are_served stop.is_cut run.are_served
