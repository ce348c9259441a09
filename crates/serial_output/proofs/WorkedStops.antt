-- An ageing, a trim and a read of which the read finds room or none.
use Rattle.std.proofs.Common.{ℕ, zero, suc, ◌≡◌, ◌≤◌, ◌==◌, ◌&&◌, true, false, List, [], ◌∷◌, ◌++◌, length, Option, None, Some, refl, sym, ap, subst, ◌∙◌, inl, arith, lt-ltb, lit<, lit≤, nat_le}
use Rattle.std.specs.Prelude.{All, count_by, nat_lt, slice_get, unwrap_or}
use Rattle.std.specs.List.{enumerate_from}
use Rattle.std.specs.Option.{ForSome}
use Rattle.std.proofs.lemmas.List.Elements.{All-cons, All-from_recursion, All-head, All-nil, All-tail}
use Rattle.std.proofs.lemmas.Option.{none-some, same_Some}
use Rattle.ssd_formats.specs.ImageHead.{Head}
use Rattle.ssd_geo.specs.Coding.{coding_of}
use Rattle.ssd_geo.specs.Faults.{RoseBy}
use Rattle.ssd_histories.specs.CallSteps.{CallStep, failed_die}
use Rattle.ssd_histories.specs.CallsInOrder.{AreNumberedAfter, ChannelRun, IsNotMade, IsReplyOf, is_age_of, ladder_in, reply_to}
use Rattle.ssd_histories.specs.Copies.{IsRead}
use Rattle.ssd_histories.specs.FollowedViews.{FollowsTold}
use Rattle.ssd_histories.specs.HistoryExamples.{step, tag_of}
use Rattle.ssd_histories.specs.HistoryRoom.{found_room, has_look_room}
use Rattle.ssd_histories.specs.Lawful.{IsLawful, IsLawfulKind}
use Rattle.ssd_histories.specs.PastPages.{ladder_of}
use Rattle.ssd_histories.specs.Ranges.{is_in_range}
use Rattle.ssd_histories.specs.Replies.{single_decided}
use Rattle.ssd_histories.specs.SerialHistory.{HasForm, SerialCall, SerialState, first_state, none_left, serves}
use Rattle.ssd_histories.specs.SerialStop.{SerialCut}
use Rattle.ssd_histories.specs.Standing.{IsPastOf, IsStart, count_at}
use Rattle.ssd_histories.specs.Start.{Start}
use Rattle.ssd_geo.specs.declared.base.ChannelBase.{ChannelBase}
use Rattle.ssd_geo.specs.declared.entry.Entry.{Entry}
use Rattle.ssd_geo.specs.declared.kind.Kind.{Kind}
use Rattle.ssd_geo.specs.declared.policy_view.PolicyView.{PolicyView}
use Rattle.ssd_geo.specs.declared.reply.Reply.{Reply}
use Rattle.ssd_geo.specs.declared.row.Row.{Row}
use Rattle.ssd_geo.specs.declared.trace.TraceCall.{TraceCall}
use Rattle.ssd_geo.specs.declared.trace.Verb.{Verb}
use Rattle.run_laws.specs.Runs.{channels_of}
use Rattle.run_laws.specs.SerialRuns.{ChannelsHold, HasCalls, HasData}
use Rattle.run_laws.specs.Serials.{HasSmallSerials}
use Rattle.run_laws.specs.SpelledPasts.{IsSmallVerb}
use Rattle.serial_output.specs.OneEnding.{EndedAs, FoundRoom}
use Rattle.serial_output.specs.OneOutput.{HasNoFault, RunsChooseAlike}
use Rattle.serial_output.specs.SameChoices.{ChooseAlike, IsSameChoice, picked_by}
use Rattle.serial_output.specs.StopExamples.{AreWholeAtLimit, AreWorkedAlike, ChooseAlikeAtLimit, ChooseApart, IsShortStart, IsStopOf, IsStoppedShort, IsWholeOf, NeverStopAtLimit, StopAtLimit, age_call, aged, not_aged, read_call, run_on, short_past, state_with, three_calls, trim_call, whole_past}
use Rattle.serial_output.proofs.ClosedStops.{stopped_runs_hold}
use Rattle.serial_output.proofs.SameStoppedRuns.{choices_decide_whether_it_stops}

-- an ageing on a channel, done or failed, with its reply
record IsAgeing (start : Start) (ageing : Kind) (reply : Reply) : Type 0 where
  is_it : is_age_of 0 0 5 ageing ≡ true
  in_range : is_in_range start.base.shape ageing ≡ true
  is_lawful : IsLawfulKind (ladder_of (coding_of start.base) start [] []) start.base [] (tag_of 0 0) ageing
  decides : single_decided ageing ≡ Some reply
  asks : (limit : ℕ) → has_look_room limit (short_past ageing) ≡ nat_le 258 limit

-- the block and the row are there
module _ (start : Start) where
  block_there : (nat_lt 0 start.base.shape.dies && nat_lt 0 start.base.shape.superblocks) ≡ true
  block_there =
      let dies = start.base.shape.within.dies_low in
      let superblocks = start.base.shape.within.superblocks_low in
      rw (
        lt-ltb 0 start.base.shape.dies (omega (arith, dies)),
        lt-ltb 0 start.base.shape.superblocks (omega (arith, superblocks)),
      ) refl

  row_there : nat_lt 0 start.base.shape.rows ≡ true
  row_there = let rows = start.base.shape.within.rows_low in lt-ltb 0 start.base.shape.rows (omega (arith, rows))

  was_aged : IsAgeing start aged Reply.Ok
  was_aged = record { is_it = refl; in_range = block_there; is_lawful = tt; decides = refl; asks = λ limit. refl }

  was_not_aged : IsAgeing start not_aged (Reply.DieFault 0)
  was_not_aged = record { is_it = refl; in_range = block_there; is_lawful = tt; decides = refl; asks = λ limit. refl }

-- a reply that there is
told : (P : Reply → Type 0) (option : Option Reply) (reply : Reply) → option ≡ Some reply → P reply → ForSome option P
told P option reply is holds other e =
    subst P (ap (λ (found : Option Reply). unwrap_or found reply) (sym is ∙ e)) holds

module _ (start : Start) (ageing : Kind) (reply : Reply) (is : IsAgeing start ageing reply) where
  abbrev first_past : List Entry
  first_past = step 0 0 ageing ∷ []

  ages : (reply_too : Reply) → SerialCall [] 1 (tag_of 0 0) reply_too (Verb.Age 0 0 0 5) (first_state (start ∷ []))
      (state_with start first_past)
  ages reply_too = record {
    run = record { start = start; past = [] };
    past = first_past;
    is_there = refl;
    holds = record {
      steps = record { past = []; entry = step 0 0 ageing } ∷ [];
      are_steps = (refl, refl, refl);
      has_form = is.is_it;
    };
    after_is = refl;
  }

  trims : SerialCall [] 1 (tag_of 0 1) Reply.Ok (Verb.Trim 0) (state_with start first_past)
      (state_with start (short_past ageing))
  trims = record {
    run = record { start = start; past = first_past };
    past = short_past ageing;
    is_there = refl;
    holds = record {
      steps = record { past = first_past; entry = step 0 1 (Kind.Trim 0) } ∷ [];
      are_steps = (refl, refl, refl);
      has_form = refl;
    };
    after_is = refl;
  }

  abbrev look_step : CallStep
  look_step = record { past = short_past ageing; entry = step 0 2 (Kind.Look 0 Row.Empty false) }

  abbrev short_run : ChannelRun
  short_run = record { start = start; past = short_past ageing }

  abbrev short_state : SerialState
  short_state = state_with start (short_past ageing)

  abbrev whole_state : SerialState
  whole_state = state_with start (whole_past ageing)

  read_form : HasForm (IsRead (ladder_in [] short_run) 0) (tag_of 0 2) (short_past ageing) (whole_past ageing)
  read_form = record { steps = look_step ∷ []; are_steps = (refl, refl, refl); has_form = inl refl }

  lawful_short : IsLawful start [] (short_past ageing)
  lawful_short = (
    (tt, record { in_range = is.in_range; meets = is.is_lawful }),
    record { in_range = row_there start; meets = tt },
  )

  -- the calls stop before the read
  is_cut : start.limit ≡ 257 → SerialCut [] 1 0 2 (tag_of 0 2) (Verb.Read 0) short_state short_state
  is_cut limit = record {
    is_named = refl;
    is_cut = record {
      run = short_run;
      past = short_past ageing;
      is_there = refl;
      holds = record {
        made = [];
        next = step 0 2 (Kind.Look 0 Row.Empty false);
        later = [];
        begins = refl;
        whole = read_form;
        has_length = refl;
        no_room = is.asks start.limit ∙ ap (nat_le 258) limit;
      };
      after_is = refl;
    };
  }

  stops : start.limit ≡ 257 → IsStopOf start ageing reply
  stops limit = record {
    served = age_call ∷ trim_call ∷ [];
    call = read_call;
    rest = [];
    before = short_state;
    are_calls = refl;
    are_served = serves refl (ages reply) (serves refl trims none_left);
    is_cut = is_cut limit;
    no_replies =
        All-from_recursion (λ (call : TraceCall). reply_to ((reply ∷ Reply.Ok ∷ []) ∷ []) call.tag ≡ None) (read_call ∷ [])
        (refl, tt);
    not_begun = All-nil (IsNotMade short_state.channels);
    are_lawful =
        All-from_recursion (λ (run : ChannelRun). IsLawful run.start [] run.past) short_state.channels (lawful_short, tt);
    are_replies = record {
      enough_calls =
          All-from_recursion (λ item. length item.1 ≤ count_by (λ (call : TraceCall). call.tag.actor == item.0) three_calls)
          (enumerate_from 0 ((reply ∷ Reply.Ok ∷ []) ∷ [])) (lit≤ tt, tt);
      are_replies =
          All-from_recursion
          (λ (call : TraceCall). ForSome (reply_to ((reply ∷ Reply.Ok ∷ []) ∷ []) call.tag)
          (IsReplyOf [] short_state.channels call))
          three_calls (
            told (IsReplyOf [] short_state.channels age_call) (Some reply) reply refl (rw is.decides refl),
            (
              told (IsReplyOf [] short_state.channels trim_call) (Some Reply.Ok) Reply.Ok refl refl,
              ((λ other e. absurd (cc)), tt),
            ),
          );
    };
  }

  -- with more room they are served
  reads_none : SerialCall [] 1 (tag_of 0 2) Reply.Empty (Verb.Read 0) short_state whole_state
  reads_none = record {
    between = whole_state;
    reads = record {
      run = short_run;
      past = whole_past ageing;
      is_there = refl;
      holds = read_form;
      after_is = refl;
    };
    after_is = refl;
  }

  lawful_whole : IsLawful start [] (whole_past ageing)
  lawful_whole = (
    lawful_short,
    record { in_range = rw (row_there start) refl; meets = record { is_found = refl; is_said = refl } },
  )

  is_whole : IsWholeOf start ageing reply
  is_whole = record {
    are_served = serves refl (ages reply) (serves refl trims (serves refl reads_none none_left));
    are_lawful =
        All-from_recursion (λ (run : ChannelRun). IsLawful run.start [] run.past) whole_state.channels (lawful_whole, tt);
    are_replies = record {
      enough_calls =
          All-from_recursion (λ item. length item.1 ≤ count_by (λ (call : TraceCall). call.tag.actor == item.0) three_calls)
          (enumerate_from 0 ((reply ∷ Reply.Ok ∷ Reply.Empty ∷ []) ∷ [])) (lit≤ tt, tt);
      are_replies =
          All-from_recursion
          (λ (call : TraceCall). ForSome (reply_to ((reply ∷ Reply.Ok ∷ Reply.Empty ∷ []) ∷ []) call.tag)
          (IsReplyOf [] whole_state.channels call))
          three_calls (
            told (IsReplyOf [] whole_state.channels age_call) (Some reply) reply refl (rw is.decides refl),
            (
              told (IsReplyOf [] whole_state.channels trim_call) (Some Reply.Ok) Reply.Ok refl refl,
              (
                told (IsReplyOf [] whole_state.channels read_call) (Some Reply.Empty) Reply.Empty refl refl,
                tt,
              ),
            ),
          );
    };
  }

-- pasts without a pick and a failed call choose alike
record IsQuiet (entry : Entry) : Type 0 where
  no_pick : picked_by entry.kind ≡ None
  no_fault : failed_die entry.kind ≡ None

one_is_quiet : (newer : List Entry) (entry : Entry) (past : List Entry) → All IsQuiet (newer ++ entry ∷ past) → IsQuiet entry
one_is_quiet [] entry past all = All-head IsQuiet entry past all
one_is_quiet (other ∷ newer) entry past all =
    one_is_quiet newer entry past (All-tail IsQuiet other (newer ++ entry ∷ past) all)

quiet_alike : (one other : List Entry) → All IsQuiet one → All IsQuiet other → ChooseAlike one other
quiet_alike one other quiet quiet_too past first second comes goes =
    let f : IsQuiet first = one_is_quiet comes.newer first past (subst (All IsQuiet) comes.is quiet) in
    let s : IsQuiet second = one_is_quiet goes.newer second past (subst (All IsQuiet) goes.is quiet_too) in
    record {
      same_pick = λ sb named is is_too. absurd (none-some sb (sym f.no_pick ∙ is));
      same_die = f.no_fault ∙ sym s.no_fault;
    }

-- the one channel of a run
module _ (start : Start) where
  one_channel : (past : List Entry) (channel : ℕ) (run : ChannelRun) →
      slice_get (state_with start past).channels channel ≡ Some run → run.past ≡ past
  one_channel past zero run is =
      ap (λ (found : ChannelRun). found.past) (sym (same_Some (record { start = start; past = past }) run is))
  one_channel past (suc channel) run is = absurd (none-some run is)

  runs_alike : (one other : List Entry) → ChooseAlike one other →
      RunsChooseAlike (state_with start one).channels (state_with start other).channels
  runs_alike one other alike channel run next is is_too =
      subst (λ (past : List Entry). ChooseAlike past next.past) (sym (one_channel one channel run is))
      (subst (ChooseAlike one) (sym (one_channel other channel next is_too)) alike)

quiet_short : All IsQuiet (short_past aged)
quiet_short =
    All-from_recursion IsQuiet (short_past aged)
    (record { no_pick = refl; no_fault = refl }, (record { no_pick = refl; no_fault = refl }, tt))

quiet_whole : All IsQuiet (whole_past aged)
quiet_whole =
    All-cons IsQuiet (step 0 2 (Kind.Look 0 Row.Empty false)) (short_past aged) (record { no_pick = refl; no_fault = refl })
    quiet_short

numbered : AreNumberedAfter 1 [] three_calls
numbered = (
  record { is_actor = lit< tt; is_number = refl },
  (record { is_actor = lit< tt; is_number = refl }, (record { is_actor = lit< tt; is_number = refl }, tt)),
)

found : (limit : ℕ) (start : Start) (past : List Entry) → start.limit ≡ limit → found_room limit past ≡ true →
    FoundRoom (state_with start past).channels
found limit start past is room =
    All-from_recursion (λ (run : ChannelRun). found_room run.start.limit run.past ≡ true) (state_with start past).channels
    (subst (λ (n : ℕ). found_room n past ≡ true) (sym is) room, tt)

pub worked_stops : StopAtLimit 257 aged Reply.Ok
worked_stops start limit = stops start aged Reply.Ok (was_aged start) limit

pub worked_alike : ChooseAlikeAtLimit 257 (short_past aged) (short_past aged)
worked_alike start limit = record {
  numbered = numbered;
  rooms = found 257 start (short_past aged) limit refl;
  rooms_too = found 257 start (short_past aged) limit refl;
  alike =
      runs_alike start (short_past aged) (short_past aged)
      (quiet_alike (short_past aged) (short_past aged) quiet_short quiet_short);
}

pub worked_whole : AreWholeAtLimit 258 aged Reply.Ok
worked_whole start limit = is_whole start aged Reply.Ok (was_aged start)

pub whole_alike : ChooseAlikeAtLimit 258 (whole_past aged) (short_past aged)
whole_alike start limit = record {
  numbered = numbered;
  rooms = found 258 start (whole_past aged) limit refl;
  rooms_too = found 258 start (short_past aged) limit refl;
  alike =
      runs_alike start (whole_past aged) (short_past aged)
      (quiet_alike (whole_past aged) (short_past aged) quiet_whole quiet_short);
}

-- so no run stops there
pub worked_never : NeverStopAtLimit 258 aged Reply.Ok
worked_never start is_start limit stop =
    let alike : AreWorkedAlike start (whole_past aged) (short_past aged) = whole_alike start limit in
    choices_decide_whether_it_stops [] (start ∷ []) 1 three_calls ((Reply.Ok ∷ Reply.Ok ∷ Reply.Empty ∷ []) ∷ [])
    ((Reply.Ok ∷ Reply.Ok ∷ []) ∷ []) 0 2 (state_with start (whole_past aged)) (state_with start (short_past aged))
    (All-from_recursion IsStart (start ∷ []) (is_start, tt)) alike.numbered alike.rooms alike.rooms_too
    (worked_whole start limit) stop alike.alike

pub other_stops : StopAtLimit 257 not_aged (Reply.DieFault 0)
other_stops start limit = stops start not_aged (Reply.DieFault 0) (was_not_aged start) limit

pub choose_apart : ChooseApart (short_past aged) (short_past not_aged)
choose_apart start alike =
    let same : IsSameChoice aged not_aged =
    alike 0 (record { start = start; past = short_past aged }) (record { start = start; past = short_past not_aged }) refl refl
    [] (step 0 0 aged) (step 0 0 not_aged) (record { newer = step 0 1 (Kind.Trim 0) ∷ []; is = refl })
    (record { newer = step 0 1 (Kind.Trim 0) ∷ []; is = refl }) in
    absurd (none-some 0 same.same_die)

-- the statement holds of the run that stopped so
follows : (base : ChannelBase) (view : Option PolicyView) → FollowsTold base view (short_past aged)
follows base None = tt
follows base (Some view) = ((tt, tt), tt)

rose_by_none : (count : ℕ) → RoseBy 0 count count
rose_by_none count = omega arith

module _ (head : Head) (start : Start) (short : IsShortStart head start) where
  has_calls : HasCalls head (run_on start)
  has_calls = record {
    numbered = numbered;
    have_data = All-from_recursion (λ (call : TraceCall). HasData head.sizes.bytes call.verb) three_calls (tt, (tt, (tt, tt)));
    same_bytes =
        All-from_recursion (λ (other : Start). other.base.shape.bytes ≡ head.sizes.bytes) (start ∷ []) (short.same_bytes, tt);
    as_many_actors = refl;
    few_actors = lit≤ tt;
    few_calls = lit≤ tt;
    small_verbs = All-from_recursion (λ (call : TraceCall). IsSmallVerb call.verb) three_calls (lit< tt, (tt, (tt, tt)));
  }

  hold : ChannelsHold head (run_on start)
  hold = record {
    as_many_pasts = refl;
    are_pasts =
        All-from_recursion (λ (channel : ChannelRun). IsPastOf channel.start [] channel.past) (channels_of (run_on start)) (
          record {
            is_start = short.is_start;
            is_lawful = lawful_short start aged Reply.Ok (was_aged start);
            follows = follows start.base start.view;
          },
          tt,
        );
    have_room = found 257 start (short_past aged) short.limit_is refl;
    are_counted = (
      (λ die low. record {
        work_rose = rose_by_none (count_at start.work_faults die);
        work_stays = λ none. refl;
        load_stays = refl;
      }),
      tt,
    );
    few_channels = lit≤ tt;
    are_short =
        All-from_recursion (λ (channel : ChannelRun). length channel.past ≤ channel.start.limit) (channels_of (run_on start))
        ((let limit = short.limit_is in omega (arith, limit)), tt);
    serials = All-from_recursion (λ (other : Start). HasSmallSerials other.base) (start ∷ []) (short.serials, tt);
  }

  ended : EndedAs head (run_on start) (Some (0, 2))
  ended = record { hints = []; is_stop = worked_stops start short.limit_is }

  pub stopped_short : IsStoppedShort head start
  stopped_short = record {
    holds = stopped_runs_hold head (run_on start) 0 2 ended has_calls hold;
    numbered = numbered;
    ended = ended;
    alike = (worked_alike start short.limit_is).alike;
    no_fault = All-from_recursion HasNoFault (channels_of (run_on start)) ((λ die low. refl), tt);
    stay = ((λ die low. (refl, short.low_counts die low)), tt);
  }
