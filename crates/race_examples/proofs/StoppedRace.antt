-- The race of two actors, of which the first one's read finds no room.
use Rattle.std.proofs.Common.{ℕ, zero, suc, ◌≡◌, ◌≢◌, ◌<◌, ◌≤◌, ◌&&◌, ◌||◌, true, false, List, [], ◌∷◌, length, Option, None, Some, refl, sym, subst, inl, inr, arith, lt-ltb, lit<, lit≤}
use Rattle.std.specs.Prelude.{nat_lt, not}
use Rattle.std.proofs.lemmas.List.Elements.{All-cons, All-from_recursion, All-nil}
use Rattle.calls_among_others.specs.CallsAmong.{IsCallAmong, ladders}
use Rattle.calls_among_others.specs.StepsAmong.{HasCome}
use Rattle.calls_among_others.proofs.AmongSteps.{IsOfOther, none_came}
use Rattle.hint_queue.specs.Orders.{AreInOrder, HintPassState, QueueState, SomeHas, Stands, knowing_all_taken, new_pass}
use Rattle.hint_queue.specs.declared.view.Noted.{Noted}
use Rattle.made_races.specs.MadeRaces.{ActorMade, ActorsMade, ChannelsClosed, IsOfActors, MadeRacesHold}
use Rattle.race_laws.specs.BegunCalls.{AreMadeThenBegun}
use Rattle.race_laws.specs.RaceReplies.{HasChannel, IsDrainAnswered}
use Rattle.race_laws.specs.RacesMade.{AreMadeSoFar, IsActorMade}
use Rattle.race_runs.specs.RaceEnds.{HasStopped, IsFirstUnanswered, IsStoppedRace, StopsOn}
use Rattle.race_runs.specs.RaceHints.{HintsOfActor, HintsOfRace, found_none, having_taken_all}
use Rattle.race_runs.specs.RaceRoom.{HaveRoomInTurns, found_room_in_turns}
use Rattle.run_laws.specs.Runs.{channels_of}
use Rattle.run_laws.specs.SerialRuns.{HasCalls, HasData}
use Rattle.run_laws.specs.Serials.{HasSmallSerials}
use Rattle.run_laws.specs.SpelledPasts.{IsSmallVerb}
use Rattle.serial_laws.proofs.MadeSteps.{faults_in}
use Rattle.serial_output.specs.StopExamples.{IsShortStart}
use Rattle.ssd_formats.specs.ImageHead.{Head}
use Rattle.ssd_geo.specs.Faults.{RoseBy}
use Rattle.ssd_geo.specs.declared.base.ChannelBase.{ChannelBase}
use Rattle.ssd_geo.specs.declared.entry.Entry.{Entry}
use Rattle.ssd_geo.specs.declared.kind.Kind.{Kind}
use Rattle.ssd_geo.specs.declared.policy_view.PolicyView.{PolicyView}
use Rattle.ssd_geo.specs.declared.reply.Reply.{Reply}
use Rattle.ssd_geo.specs.declared.row.Row.{Row}
use Rattle.ssd_geo.specs.declared.trace.TraceCall.{TraceCall}
use Rattle.ssd_geo.specs.declared.trace.Verb.{Verb}
use Rattle.ssd_histories.specs.CallSteps.{CallStep}
use Rattle.ssd_histories.specs.CallsInOrder.{ChannelRun, IsSomeRefresh}
use Rattle.ssd_histories.specs.FollowedViews.{FollowsTold}
use Rattle.ssd_histories.specs.HistoryExamples.{step, tag_of}
use Rattle.ssd_histories.specs.HistoryRoom.{has_look_room, has_step_room}
use Rattle.ssd_histories.specs.Lawful.{IsLawful}
use Rattle.ssd_histories.specs.Standing.{IsPastOf, count_at}
use Rattle.ssd_histories.specs.Start.{Start}
use Rattle.race_examples.specs.StoppedRace.{TwoActorsRaceStops, empty_drain, first_trim, raced_calls, raced_on, second_trim, stopped_read, trimmed_once, trimmed_twice}

-- an entry of another actor came
other_came : (actor : ℕ) (entry : Entry) (before : List Entry) → entry.tag.actor ≢ actor → HasCome actor before (entry ∷ before)
other_came actor entry before other = record {
  others = entry ∷ [];
  after_is = refl;
  of_others = All-cons (IsOfOther actor) entry [] other (All-nil (IsOfOther actor));
}

not_first : ◌≢◌ {A = ℕ} 1 0
not_first same = absurd (omega (arith, same))

not_second : ◌≢◌ {A = ℕ} 0 1
not_second same = absurd (omega (arith, same))

trims_follow : (base : ChannelBase) (view : Option PolicyView) → FollowsTold base view trimmed_twice
trims_follow base None = tt
trims_follow base (Some view) = ((tt, tt), tt)

rose_by_none : (count : ℕ) → RoseBy 0 count count
rose_by_none count = omega arith

module _ (head : Head) (start : Start) (short : IsShortStart head start) where
  abbrev channel : ChannelRun
  channel = record { start = start; past = trimmed_twice }

  row_there : nat_lt 0 start.base.shape.rows ≡ true
  row_there = let rows = start.base.shape.within.rows_low in lt-ltb 0 start.base.shape.rows (omega (arith, rows))

  lawful : IsLawful start [] trimmed_twice
  lawful = ((tt, record { in_range = row_there; meets = tt }), record { in_range = row_there; meets = tt })

  -- what each actor made
  first_trims : IsCallAmong start [] 1 0 (tag_of 0 0) (Verb.Trim 0) [] trimmed_once Reply.Ok
  first_trims =
      let trim : CallStep = record { past = []; entry = step 0 0 (Kind.Trim 0) } in
      let none : faults_in (trim ∷ []) ≡ 0 = refl in
      record {
        steps = trim ∷ [];
        are_steps = (none_came 0 [], refl, none_came 0 trimmed_once);
        of_verb = refl;
        decide = refl;
        one_fault = omega (arith, none);
      }

  read_begins : AreMadeThenBegun start [] 1 0 0 ((first_trim, Reply.Ok) ∷ []) stopped_read trimmed_twice
  read_begins = record {
    between = trimmed_once;
    are_made = (trimmed_once, refl, first_trims, none_came 0 trimmed_once);
    is_next = refl;
    begun = record {
      steps = [];
      rest = record { past = trimmed_twice; entry = step 0 1 (Kind.Look 0 Row.Empty false) } ∷ [];
      are_steps = other_came 0 (step 1 0 (Kind.Trim 0)) trimmed_once not_first;
      of_verb = inl refl;
      no_fault = refl;
      leaves_all = λ now left. refl;
    };
  }

  second_trims : IsCallAmong start [] 1 0 (tag_of 1 0) (Verb.Trim 0) [] trimmed_twice Reply.Ok
  second_trims =
      let trim : CallStep = record { past = trimmed_once; entry = step 1 0 (Kind.Trim 0) } in
      let none : faults_in (trim ∷ []) ≡ 0 = refl in
      record {
        steps = trim ∷ [];
        are_steps = (other_came 1 (step 0 0 (Kind.Trim 0)) [] not_second, refl, none_came 1 trimmed_twice);
        of_verb = refl;
        decide = refl;
        one_fault = omega (arith, none);
      }

  drains_none : IsCallAmong start [] 1 0 (tag_of 1 1) (Verb.Drain 2) trimmed_twice trimmed_twice (Reply.Drained [])
  drains_none = record {
    steps = [];
    are_steps = none_came 1 trimmed_twice;
    of_verb = record { refreshes = []; are_steps = refl; each = All-nil (IsSomeRefresh (ladders start [])); faultless = refl };
    decide = refl;
    one_fault = omega arith;
  }

  abbrev IsMadeOn : ℕ → List (TraceCall × Reply) → List TraceCall → ℕ × ChannelRun → Type 0
  IsMadeOn actor answered rest item = AreMadeSoFar item.1.start [] 1 item.0 actor answered rest item.1.past

  pub have_room : HaveRoomInTurns (raced_on start)
  have_room =
      All-from_recursion (λ (one : ChannelRun). found_room_in_turns one.start.limit one.past ≡ true) (channel ∷ [])
      (subst (λ (limit : ℕ). found_room_in_turns limit trimmed_twice ≡ true) (sym short.limit_is) refl, tt)

  abbrev IsMadeBy : ℕ → Type 0
  IsMadeBy actor = IsActorMade [] raced_calls (raced_on start).replies (channels_of (raced_on start)) actor

  first_made : IsMadeBy 0
  first_made = record {
    are_calls = record {
      answered = (first_trim, Reply.Ok) ∷ [];
      rest = stopped_read ∷ [];
      are_calls = refl;
      are_replies = refl;
    };
    on_channels =
        All-cons (IsMadeOn 0 ((first_trim, Reply.Ok) ∷ []) (stopped_read ∷ [])) (0, channel) []
        (inr (record { call = stopped_read; later = []; rest_is = refl; are_made = read_begins }))
        (All-nil (IsMadeOn 0 ((first_trim, Reply.Ok) ∷ []) (stopped_read ∷ [])));
  }

  second_made : IsMadeBy 1
  second_made = record {
    are_calls = record {
      answered = (second_trim, Reply.Ok) ∷ (empty_drain, Reply.Drained []) ∷ [];
      rest = [];
      are_calls = refl;
      are_replies = refl;
    };
    on_channels =
        All-cons (IsMadeOn 1 ((second_trim, Reply.Ok) ∷ (empty_drain, Reply.Drained []) ∷ []) []) (0, channel) []
        (inl (trimmed_twice, refl, second_trims, (trimmed_twice, refl, drains_none, none_came 1 trimmed_twice)))
        (All-nil (IsMadeOn 1 ((second_trim, Reply.Ok) ∷ (empty_drain, Reply.Drained []) ∷ []) []));
  }

  each_made : (actor : ℕ) → actor < 2 → ActorMade head (raced_on start) actor
  unfolding first_made second_made
  each_made zero below = record {
    made = first_made;
    drained =
        All-from_recursion (λ (one : TraceCall × Reply). IsDrainAnswered one.0.verb one.1) ((first_trim, Reply.Ok) ∷ []) (tt, tt);
    begun = tt;
  }
  each_made (suc zero) below = record {
    made = second_made;
    drained =
        All-from_recursion (λ (one : TraceCall × Reply). IsDrainAnswered one.0.verb one.1)
        ((second_trim, Reply.Ok) ∷ (empty_drain, Reply.Drained []) ∷ []) (tt, ((refl, lit≤ tt), tt));
    begun = tt;
  }
  each_made (suc (suc n)) below = absurd (omega (arith, below))

  has_calls : HasCalls head (raced_on start)
  has_calls = record {
    numbered = (
      record { is_actor = lit< tt; is_number = refl },
      (
        record { is_actor = lit< tt; is_number = refl },
        (record { is_actor = lit< tt; is_number = refl }, (record { is_actor = lit< tt; is_number = refl }, tt)),
      ),
    );
    have_data =
        All-from_recursion (λ (call : TraceCall). HasData head.sizes.bytes call.verb) raced_calls (tt, (tt, (tt, (tt, tt))));
    same_bytes =
        All-from_recursion (λ (other : Start). other.base.shape.bytes ≡ head.sizes.bytes) (start ∷ []) (short.same_bytes, tt);
    as_many_actors = refl;
    few_actors = lit≤ tt;
    few_calls = lit≤ tt;
    small_verbs = All-from_recursion (λ (call : TraceCall). IsSmallVerb call.verb) raced_calls (tt, (tt, (tt, (tt, tt))));
  }

  closed : ChannelsClosed head (raced_on start)
  closed = record {
    as_many_pasts = refl;
    are_pasts =
        All-from_recursion (λ (one : ChannelRun). IsPastOf one.start [] one.past) (channel ∷ []) (
          record { is_start = short.is_start; is_lawful = lawful; follows = trims_follow start.base start.view },
          tt,
        );
    of_actors =
        All-from_recursion (IsOfActors 2) (channel ∷ []) (
          All-from_recursion (λ (entry : Entry). entry.tag.actor < 2) trimmed_twice (lit< tt, (lit< tt, tt)),
          tt,
        );
    are_short =
        All-from_recursion (λ (one : ChannelRun). length one.past ≤ one.start.limit) (channel ∷ [])
        ((let limit = short.limit_is in omega (arith, limit)), tt);
    are_counted = (
      (λ die low. record {
        work_rose = rose_by_none (count_at start.work_faults die);
        work_stays = λ none. refl;
        load_stays = refl;
      }),
      tt,
    );
    few_channels = lit≤ tt;
    serials = All-from_recursion (λ (other : Start). HasSmallSerials other.base) (start ∷ []) (short.serials, tt);
  }

  pub made : ActorsMade head (raced_on start)
  made = record {
    has_calls = has_calls;
    have_channels =
        All-from_recursion (λ (call : TraceCall). HasChannel 1 call.verb) raced_calls
        (lit< tt, (lit< tt, (lit< tt, (lit< tt, tt))));
    closed = closed;
    each = each_made;
  }

  -- where the first actor stopped
  read_stops : StopsOn (raced_on start) stopped_read 0 2
  read_stops = record {
    is_own = refl;
    has_prefix = record {
      prefix = trimmed_twice;
      later = [];
      past_is = refl;
      has_length = refl;
      of_others = All-nil (IsOfOther 0);
      no_room =
          subst
          (λ (limit : ℕ). (not (has_step_room limit trimmed_twice) || (true && not (has_look_room limit trimmed_twice))) ≡ true)
          (sym short.limit_is) refl;
    };
  }

  pub stopped : IsStoppedRace (raced_on start) 0 2
  stopped = record {
    each =
        All-from_recursion (λ (call : TraceCall). IsFirstUnanswered (raced_on start) call → HasStopped (raced_on start) call)
        raced_calls (
          (λ first. absurd (omega (arith, first))),
          (
            (λ first. absurd (omega (arith, first))),
            ((λ first. (0, 2, read_stops)), ((λ first. absurd (omega (arith, first))), tt)),
          ),
        );
    named = (2, stopped_read, lit< tt, refl, record { is_first = refl; stops = read_stops });
  }

  -- the second actor found the queue empty
  module _ (queue : QueueState) where
    abbrev empty_pass : HintPassState
    empty_pass = knowing_all_taken (having_taken_all (new_pass queue 1) [])

    abbrev two_passes : List HintPassState
    two_passes = new_pass queue 0 ∷ empty_pass ∷ []

    stand : (pass : HintPassState) → pass.pushed ≡ [] → pass.taken ≡ [] → pass.known ≡ 0 → pass.met_full ≡ false → Stands [] [] pass
    stand pass pushed taken known full = record {
      pushes = sym pushed;
      takes = sym taken;
      known = omega (arith, known);
      met_full = λ met. absurd (grind (arith, full, met));
    }

    none_in_order : AreInOrder queue two_passes
    none_in_order = record {
      pushed = [];
      taken = [];
      left = [];
      begins = refl;
      below = All-nil (λ (noted : Noted). noted.page < queue.pages);
      pushers = All-nil (λ (noted : Noted). SomeHas two_passes noted.by);
      takers = All-nil (λ (noted : Noted). SomeHas two_passes noted.by);
      each =
          All-from_recursion (Stands [] []) two_passes
          (stand (new_pass queue 0) refl refl refl refl, (stand empty_pass refl refl refl refl, tt));
    }

    first_hints : HintsOfActor (raced_on start) queue 0 0 (new_pass queue 0)
    first_hints = record {
      few_replies = lit≤ tt;
      between = new_pass queue 0;
      answered = (new_pass queue 0, 0, 0, refl, (refl, (refl, refl)), (refl, refl));
      next = refl;
    }

    second_hints : HintsOfActor (raced_on start) queue 1 0 empty_pass
    second_hints = record {
      few_replies = lit≤ tt;
      between = empty_pass;
      answered = (
        new_pass queue 1,
        0,
        0,
        refl,
        (refl, (refl, refl)),
        (empty_pass, 0, 0, refl, (found_none, refl), (refl, refl)),
      );
      next = refl;
    }

    pub hints : HintsOfRace (raced_on start)
    hints = record {
      queue = queue;
      passes = two_passes;
      as_many = refl;
      in_order = none_in_order;
      each = (0, 0, refl, first_hints, (0, 0, refl, second_hints, refl));
    }

pub two_actors_race_stops : MadeRacesHold → TwoActorsRaceStops
two_actors_race_stops law head start queue short = record {
  made = made head start short;
  holds = law head (raced_on start) (made head start short);
  have_room = have_room head start short;
  ended = stopped head start short;
  hints = hints head start short queue;
}
