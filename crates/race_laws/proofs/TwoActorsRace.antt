-- The race of two actors meets what the law of whole races asks.
use Rattle.std.proofs.Common.{ℕ, zero, suc, ◌≡◌, ◌≢◌, ◌≤◌, ◌==◌, false, List, [], ◌∷◌, length, refl, sym, subst, inl, inr, arith}
use Rattle.std.specs.Option.{ForSome}
use Rattle.std.proofs.lemmas.Bool.Decides.{nat_tests}
use Rattle.std.proofs.lemmas.List.Elements.{All-cons, All-from_recursion, All-nil}
use Rattle.ssd_geo.specs.declared.entry.Entry.{Entry}
use Rattle.ssd_geo.specs.declared.kind.Kind.{Kind}
use Rattle.ssd_geo.specs.declared.reply.Reply.{Reply}
use Rattle.ssd_geo.specs.declared.trace.TraceCall.{TraceCall}
use Rattle.ssd_geo.specs.declared.trace.Verb.{Verb}
use Rattle.ssd_histories.specs.CallSteps.{CallStep}
use Rattle.ssd_histories.specs.CallsInOrder.{ChannelRun, IsSomeRefresh, answered_by, reply_to}
use Rattle.ssd_histories.specs.HistoryExamples.{AreWithinLimits, blank_start, step, tag_of}
use Rattle.ssd_histories.specs.Lawful.{IsLawful}
use Rattle.serial_laws.proofs.MadeSteps.{faults_in}
use Rattle.calls_among_others.specs.CallsAmong.{IsCallAmong, ladders}
use Rattle.calls_among_others.specs.StepsAmong.{HasCome}
use Rattle.calls_among_others.proofs.AmongSteps.{IsOfOther, none_came}
use Rattle.race_laws.specs.BegunCalls.{AreMadeThenBegun}
use Rattle.race_laws.specs.RaceReplies.{HasChannel, IsDrainAnswered}
use Rattle.race_laws.specs.Races.{IsFewWhereDrain, calls_of}
use Rattle.race_laws.specs.RacesMade.{AreMadeSoFar, IsActorMade}
use Rattle.race_laws.specs.TwoActorsRace.{TwoActorsRaceMeetsPremises, raced_calls, raced_past, raced_replies, raced_runs, trimmed_first}
use Rattle.std.proofs.lemmas.Option.{same_Some}

-- one entry of another actor came
one_came : (actor : ℕ) (entry : Entry) (before : List Entry) → entry.tag.actor ≢ actor → HasCome actor before (entry ∷ before)
one_came actor entry before other = record {
  others = entry ∷ [];
  after_is = refl;
  of_others = All-cons (IsOfOther actor) entry [] other (All-nil (IsOfOther actor));
}

second_is_other : ◌≢◌ {A = ℕ} 1 0
second_is_other same = absurd (omega (arith, same))

first_is_other : ◌≢◌ {A = ℕ} 0 1
first_is_other same = absurd (omega (arith, same))

module _ (within : AreWithinLimits) where
  -- the first actor trims
  first_trims : IsCallAmong (blank_start [] within) [] 1 0 (tag_of 0 0) (Verb.Trim 6) [] trimmed_first Reply.Ok
  first_trims =
      let trim : CallStep = record { past = []; entry = step 0 0 (Kind.Trim 6) } in
      let none : faults_in (trim ∷ []) ≡ 0 = refl in
      record {
        steps = trim ∷ [];
        are_steps = (none_came 0 [], refl, none_came 0 trimmed_first);
        of_verb = refl;
        decide = refl;
        one_fault = omega (arith, none);
      }

  second_came : HasCome 0 trimmed_first raced_past
  second_came = one_came 0 (step 1 0 (Kind.Trim 7)) trimmed_first second_is_other

  -- and stops
  first_stops : AreMadeThenBegun (blank_start [] within) [] 1 0 0
      ((record { tag = tag_of 0 0; verb = Verb.Trim 6 }, Reply.Ok) ∷ []) (record { tag = tag_of 0 1; verb = Verb.Trim 5 })
      raced_past
  first_stops = record {
    between = trimmed_first;
    are_made = (trimmed_first, refl, first_trims, none_came 0 trimmed_first);
    is_next = refl;
    begun = record {
      steps = [];
      rest = record { past = []; entry = step 0 1 (Kind.Trim 5) } ∷ [];
      are_steps = second_came;
      of_verb = refl;
      no_fault = refl;
      leaves_all = λ lawful left. refl;
    };
  }

  -- the second trims, and drains no hint
  second_trims : IsCallAmong (blank_start [] within) [] 1 0 (tag_of 1 0) (Verb.Trim 7) [] raced_past Reply.Ok
  second_trims =
      let trim : CallStep = record { past = trimmed_first; entry = step 1 0 (Kind.Trim 7) } in
      let none : faults_in (trim ∷ []) ≡ 0 = refl in
      record {
        steps = trim ∷ [];
        are_steps = (one_came 1 (step 0 0 (Kind.Trim 6)) [] first_is_other, refl, none_came 1 raced_past);
        of_verb = refl;
        decide = refl;
        one_fault = omega (arith, none);
      }

  second_drains : IsCallAmong (blank_start [] within) [] 1 0 (tag_of 1 1) (Verb.Drain 2) raced_past raced_past
      (Reply.Drained [])
  second_drains = record {
    steps = [];
    are_steps = none_came 1 raced_past;
    of_verb = record {
      refreshes = [];
      are_steps = refl;
      each = All-nil (IsSomeRefresh (ladders (blank_start [] within) []));
      faultless = refl;
    };
    decide = refl;
    one_fault = omega arith;
  }

  -- no other actor has a call or an entry
  none_of_others : (n : ℕ) → calls_of (suc (suc n)) raced_calls ≡ []
  none_of_others n =
      let not_first : (0 == suc (suc n)) ≡ false = grind (arith, nat_tests) in
      let not_second : (1 == suc (suc n)) ≡ false = grind (arith, nat_tests) in
      rw (not_first, not_second) refl

  others_came : (n : ℕ) → HasCome (suc (suc n)) [] raced_past
  others_came n = record {
    others = raced_past;
    after_is = refl;
    of_others =
        All-cons (IsOfOther (suc (suc n))) (step 1 0 (Kind.Trim 7)) trimmed_first (λ same. absurd (omega (arith, same)))
        (All-cons (IsOfOther (suc (suc n))) (step 0 0 (Kind.Trim 6)) [] (λ same. absurd (omega (arith, same)))
        (All-nil (IsOfOther (suc (suc n)))));
  }

  abbrev IsMadeOn : (actor : ℕ) → List (TraceCall × Reply) → List TraceCall → ℕ × ChannelRun → Type 0
  IsMadeOn actor answered rest item =
      AreMadeSoFar item.1.start [] (length (raced_runs within)) item.0 actor answered rest item.1.past

  made_by : (actor : ℕ) → IsActorMade [] raced_calls raced_replies (raced_runs within) actor
  made_by zero = record {
    are_calls = record {
      answered = (record { tag = tag_of 0 0; verb = Verb.Trim 6 }, Reply.Ok) ∷ [];
      rest = record { tag = tag_of 0 1; verb = Verb.Trim 5 } ∷ [];
      are_calls = refl;
      are_replies = refl;
    };
    on_channels =
        All-cons
        (IsMadeOn 0 ((record { tag = tag_of 0 0; verb = Verb.Trim 6 }, Reply.Ok) ∷ [])
        (record { tag = tag_of 0 1; verb = Verb.Trim 5 } ∷ []))
        (0, record { start = blank_start [] within; past = raced_past }) []
        (inr (record {
          call = record { tag = tag_of 0 1; verb = Verb.Trim 5 };
          later = [];
          rest_is = refl;
          are_made = first_stops;
        }))
        (All-nil
        (IsMadeOn 0 ((record { tag = tag_of 0 0; verb = Verb.Trim 6 }, Reply.Ok) ∷ [])
        (record { tag = tag_of 0 1; verb = Verb.Trim 5 } ∷ [])));
  }
  made_by (suc zero) = record {
    are_calls = record {
      answered =
          (record { tag = tag_of 1 0; verb = Verb.Trim 7 }, Reply.Ok)
          ∷ (record { tag = tag_of 1 1; verb = Verb.Drain 2 }, Reply.Drained [])
          ∷ [];
      rest = [];
      are_calls = refl;
      are_replies = refl;
    };
    on_channels =
        All-cons
        (IsMadeOn 1
        ((record { tag = tag_of 1 0; verb = Verb.Trim 7 }, Reply.Ok)
        ∷ (record { tag = tag_of 1 1; verb = Verb.Drain 2 }, Reply.Drained []) ∷ []) [])
        (0, record { start = blank_start [] within; past = raced_past }) []
        (inl (raced_past, refl, second_trims, (raced_past, refl, second_drains, none_came 1 raced_past)))
        (All-nil
        (IsMadeOn 1
        ((record { tag = tag_of 1 0; verb = Verb.Trim 7 }, Reply.Ok)
        ∷ (record { tag = tag_of 1 1; verb = Verb.Drain 2 }, Reply.Drained []) ∷ []) []));
  }
  made_by (suc (suc n)) = record {
    are_calls = record { answered = []; rest = []; are_calls = sym (none_of_others n); are_replies = refl };
    on_channels =
        All-cons (IsMadeOn (suc (suc n)) [] []) (0, record { start = blank_start [] within; past = raced_past }) []
        (inl (others_came n)) (All-nil (IsMadeOn (suc (suc n)) [] []));
  }

pub two_actors_race : TwoActorsRaceMeetsPremises
two_actors_race within = record {
  numbered = (
    record { is_actor = omega arith; is_number = refl },
    (
      record { is_actor = omega arith; is_number = refl },
      (
        record { is_actor = omega arith; is_number = refl },
        (record { is_actor = omega arith; is_number = refl }, tt),
      ),
    ),
  );
  lawful =
      All-from_recursion (λ (run : ChannelRun). IsLawful run.start [] run.past) (raced_runs within)
      (((tt, record { in_range = refl; meets = tt }), record { in_range = refl; meets = tt }), tt);
  made = made_by within;
  channels =
      All-from_recursion (λ (call : TraceCall). HasChannel (length (raced_runs within)) call.verb) raced_calls
      (omega arith, (omega arith, (omega arith, (omega arith, tt))));
  drained =
      All-from_recursion (λ (call : TraceCall). ForSome (reply_to raced_replies call.tag) (IsDrainAnswered call.verb))
      raced_calls (
        (λ reply is. tt),
        (
          (λ reply is. tt),
          (
            (λ reply is. tt),
            (
              (λ reply is. subst (IsDrainAnswered (Verb.Drain 2)) (same_Some (Reply.Drained []) reply is)
                  (refl, omega arith)),
              tt,
            ),
          ),
        ),
      );
  begun =
      All-from_recursion
      (λ (call : TraceCall).
      answered_by raced_replies call.tag.actor ≤ call.tag.call → IsFewWhereDrain (raced_runs within) call.tag call.verb)
      raced_calls
      ((λ low. tt), ((λ low. tt), ((λ low. tt), ((λ low. absurd (omega (arith, low))), tt))));
}
