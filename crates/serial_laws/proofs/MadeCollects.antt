-- A collect that is served alone has the form of a collect: rounds with a note after each, and a last part that found
-- something to do, or nothing.
use Rattle.std.proofs.Common.{ℕ, ◌≡◌, ◌≤◌, Bool, true, false, List, [], ◌∷◌, ◌++◌, refl, sym, ap, ◌∙◌, inl, inr, append_assoc, eq-eqb, arith}
use Rattle.std.specs.Prelude.{◌==◌, ◌⊎◌, ◌&&◌, ◌||◌, not, flat_map}
use Rattle.std.proofs.lemmas.Bool.{false≢true}
use Rattle.std.proofs.lemmas.List.Elements.{All-nil, All-cons}
use Rattle.ssd_histories.specs.CallSteps.{CallStep, is_fault}
use Rattle.ssd_geo.specs.Ladder.{LadderState}
use Rattle.ssd_histories.specs.Room.{live_of_victim}
use Rattle.ssd_histories.specs.Rounds.{IsCollect, IsLeftRound, ends_in_stay, had_nothing_live, has_erase, has_fault, has_live_pages, is_idle_note, is_note}
use Rattle.ssd_histories.specs.SerialCalls.{AreStepsFrom, RoundEnd, SerialCollect, collects_again, decides, decides_collect, entry_of, erased, faulted, is_idle, left, retired}
use Rattle.ssd_geo.specs.declared.base.ChannelBase.{ChannelBase}
use Rattle.ssd_geo.specs.declared.entry.Entry.{Entry}
use Rattle.ssd_geo.specs.declared.kind.Kind.{Kind}
use Rattle.ssd_geo.specs.declared.tag.Tag.{Tag}
use Rattle.serial_laws.proofs.LookLists.{by_kind}
use Rattle.serial_laws.proofs.MadeRounds.{EndsAs, IsRoundMade, faults_join, held_late, none_in_both, round_is_made}
use Rattle.serial_laws.proofs.MadeSteps.{faults_in, one_step_is, steps_join}
use Rattle.serial_laws.proofs.MadeWrites.{one_fault_in_one, one_step}

-- a note is no failed call, and an idle one is a note
note_is_no_fault : (kind : Kind) → is_note kind ≡ true → is_fault kind ≡ false
note_is_no_fault (Kind.Note free victim live pins garbage) e = refl
note_is_no_fault kind e = absurd (false≢true e)

-- a round that decides its collect has an erase or a failed call
done_by : (base : ChannelBase) (after : List Entry) (steps : List CallStep) (end : RoundEnd) → decides_collect end ≡ true →
    EndsAs base after steps end → (has_erase steps || has_fault steps) ≡ true
done_by base after steps left decided ended = absurd (false≢true decided)
done_by base after steps erased decided ended = rw ended.1 refl
done_by base after steps retired decided ended = rw ended.1 refl
done_by base after steps faulted decided ended = or_true (has_erase steps) (has_fault steps) ended
  where
    or_true : (b c : Bool) → c ≡ true → (b || c) ≡ true
    or_true true c e = refl
    or_true false c e = e

-- an idle note may end a collect after a round that left its victim
pub end_by : (idle no_live stay nothing : Bool) → idle ≡ true → (stay ≡ true) ⊎ (nothing ≡ true) →
    (idle && ((no_live || stay) || nothing)) ≡ true
end_by true true stay nothing is either = refl
end_by true false true nothing is either = refl
end_by true false false true is either = refl
end_by true false false false is (inl stay) = absurd (false≢true stay)
end_by true false false false is (inr nothing) = absurd (false≢true nothing)
end_by false no_live stay nothing is either = absurd (false≢true is)

module _ (ladder : List Entry → ℕ → LadderState) (base : ChannelBase) (tag : Tag) where
  -- a collect
  pub record IsCollectMade (before after : List Entry) : Type 0 where
    pub steps : List CallStep
    pub are_steps : AreStepsFrom tag before steps after
    pub is_collect : IsCollect ladder base steps
    pub one_fault : faults_in steps ≤ 1

  done : (before after : List Entry) (end : RoundEnd) → decides_collect end ≡ true →
      IsRoundMade ladder base tag before after end → IsCollectMade before after
  done before after end decided made = record {
    steps = made.steps;
    are_steps = made.are_steps;
    is_collect = record {
      parts = [];
      last = made.steps;
      are_steps = refl;
      are_parts = All-nil (IsLeftRound ladder base);
      ends = inl (record { is_round = made.is_round; is_done = done_by base after made.steps end decided made.ends_as });
    };
    one_fault = made.one_fault;
  }

  -- the steps of a round that left its victim, with a note after it
  with_note : (before between : List Entry) (note : Kind) → (made : IsRoundMade ladder base tag before between left) →
      AreStepsFrom tag before (made.steps ++ one_step tag note between) (entry_of tag note ∷ between)
  with_note before between note made =
      steps_join tag before between (entry_of tag note ∷ between) made.steps (one_step tag note between) made.are_steps
      (one_step_is tag (entry_of tag note) between refl)

  idle : (before between : List Entry) (note : Kind) → is_idle_note note ≡ true →
      (made : IsRoundMade ladder base tag before between left) → IsCollectMade before (entry_of tag note ∷ between)
  idle before between note is made =
      let step : CallStep = record { past = between; entry = entry_of tag note } in
      let late : (live_of_victim base between ≡ 0) → had_nothing_live base step ≡ true =
      λ none. held_late (λ past. live_of_victim base past == 0) tag.actor between
      (eq-eqb (live_of_victim base between) 0 none) in
      let cause : (ends_in_stay made.steps ≡ true) ⊎ (had_nothing_live base step ≡ true) =
      elim made.ends_as.2 [
        | inl stay ↦ inl stay
        | inr none ↦ inr (late none)
      ] in
      record {
        steps = made.steps ++ step ∷ [];
        are_steps = with_note before between note made;
        is_collect = record {
          parts = [];
          last = made.steps ++ step ∷ [];
          are_steps = refl;
          are_parts = All-nil (IsLeftRound ladder base);
          ends = inr (record {
            round = made.steps;
            note = step;
            are_steps = refl;
            is_round = record { is_round = made.is_round; no_fault = rw made.ends_as.0 refl };
            no_erase = rw made.ends_as.1 refl;
            may_end = end_by (is_idle_note note) (not (has_live_pages note)) (ends_in_stay made.steps)
                (had_nothing_live base step) is cause;
          });
        };
        one_fault =
            let sums = faults_join made.steps (step ∷ []) made.ends_as.0 in
            let few = one_fault_in_one tag note between in
            omega (arith, sums, few);
      }

  again : (before between after : List Entry) (note : Kind) → is_note note ≡ true →
      (made : IsRoundMade ladder base tag before between left) → IsCollectMade (entry_of tag note ∷ between) after →
      IsCollectMade before after
  again before between after note is made rest =
      let step : CallStep = record { past = between; entry = entry_of tag note } in
      let part : List CallStep = made.steps ++ step ∷ [] in
      let collect : IsCollect ladder base rest.steps = rest.is_collect in
      let no_fault : has_fault part ≡ false =
      none_in_both (by_kind is_fault) made.steps (step ∷ []) made.ends_as.0 (rw (note_is_no_fault note is) refl) in
      record {
        steps = part ++ rest.steps;
        are_steps =
            steps_join tag before (entry_of tag note ∷ between) after part rest.steps
            (with_note before between note made) rest.are_steps;
        is_collect = record {
          parts = part ∷ collect.parts;
          last = collect.last;
          are_steps =
              ap (λ (steps : List CallStep). part ++ steps) collect.are_steps
              ∙ sym (append_assoc part (flat_map (λ part. part) collect.parts) collect.last);
          are_parts =
              All-cons (IsLeftRound ladder base) part collect.parts
              (record {
                round = made.steps;
                note = step;
                are_steps = refl;
                is_round = record { is_round = made.is_round; no_fault = rw made.ends_as.0 refl };
                no_erase = rw made.ends_as.1 refl;
                is_note = is;
              })
              collect.are_parts;
          ends = collect.ends;
        };
        one_fault = let sums = faults_join part rest.steps no_fault in let few = rest.one_fault in omega (arith, sums, few);
      }

  pub collect_is_made : {before after : List Entry} → SerialCollect ladder base tag before after → IsCollectMade before after
  collect_is_made {before} {after} (decides {end = end} round is) =
      done before after end is (round_is_made ladder base tag round)
  collect_is_made {before} (is_idle {between = between} {note = note} round is) =
      idle before between note is (round_is_made ladder base tag round)
  collect_is_made {before} {after} (collects_again {between = between} {note = note} round is not_idle rest) =
      again before between after note is (round_is_made ladder base tag round) (collect_is_made rest)
