-- The rounds of the worked collections, part by part.
use Rattle.std.proofs.Common.{ℕ, List, [], ◌∷◌, take, drop, refl, inl, inr, get_or, false, lit<}
use Rattle.std.proofs.lemmas.List.Elements.{All-nil, All-cons}
use Rattle.ssd_histories.specs.CallExamples.{IsCollectExample, IsSerialWriteExample, IsWriteExample, example_ladder, steps_in}
use Rattle.ssd_histories.specs.CallSteps.{CallStep}
use Rattle.ssd_histories.specs.HistoryExamples.{AreWithinLimits, small_channel, tag_of, collected_history, freed_history, step}
use Rattle.ssd_geo.specs.Noise.{noise_word}
use Rattle.ssd_histories.specs.Rounds.{IsRound, IsVictimCopy, IsWritePart, IsLeftRound}
use Rattle.ssd_histories.specs.History.{past_of}
use Rattle.ssd_histories.specs.SerialCalls.{IsSerialCopy, erased, erases, goes_on, makes_room, picks, writes}
use Rattle.ssd_geo.specs.declared.entry.Entry.{Entry}
use Rattle.ssd_geo.specs.declared.kind.Kind.{Kind}

-- a step of a list
abbrev step_at : List CallStep → ℕ → CallStep
step_at steps i = get_or steps i (record { past = []; entry = step 0 0 (Kind.Trim 0) })

-- the steps of the two calls
abbrev writing : List CallStep
writing = steps_in collected_history 0 12

abbrev collecting : List CallStep
collecting = steps_in freed_history 0 5

written_copy : (within : AreWithinLimits) → IsVictimCopy (example_ladder [] within) (small_channel [] within) (take 4 (drop 1 writing))
unfolding noise_word
written_copy within = record {
  look = step_at writing 1;
  is_copy = record {
    ending = step_at writing 3;
    leave = step_at writing 4;
    is_list = record { senses = take 1 (drop 2 writing); are_steps = refl; finds_page = refl; are_senses = refl; is_left = refl };
    ends = refl;
  };
  is_first = refl;
}

written_round : (within : AreWithinLimits) → IsRound (example_ladder [] within) (small_channel [] within) (take 6 writing)
written_round within = record {
  picks = take 1 writing;
  copies = take 4 (drop 1 writing) ∷ [];
  erases = take 1 (drop 5 writing);
  are_steps = refl;
  one_pick = refl;
  are_copies =
      All-cons (IsVictimCopy (example_ladder [] within) (small_channel [] within)) (take 4 (drop 1 writing)) [] (written_copy within)
      (All-nil (IsVictimCopy (example_ladder [] within) (small_channel [] within)));
  one_erase = refl;
  ends = refl;
}

pub is_write : IsWriteExample collected_history 12 5
is_write within = record {
  parts = take 6 writing ∷ [];
  last = drop 6 writing;
  are_steps = refl;
  are_parts =
      All-cons (IsWritePart (example_ladder [] within) (small_channel [] within) 5) (take 6 writing) []
      (inr (record { is_round = written_round within; no_fault = refl })) (All-nil (IsWritePart (example_ladder [] within) (small_channel [] within) 5));
  ends = inl refl;
  have_cause = refl;
}

collected_copy : (within : AreWithinLimits) → IsVictimCopy (example_ladder [] within) (small_channel [] within) (take 4 (drop 1 collecting))
unfolding noise_word
collected_copy within = record {
  look = step_at collecting 1;
  is_copy = record {
    ending = step_at collecting 3;
    leave = step_at collecting 4;
    is_list = record { senses = take 1 (drop 2 collecting); are_steps = refl; finds_page = refl; are_senses = refl; is_left = refl };
    ends = refl;
  };
  is_first = refl;
}

pub is_collect : IsCollectExample freed_history 5
is_collect within = record {
  parts = [];
  last = collecting;
  are_steps = refl;
  are_parts = All-nil (IsLeftRound (example_ladder [] within) (small_channel [] within));
  ends =
      inl
      (record {
        is_round = record {
          picks = take 1 collecting;
          copies = take 4 (drop 1 collecting) ∷ [];
          erases = drop 5 collecting;
          are_steps = refl;
          one_pick = refl;
          are_copies =
              All-cons (IsVictimCopy (example_ladder [] within) (small_channel [] within)) (take 4 (drop 1 collecting)) [] (collected_copy within)
              (All-nil (IsVictimCopy (example_ladder [] within) (small_channel [] within)));
          one_erase = refl;
          ends = refl;
        };
        is_done = refl;
      });
}

-- the pasts of the worked collection
abbrev past_to : ℕ → List Entry
past_to n = past_of (take n collected_history)

serial_copy : (within : AreWithinLimits) → IsSerialCopy (example_ladder [] within) (small_channel [] within) (tag_of 0 12) (past_to 13) (past_to 17) false false
serial_copy within = record {
  steps = take 4 (drop 1 writing);
  are_steps = (refl, refl, (refl, refl, (refl, refl, (refl, refl, refl))));
  has_live = lit< tt;
  is_copy = written_copy within;
  ends_is = refl;
  fault_is = refl;
}

pub is_serial_write : IsSerialWriteExample collected_history 12 12 5
is_serial_write within =
    makes_room {between = past_to 18} {end = erased} refl
    (picks {sb = 0} refl (goes_on {between = past_to 17} (serial_copy within) (erases refl refl))) refl (writes refl)
