-- The worked refreshes, part by part.
use Rattle.std.proofs.Common.{[], ◌∷◌, take, drop, refl, inr}
use Rattle.std.proofs.lemmas.Bool.{false≢true}
use Rattle.ssd_geo.specs.Noise.{noise_word}
use Rattle.past_examples.specs.RefreshExamples.{IsCopyIn, IsNoRefreshIn, IsReadIn, IsRefreshIn, drained_run, lost_run}
use Rattle.past_examples.specs.WorkedRuns.{ladder_on, steps_in}
use Rattle.past_examples.proofs.Copying.{step_at}
use Rattle.past_examples.proofs.RefreshTests.{refresh_passes}

pub is_moved : IsRefreshIn drained_run 3 0
unfolding noise_word
is_moved within =
    inr
    (record {
      look = step_at 3 drained_run 0;
      ending = step_at 3 drained_run 3 ∷ [];
      leave = step_at 3 drained_run 4;
      is_list = record { senses = take 2 (drop 1 (steps_in 3 drained_run)); are_steps = refl; finds_page = refl; are_senses = refl; is_left = refl };
      of_row = refl;
      ends = refl;
    })

pub is_uncorrectable : IsRefreshIn lost_run 2 0
unfolding noise_word
is_uncorrectable within =
    inr
    (record {
      look = step_at 2 lost_run 0;
      ending = [];
      leave = step_at 2 lost_run 8;
      is_list = record { senses = take 7 (drop 1 (steps_in 2 lost_run)); are_steps = refl; finds_page = refl; are_senses = refl; is_left = refl };
      of_row = refl;
      ends = refl;
    })

pub other_row : IsNoRefreshIn drained_run 3 1
unfolding noise_word
other_row within refresh = false≢true (refresh_passes (ladder_on drained_run within) 1 (steps_in 3 drained_run) refresh)

pub is_read : IsReadIn drained_run 2 0
unfolding noise_word
is_read within =
    inr
    (record {
      look = step_at 2 drained_run 0;
      ending = [];
      leave = step_at 2 drained_run 3;
      is_list = record { senses = take 2 (drop 1 (steps_in 2 drained_run)); are_steps = refl; finds_page = refl; are_senses = refl; is_left = refl };
      of_row = refl;
      ends = refl;
    })

pub read_is_none : IsNoRefreshIn drained_run 2 0
unfolding noise_word
read_is_none within refresh = false≢true (refresh_passes (ladder_on drained_run within) 0 (steps_in 2 drained_run) refresh)

pub is_copy : IsCopyIn lost_run 3
unfolding noise_word
is_copy within = record {
  ending = step_at 3 lost_run 8;
  leave = step_at 3 lost_run 9;
  is_list = record { senses = take 7 (drop 1 (steps_in 3 lost_run)); are_steps = refl; finds_page = refl; are_senses = refl; is_left = refl };
  ends = refl;
}

pub condemned_is_none : IsNoRefreshIn lost_run 3 0
unfolding noise_word
condemned_is_none within refresh = false≢true (refresh_passes (ladder_on lost_run within) 0 (steps_in 3 lost_run) refresh)
