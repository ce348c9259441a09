-- What does the top call hand in for a run, and what comes back? Dies and policies; the counts and the pages of the dies that
-- are handed back are those of the run, and dies behind those of the drive are as they were.
use Rattle.std.specs.Prelude.{ℕ, ◌≡◌, ◌*◌, List, drop, Option}
use Rattle.final_dies.specs.FinalDies.{HoldPasts, counts_of}
use Rattle.onfi_cmd.specs.DieState.{DieState}
use Rattle.run_laws.specs.HandedCounts.{IsRunOver}
use Rattle.run_laws.specs.Runs.{Run, channels_of, data_in}
use Rattle.ssd_formats.specs.Input.{Input}
use Rattle.ssd_geo.specs.declared.policy_view.PolicyView.{PolicyView}

-- a run is one of an input, with this limit of the histories, over dies that were handed in, policies that tell these views,
-- and the dies that are handed back
pub record IsRunOf (asked : Input) (limit : ℕ) (dies : List DieState) (views : List (Option PolicyView)) (back : List DieState)
    (run : Run) : Type 0 where
  pub is_over : IsRunOver asked limit (counts_of dies) (counts_of back) views run
  pub hold : HoldPasts (data_in asked.head run) asked.head.sizes.dies back (channels_of run)
  pub others_stay :
      drop (asked.head.sizes.channels * asked.head.sizes.dies) back
      ≡ drop (asked.head.sizes.channels * asked.head.sizes.dies) dies
