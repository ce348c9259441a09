-- The laws of race_laws are those of the two calls.
use Rattle.made_races.proofs.BegunDrains.{begun_drains_take_few, refreshed_stays}
use Rattle.made_races.proofs.seen.begun_drains_take_few.Goals as goal

pub returns : goal.returns
returns c = record {
  stays = refreshed_stays;
  few = begun_drains_take_few c.refreshed_pages_are_drained.ensures c.drains_take_few.ensures;
}
