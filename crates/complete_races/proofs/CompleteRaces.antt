-- The statement on a race has all that completeness asks of a run.
use Rattle.complete_runs.proofs.CompleteRuns.{ordered_runs_are_complete}
use Rattle.complete_races.specs.CompleteRaces.{RacesAreComplete}

pub races_are_complete : RacesAreComplete
races_are_complete head run some blank has_calls headline =
    ordered_runs_are_complete head run some blank has_calls
    (record {
      as_many_pasts = headline.as_many_pasts;
      are_pasts = headline.are_pasts;
      are_counted = headline.are_counted;
      in_order = headline.in_order;
      are_replies = headline.are_replies;
    })
