-- What is known of a caller that is alone on the small drive's channel, so that it may make each step that is tried? It makes
-- the calls of every actor, it may write any data, and the sizes are the small ones.
use Rattle.std.specs.Prelude.{◌≡◌, None}
use Rattle.ssd_geo.specs.Shape.{HasSizes}
use Rattle.ssd_histories.specs.HistoryExamples.{small_sizes}
use Rattle.chan_calls.specs.Caller.{CallerView}

-- a caller is alone, is bound to no start and contents, and knows the small sizes
pub record IsLone (caller : CallerView) : Type 0 where
  pub alone : caller.number ≡ None
  pub unbound : caller.bound ≡ None
  pub sizes : HasSizes caller.shape small_sizes
