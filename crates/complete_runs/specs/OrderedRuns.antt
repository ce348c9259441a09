-- Of which runs does completeness speak? Of those whose calls are in order, each reply that of its call's own entries, in pasts
-- of their channels' starts, and whose dies counted the faults of which entries tell: whether calls were served one after the
-- other, or made among each other by several actors.
use Rattle.std.specs.Prelude.{◌≡◌, length, All}
use Rattle.ssd_formats.specs.ImageHead.{Head}
use Rattle.ssd_histories.specs.CallsInOrder.{AreCallsInOrder, AreReplies}
use Rattle.ssd_histories.specs.Standing.{IsPastOf}
use Rattle.run_laws.specs.Headline.{AreCounted}
use Rattle.run_laws.specs.Runs.{Run, channels_of, data_in}

-- a run is so
pub record IsOrderedRun (head : Head) (run : Run) : Type 0 where
  pub as_many_pasts : length run.pasts ≡ length run.starts
  pub are_pasts : All (λ channel. IsPastOf channel.start (data_in head run) channel.past) (channels_of run)
  pub are_counted : AreCounted (channels_of run) run.faults
  pub in_order : AreCallsInOrder (data_in head run) run.calls.calls run.replies (channels_of run)
  pub are_replies : AreReplies (data_in head run) run.calls.calls run.replies (channels_of run)
