-- The image that the drive of a run is saved as is read again, where the run began with contents that have a spelling.
use Rattle.channel_ends.proofs.ReadAgain.{ended_runs_are_read_again}
use Rattle.savable_contents.proofs.SavableStarts.{runs_of_contents_are_savable}
use Rattle.savable_contents.proofs.SmallTags.{calls_give_small_tags}
use Rattle.savable_contents.specs.SavableContents.{SavedRunsAreReadAgain}

pub saved_runs_are_read_again : SavedRunsAreReadAgain
saved_runs_are_read_again head saved limit handed run is_head count spelled begins calls in_order = λ channels ended.
    ended_runs_are_read_again head run channels is_head count
    (runs_of_contents_are_savable head saved limit handed run spelled begins) ended (calls_give_small_tags head run calls in_order)
