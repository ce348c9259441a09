use Rattle.savable_contents.proofs.ReadAgain.{saved_runs_are_read_again}
use Rattle.savable_contents.proofs.SmallTags.{calls_give_small_tags}
use Rattle.savable_contents.proofs.laws.saved_runs_are_read_again.Goals as goal

pub returns : goal.returns
returns c = record { tags = calls_give_small_tags; read = saved_runs_are_read_again }
