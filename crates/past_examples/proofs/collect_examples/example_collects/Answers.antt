use Rattle.past_examples.proofs.CollectExamples.{erasing_collect, idle_collect, staying_collect}
use Rattle.past_examples.proofs.collect_examples.example_collects.Goals as goal

pub returns : goal.returns
returns c = record { idle = idle_collect; erases = erasing_collect; stays = staying_collect }
