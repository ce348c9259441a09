use Rattle.hint_queue.proofs.Opening.{begins}
use Rattle.hint_queue.proofs.Telling.{counts_begin}
use Rattle.hint_queue.proofs.hints.Hints.new.Goals as goal

pub ruled-requires-clause-rule : goal.ruled-requires-clause-rule
ruled-requires-clause-rule c = begins

pub of_words-requires : goal.of_words-requires
of_words-requires c = counts_begin _ 33
