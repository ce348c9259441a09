use Rattle.code_tests.specs.Drives.{IsDrive}
use Rattle.code_tests.proofs.ladders.answer_to.Given as goal

abbrev pub invariant-loop-ask : goal.invariant-loop-ask
invariant-loop-ask g l =
    (goal.iterator-loop-ask g).can_next l.ask-iterator ×
    (goal.iterator-loop-ask g).is_finite l.ask-iterator ×
    IsDrive l.ladder.shape (g.C.Decode.matrix l.decoder)
