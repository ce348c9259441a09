use Rattle.std.specs.Prelude.{refl}
use Rattle.std.specs.Fmt.{digits}
use Rattle.text_tests.proofs.counted_replies.example_counted_replies.Goals as goal

pub returns-clause-writes : goal.returns-clause-writes
unfolding digits
returns-clause-writes c = refl

pub returns-clause-reads : goal.returns-clause-reads
unfolding digits
returns-clause-reads c = refl

pub returns-clause-refreshes : goal.returns-clause-refreshes
unfolding digits
returns-clause-refreshes c = refl

pub returns-clause-drains : goal.returns-clause-drains
unfolding digits
returns-clause-drains c = refl
