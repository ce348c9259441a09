use Rattle.write_rounds.proofs.AloneRounds.{few_rounds, two_more}
use Rattle.write_rounds.proofs.writes.alone_writes_make_few_rounds.Goals as goal

pub returns : goal.returns
returns c = record {
  rounds = few_rounds c.rounds_alone_are_rounds.ensures;
  two_more = two_more c.rounds_alone_are_rounds.ensures;
}
