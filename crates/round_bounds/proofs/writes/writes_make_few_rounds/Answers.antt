use Rattle.round_bounds.proofs.RoundBounds.{writes_have_few_ends, writes_make_few_rounds, writes_make_one_more, writes_make_two_more}
use Rattle.round_bounds.proofs.writes.writes_make_few_rounds.Goals as goal

pub returns : goal.returns
returns c = record {
  rounds = writes_make_few_rounds;
  ends = writes_have_few_ends;
  two_more = writes_make_two_more;
  one_more = writes_make_one_more;
}
