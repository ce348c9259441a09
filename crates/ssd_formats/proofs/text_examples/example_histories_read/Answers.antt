use Rattle.std.specs.Prelude.{refl}
use Rattle.std.specs.Fmt.{digits}
use Rattle.ssd_formats.specs.HistoryText.{entries_of_lines, histories_of_lines}
use Rattle.ssd_formats.proofs.text_examples.example_histories_read.Goals as goal

pub returns-clause-read : goal.returns-clause-read
unfolding digits entries_of_lines histories_of_lines
returns-clause-read c = refl

pub returns-clause-more : goal.returns-clause-more
unfolding digits entries_of_lines histories_of_lines
returns-clause-more c = refl

pub returns-clause-fewer : goal.returns-clause-fewer
unfolding digits entries_of_lines histories_of_lines
returns-clause-fewer c = refl

pub returns-clause-nothing : goal.returns-clause-nothing
unfolding digits entries_of_lines histories_of_lines
returns-clause-nothing c = refl

pub returns-clause-wrong : goal.returns-clause-wrong
unfolding digits entries_of_lines histories_of_lines
returns-clause-wrong c = refl
