use Rattle.std.specs.Prelude.{refl}
use Rattle.std.specs.Fmt.{digits}
use Rattle.ssd_formats.proofs.text_examples.example_runs.Goals as goal

pub returns-clause-one_page : goal.returns-clause-one_page
unfolding digits
returns-clause-one_page c = refl

pub returns-clause-one_page_summary : goal.returns-clause-one_page_summary
unfolding digits
returns-clause-one_page_summary c = refl

pub returns-clause-no_calls : goal.returns-clause-no_calls
unfolding digits
returns-clause-no_calls c = refl
