use Rattle.std.specs.Prelude.{refl}
use Rattle.std.specs.Fmt.{digits}
use Rattle.ssd_formats.proofs.text_examples.example_numbers.Goals as goal

pub returns-clause-printed : goal.returns-clause-printed
unfolding digits
returns-clause-printed c = refl
