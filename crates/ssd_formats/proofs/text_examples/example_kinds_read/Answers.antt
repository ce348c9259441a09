use Rattle.std.specs.Prelude.{refl}
use Rattle.std.specs.Fmt.{digits}
use Rattle.ssd_formats.proofs.text_examples.example_kinds_read.Goals as goal

pub returns-clause-read : goal.returns-clause-read
unfolding digits
returns-clause-read c = refl
