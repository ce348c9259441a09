use Rattle.std.specs.Prelude.{refl}
use Rattle.std.specs.Fmt.{digits}
use Rattle.ssd_formats.proofs.text_examples.example_replies.Goals as goal

pub returns : goal.returns
unfolding digits
returns c = refl
