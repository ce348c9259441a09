use Rattle.std.specs.Prelude.{refl}
use Rattle.std.specs.Fmt.{digits}
use Rattle.ssd_geo.specs.Noise.{noise_word}
use Rattle.ssd_formats.proofs.generated_examples.example_generated_work.Goals as goal

pub returns-clause-first_row : goal.returns-clause-first_row
unfolding noise_word
returns-clause-first_row c = refl

pub returns-clause-last_row : goal.returns-clause-last_row
unfolding noise_word
returns-clause-last_row c = refl

pub returns-clause-calls : goal.returns-clause-calls
unfolding noise_word digits
returns-clause-calls c = refl
