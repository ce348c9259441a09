use Rattle.std.specs.Prelude.{refl}
use Rattle.ssd_geo.specs.Noise.{noise_word}
use Rattle.ssd_formats.proofs.trace_examples.example_contents.Goals as goal

pub returns-clause-generated : goal.returns-clause-generated
unfolding noise_word
returns-clause-generated c = refl
