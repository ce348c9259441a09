use Rattle.std.specs.Prelude.{refl}
use Rattle.ssd_geo.specs.Noise.{noise_word}
use Rattle.ssd_formats.specs.ImageHead.{first_head_bytes}
use Rattle.ssd_formats.proofs.generated_examples.example_generated_head.Goals as goal

pub returns-clause-accepted : goal.returns-clause-accepted
unfolding noise_word
returns-clause-accepted c = refl

pub returns-clause-bytes : goal.returns-clause-bytes
unfolding first_head_bytes
returns-clause-bytes c = refl
