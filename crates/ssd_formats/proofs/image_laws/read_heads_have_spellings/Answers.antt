use Rattle.ssd_formats.proofs.SpelledHeads.{head_has_spelling}
use Rattle.ssd_formats.proofs.image_laws.read_heads_have_spellings.Goals as goal

pub returns : goal.returns
returns c = λ bytes head rest h e. head_has_spelling bytes (head, rest) h e
