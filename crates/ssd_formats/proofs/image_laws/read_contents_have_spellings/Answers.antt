use Rattle.ssd_formats.proofs.SpelledContents.{contents_have_spelling}
use Rattle.ssd_formats.proofs.image_laws.read_contents_have_spellings.Goals as goal

pub returns : goal.returns
returns c = λ head channel rest left saved are e. contents_have_spelling head channel rest (saved, left) are e
